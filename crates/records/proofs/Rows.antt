-- Where the slots of a row stand once one joined it at the tail, or its head left it.
use Prim.Native.Nat.{ℕ, ◌+◌, ◌-◌, ◌<◌}
use mathlib.Core.Path.{◌≡◌, sym, ap, ◌∙◌}
use mathlib.Core.Logic.{◌≢◌}
use mathlib.Core.Bool.{Bool}
use mathlib.Core.List.{List}
use native.Mathlib.Omega.{arith}
use native.Mathlib.Decide.{ℕ_discrete}
use lib.ListN.{length, set, length-set}
use lib.Seq.{get_or-set_same, get_or-set_other}
use lib.Dec.{eqb}
use borrow.Author.Tests.{eq-eqb}
use Rattle.queue.specs.declared.Queue.{Queue}
use Rattle.queue.specs.Row.{place_at, place_of, pushed_row, popped_row}
use Rattle.queue.specs.Rows.{no_row, row_at}
use Rattle.queue.specs.Facts.{RowFacts, RowsFacts}
use Rattle.queue.proofs.Facts.{slot_place, place_slot}
use Rattle.queue.proofs.Turns.{pushed_len, pushed_last, pushed_other, popped_len, popped_place}
use Rattle.tid.specs.Tid.{mark_of, slot_of}

place_is : {n : ℕ} {mine : ℕ → Bool} {q : Queue} → RowFacts n mine q → (p tid : ℕ) → p < q.len → place_at q p ≡ tid → place_of q tid ≡ p
place_is f p tid h e = rw (← e) (place_slot f p h)

-- slot s joined row k
module _ {n : ℕ} {rows : List Queue} {key key' : ℕ → ℕ} (k s : ℕ)
    (f : RowsFacts n rows key) (g : RowsFacts n (set rows k (pushed_row (row_at rows k) (mark_of s))) key')
    (inside : k < length rows) (room : (row_at rows k).len < length (row_at rows k).marks) where
  after : RowFacts n (λ i. eqb (key' i) k) (pushed_row (row_at rows k) (mark_of s))
  after = rw (get_or-set_same rows k _ no_row inside) at (g.row k (rw length-set inside))

  pub joins_last : place_of (row_at (set rows k (pushed_row (row_at rows k) (mark_of s))) k) (mark_of s) ≡ (row_at rows k).len
  joins_last =
      rw (get_or-set_same rows k _ no_row inside)
      (place_is after (row_at rows k).len (mark_of s) (omega (arith, pushed_len (row_at rows k) (mark_of s) room)) (pushed_last (row_at rows k) (mark_of s) room))

  pub joins_other : (i j : ℕ) → i < n → key i ≡ j → j < length rows
      → place_of (row_at (set rows k (pushed_row (row_at rows k) (mark_of s))) j) (mark_of i) ≡ place_of (row_at rows j) (mark_of i)
  joins_other i j h own l = elim (ℕ_discrete j k) [
    | yes e ↦
        let (below, at) = slot_place (f.row k inside) i h (eq-eqb (key i) k (own ∙ e)) in
        let p = place_of (row_at rows k) (mark_of i) in
        rw (e, get_or-set_same rows k _ no_row inside)
        (place_is after p (mark_of i) (omega (arith, pushed_len (row_at rows k) (mark_of s) room))
        (pushed_other (row_at rows k) (mark_of s) room p (λ q. omega arith) ∙ at))
    | no ne ↦ rw (get_or-set_other rows k j _ no_row ne)
  ]

-- the head of row k left it
module _ {n : ℕ} {rows : List Queue} {key key' : ℕ → ℕ} (k : ℕ)
    (f : RowsFacts n rows key) (g : RowsFacts n (set rows k (popped_row (row_at rows k))) key')
    (inside : k < length rows) (some : 0 < (row_at rows k).len) where
  left : RowFacts n (λ i. eqb (key' i) k) (popped_row (row_at rows k))
  left = rw (get_or-set_same rows k _ no_row inside) at (g.row k (rw length-set inside))

  pub leaves_same : (i : ℕ) → i < n → key i ≡ k → i ≢ slot_of (place_at (row_at rows k) 0)
      → place_of (row_at (set rows k (popped_row (row_at rows k))) k) (mark_of i) ≡ place_of (row_at rows k) (mark_of i) - 1
  leaves_same i h own other =
      let (below, at) = slot_place (f.row k inside) i h (eq-eqb (key i) k own) in
      let p = place_of (row_at rows k) (mark_of i) in
      let later : p ≢ 0 = λ z. other (omega (arith, ap (place_at (row_at rows k)) (sym z) ∙ at)) in
      let back : p - 1 + 1 ≡ p = omega arith in
      rw (get_or-set_same rows k _ no_row inside)
      (place_is left (p - 1) (mark_of i) (omega (arith, popped_len (row_at rows k) some))
      (popped_place (row_at rows k) some (p - 1) ∙ ap (place_at (row_at rows k)) back ∙ at))

  pub leaves_other : (i j : ℕ) → j ≢ k
      → place_of (row_at (set rows k (popped_row (row_at rows k))) j) (mark_of i) ≡ place_of (row_at rows j) (mark_of i)
  leaves_other i j ne = rw (get_or-set_other rows k j _ no_row ne)
