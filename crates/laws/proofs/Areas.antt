-- What an effect brings to the areas, and which places it spares.
use Prim.Native.Nat.{ℕ, suc, ◌+◌, ◌≤◌, ◌<◌}
use mathlib.Core.Path.{◌≡◌, refl, sym, ◌∙◌}
use mathlib.Core.Logic.{◌≢◌}
use mathlib.Core.Bool.{Bool}
use mathlib.Core.List.{List, [], ◌∷◌, ◌++◌, append_assoc}
use native.Mathlib.Omega.{arith}
use lib.ListN.{length, get_or, set, take, drop, length-take, length-drop}
use lib.Seq.{sets, sets-eq, length-take-le, take_at, drop_at, get_or-set_other, get_or-take, get_or-drop, ext_get_or}
use borrow.Author.Tests.{leb-true, ltb-true}
use Rattle.queue.proofs.Below.{both_true}
use Rattle.tid.specs.Sizes.{area_bytes}
use Rattle.tid.specs.Tid.{tid_of}
use Rattle.kernel.specs.declared.table.Table.{Table}
use Rattle.kernel.specs.declared.table.Request.{Request}
use Rattle.kernel.specs.declared.table.Effect.{Effect}
use Rattle.kernel.specs.declared.table.Effect.TheVariants.{Keep, Copy, Put}
use Rattle.kernel.specs.Kinds.{place_in}
use Rattle.kernel.specs.Decide.{active_tid}
use Rattle.step.specs.Step.{after}
use Rattle.laws.specs.Parties.{Parties, Delivers, Puts}
use Rattle.laws.proofs.SameRuns.{length_after}

-- a copy brings what it copies
pub copy_brings : (xs : List ℕ) (from to m : ℕ) → from + m ≤ length xs → to + m ≤ length xs
    → take m (drop to (sets xs to (take m (drop from xs)))) ≡ take m (drop from xs)
copy_brings xs from to m fits room =
    let vs = take m (drop from xs) in
    let l : length vs ≡ m = length-take-le m (drop from xs) (rw (length-drop from xs) (omega arith)) in
    let front : length (take to xs) ≡ to = length-take-le to xs (omega arith) in
    rw (sets-eq vs xs to (omega arith), append_assoc (take to xs) vs (drop (to + length vs) xs), drop_at (take to xs) (vs ++ drop (to + length vs) xs) to front)
    (take_at vs (drop (to + length vs) xs) m l)

-- an effect does not write a place
abbrev pub Spares : Effect → ℕ → Type 0
Spares Keep p = Unit
Spares (Copy source dest m cut) p = (j : ℕ) → j < m → dest + j ≢ p
Spares (Put at byte) p = at ≢ p

sets_spare : (vs xs : List ℕ) (i p : ℕ) → ((j : ℕ) → j < length vs → i + j ≢ p) → get_or (sets xs i vs) p 0 ≡ get_or xs p 0
sets_spare [] xs i p other = refl
sets_spare (v ∷ vs) xs i p other =
    sets_spare vs (set xs i v) (suc i) p (λ j h e. other (suc j) (omega arith) (omega arith))
    ∙ get_or-set_other xs i p v 0 (λ e. other 0 (omega arith) (omega arith))

pub spared : (e : Effect) (xs : List ℕ) (p : ℕ) → Spares e p → get_or (after e xs) p 0 ≡ get_or xs p 0
spared Keep xs p other = refl
spared (Copy source dest m cut) xs p other =
    sets_spare (take m (drop source xs)) xs dest p (λ j h. other j (omega (arith, length-take m (drop source xs))))
spared (Put at byte) xs p other = get_or-set_other xs at p byte 0 (λ e. other (sym e))

-- so many bytes from a place on, none of which an effect writes
pub part_spared : (e : Effect) (xs : List ℕ) (at m : ℕ) → at + m ≤ length xs → ((i : ℕ) → i < m → Spares e (at + i))
    → take m (drop at (after e xs)) ≡ take m (drop at xs)
part_spared e xs at m room other =
    let ys = after e xs in
    let size : length ys ≡ length xs = length_after e xs in
    let l : length (take m (drop at ys)) ≡ m = length-take-le m (drop at ys) (rw (length-drop at ys) (omega arith)) in
    let l' : length (take m (drop at xs)) ≡ m = length-take-le m (drop at xs) (rw (length-drop at xs) (omega arith)) in
    ext_get_or 0 (take m (drop at ys)) (take m (drop at xs)) (l ∙ sym l')
    (λ i h.
    let low : i < m = omega arith in
    get_or-take m (drop at ys) i 0 low ∙ get_or-drop at ys i 0 ∙ spared e xs (at + i) (other i low)
    ∙ sym (get_or-take m (drop at xs) i 0 low ∙ get_or-drop at xs i 0))

-- WHOSE PLACES A STEP WRITES

-- a delivery writes in the buffer of its taker
pub record InBuffer (p : Parties) (s i : ℕ) : Type 0 where
  pub taker : p.taker ≡ tid_of s
  pub least : p.taken.start ≤ i
  pub most : i < p.taken.start + p.taken.len

pub copy_writes : {t : Table} {p : Parties} {source dest m : ℕ} {cut : Bool} → Delivers t p source dest m cut
    → (s i j : ℕ) → i < area_bytes → j < m → dest + j ≡ place_in s i → InBuffer p s i
copy_writes {p = p} lands s i j low h e =
    let fits = leb-true (p.taken.start + p.taken.len) area_bytes lands.buffers.1 in
    let real = ltb-true 0 p.taker (both_true _ _ lands.exist.1).0 in
    record {
      taker = omega (arith, lands.to, lands.count);
      least = omega (arith, lands.to, lands.count);
      most = omega (arith, lands.to, lands.count);
    }

-- an own write in the area of the active task
pub put_writes : {t : Table} {r : Request} {at byte : ℕ} → Puts t r at byte → (s i : ℕ) → i < area_bytes → at ≡ place_in s i → active_tid t ≡ tid_of s
put_writes lands s i low e = sym lands.home ∙ (rw e (omega arith))
