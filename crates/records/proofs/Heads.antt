-- The head of a queue, found by its record, and what closing up leaves.
use Prim.Native.Nat.{ℕ, zero, suc, ◌+◌, ◌-◌, ◌*◌, ◌≤◌, ◌<◌}
use mathlib.Core.Path.{◌≡◌, refl, sym, ap, ◌∙◌}
use mathlib.Core.Logic.{◌≢◌}
use mathlib.Core.Bool.{true, ◌&&◌}
use mathlib.Core.List.{List}
use native.Mathlib.Nat.{add-zero, add-suc, le_refl}
use native.Mathlib.Omega.{arith}
use native.Mathlib.Decide.{ℕ_discrete}
use lib.Seq.{get_or-set_other}
use lib.Dec.{eqb}
use borrow.Author.Tests.{eqb-true, eq-eqb, ne_eqb}
use Rattle.tid.specs.Sizes.{priorities}
use Rattle.tid.specs.Tid.{mark_of, slot_of, tid_of}
use Rattle.queue.specs.Numbering.{ready_queue, send_queue}
use Rattle.queue.specs.Row.{place_at, place_of}
use Rattle.queue.specs.Facts.{RowFacts}
use Rattle.queue.proofs.Below.{by_test, both_true, true_both}
use Rattle.queue.proofs.Facts.{slot_place, place_slot}
use Rattle.task.proofs.Tests.{clash}
use Rattle.kernel.specs.declared.table.Table.{Table}
use Rattle.kernel.specs.Table.{task_at, queue_at}
use Rattle.rules.specs.Facts.{standing, nobody}
use Rattle.kept.proofs.Moves.{row_head, stander_used}
use Rattle.image.specs.Bytes.{record_at}
use Rattle.image.specs.Record.{record_length, at_state, at_priority, at_place, at_awaited, stored_place, record_of, byte_at}
use Rattle.image.proofs.Record.{place_back}
use Rattle.image.proofs.Stands.{stored_in}
use Rattle.records.specs.Records.{queues_at, up_at, closed_up, leads_at, head_of}
use Rattle.records.specs.Stage.{Stage}
use Rattle.image.proofs.Bytes.{byte_in_lem}
use Rattle.records.proofs.Records.{closed_later}
use Rattle.records.proofs.Told.{Told, ready_told, sender_told}

module _ (code at key : ℕ) where
  -- the only one that leads is found
  head_only : (b : List ℕ) (none h k : ℕ) → h < k → leads_at code at key b h ≡ true → ((i : ℕ) → i < k → leads_at code at key b i ≡ true → i ≡ h)
      → head_of code at key none b k ≡ h
  unfolding head_of
  head_only b none h zero l e only = absurd (omega arith)
  head_only b none h (suc k) l e only =
      by_test (leads_at code at key b k) (λ y. rw y (only k (omega arith) y))
      (λ y. rw y (head_only b none h k (elim (ℕ_discrete h k) [
        | yes q ↦ clash (ap (leads_at code at key b) (sym q) ∙ e) y
        | no q ↦ omega arith
      ]) e (λ i m. only i (omega arith))))

  -- slots that nothing changes at need not be looked at
  closed_rest : (b : List ℕ) (k d : ℕ) → ((i : ℕ) → k ≤ i → i < k + d → up_at code at key (closed_up code at key b i) i ≡ closed_up code at key b i)
      → closed_up code at key b (k + d) ≡ closed_up code at key b k
  unfolding closed_up
  closed_rest b k zero none = rw add-zero
  closed_rest b k (suc d) none =
      rw (add-suc, none (k + d) (omega arith) (omega arith)) (closed_rest b k d (λ i h l. none i h (omega arith)))

  -- moving up changes no byte but the place
  up_byte : (b : List ℕ) (i s j : ℕ) → j < record_length → j ≢ 3 → byte_at (up_at code at key b i) s j ≡ byte_at b s j
  up_byte b i s j near other =
      by_test (queues_at code at key b i)
      (λ e. rw (e, get_or-set_other b (i * record_length + at_place) (s * record_length + j) (byte_at b i at_place - 1) 0 (λ q. omega arith)))
      (λ e. rw e)

-- what the bytes of a slot tell, where its record is that of its task
module _ {n : ℕ} {t : Table} {code at key k : ℕ} (q : Told n t code at key k) (b : List ℕ) (i : ℕ) (l : i < n)
    (own : record_at record_length b i ≡ record_of t i) where
  stands_told : queues_at code at key b i ≡ eqb (standing n (task_at t i)) k
  stands_told = rw (← byte_in_lem b i at_state (omega arith), ← byte_in_lem b i at q.near, own) (q.same i l)

  pub place_told : byte_at b i at_place ≡ stored_place t i
  place_told = rw (← byte_in_lem b i at_place (omega arith), own) (place_back t i)

module _ {n used a : ℕ} {t : Table} {b count : List ℕ} (g : Stage n used a nobody t b count) where
  -- closing up changes no byte of a record but its place
  pub closed_byte : (code at key k s j : ℕ) → j < record_length → j ≢ 3 → byte_at (closed_up code at key b k) s j ≡ byte_at b s j
  unfolding closed_up
  closed_byte code at key zero s j near other = refl
  closed_byte code at key (suc k) s j near other =
      up_byte code at key (closed_up code at key b k) k s j near other ∙ closed_byte code at key k s j near other

  module _ {code at key k : ℕ} (q : Told n t code at key k) where
    row : RowFacts n (λ i. eqb (standing n (task_at t i)) k) (queue_at t k)
    row = g.rules.lined.holds.row k (rw g.rules.lined.shaped.count q.within)

    -- a slot that is not reached yet is as it was
    reached : (i : ℕ) → i < n → record_at record_length (closed_up code at key b i) i ≡ record_of t i
    reached i l = closed_later code at key q.near b i i (le_refl i) ∙ g.records.each i l

    -- closing up ends with the used slots
    pub closed_used : closed_up code at key b n ≡ closed_up code at key b used
    closed_used =
        let whole : used + (n - used) ≡ n = omega (arith, g.rules.tasks.fits) in
        rw whole at (closed_rest code at key b used (n - used)
        (λ i past l. rw (
          stands_told q (closed_up code at key b i) i (omega arith) (reached i (omega arith)),
          ne_eqb (standing n (task_at t i)) k (λ e. omega (arith, stander_used g.rules i k e q.within)),
        )))

    -- the head is the only one in the queue whose place is 0
    pub headed : (none : ℕ) → 0 < (queue_at t k).len → head_of code at key none b used ≡ slot_of (place_at (queue_at t k) 0)
    headed none some =
        let s = slot_of (place_at (queue_at t k) 0) in
        let own = row_head g.rules k q.within some in
        let l : s < used = stander_used g.rules s k own q.within in
        let whole : mark_of s ≡ place_at (queue_at t k) 0 = omega (arith, row.mark 0 some) in
        let below : (i : ℕ) → i < used → i < n = λ i l. omega (arith, g.rules.tasks.fits) in
        let test : (i : ℕ) → i < used → leads_at code at key b i ≡ (eqb (standing n (task_at t i)) k && eqb (stored_place t i) 0) =
        λ i l. rw (stands_told q b i (below i l) (g.records.each i (below i l)), place_told q b i (below i l) (g.records.each i (below i l))) in
        head_only code at key b none s used l
        (test s l ∙ true_both (eq-eqb _ k own)
        (eq-eqb _ 0 (stored_in n t s g.rules.size own q.within ∙ ap (place_of (queue_at t k)) whole ∙ place_slot row 0 some)))
        (λ i m e.
        let (mine, first) = both_true (eqb (standing n (task_at t i)) k) (eqb (stored_place t i) 0) (sym (test i m) ∙ e) in
        let (_, stands) = slot_place row i (below i m) mine in
        let zero = sym (stored_in n t i g.rules.size (eqb-true _ k mine) q.within) ∙ eqb-true _ 0 first in
        omega (arith, ap (place_at (queue_at t k)) (sym zero) ∙ stands))

  -- the head of a send queue is found
  pub sender_headed : (c none : ℕ) → c < n → 0 < (queue_at t (send_queue c)).len
      → head_of 4 at_awaited (tid_of c) none b used ≡ slot_of (place_at (queue_at t (send_queue c)) 0)
  sender_headed c none l some = headed (sender_told g.rules c l) none some

-- the head of a ready queue is found, where no task is active
module _ {n used : ℕ} {t : Table} {b count : List ℕ} (g : Stage n used n nobody t b count) (p : ℕ) (low : p < priorities) (some : 0 < (queue_at t (ready_queue p)).len) where
  pub ready_headed : (none : ℕ) → head_of 2 at_priority p none b used ≡ slot_of (place_at (queue_at t (ready_queue p)) 0)
  ready_headed none = headed g (ready_told g.rules p low) none some
