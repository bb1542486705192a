-- One task is replaced and every queue stays: its record is written, and no other.
use Prim.Native.Nat.{ℕ, ◌+◌, ◌<◌}
use mathlib.Core.Path.{◌≡◌, refl, ap, ◌∙◌}
use mathlib.Core.Bool.{Bool, true, false}
use mathlib.Core.List.{List}
use native.Mathlib.Nat.{le_refl}
use native.Mathlib.Omega.{arith}
use native.Mathlib.Decide.{dec_lt}
use lib.ListN.{get_or, length-set}
use lib.Seq.{get_or-set_same, get_or-set_other}
use lib.Dec.{eqb}
use borrow.Author.Tests.{ne_eqb}
use Rattle.tid.specs.Sizes.{priorities}
use Rattle.tid.specs.Tid.{mark_of, slot_of}
use Rattle.tid.proofs.Trips.{slot_of_mark}
use Rattle.queue.specs.declared.Queue.{Queue}
use Rattle.queue.specs.Numbering.{send_queue, queues_for}
use Rattle.queue.specs.Row.{place_of}
use Rattle.queue.specs.Facts.{RowFacts}
use Rattle.queue.proofs.Places.{place_first, place_holds}
use Rattle.task.specs.declared.task.Outcome.TheVariants.{Nothing}
use Rattle.task.specs.declared.task.State.{State}
use Rattle.task.specs.declared.task.Task.{Task}
use Rattle.task.specs.Task.{no_task, is_used, is_active, is_quiet, task_as}
use Rattle.task.proofs.Tests.{clash}
use Rattle.task.proofs.Stands.{stands_nowhere, stands_ready}
use Rattle.kernel.specs.declared.table.Table.{Table}
use Rattle.kernel.specs.Table.{slots, task_at, queue_at, with_task, used_slots}
use Rattle.kernel.specs.Kinds.{new_task}
use Rattle.kernel.specs.Moves.{left_as}
use Rattle.rules.specs.Good.{good_state}
use Rattle.rules.specs.Facts.{standing, nobody}
use Rattle.rules.proofs.Good.{used_slots_lem}
use Rattle.kept.proofs.Tasks.{code_at, is_free, free}
use Rattle.kept.proofs.Moves.{slot_used, halted_kept, added_kept}
use Rattle.image.specs.Record.{stored_place, fields, record_of}
use Rattle.image.proofs.Stands.{stored_in, stored_none}
use Rattle.records.specs.Records.{Records, with_record}
use Rattle.records.specs.Stage.{Stage, left_bytes}
use Rattle.records.proofs.Changes.{same_record, one_written, left_is}

-- the place of a slot that does not belong in a row is the one that it would join at
absent_place : {n : ℕ} {mine : ℕ → Bool} {q : Queue} → RowFacts n mine q → (s : ℕ) → mine s ≡ false → place_of q (mark_of s) ≡ q.len
absent_place {n} {mine} {q} f s other = elim (dec_lt (place_of q (mark_of s)) q.len) [
  | yes l ↦ clash (f.belongs (place_of q (mark_of s)) l) (ap mine (ap slot_of (place_holds q (mark_of s) f.fits l) ∙ slot_of_mark s) ∙ other)
  | no ge ↦ omega (arith, (place_first q (mark_of s)).most, f.fits)
]

module _ {n used a : ℕ} {t : Table} {b count : List ℕ} (g : Stage n used a nobody t b count) where
  sized : (s : ℕ) (x : Task) → slots (with_task t s x) ≡ n
  sized s x = length-set t.tasks s x ∙ g.rules.size

  here : {s : ℕ} (x : Task) → s < n → task_at (with_task t s x) s ≡ x
  here {s} x l = get_or-set_same t.tasks s x no_task (omega (arith, g.rules.size))

  replaced_records : (s : ℕ) (x : Task) (place : ℕ) → s < n → is_used x.state ≡ true → stored_place (with_task t s x) s ≡ place
      → Records n (record_of (with_task t s x)) (with_record b s (fields x place))
  replaced_records s x place l in_use stands =
      one_written g.records (with_task t s x) s x place l in_use (here x l) stands
      (λ i _ ne. same_record n t (with_task t s x) g.rules.size (sized s x) i
      (get_or-set_other t.tasks s i x no_task ne) (λ _ _ _. refl))

  -- the first unused slot is a new task, to be woken
  pub adds_stage : (p entry c : ℕ) → used < n → p < priorities → c < used
      → Stage n (used + 1) a (λ j. eqb j (used_slots t)) (with_task t (used_slots t) (new_task p entry c)) (with_record b used (fields (new_task p entry c) (get_or count p 0))) count
  adds_stage p entry c room low l =
      let f = g.rules in
      let x = new_task p entry c in
      let e : used_slots t ≡ used = used_slots_lem f in
      let t' = with_task t used x in
      let rules = added_kept f p entry c e room low l in
      let at : p < queues_for n = omega arith in
      let nowhere : standing n (task_at t used) ≡ queues_for n =
      ap (standing n) (f.tasks.unused used (le_refl used)) ∙ stands_nowhere (queues_for n) no_task refl refl refl in
      let stands : stored_place t' used ≡ (queue_at t p).len =
      stored_in n t' used (sized used x) (ap (standing n) (here x room) ∙ stands_ready (queues_for n) x refl) at
      ∙ absent_place (f.lined.holds.row p (omega (arith, f.lined.shaped.count))) used (ne_eqb _ p (λ q. omega arith)) in
      record {
        rules = rules;
        records = rw (e, g.counts p low) (replaced_records used x (queue_at t p).len room refl stands);
        counts = g.counts;
        long = g.long;
      }

-- The last move of the active task, that of slot c, where it stops and stands in no queue: then none is active.
module _ {n used c : ℕ} {t : Table} {b count : List ℕ} (g : Stage n used c nobody t b count) (runs : code_at t c ≡ 1) where
  pub halts_stage : (st : State) → is_free st ≡ true → is_active st ≡ false → good_state used c st ≡ true
      → (is_quiet st ≡ true → (queue_at t (send_queue c)).len ≡ 0)
      → Stage n used n nobody (left_as t c st Nothing) (left_bytes b c st Nothing 0) count
  halts_stage st stays still good quiet =
      let f = g.rules in
      let x = task_as st Nothing (task_at t c) in
      let new = free n x stays in
      let l : c < used = slot_used f (rw runs) in
      let inside : c < n = omega (arith, f.tasks.fits) in
      record {
        rules = halted_kept f c n st (rw runs) (λ ne. absurd (ne refl)) stays still good quiet;
        records = rw (left_is g c inside st Nothing)
            (replaced_records g c x 0 inside new.in_use
            (stored_none n (with_task t c x) c (sized g c x) (ap (standing n) (here g x inside) ∙ new.nowhere) (le_refl (queues_for n))));
        counts = g.counts;
        long = g.long;
      }
