-- A move that writes one record at most: every other slot has the task and the place that it had.
use Prim.Native.Nat.{ℕ, ◌<◌}
use mathlib.Core.Path.{◌≡◌, refl, sym, ap, ◌∙◌}
use mathlib.Core.Logic.{◌≢◌}
use mathlib.Core.Bool.{Bool, true}
use mathlib.Core.List.{List}
use native.Mathlib.Omega.{arith}
use native.Mathlib.Decide.{dec_lt}
use Rattle.queue.specs.Numbering.{queues_for}
use Rattle.tid.specs.Tid.{mark_of}
use Rattle.queue.specs.Row.{place_of}
use Rattle.task.specs.declared.task.Outcome.{Outcome}
use Rattle.task.specs.declared.task.State.{State}
use Rattle.task.specs.declared.task.Task.{Task}
use Rattle.task.specs.Task.{is_used, task_as}
use Rattle.kernel.specs.declared.table.Table.{Table}
use Rattle.kernel.specs.Table.{slots, task_at, queue_at}
use Rattle.rules.specs.Facts.{standing}
use Rattle.image.specs.Record.{stored_place, fields, task_record, record_of}
use Rattle.image.proofs.Stands.{stored_in, stored_none}
use Rattle.records.specs.Records.{Records, with_record}
use Rattle.records.specs.Stage.{Stage, left_bytes}
use Rattle.records.proofs.Records.{with_record_lem}
use Rattle.records.proofs.Tasks.{byte_priority, byte_parent, entry_at_lem}

-- a slot whose task is as it was, and whose place in its queue is
pub same_record : (n : ℕ) (t t' : Table) → slots t ≡ n → slots t' ≡ n → (i : ℕ) → task_at t' i ≡ task_at t i
    → ((k : ℕ) → standing n (task_at t i) ≡ k → k < queues_for n → place_of (queue_at t' k) (mark_of i) ≡ place_of (queue_at t k) (mark_of i))
    → record_of t i ≡ record_of t' i
same_record n t t' size size' i same stays =
    let k = standing n (task_at t i) in
    let place : stored_place t i ≡ stored_place t' i = elim (dec_lt k (queues_for n)) [
      | yes l ↦ stored_in n t i size refl l ∙ sym (stays k refl l) ∙ sym (stored_in n t' i size' (ap (standing n) same) l)
      | no ge ↦ stored_none n t i size refl (omega arith) ∙ sym (stored_none n t' i size' (ap (standing n) same) (omega arith))
    ] in
    rw (same, place)

-- the record of slot s is that of the used task x at a place
pub one_written : {n : ℕ} {f : ℕ → List ℕ} {b : List ℕ} → Records n f b → (t' : Table) (s : ℕ) (x : Task) (place : ℕ)
    → s < n → is_used x.state ≡ true → task_at t' s ≡ x → stored_place t' s ≡ place
    → ((i : ℕ) → i < n → i ≢ s → f i ≡ record_of t' i)
    → Records n (record_of t') (with_record b s (fields x place))
unfolding task_record
one_written r t' s x place l in_use task stands others =
    with_record_lem r s (fields x place) l refl (rw (stands, task, in_use)) others

-- the task that a record has in another state is the table's
pub left_is : {n used a : ℕ} {w : ℕ → Bool} {t : Table} {b count : List ℕ} → Stage n used a w t b count
    → (s : ℕ) → s < n → (st : State) (o : Outcome) (place : ℕ)
    → left_bytes b s st o place ≡ with_record b s (fields (task_as st o (task_at t s)) place)
left_is g s h st o place = rw (byte_priority g s h, byte_parent g s h, entry_at_lem g s h)
