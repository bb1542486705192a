-- A queue as the records tell it: by a state and a key of who stands in it.
use Prim.Native.Nat.{ℕ, ◌≤◌, ◌<◌}
use mathlib.Core.Path.{◌≡◌, ◌∙◌}
use mathlib.Core.Logic.{⊎_elim}
use mathlib.Core.Bool.{◌&&◌}
use native.Mathlib.Omega.{arith}
use lib.Dec.{eqb}
use borrow.Author.Tests.{eqb-true, eq-eqb, ne_eqb, ltb-true, ltb-false}
use Rattle.tid.specs.Sizes.{priorities, events}
use Rattle.tid.specs.Tid.{slot_named, tid_of}
use Rattle.queue.specs.Numbering.{ready_queue, event_queue, send_queue, queues_for}
use Rattle.queue.proofs.Below.{by_test, both_true, true_both, same_test}
use Rattle.task.specs.declared.task.Task.{Task}
use Rattle.task.specs.Task.{state_code, awaited, is_used}
use Rattle.task.specs.Standing.{queue_of}
use Rattle.task.proofs.Stands.{stands_in}
use Rattle.kernel.specs.declared.table.Table.{Table}
use Rattle.kernel.specs.Table.{task_at}
use Rattle.rules.specs.Facts.{standing, Rules}
use Rattle.rules.proofs.States.{state_facts}
use Rattle.kept.proofs.Moves.{stander_used}
use Rattle.kept.proofs.Tasks.{code_at}
use Rattle.image.specs.Record.{record_length, at_priority, at_awaited, stored_place, fields, task_record, record_of, byte_in}
use Rattle.records.specs.Records.{queues}

-- those whose records have the state and the key are those that stand in queue k
pub record Told (n : ℕ) (t : Table) (code at key k : ℕ) : Type 0 where
  pub near : at < record_length
  pub within : k < queues_for n
  pub same : (i : ℕ) → i < n → queues code at key (record_of t i) ≡ eqb (standing n (task_at t i)) k

-- the record of an unused slot has the state of no queue
queues_task : (x : Task) (place code at key : ℕ) → 0 < code
    → queues code at key (task_record x place) ≡ (eqb (state_code x.state) code && eqb (byte_in (fields x place) at) key)
unfolding task_record
queues_task x place code at key some =
    by_test (is_used x.state) (λ e. rw e)
    (λ e.
    let zero : state_code x.state ≡ 0 = omega (arith, ltb-false 0 (state_code x.state) e) in
    rw (zero, ne_eqb 0 code (λ z. omega arith)))

module _ {n used a : ℕ} {t : Table} (f : Rules n used a t) where
  -- who stands in a queue is ready, sends or waits
  by_sort : (i : ℕ) {k : ℕ} {C : Type 0} → let x = task_at t i in standing n x ≡ k → k < queues_for n
      → (code_at t i ≡ 2 → x.priority < priorities → ready_queue x.priority ≡ k → C)
      → (code_at t i ≡ 4 → 1 ≤ awaited x.state → send_queue (slot_named (awaited x.state)) ≡ k → C)
      → (code_at t i ≡ 6 → awaited x.state < events → event_queue (awaited x.state) ≡ k → C)
      → C
  by_sort i {k} e h ready sends waits =
      let x = task_at t i in
      let each = f.tasks.each i (stander_used f i k e h) in
      let state = state_facts used i x.state each.state in
      ⊎_elim (λ r. ready r.0 each.priority r.1)
      (⊎_elim (λ q. sends q.0 (state.target (eq-eqb _ 4 q.0)).0 q.1)
      (λ v. waits v.0 (ltb-true _ events (state.event (eq-eqb _ 6 v.0))) v.1))
      (stands_in (queues_for n) x e h)

  -- a queue is told where its state and its key are had by those who stand in it, and by nobody else
  tells : (code at key : ℕ) {k : ℕ} → at < record_length → k < queues_for n → 0 < code
      → ((i : ℕ) → code_at t i ≡ code → byte_in (fields (task_at t i) (stored_place t i)) at ≡ key → standing n (task_at t i) ≡ k)
      → ((i : ℕ) → standing n (task_at t i) ≡ k → (code_at t i ≡ code) × (byte_in (fields (task_at t i) (stored_place t i)) at ≡ key))
      → Told n t code at key k
  tells code at key {k} near within some there back =
      record {
        near = near;
        within = within;
        same = λ i _.
            let x = task_at t i in
            let byte = byte_in (fields x (stored_place t i)) at in
            queues_task x (stored_place t i) code at key some
            ∙ same_test
            (λ e. let (state, own) = both_true (eqb (code_at t i) code) (eqb byte key) e in
            eq-eqb _ k (there i (eqb-true _ code state) (eqb-true byte key own)))
            (λ e. let (state, own) = back i (eqb-true _ k e) in true_both (eq-eqb _ code state) (eq-eqb byte key own));
      }

  -- the three sorts of queue

  pub ready_told : (p : ℕ) → p < priorities → Told n t 2 at_priority p (ready_queue p)
  unfolding queue_of
  ready_told p low =
      tells 2 at_priority p (omega arith) (omega arith) (omega arith) (λ i c e. rw (c, e))
      (λ i e. by_sort i e (omega arith) (λ c _ own. (c, own)) (λ c _ own. absurd (omega arith)) (λ c l own. absurd (omega arith)))

  pub waiter_told : (e : ℕ) → e < events → Told n t 6 at_awaited e (event_queue e)
  unfolding queue_of
  waiter_told e low =
      tells 6 at_awaited e (omega arith) (omega arith) (omega arith) (λ i c e. rw (c, e))
      (λ i e. by_sort i e (omega arith) (λ c l own. absurd (omega arith)) (λ c _ own. absurd (omega arith)) (λ c l own. (c, omega arith)))

  pub sender_told : (c : ℕ) → c < n → Told n t 4 at_awaited (tid_of c) (send_queue c)
  unfolding queue_of
  sender_told c l =
      tells 4 at_awaited (tid_of c) (omega arith) (omega arith) (omega arith) (λ i c e. rw (c, e) (omega arith))
      (λ i e. by_sort i e (omega arith) (λ c l own. absurd (omega arith)) (λ c l own. (c, omega arith)) (λ c l own. absurd (omega arith)))
