-- Nobody waits at a closed door: the targets of all who send exist, and an exit tells those who sent to the one that exits, in their order.
use Prim.Native.Nat.{ℕ, ◌<◌}
use mathlib.Core.Path.{◌≡◌, refl}
use mathlib.Core.Bool.{true}
use mathlib.Core.List.{List, [], ◌∷◌}
use native.Mathlib.Omega.{arith}
use lib.ListN.{length}
use borrow.Author.Tests.{eqb-true}
use Rattle.queue.specs.Numbering.{send_queue}
use Rattle.queue.specs.Row.{members, count, emptied}
use Rattle.task.specs.declared.task.Outcome.TheVariants.{Nothing, Fault}
use Rattle.task.specs.declared.task.State.TheVariants.{Exited}
use Rattle.task.specs.Task.{awaited, is_receive_blocked}
use Rattle.kernel.specs.declared.table.Table.{Table}
use Rattle.kernel.specs.declared.table.Request.{Request}
use Rattle.kernel.specs.declared.table.Effect.TheVariants.{Keep}
use Rattle.kernel.specs.Numbers.{exit_kind}
use Rattle.kernel.specs.Table.{slots, task_at, queue_at, with_queue, active_slot}
use Rattle.kernel.specs.Moves.{left_as, woken_row}
use Rattle.kernel.specs.Turn.{settled}
use Rattle.kernel.specs.Kinds.{alive, exit}
use Rattle.kernel.specs.Decide.{turn_of}
use Rattle.kernel.proofs.Refusals.{fine}
use Rattle.rules.specs.Facts.{Good}
use Rattle.rules.proofs.Targets.{target_lives}
use Rattle.kept.proofs.Tasks.{code_at}
use Rattle.kept.proofs.Moves.{slot_used}
use Rattle.kept.proofs.Entries.{rejoined_stops}
use Rattle.step.specs.Step.{step, after}
use Rattle.step.specs.Run.{run, last_of, table_after}
use Rattle.laws.specs.Order.{TakesTurns}
use Rattle.laws.specs.View.{is_entry, others_left, left, Steps}
use Rattle.laws.specs.Doors.{left_by_exit}
use Rattle.laws.proofs.Effects.{slots_woken}
use Rattle.laws.proofs.Sees.{enters, steps_good, step_entry, steps_next}
use Rattle.laws.proofs.Order.{queue_joins, takes_turns}

-- one of the rules, along a run of good tables
pub run_targets : {n : ℕ} (rs : List Request) (t : Table) (xs : List ℕ) (s : ℕ) → Steps n t xs → let after = table_after t (run t xs rs) in
    is_receive_blocked (task_at after s).state ≡ true → alive after (awaited (task_at after s).state) ≡ true
unfolding run last_of
run_targets [] t xs s steps blocked =
    let f = (steps_good steps).rules in
    let here : s < slots t = omega (arith, slot_used f {s = s} (rw (eqb-true (code_at t s) 4 blocked)), f.tasks.fits, f.size) in
    target_lives t steps.good s here blocked
run_targets (r ∷ rs) t xs s steps blocked =
    let d = step t r (length xs) in
    run_targets rs d.table (after d.effect xs) s (steps_next steps r) blocked

-- of all that an entry may leave, an exit leaves this
pub exit_left : (t : Table) (r : Request) (s : ℕ) → r.kind ≡ exit_kind → left t r s ≡ left_by_exit t s
unfolding left left_by_exit others_left turn_of exit
exit_left t r s kind = rw kind

-- the send queue of the one that exits is woken whole; that it stops leaves all queues as they are
exit_turns : {n : ℕ} {t : Table} → Good n t → active_slot t < slots t → let a = active_slot t in
    TakesTurns t (members (queue_at t (send_queue a))) (settled a (exit t a))
unfolding exit settled
exit_turns {n} {t} good here =
    let f = good.rules in
    let a = active_slot t in
    let q = queue_at t (send_queue a) in
    let x = woken_row (with_queue t (send_queue a) (emptied q)) q (Fault 2) in
    let size : slots x ≡ slots t = slots_woken _ q (Fault 2) (count q) in
    rw (rejoined_stops x a Exited Nothing (omega arith) refl)
    (takes_turns (left_as x a Exited Nothing) (queue_joins f (send_queue a) (omega arith) (omega (arith, f.size)) (Fault 2) refl) Keep)

pub exit_order : {n : ℕ} {t : Table} {xs : List ℕ} → Steps n t xs → (r : Request) → is_entry t r ≡ true → r.kind ≡ exit_kind
    → TakesTurns t (members (queue_at t (send_queue (active_slot t)))) (step t r (length xs))
unfolding turn_of
exit_order {n} {t} steps r entry kind =
    let here : active_slot t < slots t = (fine (slots t) (active_slot t) r (enters t r entry).0).caller (λ e. omega arith) in
    rw (step_entry steps r entry, kind) (exit_turns (steps_good steps) here)
