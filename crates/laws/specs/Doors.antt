-- What an exit leaves behind it: nobody waits at a closed door. Each law is a statement; proofs/Laws.antt proves it under the same name in
-- small letters.
use Rattle.std.specs.Prelude.{ℕ, ◌<◌, ◌≡◌, true, List, length, eqb}
use Rattle.queue.specs.Choose.{choose}
use Rattle.queue.specs.Numbering.{send_queue}
use Rattle.queue.specs.Row.{members}
use Rattle.task.specs.declared.task.Outcome.TheVariants.{Nothing, Fault}
use Rattle.task.specs.declared.task.State.TheVariants.{Ready, Exited}
use Rattle.task.specs.declared.task.Task.{Task}
use Rattle.task.specs.Task.{awaited, is_receive_blocked, task_as}
use Rattle.kernel.specs.declared.table.Table.{Table}
use Rattle.kernel.specs.declared.table.Request.{Request}
use Rattle.kernel.specs.Numbers.{exit_kind}
use Rattle.kernel.specs.Table.{task_at, queue_at, active_slot, used_slots}
use Rattle.kernel.specs.Kinds.{alive}
use Rattle.kernel.specs.Decide.{active_tid}
use Rattle.step.specs.Step.{step}
use Rattle.step.specs.Run.{run, table_after}
use Rattle.laws.specs.Order.{TakesTurns}
use Rattle.laws.specs.View.{is_entry, waits_at, Ends, Steps}

-- Along any run no task is receive-blocked at a task that does not exist.
-- Ruled out: a panel that hangs at a meter which has exited, and one that is queued at a meter which was never made.
abbrev pub TargetsExist : Type 0
TargetsExist =
    (n : ℕ) (t : Table) (xs : List ℕ) (rs : List Request) (s : ℕ) → Steps n t xs → let after = table_after t (run t xs rs) in
    is_receive_blocked (task_at after s).state ≡ true → alive after (awaited (task_at after s).state) ≡ true

-- what an exit makes of the record of slot s, before the next task is chosen: the one that exits has exited, who sent to it is ready with
-- a fault of 2, and nobody else is changed
unfoldable pub left_by_exit : Table → ℕ → Task
left_by_exit t s =
    let x = task_at t s in
    choose (eqb s (active_slot t)) (task_as Exited Nothing x)
    (choose (waits_at t (active_tid t) s) (task_as Ready (Fault 2) x)
    x)

-- Every used task sees every exit so.
-- Ruled out: a sender left queued or told -1, and a task woken that waits for a reply, even for that of the one that exits.
abbrev pub ExitTells : Type 0
ExitTells =
    (n : ℕ) (t : Table) (r : Request) (xs : List ℕ) (s : ℕ) → Steps n t xs → is_entry t r ≡ true → r.kind ≡ exit_kind → s < used_slots t
    → Ends s (left_by_exit t s) (step t r (length xs))

-- Who was queued joins in the order of the queue, each behind those who are ready at its own priority, before the next task is chosen.
-- Ruled out: senders that join in another order or ahead of others, and one that exits and is ready all the same.
abbrev pub ExitKeepsOrder : Type 0
ExitKeepsOrder =
    (n : ℕ) (t : Table) (r : Request) (xs : List ℕ) → Steps n t xs → is_entry t r ≡ true → r.kind ≡ exit_kind
    → TakesTurns t (members (queue_at t (send_queue (active_slot t)))) (step t r (length xs))
