-- Waiting for an event, in either edition. Each law is a statement; proofs/Laws.antt proves it under the same name in small letters. They hold
-- of every good table, and so along every run.
use Rattle.std.specs.Prelude.{ℕ, ◌<◌, ◌≡◌, true, List, [], ◌∷◌, ◌++◌, length, ltb, eqb}
use Rattle.tid.specs.Sizes.{events}
use Rattle.tid.specs.Tid.{mark_of}
use Rattle.queue.specs.Choose.{choose}
use Rattle.queue.specs.Numbering.{event_queue}
use Rattle.queue.specs.Row.{members}
use Rattle.task.specs.declared.task.Outcome.TheVariants.{Nothing}
use Rattle.task.specs.declared.task.State.TheVariants.{Ready, EventBlocked}
use Rattle.task.specs.declared.task.Task.{Task}
use Rattle.task.specs.Task.{task_as}
use Rattle.kernel.specs.declared.table.Table.{Table}
use Rattle.kernel.specs.declared.table.Request.{Request}
use Rattle.kernel.specs.declared.table.Decision.{Decision}
use Rattle.kernel.specs.Edition.{many_wait}
use Rattle.kernel.specs.Numbers.{await_event_kind, event_kind}
use Rattle.kernel.specs.Table.{slots, task_at, queue_at, active_slot, used_slots}
use Rattle.kernel.specs.Kinds.{signal}
use Rattle.step.specs.Step.{step}
use Rattle.step.specs.Run.{run}
use Rattle.step.specs.Every.{Every}
use Rattle.laws.specs.Order.{TakesTurns}
use Rattle.laws.specs.View.{is_entry, waits_for, Ends, Steps}

-- Every table of a run, whatever it starts from, has the edition of the first.
-- Ruled out: a kernel that goes over to the other rule as soon as two tasks wait.
abbrev pub EditionStays : Type 0
EditionStays = (t : Table) (xs : List ℕ) (rs : List Request) → Every (λ s. s.decision.table.edition ≡ t.edition) (run t xs rs)

-- the caller waits for an event, behind those who waited before it
pub record WaitsLast (t : Table) (e : ℕ) (d : Decision) : Type 0 where
  pub waits : (task_at d.table (active_slot t)).state ≡ EventBlocked e
  pub last : members (queue_at d.table (event_queue e)) ≡ members (queue_at t (event_queue e)) ++ mark_of (active_slot t) ∷ []

-- Where many wait, no AwaitEvent of an event that there is gives a fault: the caller waits.
-- Ruled out: -3 in edition 2, a second waiter that takes the place of the first, and one that stands ahead of it.
abbrev pub ManyMayWait : Type 0
ManyMayWait =
    (n : ℕ) (t : Table) (r : Request) (xs : List ℕ) → Steps n t xs → t.edition ≡ many_wait → is_entry t r ≡ true → r.kind ≡ await_event_kind
    → r.arg0 < events → WaitsLast t r.arg0 (step t r (length xs))

-- what an event makes of the record of slot s, before the next task is chosen: the one that is interrupted is ready with nothing to be told, who
-- waited for the event is ready, and all of those are told the same; nobody else is changed
unfoldable pub left_by_event : Table → ℕ → ℕ → ℕ → Task
left_by_event t e word s =
    let x = task_at t s in
    choose (eqb s (active_slot t)) (task_as Ready Nothing x)
    (choose (waits_for t e s) (task_as Ready (signal word) x)
    x)

-- Every used task sees every event so.
-- Ruled out: an event that wakes only the first who waits, one that wakes those of another event, and two waiters that are told two numbers.
abbrev pub EventTells : Type 0
EventTells =
    (n : ℕ) (t : Table) (r : Request) (xs : List ℕ) (s : ℕ) → Steps n t xs → is_entry t r ≡ true → r.kind ≡ event_kind → s < used_slots t
    → Ends s (left_by_event t r.arg0 r.arg1 s) (step t r (length xs))

-- the mark of the task that an event interrupts; none where no task is active
abbrev pub interrupted : Table → List ℕ
interrupted t = choose (ltb (active_slot t) (slots t)) (mark_of (active_slot t) ∷ []) []

-- Who waited joins in the order in which they came, each behind those who are ready at its own priority, then the interrupted task, before the
-- next task is chosen.
-- Ruled out: waiters that are woken the last first, or by their tids, and an interrupted task that joins ahead of them.
abbrev pub EventKeepsOrder : Type 0
EventKeepsOrder =
    (n : ℕ) (t : Table) (r : Request) (xs : List ℕ) → Steps n t xs → is_entry t r ≡ true → r.kind ≡ event_kind
    → TakesTurns t (members (queue_at t (event_queue r.arg0)) ++ interrupted t) (step t r (length xs))
