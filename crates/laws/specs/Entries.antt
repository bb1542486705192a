-- Entry numbers: which task has which, and that they decide nothing. The kernel keeps them for its host, which finds the code of a task by
-- its entry number. Each law is a statement; proofs/Entries.antt and proofs/Bare.antt prove it under the same name in small letters.
use Rattle.std.specs.Prelude.{ℕ, ◌<◌, ◌≡◌, Bool, true, not, ◌&&◌, List, map, eqb}
use Rattle.queue.specs.Choose.{choose}
use Rattle.task.specs.declared.task.Task.{Task}
use Rattle.task.specs.Task.{first_negative, entry_of, is_used}
use Rattle.kernel.specs.declared.table.Table.{Table}
use Rattle.kernel.specs.declared.table.Request.{Request}
use Rattle.kernel.specs.Numbers.{create_kind}
use Rattle.kernel.specs.Shape.{Shaped}
use Rattle.kernel.specs.Table.{task_at}
use Rattle.rules.specs.Good.{good_table}
use Rattle.step.specs.Step.{step}
use Rattle.step.specs.Run.{Done, run, answers, tables}
use Rattle.laws.specs.Movement.{movements}

-- Which task has which.

-- a slot that was unused in the one table and is used in the other: its task was made
abbrev pub is_made : Table → Table → ℕ → Bool
is_made t t' s = not (is_used (task_at t s).state) && is_used (task_at t' s).state

-- what a step leaves of slot s's entry number: a task keeps it, exited too; a new one has the second argument of the Create that made it
pub record Keeps (t : Table) (r : Request) (t' : Table) (s : ℕ) : Type 0 where
  pub entry : (task_at t' s).entry ≡ choose (is_made t t' s) (entry_of r.arg1) (task_at t s).entry
  pub by : is_made t t' s ≡ true → r.kind ≡ create_kind

-- Entry numbers stay: of any table, any request and areas of any length, in every slot.
-- Ruled out: a Create that gives the new task its caller's number, an Exit that clears it, and a Create that faults and stores it.
abbrev pub EntriesStay : Type 0
EntriesStay =
    (n : ℕ) (t : Table) (r : Request) (len s : ℕ) → n < first_negative → Shaped n t → Keeps t r (step t r len).table s

-- That they decide nothing.

-- a task, a table and a request without entry numbers: 0 stands in their places
abbrev pub bare_task : Task → Task
bare_task x = record { state = x.state; priority = x.priority; parent = x.parent; entry = 0; result = x.result }

abbrev pub bare_table : Table → Table
bare_table t = record { edition = t.edition; tasks = map bare_task t.tasks; queues = t.queues }

abbrev pub bare_request : Request → Request
bare_request r =
    choose (eqb r.kind create_kind)
    (record { kind = r.kind; arg0 = r.arg0; arg1 = 0; arg2 = r.arg2; arg3 = r.arg3; arg4 = r.arg4 })
    r

-- two runs with the same verdicts, next tasks and results at every step, the same deliveries and own writes, the same areas, and the same
-- tables but for entry numbers
pub record AlikeButEntries (u v : List Done) : Type 0 where
  pub same_answers : answers u ≡ answers v
  pub same_tables : map bare_table (tables u) ≡ map bare_table (tables v)
  pub same_movements : movements u ≡ movements v
  pub same_areas : map (λ s. s.areas) u ≡ map (λ s. s.areas) v

-- Entry numbers decide nothing: runs of two good tables that differ only in entry numbers, with requests that differ only in the second
-- arguments of Creates, are alike but for entry numbers. A fresh kernel's tables are good.
-- Ruled out: a kernel that gives a task of entry 0 no turn, and one that refuses a Create, or faults it, for its second argument.
abbrev pub EntriesDecideNothing : Type 0
EntriesDecideNothing =
    (n : ℕ) (t t' : Table) (xs : List ℕ) (rs rs' : List Request) → n < first_negative → Shaped n t → Shaped n t'
    → good_table t ≡ true → good_table t' ≡ true → bare_table t ≡ bare_table t' → map bare_request rs ≡ map bare_request rs'
    → AlikeButEntries (run t xs rs) (run t' xs rs')
