-- One task of a table is replaced.
use Prim.Native.Nat.{ℕ, ◌<◌}
use mathlib.Core.Path.{◌≡◌}
use mathlib.Core.Logic.{◌≢◌}
use mathlib.Core.List.{List}
use native.Mathlib.Decide.{ℕ_discrete}
use lib.ListN.{length, get_or, set}
use lib.Seq.{get_or-set_same, get_or-set_other}
use Rattle.task.specs.declared.task.Task.{Task}
use Rattle.task.specs.Task.{no_task}

-- the task of slot s is x from now on, and every other is as it was
pub record Replaced (s : ℕ) (x : Task) (task task' : ℕ → Task) : Type 0 where
  pub here : task' s ≡ x
  pub other : (j : ℕ) → j ≢ s → task' j ≡ task j

pub set_replaces : (l : List Task) (s : ℕ) (x : Task) → s < length l
    → Replaced s x (λ j. get_or l j no_task) (λ j. get_or (set l s x) j no_task)
set_replaces l s x h =
    record { here = get_or-set_same l s x no_task h; other = λ j ne. get_or-set_other l s j x no_task ne }

module _ {s : ℕ} {x : Task} {task task' : ℕ → Task} (r : Replaced s x task task') where
  -- what is so of the new task, and of each other as it was, is so of every task
  pub each_task : (P : ℕ → Task → Type 0) → P s x → ((j : ℕ) → j ≢ s → P j (task j)) → (j : ℕ) → P j (task' j)
  each_task P new old j =
      elim (ℕ_discrete j s) [ yes e ↦ rw (e, r.here) new | no ne ↦ rw (r.other j ne) (old j ne) ]
