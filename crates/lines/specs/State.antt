-- The wide line of a step: its line, what it moved, and the state of every task after it.
use Rattle.std.specs.Prelude.{ℕ, zero, suc, ◌+◌, ◌*◌, List, [], ◌∷◌, ◌++◌}
use Rattle.tid.specs.Sizes.{slot_count}
use Rattle.task.specs.declared.task.Task.{Task}
use Rattle.task.specs.Task.{state_code}
use Rattle.task.specs.Result.{bit}
use Rattle.kernel.specs.declared.table.Table.{Table}
use Rattle.kernel.specs.declared.table.Effect.{Effect}
use Rattle.kernel.specs.declared.table.Effect.TheVariants.{Keep, Copy, Put}
use Rattle.kernel.specs.declared.table.Decision.{Decision}
use Rattle.kernel.specs.Table.{task_at, used_slots}
use Rattle.lines.specs.Text.{decimal}
use Rattle.lines.specs.Line.{newline, space, minus, step_text, longest}

abbrev pub slash : ℕ
slash = 47

abbrev pub semicolon : ℕ
semicolon = 59

abbrev pub letter_c : ℕ
letter_c = 99

abbrev pub letter_w : ℕ
letter_w = 119

-- a minus for nothing; c, from which place of the areas, to which, how many bytes, and whether it was cut; w and the place of an own write
unfoldable pub effect_text : Effect → List ℕ
effect_text Keep = minus ∷ []
effect_text (Copy source dest n cut) =
    letter_c ∷ space ∷ decimal source ++ space ∷ decimal dest ++ space ∷ decimal n ++ space ∷ decimal (bit cut)
effect_text (Put at byte) = letter_w ∷ space ∷ decimal at

-- a space, the number of a task's state, its priority, and its entry number, which has no sign
abbrev pub task_text : Task → List ℕ
task_text x = space ∷ decimal (state_code x.state) ++ slash ∷ decimal x.priority ++ slash ∷ decimal x.entry

-- the first k tasks of a table
unfoldable pub tasks_text : Table → ℕ → List ℕ
tasks_text t zero = []
tasks_text t (suc k) = tasks_text t k ++ task_text (task_at t k)

-- the text of the step, its effect, and all tasks that there are
unfoldable pub wide_line_of : ℕ → ℕ → Decision → List ℕ
wide_line_of step kind d =
    step_text step kind d.answer
    ++ space ∷ semicolon ∷ space ∷ effect_text d.effect
    ++ space ∷ semicolon ∷ tasks_text d.table (used_slots d.table)
    ++ newline ∷ []

-- no wide line is longer than this: an effect has up to three numbers of 20 digits and one of one, a task two of three and one of ten
abbrev pub longest_wide : ℕ
longest_wide = longest + 72 + slot_count * 19
