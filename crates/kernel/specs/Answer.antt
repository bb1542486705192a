-- What the host is shown of a step.
use Rattle.std.specs.Prelude.{ℕ}
use Rattle.task.specs.declared.task.Outcome.{Outcome}
use Rattle.task.specs.declared.task.Outcome.TheVariants.{Nothing}
use Rattle.kernel.specs.declared.table.Answer.{Answer}
use Rattle.kernel.specs.Numbers.{accepted}

-- of a call that is refused
abbrev pub refused_answer : ℕ → ℕ → Answer
refused_answer v next = record { verdict = v; next = next; result = Nothing }

-- of a call that is not
abbrev pub accepted_answer : ℕ → Outcome → Answer
accepted_answer next o = record { verdict = accepted; next = next; result = o }
