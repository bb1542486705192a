-- `text::Line::tasks`. The loop's invariant: the tasks before this one are there.
use Rattle.lines.specs.Written.{Written}
use Rattle.lines.specs.State.{tasks_text}
use Rattle.lines.proofs.text.Line.tasks.Given as goal

abbrev pub invariant-loop-task : goal.invariant-loop-task
invariant-loop-task l = Written l.initial.self (tasks_text l.fn.table l.task-index) l.self
