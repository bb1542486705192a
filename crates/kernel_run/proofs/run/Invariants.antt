-- `run`. The loop's invariant: the run of what has been read stands here.
use Rattle.kernel_run.specs.Stands.{Stands}
use Rattle.kernel_run.proofs.run.Given as goal

abbrev pub invariant-loop : goal.invariant-loop
invariant-loop g l = Stands l.edition l.block.table l.block.step l.areas
