-- `fill`. The measure is what is left of the buffer.
use Rattle.std.proofs.Common.{◌-◌, ◌≤◌, length}
use Rattle.kernel_run.proofs.fill.Given as goal

abbrev pub invariant-loop-n : goal.invariant-loop-n
invariant-loop-n g l = l.n ≤ length l.records

abbrev pub decreases-loop-n : goal.decreases-loop-n
decreases-loop-n g l = length l.records - l.n
