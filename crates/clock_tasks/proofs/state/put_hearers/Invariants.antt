-- The tids that were passed are written.
use Rattle.std.proofs.Common.{◌≡◌, length}
use Rattle.std.proofs.Math.Seq.{paste}
use Rattle.clock_tasks.proofs.state.put_hearers.Given as goal

abbrev pub invariant-loop-i : goal.invariant-loop-i
invariant-loop-i l = (length l.words ≡ 58) × (l.words ≡ paste l.initial.words 41 l.fn.to.tids l.i)
