-- The words of the sleepers that were passed are written.
use Rattle.std.proofs.Common.{◌≡◌, ◌*◌, length}
use Rattle.std.proofs.Math.Seq.{paste}
use Rattle.clock_tasks.proofs.Rows.{pairs}
use Rattle.clock_tasks.proofs.state.put_sleepers.Given as goal

abbrev pub invariant-loop-i : goal.invariant-loop-i
invariant-loop-i l = (length l.words ≡ 58) × (l.words ≡ paste l.initial.words 8 (pairs l.fn.row.places) (2 * l.i))
