-- Of the sleepers passed, those who are due stand behind the notifier, and the others in the new row.
use Rattle.std.proofs.Common.{take}
use Rattle.clock.proofs.Sorted.{Sorted}
use Rattle.clock.proofs.clock.Clock.ticked.Given as goal

abbrev pub invariant-loop-x : goal.invariant-loop-x
invariant-loop-x l = Sorted l.fn.self.notifier l.count (take l.x-index l.x-items) l.row l.to
