use Rattle.std.proofs.Common.{arith, rules}
use Rattle.step.proofs.Copies.{down_more}
use Rattle.step.proofs.areas.copy_down.Goals as goal

pub loop-done-preserved : goal.loop-done-preserved
loop-done-preserved c =
    rw c.loop-done.invariant (down_more c.args.areas.now c.args.source c.args.dest c.loop-done.done (search rules) (omega arith))
