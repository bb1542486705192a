use Rattle.std.proofs.Common.{◌==◌, arith, take_all}
use Rattle.std.proofs.lemmas.List.Folds.{list_any_more}
use Rattle.clock.specs.Row.{holds, sleeper}
use Rattle.clock.proofs.row.Row.holds.Goals as goal

pub loop-x-preserved : goal.loop-x-preserved
loop-x-preserved c =
    let xs = c.asleep-x-items.result.now in
    rw (list_any_more (λ x. x.tid == c.args.tid) xs c.loop-x.x-index (sleeper 0 0) (omega arith), c.loop-x.invariant)

pub returns : goal.returns
unfolding holds
returns c =
    let xs = c.asleep-x-items.result.now in
    rw (← c.asleep-x-items.ensures, ← (take_all c.loop-x.x-index xs (omega arith))) c.loop-x.invariant
