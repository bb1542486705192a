use Rattle.std.proofs.Common.{◌≡◌, length, arith, length-set}
use Rattle.clock_tasks.proofs.Rows.{pair_more}
use Rattle.clock_tasks.proofs.state.put_sleepers.Goals as goal

pub loop-i-preserved : goal.loop-i-preserved
loop-i-preserved c =
    let at = c.loop-i in
    let l : length c.args.row.places ≡ 16 = omega arith in (
      simp length-set at.invariant.0,
      pair_more c.args.words.now _ c.args.row.places at.i (omega arith) (omega arith) at.invariant.1,
    )
