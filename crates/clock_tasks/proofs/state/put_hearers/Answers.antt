use Rattle.std.proofs.Common.{◌≡◌, length, add-one, arith, length-set}
use Rattle.std.proofs.Math.Seq.{paste-zero, paste-suc}
use Rattle.clock_tasks.proofs.state.put_hearers.Goals as goal

pub loop-i-init : goal.loop-i-init
loop-i-init c = (c.requires, paste-zero c.args.words.now 41 c.args.to.tids)

pub loop-i-preserved : goal.loop-i-preserved
loop-i-preserved c =
    let at = c.loop-i in
    let l : length c.args.to.tids ≡ 17 = omega arith in (
      simp length-set at.invariant.0,
      rw (at.invariant.1, add-one at.i) (paste-suc c.args.words.now 41 c.args.to.tids at.i 0 (omega arith) (omega arith)),
    )
