use Rattle.std.proofs.Common.{◌+◌, ◌-◌, ◌≡◌, ◌∙◌, ap, arith, rules}
use Rattle.step.proofs.Copies.{upper, up_none, up_more, up_all}
use Rattle.step.proofs.areas.copy_up.Goals as goal

pub loop-left-init : goal.loop-left-init
loop-left-init c = up_none c.args.areas.now c.args.source c.args.dest c.args.count

pub loop-left-preserved : goal.loop-left-preserved
loop-left-preserved c =
    let asked = c.args in
    let left = c.loop-left.left in
    let whole : left ≡ left - 1 + 1 = omega arith in
    rw (c.loop-left.invariant ∙ ap (upper asked.areas.now asked.source asked.dest asked.count) whole)
    (up_more asked.areas.now asked.source asked.dest asked.count (left - 1) (search rules) (omega arith) (omega arith))

pub returns : goal.returns
returns c =
    let asked = c.args in
    let none : c.loop-left.left ≡ 0 = omega arith in
    rw none at c.loop-left.invariant ∙ up_all asked.areas.now asked.source asked.dest asked.count
