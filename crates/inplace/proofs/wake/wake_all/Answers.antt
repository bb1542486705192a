use Rattle.std.proofs.Common.{◌≡◌, refl, ◌∙◌, add-one, arith, rules}
use Rattle.records.specs.Woken.{woken_in}
use Rattle.inplace.proofs.wake.wake_all.Goals as goal

pub loop-i-init : goal.loop-i-init
unfolding woken_in
loop-i-init c = (omega arith, c.requires.1.size, refl, refl)

pub join-requires : goal.join-requires
join-requires c = let at = c.loop-i in
    let (below, joins) = c.requires.1.joins at.i c.loop-i-test.true in
    let head = rw c.requires.0 at c.close_up-s.ensures.head in
    let bytes = rw c.requires.0 at c.close_up-s.ensures.image in
    (rw (head, at.invariant.2) below, (search rules, rw (head, bytes, at.invariant.2, at.invariant.3) joins))

pub loop-i-preserved : goal.loop-i-preserved
unfolding woken_in
loop-i-preserved c = let inv = c.loop-i.invariant in
    let head = rw c.requires.0 at c.close_up-s.ensures.head in
    let bytes = rw c.requires.0 at c.close_up-s.ensures.image in
    let joined = c.join.ensures in (
      omega arith,
      search rules,
      joined.image ∙ rw (add-one, head, bytes, inv.2, inv.3),
      joined.count ∙ rw (add-one, head, bytes, inv.2, inv.3),
    )

pub returns : goal.returns
returns c = let end : c.loop-i.i ≡ c.args.many = omega arith in
    rw (← end) (record { image = c.loop-i.invariant.2; count = c.loop-i.invariant.3 })
