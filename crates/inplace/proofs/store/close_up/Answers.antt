use Rattle.std.proofs.Common.{◌≡◌, refl, arith, rules}
use Rattle.tid.specs.Sizes.{slot_count}
use Rattle.records.specs.Records.{closed_up, head_of}
use Rattle.inplace.proofs.Loops.{close_more}
use Rattle.inplace.proofs.store.close_up.Goals as goal

pub loop-s-init : goal.loop-s-init
unfolding closed_up head_of
loop-s-init c = (omega arith, refl, refl, refl)

pub loop-s-preserved : goal.loop-s-preserved
loop-s-preserved c = let a = c.args in
    let more =
    close_more a.queue.code a.queue.at a.queue.key slot_count c.requires.1.1 a.image.now c.loop-s.image c.up_at-head.new.image c.loop-s.s c.loop-s.head
    c.up_at-head.result c.loop-s.invariant.2 c.loop-s.invariant.3 c.up_at-head.ensures.image c.up_at-head.ensures.found in
    (omega arith, search rules, more.0, more.1)

pub returns : goal.returns
returns c = let end : c.loop-s.s ≡ c.args.used = omega arith in
    record { image = rw end at c.loop-s.invariant.2; head = rw end at c.loop-s.invariant.3 }
