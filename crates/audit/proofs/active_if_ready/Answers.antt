use Rattle.std.proofs.Common.{arith, lt-ltb, le-ltb}
use Rattle.tid.specs.Sizes.{slot_count}
use Rattle.queue.proofs.Below.{tells_none, tells_more, tells_all}
use Rattle.audit.proofs.active_if_ready.Goals as goal

pub returns-then-active-lt-SLOTS : goal.returns-then-active-lt-SLOTS
returns-then-active-lt-SLOTS c = rw (lt-ltb c.args.active slot_count c.if-active-lt-SLOTS.true)

pub loop-p-init : goal.loop-p-init
loop-p-init c = tells_none _ _

pub loop-p-preserved : goal.loop-p-preserved
loop-p-preserved c = tells_more c.loop-p.invariant (omega arith)

pub returns : goal.returns
returns c = rw (le-ltb c.args.active slot_count c.if-active-lt-SLOTS.false) (tells_all c.loop-p.invariant (omega arith))
