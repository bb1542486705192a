use Rattle.std.proofs.Common.{arith, below_more, lt-ltb, le-ltb}
use Rattle.tid.specs.Sizes.{priorities}
use Rattle.queue.proofs.Below.{first_ends}
use Rattle.inplace.proofs.end.first_ready.Goals as goal

pub loop-p-init : goal.loop-p-init
loop-p-init c = (omega arith, λ j h. absurd (omega arith))

pub loop-p-preserved : goal.loop-p-preserved
loop-p-preserved c = (omega arith, below_more _ _ c.loop-p.invariant.1 (le-ltb 0 _ c.if-count-p-gt0.false))

pub returns-then-p-eq-PRIORITIES : goal.returns-then-p-eq-PRIORITIES
returns-then-p-eq-PRIORITIES c =
    record { found = first_ends priorities _ priorities (omega arith) (λ j h. c.loop-p.invariant.1 j (omega arith)) (λ h. absurd (omega arith)); below = tt {0} }

pub returns-then-count-p-gt0 : goal.returns-then-count-p-gt0
returns-then-count-p-gt0 c = let found = c.loop-p in
    record { found = first_ends priorities _ found.p found.invariant.0 found.invariant.1 (λ h. lt-ltb 0 _ c.if-count-p-gt0.true); below = omega arith }
