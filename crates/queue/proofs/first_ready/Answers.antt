use Rattle.std.proofs.Common.{arith, below_more, le-ltb}
use borrow.Author.Tests.{lt-ltb}
use Rattle.tid.specs.Sizes.{priorities}
use Rattle.queue.proofs.Below.{first_ends}
use Rattle.queue.proofs.first_ready.Goals as goal

pub returns-then-p-eq-PRIORITIES : goal.returns-then-p-eq-PRIORITIES
returns-then-p-eq-PRIORITIES c =
    record {
      found = first_ends priorities _ priorities (omega arith) (λ j h. c.loop-p.invariant.1 j (omega arith)) (λ h. absurd (omega arith));
      below = tt {0};
    }

pub returns-then-rows-p-gt0 : goal.returns-then-rows-p-gt0
returns-then-rows-p-gt0 c =
    record {
      found = first_ends priorities _ c.loop-p.p c.loop-p.invariant.0 c.loop-p.invariant.1 (λ h. lt-ltb _ _ (omega arith));
      below = omega arith;
    }

pub loop-p-preserved : goal.loop-p-preserved
loop-p-preserved c = (omega arith, below_more _ _ c.loop-p.invariant.1 (le-ltb 0 _ (omega arith)))
