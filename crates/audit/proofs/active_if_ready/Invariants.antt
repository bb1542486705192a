-- `audit::active_if_ready` meets its contract. The loop's invariant: the ready queues before p were looked at.
use Rattle.std.proofs.Common.{get_or, eqb}
use Rattle.tid.specs.Sizes.{priorities}
use Rattle.queue.proofs.Below.{Tells}
use Rattle.audit.proofs.active_if_ready.Given as goal

abbrev pub invariant-loop-p : goal.invariant-loop-p
invariant-loop-p l = Tells priorities (λ j. eqb (get_or l.count j 0) 0) l.none l.p
