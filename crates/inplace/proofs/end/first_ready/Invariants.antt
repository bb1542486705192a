-- `inplace::end::first_ready` meets its contract. The loop's invariant: nobody stands in the queues passed.
use Rattle.std.proofs.Common.{ℕ, ◌-◌, ◌≤◌, ◌<◌, ◌≡◌, false, get_or, ltb}
use Rattle.tid.specs.Sizes.{priorities}
use Rattle.inplace.proofs.end.first_ready.Given as goal

abbrev pub invariant-loop-p : goal.invariant-loop-p
invariant-loop-p l = (l.p ≤ priorities) × ((j : ℕ) → j < l.p → ltb 0 (get_or l.count j 0) ≡ false)

abbrev pub decreases-loop-p : goal.decreases-loop-p
decreases-loop-p l = priorities - l.p
