-- The loop's invariant: the rows before `p` are empty. The measure is what is left of them.
use Rattle.std.proofs.Common.{ℕ, ◌-◌, ◌≤◌, ◌<◌, ◌≡◌, ltb, false}
use Rattle.tid.specs.Sizes.{priorities}
use Rattle.queue.specs.Rows.{row_at}
use Rattle.queue.proofs.first_ready.Given as goal

abbrev pub invariant-loop-p : goal.invariant-loop-p
invariant-loop-p l = (l.p ≤ priorities) × ((j : ℕ) → j < l.p → ltb 0 (row_at l.rows j).len ≡ false)

abbrev pub decreases-loop-p : goal.decreases-loop-p
decreases-loop-p l = priorities - l.p
