-- The invariants: the rows before `k` were passed, and row `k` was read up to `p`.
use Rattle.std.proofs.Common.{◌≤◌, ◌≡◌}
use Rattle.tid.specs.Sizes.{slot_count}
use Rattle.queue.specs.Numbering.{places, queue_count}
use Rattle.queue.proofs.Reading.{Reading, Passed}
use Rattle.queue.proofs.rows_kept.Given as goal

abbrev pub invariant-loop-p : goal.invariant-loop-p
invariant-loop-p l =
    (l.len ≡ l.initial.row.len) × (l.len ≤ places) × Reading slot_count queue_count l.k l.initial.row l.initial.keys l.keys l.row.marks l.p

abbrev pub invariant-loop-k : goal.invariant-loop-k
invariant-loop-k l = Passed slot_count queue_count l.rows l.initial.keys l.keys l.k
