-- `holds` meets its contract. The loop's invariant: the first s entry numbers were looked at.
use Rattle.std.proofs.Common.{eqb}
use Rattle.tid.specs.Sizes.{slot_count}
use Rattle.queue.proofs.Below.{Tells}
use Rattle.image.specs.Record.{entry_at}
use Rattle.entry.proofs.holds.Given as goal

abbrev pub invariant-loop-s : goal.invariant-loop-s
invariant-loop-s l = Tells slot_count (λ i. eqb (entry_at l.image i) 0) l.none l.s
