-- `inplace::store::put` meets its contract. The loop's invariant: the first i bytes of the record are in place.
use Rattle.std.proofs.Common.{◌≤◌, ◌≡◌, length}
use lib.Seq.{paste}
use Rattle.image.specs.Record.{record_length}
use Rattle.inplace.proofs.store.put.Given as goal

abbrev pub invariant-loop-i : goal.invariant-loop-i
invariant-loop-i l = (l.i ≤ record_length) × (length l.image ≡ length l.initial.image) × (l.image ≡ paste l.initial.image l.at l.r l.i)
