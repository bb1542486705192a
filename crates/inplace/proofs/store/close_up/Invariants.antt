-- `inplace::store::close_up` meets its contract. The loop's invariant: the first s slots are closed up, and the head is the last of them that leads.
use Rattle.std.proofs.Common.{◌≤◌, ◌≡◌, length}
use Rattle.tid.specs.Sizes.{slot_count}
use Rattle.records.specs.Records.{closed_up, head_of}
use Rattle.inplace.proofs.store.close_up.Given as goal

abbrev pub invariant-loop-s : goal.invariant-loop-s
invariant-loop-s l = (l.s ≤ l.used) × (length l.image ≡ length l.initial.image) × (l.image ≡ closed_up l.queue.code l.queue.at l.queue.key l.initial.image l.s) × (l.head ≡ head_of l.queue.code l.queue.at l.queue.key slot_count l.initial.image l.s)
