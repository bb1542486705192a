-- `wake_all`: after i turns of the loop the first i who stood in the queue have left it.
use Rattle.std.proofs.Common.{◌*◌, ◌≤◌, ◌≡◌, length}
use Rattle.tid.specs.Sizes.{slot_count}
use Rattle.image.specs.Record.{record_length}
use Rattle.records.specs.Woken.{woken_in}
use Rattle.inplace.proofs.wake.wake_all.Given as goal

abbrev pub invariant-loop-i : goal.invariant-loop-i
invariant-loop-i l = let h = woken_in slot_count l.used l.waiters.code l.waiters.key l.told l.initial.image l.initial.count l.i in
    (l.i ≤ l.many) × (length l.image ≡ slot_count * record_length) × (l.image ≡ h.bytes) × (l.count ≡ h.counts)
