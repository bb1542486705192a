-- `exit`: whoever is queued at the caller is woken before it stops.
use Rattle.std.proofs.Common.{refl, arith}
use Rattle.tid.proofs.Byte.{in_byte}
use Rattle.inplace.proofs.Requests.{exit_wakes, exit_ends}
use Rattle.inplace.proofs.kinds.exit.Goals as goal

pub wake_all-requires : goal.wake_all-requires
wake_all-requires c = let (running, begins) = c.requires in
    (refl, rw (c.tid_of.ensures, in_byte c.args.caller.slot (omega arith)) (exit_wakes begins (omega arith) running))

pub returns : goal.returns
returns c = let (running, begins) = c.requires in
    rw (c.stops.ensures, c.wake_all.ensures.image, c.wake_all.ensures.count, c.tid_of.ensures, in_byte c.args.caller.slot (omega arith))
    (exit_ends begins (omega arith) running)
