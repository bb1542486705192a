-- `event`: all who wait for it are woken before the caller goes on.
use Rattle.std.proofs.Common.{refl, arith}
use Rattle.inplace.proofs.EventWays.{event_wakes, event_ends}
use Rattle.inplace.proofs.events.event.Goals as goal

pub wake_all-requires : goal.wake_all-requires
wake_all-requires c = let (low, begins) = c.requires in
    (refl, rw c.signal.ensures (event_wakes begins (omega arith) c.args.number c.args.word low))

pub returns : goal.returns
returns c = let (low, begins) = c.requires in
    rw (c.resumes.ensures, c.wake_all.ensures.image, c.wake_all.ensures.count, c.signal.ensures)
    (event_ends begins (omega arith) c.args.number c.args.word low)
