-- `Table::await_event`: whether one more may wait.
use Rattle.std.proofs.Common.{◌+◌, false, true, ◌≡◌, arith}
use borrow.Author.Tests.{lt-leb}
use Rattle.tid.proofs.Byte.{in_byte}
use Rattle.kernel.specs.Edition.{may_wait}
use Rattle.kernel.specs.Kinds.{await_event}
use Rattle.kernel.specs.Table.{queue_at}
use Rattle.tid.specs.Sizes.{events}
use Rattle.queue.specs.Numbering.{event_queue}
use Rattle.kernel.proofs.table.Table.await_event.Goals as goal

pub returns-then-not-may_join : goal.returns-then-not-may_join
unfolding await_event
returns-then-not-may_join c = let e = c.args.event in
    let full : may_wait c.args.self.edition ((queue_at c.args.self (event_queue e)).len + 1) ≡ false = rw (← c.event_queue-k.ensures, ← c.queue.ensures, ← c.may_join.ensures) c.if-not-may_join.true in
    rw (lt-leb events e (omega arith), full) c.resumes-then-not-may_join.ensures

pub returns : goal.returns
unfolding await_event
returns c = let e = c.args.event in
    let free : may_wait c.args.self.edition ((queue_at c.args.self (event_queue e)).len + 1) ≡ true = rw (← c.event_queue-k.ensures, ← c.queue.ensures, ← c.may_join.ensures) c.if-not-may_join.false in
    rw (c.stops.ensures, c.queue_up.ensures, c.mark_of.ensures, in_byte c.args.c (omega arith), c.event_queue-k.ensures, lt-leb events e (omega arith), free)
