-- `Table::reply`: a reply that is delivered. The search finds it too, but of a wrong text it would say no more than that it gave up.
use Rattle.std.proofs.Common.{◌≡◌, arith}
use Rattle.tid.proofs.Byte.{in_byte}
use Rattle.tid.proofs.Trips.{slot_of_mark}
use Rattle.kernel.specs.Kinds.{reply}
use Rattle.kernel.specs.Table.{task_at}
use Rattle.tid.specs.Tid.{slot_named}
use Rattle.task.specs.declared.task.State.TheVariants.{ReplyBlocked}
use Rattle.kernel.proofs.table.Table.reply.Goals as goal

pub returns : goal.returns
unfolding reply
returns c = let met = c.in-Some.ensures {u = tt {0}} in
    let held : (task_at c.args.self (slot_named c.args.target)).state ≡ ReplyBlocked c.in-ReplyBlocked.room = rw (← met.slot.0, ← c.task.ensures) c.in-ReplyBlocked.is in
    rw (c.resumes-2.ensures, c.least.ensures, c.is_cut-cut.ensures, c.delivery-copy.ensures, c.tid_of.ensures, c.tid_of-2.ensures, c.alone.ensures, c.mark_of.ensures, in_byte c.in-Some.s (omega (arith, met.slot)), slot_of_mark c.in-Some.s, met.slot.0, in_byte c.args.c (omega arith), slot_of_mark c.args.c, ← met.alive, held, ← c.good_buffer.ensures, c.if-not-good_buffer.false)
