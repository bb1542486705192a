-- `Table::receive`: a message that is delivered. The search finds it too, but of a wrong text it would say no more than that it gave up.
use Rattle.std.proofs.Common.{ne_eqb, eqb, false, true, ◌∙◌, ◌≡◌, ap, sym, arith}
use Rattle.tid.proofs.Byte.{in_byte}
use Rattle.tid.proofs.Trips.{slot_of_mark}
use Rattle.kernel.specs.Kinds.{receive}
use Rattle.kernel.specs.Table.{queue_at}
use Rattle.queue.specs.Numbering.{send_queue}
use Rattle.task.specs.Task.{good_buffer}
use Rattle.kernel.proofs.table.Table.receive.Goals as goal
use Rattle.kernel.proofs.table.Table.receive.Goals.{After-send_queue-k, Else-not-good_buffer}

good : (p : Else-not-good_buffer) → good_buffer p.args.b ≡ true
good p = sym p.good_buffer.ensures ∙ p.if-not-good_buffer.false

own : (p : After-send_queue-k) → p.send_queue-k.result ≡ send_queue p.args.c
own p = omega (arith, p.send_queue-k.ensures, p.tid_of.ensures)

pub returns : goal.returns
unfolding receive
returns c = let t = c.args.self in
    let k = send_queue c.args.c in
    let queue : c.queue-q.result ≡ queue_at t k = c.queue-q.ensures ∙ ap (queue_at t) (own (goal.at.returns c).After-send_queue-k) in
    let filled : eqb (queue_at t k).len 0 ≡ false = rw (← queue) (ne_eqb _ 0 c.if-q-eq0.false) in
    rw (c.resumes-2.ensures, c.is_cut.ensures, c.delivery-copy.ensures, c.tid_of-2.ensures, c.tid_of-sender.ensures, in_byte c.slot_of-s.result c.slot_of-s.ensures.1, slot_of_mark c.slot_of-s.result, in_byte c.args.c (omega arith), slot_of_mark c.args.c, c.leave.ensures, c.put_queue.ensures, c.popped.ensures, c.reply_of.ensures, c.message_of-sent.ensures, c.task-state.ensures, c.slot_of-s.ensures.0, queue, own (goal.at.returns c).After-send_queue-k, good (goal.at.returns c).Else-not-good_buffer, filled)
