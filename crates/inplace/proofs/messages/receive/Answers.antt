-- `receive`: a way out for each test of the paper's row, the faults first.
use Rattle.std.proofs.Common.{ℕ, ◌<◌, true, false, ◌≡◌, sym, ◌∙◌, List, get_or, arith, rules}
use Rattle.tid.specs.Sizes.{slot_count}
use Rattle.tid.specs.Tid.{tid_of}
use Rattle.tid.proofs.Byte.{in_byte}
use Rattle.tid.proofs.Trips.{slot_of_mark}
use Rattle.queue.specs.Numbering.{send_queue}
use Rattle.task.specs.declared.task.Buffer.{Buffer}
use Rattle.task.specs.Task.{good_buffer}
use Rattle.image.specs.Record.{at_awaited}
use Rattle.records.specs.Records.{head_of}
use Rattle.inplace.specs.Ends.{Begins}
use Rattle.inplace.proofs.MessageWays.{receive_unfit, receive_waits, sender_used, receive_takes}
use Rattle.inplace.proofs.messages.receive.Goals as goal

-- somebody sends, and is found; the key of the queue is the caller's tid
sends : {ed used c s key : ℕ} {image count : List ℕ} (b : Buffer) → c < slot_count → Begins slot_count ed used c image count → good_buffer b ≡ true
    → key ≡ tid_of c → s ≡ head_of 4 at_awaited key slot_count image used → (get_or count (send_queue c) 0 ≡ 0 → ⊥) → s < slot_count
sends {c = c} {s = s} b running begins fit own head some =
    omega (arith, sender_used begins (omega arith) running b fit s (rw own at head) some, begins.stage.rules.tasks.fits)

pub returns-then-not-good_buffer : goal.returns-then-not-good_buffer
returns-then-not-good_buffer c = let (running, begins) = c.requires in
    let bad : good_buffer c.args.b ≡ false = sym c.good_buffer.ensures ∙ c.if-not-good_buffer.true in
    rw c.resumes.ensures (receive_unfit begins (omega arith) running c.args.b bad)

pub returns-then-count-caller-eq0 : goal.returns-then-count-caller-eq0
returns-then-count-caller-eq0 c = let (running, begins) = c.requires in
    rw c.stops.ensures (receive_waits begins (omega arith) running c.args.b (sym c.good_buffer.ensures ∙ c.if-not-good_buffer.false) c.if-count-caller-eq0.true)

pub overflow_mul-at : goal.overflow_mul-at
overflow_mul-at c =
    let (running, begins) = c.requires in
    let fit : good_buffer c.args.b ≡ true = sym c.good_buffer.ensures ∙ c.if-not-good_buffer.false in
    let own : c.tid_of-own.result ≡ tid_of c.args.caller.slot = c.tid_of-own.ensures ∙ rw (in_byte c.args.caller.slot (omega arith)) in
    let l = sends c.args.b running begins fit own c.close_up-s.ensures.head c.if-count-caller-eq0.false in
    search rules

pub overflow_add-at : goal.overflow_add-at
overflow_add-at c =
    let (running, begins) = c.requires in
    let fit : good_buffer c.args.b ≡ true = sym c.good_buffer.ensures ∙ c.if-not-good_buffer.false in
    let own : c.tid_of-own.result ≡ tid_of c.args.caller.slot = c.tid_of-own.ensures ∙ rw (in_byte c.args.caller.slot (omega arith)) in
    let l = sends c.args.b running begins fit own c.close_up-s.ensures.head c.if-count-caller-eq0.false in
    search rules

pub buffer_at-sent-requires : goal.buffer_at-sent-requires
buffer_at-sent-requires c =
    let (running, begins) = c.requires in
    let fit : good_buffer c.args.b ≡ true = sym c.good_buffer.ensures ∙ c.if-not-good_buffer.false in
    let own : c.tid_of-own.result ≡ tid_of c.args.caller.slot = c.tid_of-own.ensures ∙ rw (in_byte c.args.caller.slot (omega arith)) in
    let l = sends c.args.b running begins fit own c.close_up-s.ensures.head c.if-count-caller-eq0.false in
    search rules

pub overflow_add-at-2 : goal.overflow_add-at-2
overflow_add-at-2 c =
    let (running, begins) = c.requires in
    let fit : good_buffer c.args.b ≡ true = sym c.good_buffer.ensures ∙ c.if-not-good_buffer.false in
    let own : c.tid_of-own.result ≡ tid_of c.args.caller.slot = c.tid_of-own.ensures ∙ rw (in_byte c.args.caller.slot (omega arith)) in
    let l = sends c.args.b running begins fit own c.close_up-s.ensures.head c.if-count-caller-eq0.false in
    search rules

pub buffer_at-requires : goal.buffer_at-requires
buffer_at-requires c =
    let (running, begins) = c.requires in
    let fit : good_buffer c.args.b ≡ true = sym c.good_buffer.ensures ∙ c.if-not-good_buffer.false in
    let own : c.tid_of-own.result ≡ tid_of c.args.caller.slot = c.tid_of-own.ensures ∙ rw (in_byte c.args.caller.slot (omega arith)) in
    let l = sends c.args.b running begins fit own c.close_up-s.ensures.head c.if-count-caller-eq0.false in
    search rules

pub leave-requires : goal.leave-requires
leave-requires c =
    let (running, begins) = c.requires in
    let fit : good_buffer c.args.b ≡ true = sym c.good_buffer.ensures ∙ c.if-not-good_buffer.false in
    let own : c.tid_of-own.result ≡ tid_of c.args.caller.slot = c.tid_of-own.ensures ∙ rw (in_byte c.args.caller.slot (omega arith)) in
    let l = sends c.args.b running begins fit own c.close_up-s.ensures.head c.if-count-caller-eq0.false in
    search rules

pub returns : goal.returns
returns c =
    let (running, begins) = c.requires in
    let a = c.args in
    let s = c.close_up-s.result in
    let fit : good_buffer a.b ≡ true = sym c.good_buffer.ensures ∙ c.if-not-good_buffer.false in
    let own : c.tid_of-own.result ≡ tid_of a.caller.slot = c.tid_of-own.ensures ∙ rw (in_byte a.caller.slot (omega arith)) in
    let l = sends a.b running begins fit own c.close_up-s.ensures.head c.if-count-caller-eq0.false in
    let head = rw own at c.close_up-s.ensures.head in
    let bytes = rw own at c.close_up-s.ensures.image in
    rw (c.resumes-2.ensures, c.is_cut.ensures, c.delivery-copy.ensures, c.tid_of-own.ensures, c.tid_of-from.ensures, in_byte s (omega arith), in_byte a.caller.slot (omega arith), slot_of_mark s, slot_of_mark a.caller.slot)
    (receive_takes begins (omega arith) running a.b fit s head c.if-count-caller-eq0.false _ _ c.buffer_at-sent.result c.buffer_at.result bytes c.buffer_at-sent.ensures c.buffer_at.ensures c.leave.ensures)
