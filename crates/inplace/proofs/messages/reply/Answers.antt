-- `reply`: a way out for each test of the paper's row, the faults first.
use Rattle.std.proofs.Common.{true, false, ◌≡◌, sym, ◌∙◌, arith}
use native.Mathlib.Nat.{le_refl}
use Rattle.tid.specs.Sizes.{slot_count}
use Rattle.tid.proofs.Byte.{in_byte}
use Rattle.tid.proofs.Trips.{slot_of_mark}
use Rattle.task.specs.Task.{good_buffer}
use Rattle.inplace.proofs.Found.{found_at, found_below}
use Rattle.inplace.proofs.MessageWays.{reply_lost, reply_idle, reply_unfit, reply_delivers}
use Rattle.inplace.proofs.messages.reply.Goals as goal

pub returns-in_default : goal.returns-in_default
returns-in_default c = let (running, begins) = c.requires in
    let a = c.args in
    rw c.resumes.ensures
    (reply_lost begins (omega arith) running _ a.target c.alive.ensures.found a.b (rw c.in_default.is (le_refl slot_count)))

pub returns-then-image-at-ne-REPLY_BLOCKED : goal.returns-then-image-at-ne-REPLY_BLOCKED
returns-then-image-at-ne-REPLY_BLOCKED c = let (running, begins) = c.requires in
    let a = c.args in
    rw c.resumes-then-image-at-ne-REPLY_BLOCKED.ensures
    (reply_idle begins (omega arith) running c.in-Some.s a.target (found_at slot_count _ c.in-Some.s c.in-Some.is c.alive.ensures.found) a.b (found_below slot_count _ c.in-Some.s c.in-Some.is c.alive.ensures.below) c.if-image-at-ne-REPLY_BLOCKED.true)

pub returns-then-not-good_buffer : goal.returns-then-not-good_buffer
returns-then-not-good_buffer c = let (running, begins) = c.requires in
    let a = c.args in
    let bad : good_buffer a.b ≡ false = sym c.good_buffer.ensures ∙ c.if-not-good_buffer.true in
    rw c.resumes-then-not-good_buffer.ensures
    (reply_unfit begins (omega arith) running c.in-Some.s a.target (found_at slot_count _ c.in-Some.s c.in-Some.is c.alive.ensures.found) a.b (found_below slot_count _ c.in-Some.s c.in-Some.is c.alive.ensures.below) c.if-image-at-ne-REPLY_BLOCKED.false bad)

pub returns : goal.returns
returns c = let (running, begins) = c.requires in
    let a = c.args in
    let s = c.in-Some.s in
    let good : good_buffer a.b ≡ true = sym c.good_buffer.ensures ∙ c.if-not-good_buffer.false in
    rw (c.resumes-2.ensures, c.told_bytes.ensures, c.told_bytes-2.ensures, c.least.ensures, c.is_cut-cut.ensures, c.delivery-copy.ensures, c.tid_of-2.ensures, c.tid_of.ensures, in_byte s (omega arith), in_byte a.caller.slot (omega arith), slot_of_mark s, slot_of_mark a.caller.slot)
    (reply_delivers begins (omega arith) running s a.target (found_at slot_count _ c.in-Some.s c.in-Some.is c.alive.ensures.found) a.b (found_below slot_count _ c.in-Some.s c.in-Some.is c.alive.ensures.below) c.if-image-at-ne-REPLY_BLOCKED.false good c.buffer_at-awaited.result c.buffer_at-awaited.ensures)
