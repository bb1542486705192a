-- `send`: a way out for each test of the paper's row, the faults first.
use Rattle.std.proofs.Common.{true, false, ◌&&◌, ◌≡◌, arith}
use native.Mathlib.Nat.{le_refl}
use Rattle.tid.specs.Sizes.{slot_count}
use Rattle.tid.proofs.Byte.{in_byte}
use Rattle.task.specs.Task.{good_buffer}
use Rattle.inplace.proofs.Found.{found_at, found_below}
use Rattle.inplace.proofs.MessageWays.{send_lost, send_self, send_unfit, send_waits, send_delivers}
use Rattle.inplace.proofs.messages.send.Goals as goal

pub returns-in_default : goal.returns-in_default
returns-in_default c = let (running, begins) = c.requires in
    let a = c.args in
    rw c.resumes.ensures
    (send_lost begins (omega arith) running _ a.target c.alive.ensures.found a.message a.reply (rw c.in_default.is (le_refl slot_count)))

pub returns-then-s-caller : goal.returns-then-s-caller
returns-then-s-caller c = let (running, begins) = c.requires in
    let a = c.args in
    rw c.resumes-then-s-caller.ensures
    (send_self begins (omega arith) running c.in-Some.s a.target (found_at slot_count _ c.in-Some.s c.in-Some.is c.alive.ensures.found) a.message a.reply (found_below slot_count _ c.in-Some.s c.in-Some.is c.alive.ensures.below) c.if-s-caller.true)

pub returns-then-not-good_buffer : goal.returns-then-not-good_buffer
returns-then-not-good_buffer c = let (running, begins) = c.requires in
    let a = c.args in
    let some = c.if-not-good_buffer.true in
    let bad : (good_buffer a.message && good_buffer a.reply) ≡ false = rw (c.good_buffer.ensures, c.good_buffer-2.ensures) at some in
    rw c.resumes-then-not-good_buffer.ensures
    (send_unfit begins (omega arith) running c.in-Some.s a.target (found_at slot_count _ c.in-Some.s c.in-Some.is c.alive.ensures.found) a.message a.reply (found_below slot_count _ c.in-Some.s c.in-Some.is c.alive.ensures.below) c.if-s-caller.false bad)

pub returns-then-image-at-ne-SEND_BLOCKED : goal.returns-then-image-at-ne-SEND_BLOCKED
returns-then-image-at-ne-SEND_BLOCKED c = let (running, begins) = c.requires in
    let a = c.args in
    let both = c.if-not-good_buffer.false in
    let fit : (good_buffer a.message && good_buffer a.reply) ≡ true = rw (c.good_buffer.ensures, c.good_buffer-2.ensures) at both in
    let s = c.in-Some.s in
    rw (c.stops.ensures, c.tid_of.ensures, in_byte s (omega arith))
    (send_waits begins (omega arith) running s a.target (found_at slot_count _ c.in-Some.s c.in-Some.is c.alive.ensures.found) a.message a.reply (found_below slot_count _ c.in-Some.s c.in-Some.is c.alive.ensures.below) c.if-s-caller.false fit c.if-image-at-ne-SEND_BLOCKED.true)

pub returns : goal.returns
returns c = let (running, begins) = c.requires in
    let a = c.args in
    let both = c.if-not-good_buffer.false in
    let fit : (good_buffer a.message && good_buffer a.reply) ≡ true = rw (c.good_buffer.ensures, c.good_buffer-2.ensures) at both in
    rw c.delivers.ensures
    (send_delivers begins (omega arith) running c.in-Some.s a.target (found_at slot_count _ c.in-Some.s c.in-Some.is c.alive.ensures.found) a.message a.reply (found_below slot_count _ c.in-Some.s c.in-Some.is c.alive.ensures.below) c.if-s-caller.false fit c.if-image-at-ne-SEND_BLOCKED.false c.buffer_at.result c.buffer_at.ensures)
