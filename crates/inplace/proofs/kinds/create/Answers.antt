-- `create`: a way out for each test of the paper's row, the faults first.
use Rattle.std.proofs.Common.{◌≡◌, arith}
use Rattle.tid.proofs.Byte.{in_byte}
use Rattle.task.specs.Task.{entry_of}
use Rattle.inplace.proofs.Requests.{create_unknown, create_full, create_adds}
use Rattle.inplace.proofs.kinds.create.Goals as goal

pub returns-then-priority-ge-PRIORITIES : goal.returns-then-priority-ge-PRIORITIES
returns-then-priority-ge-PRIORITIES c = let (running, begins) = c.requires in
    rw c.resumes.ensures (create_unknown begins (omega arith) running c.args.priority c.args.entry c.if-priority-ge-PRIORITIES.true)

pub returns-then-used-ge-SLOTS : goal.returns-then-used-ge-SLOTS
returns-then-used-ge-SLOTS c = let (running, begins) = c.requires in
    rw c.resumes-then-used-ge-SLOTS.ensures (create_full begins (omega arith) running c.args.priority c.args.entry c.if-priority-ge-PRIORITIES.false c.if-used-ge-SLOTS.true)

pub returns : goal.returns
returns c = let (running, begins) = c.requires in
    let a = c.args in
    let word : entry_of a.entry ≡ a.entry = omega arith in
    rw (c.resumes-2.ensures, c.number.ensures, c.tid_of-2.ensures, c.put.ensures, c.fields_of.ensures, c.tid_of.ensures, in_byte a.caller.slot (omega arith), in_byte a.caller.used (omega arith))
    (rw word at (create_adds begins (omega arith) running a.priority a.entry c.if-priority-ge-PRIORITIES.false c.if-used-ge-SLOTS.false))
