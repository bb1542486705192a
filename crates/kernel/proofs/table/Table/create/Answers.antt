-- `Table::create`: the slot that it takes is the first unused one.
use Rattle.std.proofs.Common.{◌≡◌, ◌∙◌, ap, arith}
use borrow.Author.Tests.{lt-leb}
use Rattle.tid.proofs.Byte.{in_byte}
use Rattle.kernel.proofs.Owned.{owned_shaped}
use Rattle.kernel.specs.Kinds.{create}
use Rattle.kernel.specs.Table.{slots, used_slots}
use Rattle.tid.specs.Sizes.{priorities, slot_count}
use Rattle.tid.specs.Tid.{tid_of}
use Rattle.task.specs.Task.{entry_of}
use Rattle.kernel.proofs.table.Table.create.Goals as goal
use Rattle.kernel.proofs.table.Table.create.Goals.{After-used_slots-s, Start}

slots_all : (c : Start) → slots c.args.self ≡ slot_count
slots_all c = (owned_shaped c.args.self _ c.well_formed.0).tasks

found : (p : After-used_slots-s) → p.used_slots-s.result ≡ used_slots p.args.self
unfolding used_slots
found p = rw (slots_all (goal.at.After-used_slots-s p).Start) p.used_slots-s.ensures

pub returns : goal.returns
unfolding create
returns c = let t = c.args.self in
    let n = slots_all (goal.at.returns c).Start in
    let first = found (goal.at.returns c).After-used_slots-s in
    let parent : c.tid_of.result ≡ tid_of c.args.c = c.tid_of.ensures ∙ ap tid_of (in_byte c.args.c (omega arith)) in
    let word : entry_of c.args.entry ≡ c.args.entry = omega arith in
    rw (c.resumes-2.ensures, c.number.ensures, c.from.ensures, c.tid_of-2.ensures, c.alone.ensures, c.mark_of.ensures, c.put_task.ensures, parent, word, in_byte c.used_slots-s.result (omega arith), first, lt-leb priorities c.args.priority (omega arith), lt-leb (slots t) (used_slots t) (omega arith))
