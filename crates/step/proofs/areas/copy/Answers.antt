-- `copy`: each direction's own copy, of no more than is there and than there is room for.
use Rattle.std.proofs.Common.{sym, ◌∙◌}
use Rattle.step.proofs.Copies.{nothing_there, no_room, cut_down, cut_up}
use Rattle.step.proofs.areas.copy.Goals as goal
use Rattle.step.proofs.areas.copy.Goals.{else-source-len-via-then-source-len+else-dest-len, else-source-len-via-else-source-len}

pub returns-then-dest-source : goal.returns-then-dest-source
returns-then-dest-source c =
    c.copy_down.ensures
    ∙ rw c.min.ensures (cut_down c.args.areas.now c.args.source c.args.dest c.args.count)

pub returns-else-dest-source : goal.returns-else-dest-source
returns-else-dest-source c =
    c.copy_up.ensures
    ∙ rw c.min-else-dest-source.ensures (cut_up c.args.areas.now c.args.source c.args.dest c.args.count)

pub returns-else-source-len : goal.returns-else-source-len
returns-else-source-len c =
    let asked = c.args in
    elim c.else-source-len.branch [
      | else-source-len-via-then-source-len+else-dest-len w ↦ sym (no_room asked.areas.now asked.source asked.dest asked.count w.if-dest-len.false)
      | else-source-len-via-else-source-len w ↦ sym (nothing_there asked.areas.now asked.source asked.dest asked.count w.if-source-len.false)
    ]
