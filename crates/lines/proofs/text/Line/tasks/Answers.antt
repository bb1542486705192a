use Rattle.std.proofs.Common.{◌≡◌, ℕ, ap, add-one, arith}
use Rattle.std.proofs.lemmas.List.{get_or-take}
use Rattle.queue.proofs.Below.{first_below_lem}
use Rattle.tid.specs.Sizes.{slot_count}
use Rattle.task.specs.Task.{no_task}
use Rattle.kernel.specs.Table.{used_slots}
use Rattle.kernel.proofs.Owned.{owned_shaped}
use Rattle.lines.specs.State.{task_text, tasks_text}
use Rattle.lines.proofs.Joined.{unwritten, and_then}
use Rattle.lines.proofs.text.Line.tasks.Goals as goal

pub shared_ref_as_front-task-items : goal.shared_ref_as_front-task-items
shared_ref_as_front-task-items c = rw c.used_slots-used.ensures (first_below_lem slot_count _).most

pub loop-task-init : goal.loop-task-init
unfolding tasks_text
loop-task-init c = unwritten

pub loop-task-preserved : goal.loop-task-preserved
unfolding tasks_text
loop-task-preserved c =
    let s : ℕ = c.loop-task.task-index in
    let same = ap task_text (get_or-take c.used_slots-used.result c.args.table.tasks s no_task (omega arith)) in
    rw add-one (and_then c.loop-task.invariant (rw same at c.task.ensures))

pub returns : goal.returns
unfolding used_slots
returns c =
    let table = c.args.table in
    let found : c.used_slots-used.result ≡ used_slots table = rw (owned_shaped table _ c.well_formed.1.0).tasks c.used_slots-used.ensures in
    let end : c.loop-task.task-index ≡ used_slots table = omega arith in
    rw end at c.loop-task.invariant
