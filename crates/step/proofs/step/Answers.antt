-- `step`: what `checked_active` answers, and what is decided and applied where that is a slot or none.
use Rattle.std.proofs.Common.{◌∙◌, sym, refl}
use Rattle.tid.specs.Sizes.{slot_count}
use Rattle.kernel.proofs.Owned.{owned_shaped}
use Rattle.step.proofs.Applied.{applied}
use Rattle.step.proofs.Steps.{step_checked}
use Rattle.step.proofs.step.Goals as goal

pub returns-in-Err : goal.returns-in-Err
returns-in-Err c =
    let size = (owned_shaped c.args.table _ c.well_formed.0).tasks in
    rw (step_checked c.args.table c.args.r _ slot_count size (sym c.in-Err.is ∙ c.checked_active.ensures))
    (record { answered = rw c.number.ensures at c.refused.ensures; changed = refl })

pub returns-in-Ok : goal.returns-in-Ok
returns-in-Ok c =
    let size = (owned_shaped c.args.table _ c.well_formed.0).tasks in
    rw (step_checked c.args.table c.args.r _ slot_count size (sym c.in-Ok.is ∙ c.checked_active.ensures))
    (applied c.decide_at-decision.ensures c.apply.ensures)
