-- `admits`: what is due of a call that is refused, in the order in which it is asked.
use Rattle.std.proofs.Common.{sym, ◌∙◌, true, arith}
use Rattle.tid.specs.Sizes.{slot_count}
use Rattle.kernel.specs.Edition.{is_edition}
use Rattle.entry.proofs.Calls.{due_edition, due_record, due_image, due_areas}
use Rattle.entry.proofs.admits.Goals as goal

pub returns-then-not-is_edition : goal.returns-then-not-is_edition
returns-then-not-is_edition c = let a = c.args in
    due_edition slot_count a.edition a.image.now a.areas.now a.request.now (sym c.is_edition.ensures ∙ c.if-not-is_edition.true)

pub returns-then-request-ne-REQUEST : goal.returns-then-request-ne-REQUEST
returns-then-request-ne-REQUEST c = let a = c.args in
    due_record slot_count a.edition a.image.now a.areas.now a.request.now (sym c.is_edition.ensures ∙ c.if-not-is_edition.false) (λ e. omega arith)

pub returns-then-image-ne-IMAGE : goal.returns-then-image-ne-IMAGE
returns-then-image-ne-IMAGE c = let a = c.args in
    due_image slot_count a.edition a.image.now a.areas.now a.request.now (sym c.is_edition.ensures ∙ c.if-not-is_edition.false) (omega arith) (λ e. omega arith)

pub returns-then-areas : goal.returns-then-areas
returns-then-areas c = let a = c.args in
    due_areas slot_count a.edition a.image.now a.areas.now a.request.now (sym c.is_edition.ensures ∙ c.if-not-is_edition.false) (omega arith) (omega arith) (λ e. omega arith)

pub returns : goal.returns
returns c = (sym c.is_edition.ensures ∙ c.if-not-is_edition.false, omega arith, omega arith, omega arith)
