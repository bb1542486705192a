-- `audit::check` meets its contract: by the length, then by what each part answers.
use Rattle.std.proofs.Common.{◌*◌, arith, ne_eqb}
use Rattle.tid.specs.Sizes.{slot_count}
use Rattle.image.specs.Record.{record_length}
use Rattle.audit.specs.Audit.{found_in}
use Rattle.audit.proofs.Seen.{seen_used}
use Rattle.audit.proofs.Finds.{finds}
use Rattle.audit.proofs.check.Goals as goal

pub returns-then-image-ne-IMAGE : goal.returns-then-image-ne-IMAGE
unfolding found_in
returns-then-image-ne-IMAGE c = rw (ne_eqb _ (slot_count * record_length) c.if-image-ne-IMAGE.true)

pub rest_blank-requires : goal.rest_blank-requires
rest_blank-requires c = ((seen_used slot_count c.args.image.now c.surveyed-used.ensures).0, c.if-image-ne-IMAGE.false)

pub all_judged-requires : goal.all_judged-requires
all_judged-requires c = let counted = seen_used slot_count c.args.image.now c.surveyed-used.ensures in
    (counted.0, (c.if-image-ne-IMAGE.false, counted.1))

pub returns : goal.returns
returns c = finds slot_count c.args.edition c.args.image.now c.surveyed-used.result c.if-image-ne-IMAGE.false
    (λ i. omega (arith, c.type_inv.image i))
    c.surveyed-used.ensures c.is_edition.ensures c.rest_blank.ensures c.all_judged.ensures c.active_if_ready.ensures
