-- `image::form::reform` meets its contract: by the form of either length.
use Rattle.std.proofs.Common.{◌≡◌, ℕ, ◌*◌, length, sym, ap, ◌∙◌}
use mathlib.Core.Bool.{and-false}
use Rattle.tid.specs.Sizes.{slot_count}
use Rattle.image.specs.declared.form.Form.{Form}
use Rattle.image.specs.Form.{form_of, reformed_into}
use Rattle.image.proofs.Forms.{form_length, some_form, none_form}
use Rattle.image.proofs.form.reform.Goals as goal

-- the bytes of a record, by the form that was found
width : (n len : ℕ) (f : Form) → f ≡ form_of n len → f.bytes ≡ (form_of n len).bytes
width n len f e = ap (λ (g : Form). g.bytes) e

pub returns-in_default : goal.returns-in_default
unfolding reformed_into
returns-in_default c = rw (none_form slot_count (length c.args.image.now) c.in_default.ensures)

pub returns-in_default-form_for : goal.returns-in_default-form_for
unfolding reformed_into
returns-in_default-form_for c = rw (none_form slot_count (length c.args.out.now) c.in_default-form_for.ensures, and-false)

pub put_records-requires : goal.put_records-requires
put_records-requires c = let (image_is, old) = some_form slot_count (length c.args.image.now) _ c.in-Some.ensures in
    let (out-is, new) = some_form slot_count (length c.args.out.now) _ c.in-Some-form_for.ensures in (
      form_length slot_count (length c.args.image.now) image_is ∙ ap (λ (f : Form). slot_count * f.bytes) (sym old),
      form_length slot_count (length c.args.out.now) out-is ∙ ap (λ (f : Form). slot_count * f.bytes) (sym new),
    )

pub returns : goal.returns
unfolding reformed_into
returns c = let (image_is, old) = some_form slot_count (length c.args.image.now) _ c.in-Some.ensures in
    let (out-is, new) = some_form slot_count (length c.args.out.now) _ c.in-Some-form_for.ensures in
    c.put_records.ensures ∙ rw (image_is, out-is, width _ _ _ old, width _ _ _ new)
