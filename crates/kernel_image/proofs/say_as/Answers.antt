-- `say_as`: what is lent lies within its buffer, since no form is longer than the newest.
use Rattle.std.proofs.Common.{ℕ, ◌≡◌, ◌≤◌, Option, is_some, true, sym, ap, ◌∙◌, arith}
use Rattle.std.proofs.lemmas.List.{length-take-le}
use Rattle.queue.proofs.Below.{by_test}
use Rattle.tid.specs.Sizes.{slot_count}
use Rattle.image.specs.declared.form.Form.{Form}
use Rattle.image.specs.Form.{is_form, form_found}
use Rattle.image.proofs.Forms.{form_length, form_within}
use Rattle.kernel_image.proofs.say_as.Goals as goal

found : (len : ℕ) → is_some (form_found slot_count len) ≡ is_form slot_count len
found len = by_test (is_form slot_count len) (λ e. rw e) (λ e. rw e)

within : (len : ℕ) (form : Option Form) → form ≡ form_found slot_count len → is_some form ≡ true → len ≤ 768
within len form is some =
    let known : is_form slot_count len ≡ true = sym (found len) ∙ sym (ap is_some is) ∙ some in
    omega (arith, form_length slot_count len known, form_within slot_count len)

pub slice_bounds-room-end : goal.slice_bounds-room-end
slice_bounds-room-end g c = within _ _ c.form_for.ensures c.if-is_none.ensures

pub slice_bounds-out-end : goal.slice_bounds-out-end
slice_bounds-out-end g c = sym (length-take-le c.args.len _ (within _ _ c.form_for.ensures c.if-is_none.ensures))
