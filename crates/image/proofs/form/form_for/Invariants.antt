-- `image::form::form_for`. The loop's invariant: the forms before `k` have another length.
use Rattle.std.proofs.Common.{◌≡◌, ℕ, ◌<◌, Bool, false, eqb}
use Rattle.tid.specs.Sizes.{slot_count}
use Rattle.image.specs.Form.{form_at, image_length}
use Rattle.image.proofs.form.form_for.Given as goal

abbrev other : ℕ → ℕ → Bool
other len k = eqb len (image_length (form_at slot_count k))

abbrev pub invariant-loop-k : goal.invariant-loop-k
invariant-loop-k l = (j : ℕ) → j < l.k → other l.len j ≡ false
