-- `image::form::put_fitted` meets its contract. The loop's invariant: the first i bytes of the fitted record are in place.
use Rattle.std.proofs.Common.{◌≡◌, length}
use lib.Seq.{paste}
use Rattle.image.specs.Form.{fitted}
use Rattle.image.proofs.form.put_fitted.Given as goal

abbrev pub invariant-loop-i : goal.invariant-loop-i
invariant-loop-i l = (length l.out ≡ length l.initial.out) × (l.out ≡ paste l.initial.out l.at (fitted l.to l.r) l.i)
