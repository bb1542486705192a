-- Each public function's own promise leaves no choice. `Post` is the promise, which the toolchain reads off the `ensures` in
-- src/: Post κs a r s, of the arguments a, the result r and the parameters at exit s.
use mathlib.Core.Path.{refl, ◌∙⁻¹◌}
use Rattle.tid.specs.Determined.{DeterminesResult}
use Rattle.tid.proofs.mark_of.Reads as mark_of
use Rattle.tid.proofs.slot_of.Reads as slot_of
use Rattle.tid.proofs.tid_of.Reads as tid_of
use Rattle.tid.proofs.slot_named.Reads as slot_named

mark_of_determined : (κs : _) (a : _) → DeterminesResult (mark_of.Post κs a)
mark_of_determined κs a r r' s s' p p' = (p ∙⁻¹ p', refl)

tid_of_determined : (κs : _) (a : _) → DeterminesResult (tid_of.Post κs a)
tid_of_determined κs a r r' s s' p p' = (p ∙⁻¹ p', refl)

-- these promises have a bound beside the equation
slot_of_determined : (κs : _) (a : _) → DeterminesResult (slot_of.Post κs a)
slot_of_determined κs a r r' s s' p p' = (p.0 ∙⁻¹ p'.0, refl)

slot_named_determined : (κs : _) (a : _) → DeterminesResult (slot_named.Post κs a)
slot_named_determined κs a r r' s s' p p' = (p.0 ∙⁻¹ p'.0, refl)
