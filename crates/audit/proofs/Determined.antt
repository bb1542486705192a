-- The public function's own promise leaves no choice: see `Determines` in tid/specs/Determined.antt.
use mathlib.Core.Path.{refl, ◌∙⁻¹◌}
use Rattle.tid.specs.Determined.{DeterminesResult}
use Rattle.audit.proofs.check.Reads as check

check_determined : (κs : _) (a : _) → DeterminesResult (check.Post κs a)
check_determined κs a r r' s s' p p' = (p ∙⁻¹ p', refl)
