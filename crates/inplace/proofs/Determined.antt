-- The public function's own promise leaves no choice: see `Determines` in tid/specs/Determined.antt. The image that is lent to be written
-- is part of the result.
use mathlib.Core.Path.{◌∙⁻¹◌}
use Rattle.tid.specs.Determined.{Determines}
use Rattle.inplace.proofs.decide.Reads as decide

decide_determined : (κs : _) (a : _) → Determines (decide.Post κs a) (λ s. s.1.0.now)
decide_determined κs a r r' s s' p p' =
    let answer = p.shown ∙⁻¹ p'.shown in
    let effect = p.effect ∙⁻¹ p'.effect in
    (λ i. record { answer = answer i; effect = effect i }, p.image ∙⁻¹ p'.image)
