-- Each exported function's own promise leaves no choice: see `Determines` in tid/specs/Determined.antt. The bytes that are lent to
-- be written are part of the result: of the parameters at exit, s.0, s.1.0 and so on, those that may be written.
use Prim.Native.Nat.{ℕ}
use mathlib.Core.List.{List}
use mathlib.Core.Path.{ap, ◌∙⁻¹◌}
use Rattle.tid.specs.Determined.{Determines}
use Rattle.entry.specs.Entry.{Call, StartCall}
use Rattle.entry_c.proofs.kernel_step.Reads as kernel_step
use Rattle.entry_c.proofs.kernel_start.Reads as kernel_start
use Rattle.entry_c.proofs.kernel_convert.Reads as kernel_convert

-- the image, the areas and the answer
abbrev Three : Type 0
Three = List ℕ × List ℕ × List ℕ

pub kernel_step_determined : (κs : _) (a : _)
    → Determines {E = Three} (kernel_step.Post κs a) (λ s. (s.1.0.now, s.1.1.0.now, s.1.1.1.1.0.now))
kernel_step_determined κs a r r' s s' p p' =
    let same = p ∙⁻¹ p' in
    (ap (λ (c : Call). c.verdict) same, ap {B = Three} (λ (c : Call). (c.image, c.areas, c.answer)) same)

pub kernel_start_determined : (κs : _) (a : _) → Determines (kernel_start.Post κs a) (λ s. s.1.1.1.0.now)
kernel_start_determined κs a r r' s s' p p' =
    let same = p ∙⁻¹ p' in
    (ap (λ (c : StartCall). c.verdict) same, ap (λ (c : StartCall). c.image) same)

pub kernel_convert_determined : (κs : _) (a : _) → Determines (kernel_convert.Post κs a) (λ s. s.1.1.0.now)
kernel_convert_determined κs a r r' s s' p p' = (p.0 ∙⁻¹ p'.0, p.1 ∙⁻¹ p'.1)
