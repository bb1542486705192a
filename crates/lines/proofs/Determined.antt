-- Each public function's own promise leaves no choice: its result, and the lent buffers at exit, follow from what it was given.
-- `Post` is the promise, which the toolchain reads off the `ensures` clauses.
use Rattle.std.proofs.Common.{ℕ, List, refl}
use mathlib.Core.Path.{◌∙⁻¹◌}
use Rattle.tid.specs.Determined.{Determines}
use Rattle.lines.proofs.shown.line.Reads as line
use Rattle.lines.proofs.block.fresh_block.Reads as fresh_block
use Rattle.lines.proofs.block.show_block.Reads as show_block

-- the place behind the line, and the buffer
line_determined : (κs : _) (a : _) → Determines (line.Post κs a) (λ s. s.0.now)
line_determined κs a r r' s s' p p' = (p.0.ended ∙⁻¹ p'.0.ended, p.0.stored ∙⁻¹ p'.0.stored)

-- the next table, the next step's number and the place behind the lines; the areas and the buffer
show_block_determined : (κs : _) (a : _)
    → Determines {E = List ℕ × List ℕ} (show_block.Post κs a) (λ s. (s.1.1.0.now, s.1.1.1.0.now))
show_block_determined κs a r r' s s' p p' =
    let x = p.0 in
    let y = p'.0 in (
      λ i. record {
        table = (x.reached ∙⁻¹ y.reached) i;
        step = (x.counted ∙⁻¹ y.counted) i;
        end = (x.shown.ended ∙⁻¹ y.shown.ended) i;
      },
      λ i. ((x.changed ∙⁻¹ y.changed) i, (x.shown.stored ∙⁻¹ y.shown.stored) i),
    )

fresh_block_determined : (κs : _) (a : _) → Determines (fresh_block.Post κs a) (λ s. tt {0})
fresh_block_determined κs a r r' s s' p p' = (p ∙⁻¹ p', refl)
