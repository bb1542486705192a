use Rattle.std.proofs.Common.{arith, ne_eqb}
use Rattle.lines.specs.Line.{verdict_text}
use Rattle.lines.proofs.text.Line.verdict.Goals as goal

pub returns-in-0 : goal.returns-in-0
unfolding verdict_text
returns-in-0 c = rw c.in-0.is c.text.ensures

pub returns-in_default : goal.returns-in_default
unfolding verdict_text
returns-in_default c = rw (ne_eqb c.args.verdict 0 (λ e. omega arith)) (rw c.from.ensures at c.behind.ensures)
