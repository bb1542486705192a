use Rattle.lines.specs.Line.{step_text}
use Rattle.lines.proofs.Joined.{and_then}
use Rattle.lines.proofs.text.Line.step.Goals as goal

pub returns : goal.returns
unfolding step_text
returns c = and_then (and_then c.decimal.ensures (and_then c.put.ensures c.signed.ensures)) (and_then c.put-2.ensures c.answer.ensures)
