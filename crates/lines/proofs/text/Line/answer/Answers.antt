use Rattle.lines.specs.Line.{answer_text}
use Rattle.lines.proofs.Joined.{and_then}
use Rattle.lines.proofs.text.Line.answer.Goals as goal

pub returns : goal.returns
unfolding answer_text
returns c = and_then (and_then c.verdict.ensures (rw c.from.ensures at c.behind.ensures)) (and_then c.put.ensures c.result.ensures)
