use Rattle.lines.proofs.Joined.{and_then}
use Rattle.lines.proofs.text.Line.behind.Goals as goal

pub returns : goal.returns
returns c = and_then c.put.ensures c.decimal.ensures
