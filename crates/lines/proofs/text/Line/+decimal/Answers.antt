use Rattle.std.proofs.Common.{arith}
use Rattle.lines.proofs.Joined.{and_then, decimal_one, decimal_more}
use Rattle.lines.proofs.text.Line.+decimal.Goals.{then-n-ge10, else-n-ge10}
use Rattle.lines.proofs.text.Line.+decimal.Goals as goal

pub returns : goal.returns
returns t c =
    let last = rw c.digit.ensures at c.put.ensures in
    elim c.if-n-ge10.branch [
      | then-n-ge10 w ↦ rw (← decimal_more c.args.n (omega arith)) (and_then w.decimal.ensures (rw w.self-is at last))
      | else-n-ge10 w ↦ rw (← decimal_one c.args.n (omega arith)) (rw w.self-is at last)
    ]
