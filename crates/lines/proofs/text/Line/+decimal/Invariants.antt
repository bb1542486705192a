-- `text::Line::decimal`, which calls itself. The measure is the number.
use Rattle.lines.proofs.text.Line.+decimal.Given as goal

abbrev pub decreases-decimal : goal.decreases-decimal
decreases-decimal l = l.n
