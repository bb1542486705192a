use Rattle.std.proofs.Common.{◌%◌, eq-eqb, ne_eqb}
use Rattle.image.specs.Call.{request_length}
use Rattle.lines.specs.Line.{end_line}
use Rattle.lines.specs.Block.{end_of}
use Rattle.lines.proofs.Joined.{and_then, unwritten}
use Rattle.lines.proofs.text.Line.end.Goals as goal

pub returns-then-count-ne0 : goal.returns-then-count-ne0
unfolding end_of end_line
returns-then-count-ne0 c =
    let refused = rw c.number.ensures at c.verdict.ensures in
    rw (ne_eqb (c.args.count % request_length) 0 c.if-count-ne0.true) (and_then (and_then c.text.ensures refused) c.put.ensures)

pub returns-else-count-ne0 : goal.returns-else-count-ne0
unfolding end_of
returns-else-count-ne0 c = rw (eq-eqb (c.args.count % request_length) 0 c.if-count-ne0.false) unwritten
