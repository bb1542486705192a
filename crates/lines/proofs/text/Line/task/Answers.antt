use Rattle.lines.proofs.Joined.{and_then}
use Rattle.lines.proofs.text.Line.task.Goals as goal

pub returns : goal.returns
returns c =
    let state = rw (c.from.ensures, c.state_code.ensures) at c.behind.ensures in
    let priority = rw c.from-2.ensures at c.behind-2.ensures in
    and_then (and_then state priority) (rw c.from-3.ensures at c.behind-3.ensures)
