-- `Table::yields` resumes its caller.
use Rattle.kernel.specs.Kinds.{yield}
use Rattle.kernel.proofs.table.Table.yields.Goals as goal

pub returns : goal.returns
unfolding yield
returns c = rw (c.resumes.ensures, c.number.ensures)
