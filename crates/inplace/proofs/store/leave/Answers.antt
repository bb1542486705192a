-- `inplace::store::leave` meets its contract: what is put are the fields of the task.
use Rattle.inplace.proofs.store.leave.Goals as goal

pub returns : goal.returns
returns c = rw (c.put.ensures, c.fields_of.ensures, c.word_at.ensures)
