use Rattle.std.proofs.Common.{◌∙◌, arith}
use Rattle.clock_tasks.proofs.InPlace.{word_in}
use Rattle.clock_tasks.proofs.AskedInPlace.{tid_there, tid_past}
use Rattle.clock_tasks.proofs.state.tid_at.Goals as goal

pub returns-then-k-len : goal.returns-then-k-len
returns-then-k-len c = c.word.ensures ∙ tid_there (word_in c.args.state.now) c.args.len c.args.k (omega arith) (omega arith)

pub returns-else-k-len : goal.returns-else-k-len
returns-else-k-len c = tid_past (word_in c.args.state.now) c.args.len c.args.k (omega arith)
