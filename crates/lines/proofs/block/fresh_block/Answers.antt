-- `block::fresh_block`: what `start` answers.
use Rattle.std.proofs.Common.{ap}
use Rattle.rules.specs.declared.Started.{Started}
use Rattle.lines.proofs.block.fresh_block.Goals as goal

pub returns : goal.returns
returns c = ap (λ (x : Started). record { table = x.table; step = 1; end = 0 }) c.start-started.ensures
