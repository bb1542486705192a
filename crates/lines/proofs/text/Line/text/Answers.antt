use Rattle.std.proofs.Common.{rules}
use Rattle.lines.proofs.Joined.{one_more}
use Rattle.lines.proofs.text.Line.text.Goals as goal

pub loop-byte-preserved : goal.loop-byte-preserved
loop-byte-preserved c = one_more c.args.bytes.now c.loop-byte.byte-index (search rules) c.loop-byte.invariant c.put.ensures
