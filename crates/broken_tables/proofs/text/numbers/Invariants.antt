-- `numbers` is safe: there is a place for the number that is read.
use Rattle.std.proofs.Common.{◌<◌}
use Rattle.broken_tables.proofs.text.numbers.Given as goal

abbrev pub invariant-loop-byte : goal.invariant-loop-byte
invariant-loop-byte l = l.i < 8
