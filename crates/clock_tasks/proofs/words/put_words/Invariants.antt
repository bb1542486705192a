-- Those words that were passed are written, and the bytes behind them are as they were.
use Rattle.std.proofs.Common.{◌≡◌, ◌*◌, ◌++◌, take, drop}
use Rattle.clock_tasks.specs.Words.{word_bytes}
use Rattle.clock_tasks.proofs.words.put_words.Given as goal

abbrev pub invariant-loop-i : goal.invariant-loop-i
invariant-loop-i l = l.bytes ≡ word_bytes (take l.i l.words) ++ drop (4 * l.i) l.initial.bytes
