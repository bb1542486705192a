-- Those words that were passed are read, the others are as they were.
use Rattle.std.proofs.Common.{◌≡◌, ◌++◌, length, drop}
use Rattle.clock_tasks.specs.Words.{words_in}
use Rattle.clock_tasks.proofs.words.read_words.Given as goal

abbrev pub invariant-loop-i : goal.invariant-loop-i
invariant-loop-i l =
    (length l.words ≡ length l.initial.words)
    × (l.words ≡ words_in l.i l.bytes ++ drop l.i l.initial.words)
