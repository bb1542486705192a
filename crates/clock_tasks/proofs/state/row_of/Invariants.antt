-- The sleepers that were passed are read, and the other places hold zeros.
use Rattle.std.proofs.Common.{◌≡◌, ◌≤◌, ◌++◌, drop, replicate}
use Rattle.clock.specs.Row.{room, sleeper}
use Rattle.clock_tasks.proofs.Rows.{sleeper_in}
use Rattle.clock_tasks.proofs.Filled.{firsts}
use Rattle.clock_tasks.proofs.InPlace.{word_in, ws}
use Rattle.clock_tasks.proofs.state.row_of.Given as goal

abbrev pub invariant-loop-i : goal.invariant-loop-i
invariant-loop-i l =
    (l.len ≤ 16) × (l.i ≤ l.len)
    × (l.places ≡ firsts (sleeper_in (ws (word_in l.state))) l.i ++ drop l.i (replicate room (sleeper 0 0)))
