-- The tids that were passed are read, and the other places hold 0.
use Rattle.std.proofs.Common.{◌≡◌, ◌≤◌, ◌++◌, drop, replicate}
use Rattle.clock.specs.Row.{hearers}
use Rattle.clock_tasks.proofs.Rows.{hearer_in}
use Rattle.clock_tasks.proofs.Filled.{firsts}
use Rattle.clock_tasks.proofs.InPlace.{word_in, ws}
use Rattle.clock_tasks.proofs.state.hearers_of.Given as goal

abbrev pub invariant-loop-i : goal.invariant-loop-i
invariant-loop-i l =
    (l.len ≤ 17) × (l.i ≤ l.len) × (l.tids ≡ firsts (hearer_in (ws (word_in l.state))) l.i ++ drop l.i (replicate hearers 0))
