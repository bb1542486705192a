-- `copy_down`. The loop's invariant: the first `done` bytes have been copied.
use Rattle.std.proofs.Common.{◌≡◌}
use Rattle.step.specs.Step.{copied}
use Rattle.step.proofs.areas.copy_down.Given as goal

abbrev pub invariant-loop-done : goal.invariant-loop-done
invariant-loop-done l = l.areas ≡ copied l.source l.dest l.done l.initial.areas
