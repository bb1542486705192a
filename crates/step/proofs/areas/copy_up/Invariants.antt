-- `copy_up`. The loop's invariant: the bytes from `left` on have been copied.
use Rattle.std.proofs.Common.{◌≡◌}
use Rattle.step.proofs.Copies.{upper}
use Rattle.step.proofs.areas.copy_up.Given as goal

abbrev pub invariant-loop-left : goal.invariant-loop-left
invariant-loop-left l = l.areas ≡ upper l.initial.areas l.source l.dest l.count l.left
