-- `audit::rest_blank` meets its contract. The loop's invariant: the bytes before i were looked at.
use Rattle.std.proofs.Common.{◌*◌, ◌≤◌, ◌≡◌, ◌||◌, get_or, eqb, ltb}
use Rattle.tid.specs.Sizes.{slot_count}
use Rattle.queue.specs.Choose.{all_below}
use Rattle.image.specs.Record.{record_length}
use Rattle.audit.proofs.rest_blank.Given as goal

abbrev pub invariant-loop-i : goal.invariant-loop-i
invariant-loop-i l = (l.i ≤ slot_count * record_length)
    × (l.used * record_length ≤ l.i)
    × (eqb l.bits 0 ≡ all_below l.i (λ j. ltb j (l.used * record_length) || eqb (get_or l.image j 0) 0))
