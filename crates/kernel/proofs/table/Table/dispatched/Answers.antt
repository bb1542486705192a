-- `Table::dispatched`: its search is `first_ready`.
use Rattle.std.proofs.Common.{ℕ, lt-ltb, ltb, true, ◌≡◌}
use Rattle.tid.proofs.Byte.{in_byte}
use Rattle.kernel.specs.Moves.{activated, dispatched, first_ready}
use Rattle.kernel.specs.Table.{queue_at}
use Rattle.kernel.specs.declared.table.Table.{Table}
use Rattle.queue.specs.Choose.{first_below}
use Rattle.tid.specs.Sizes.{priorities}
use Rattle.queue.specs.Numbering.{ready_queue}
use Rattle.kernel.proofs.table.Table.dispatched.Goals as goal

found : (t : Table) (p : ℕ) → p ≡ first_below priorities (λ p. ltb 0 (queue_at t (ready_queue p)).len) → p ≡ first_ready t
unfolding first_ready
found t p first = first

pub returns-in-Some : goal.returns-in-Some
unfolding dispatched activated
returns-in-Some c = let t = c.args.self in
    let met = c.in-Some.ensures {u = tt {0}} in
    let first = found t c.in-Some.p met.found in
    let some : ltb (first_ready t) priorities ≡ true = lt-ltb (first_ready t) priorities (rw (← first) met.below) in
    rw (c.accepted-answer-in-Some.ensures, c.put_task.ensures, c.becomes.ensures, c.taken-shown.ensures, c.popped.ensures, c.tid_of.ensures, in_byte c.slot_of-s.result c.slot_of-s.ensures.1, c.task.ensures, c.slot_of-s.ensures.0, first, some)
