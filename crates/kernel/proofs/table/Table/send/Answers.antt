-- `Table::send`: a message that is delivered. The search finds it too, but of a wrong text it would say no more than that it gave up.
use Rattle.std.proofs.Common.{ne_eqb, eqb, false, ◌≡◌, arith}
use Rattle.tid.proofs.Byte.{in_byte}
use Rattle.tid.proofs.Trips.{slot_of_mark}
use Rattle.kernel.specs.Kinds.{send}
use Rattle.kernel.specs.Table.{task_at}
use Rattle.tid.specs.Tid.{slot_named, tid_of}
use Rattle.task.specs.declared.task.State.TheVariants.{SendBlocked}
use Rattle.kernel.proofs.table.Table.send.Goals as goal

pub returns : goal.returns
unfolding send
returns c = let met = c.in-Some.ensures {u = tt {0}} in
    let other : eqb c.args.target (tid_of c.args.c) ≡ false = ne_eqb _ _ (λ e. c.if-s-c.false (omega (arith, met.slot, e))) in
    let target : c.tid_of-target.result ≡ c.args.target = omega (arith, c.tid_of-target.ensures, met.slot) in
    let held : (task_at c.args.self (slot_named c.args.target)).state ≡ SendBlocked c.in-SendBlocked.room = rw (← met.slot.0, ← c.task.ensures) c.in-SendBlocked.is in
    rw (c.stops-2.ensures, c.is_cut.ensures, c.alone.ensures, c.mark_of-2.ensures, c.delivery-copy.ensures, c.tid_of.ensures, c.tid_of-2.ensures, target, in_byte c.in-Some.s (omega (arith, met.slot)), met.slot.0, in_byte c.args.c (omega arith), slot_of_mark c.args.c, ← met.alive, other, ← c.good_buffer.ensures, c.if-not-good_buffer.false, ← c.good_buffer-else-not-good_buffer.ensures, c.if-not-good_buffer-2.false, held)
