-- A tick is sent as it stands in the notifier's area, once it was written.
use Prim.Native.Nat.{ℕ, ◌+◌, ◌≤◌, ◌<◌}
use mathlib.Core.Path.{◌≡◌, refl, ap, subst}
use native.Mathlib.Omega.{arith}
use native.Mathlib.Nat.{zero-add}
use lib.ListN.{get_or}
use lib.Dec.{ltb, eqb}
use borrow.Author.Tests.{ltb-true, ltb-false}
use Rattle.queue.proofs.Below.{by_test}
use Rattle.task.specs.declared.task.Outcome.{Outcome}
use Rattle.task.specs.declared.task.Outcome.TheVariants.{Nothing, Value, Fault}
use Rattle.task.proofs.Tests.{chosen}
use Rattle.kernel.specs.declared.table.Request.{Request}
use Rattle.kernel.specs.Numbers.{own_write_kind}
use Rattle.clock.specs.declared.clock.Asked.TheVariants.{Tick}
use Rattle.clock.specs.Message.{size, request_bytes}
use Rattle.server.specs.Phase.{ask}
use Rattle.clock_tasks.specs.declared.notifier.Duty.{Duty}
use Rattle.clock_tasks.specs.declared.notifier.Duty.TheVariants.{Asking, Asked, Writing, Awaiting, Waiting, Sending, Sent}
use Rattle.clock_tasks.specs.declared.notifier.Notifier.{Notifier}
use Rattle.clock_tasks.specs.Notifier.{request_in, after, hears, fails, told}
use Rattle.clock_tasks.specs.Laws.{notifier_machine}
use Rattle.clock_laws.specs.Laws.{TickIsSent}
use Rattle.clock_laws.proofs.Service.{words_bytes}
use Rattle.clock_laws.proofs.Lends.{Asks, writing, sending, awaiting, asking}
use Rattle.clock_laws.proofs.Sends.{Writes, holds_first, holds_ended, message_stands}

-- how many bytes of the tick a notifier has written
abbrev written_in : Duty → ℕ
written_in Asking = 0
written_in Asked = 0
written_in (Writing k) = k
written_in Awaiting = size
written_in Waiting = size
written_in Sending = size
written_in Sent = size

abbrev Low : Duty → Type 0
Low Asking = Unit
Low Asked = Unit
Low (Writing k) = k < size
Low Awaiting = Unit
Low Waiting = Unit
Low Sending = Unit
Low Sent = Unit

low_most : (p : Duty) → Low p → written_in p ≤ size
low_most Asking low = omega arith
low_most Asked low = omega arith
low_most (Writing k) low = omega arith
low_most Awaiting low = omega arith
low_most Waiting low = omega arith
low_most Sending low = omega arith
low_most Sent low = omega arith

after_low : (p : Duty) → Low p → Low (after p)
after_low Asking low = tt
after_low Asked low = tt
after_low (Writing k) low = by_test (ltb k 7) (λ more. rw more (omega (arith, ltb-true k 7 more))) (λ last. rw last tt)
after_low Awaiting low = tt
after_low Waiting low = tt
after_low Sending low = tt
after_low Sent low = tt

tick_asks : (event clock : ℕ) (p : Duty) → Low p → Asks clock 0 (request_bytes Tick) (written_in p) (request_in p event clock) (written_in (after p))
tick_asks event clock Asking low = asking
tick_asks event clock Asked low = asking
tick_asks event clock (Writing k) low =
    let next : written_in (after (Writing k)) ≡ k + 1 = by_test (ltb k 7) (λ more. rw more) (λ last. rw last (omega (arith, ltb-false k 7 last))) in
    rw next
    (subst (λ (at : ℕ). Asks clock 0 (request_bytes Tick) k (ask own_write_kind at (get_or (request_bytes Tick) k 0) 0) (k + 1)) (zero-add k) (writing low))
tick_asks event clock Awaiting low = awaiting event
tick_asks event clock Waiting low = awaiting event
tick_asks event clock Sending low = sending refl
tick_asks event clock Sent low = sending refl

-- what it is told takes nothing back of what it has written
abbrev Goes : Duty → Notifier → Type 0
Goes p s = Low s.duty × (written_in s.duty ≤ written_in p)

stays : (s : Notifier) (p : Duty) → s.duty ≡ p → Low p → Goes p s
stays s p e low = rw e (low, omega arith)

hears_goes : (s : Notifier) (v : ℕ) (p : Duty) → s.duty ≡ p → Low p → Goes p (hears s p v)
hears_goes s v Asking e low = stays s Asking e low
hears_goes s v Asked e low = (omega arith, omega arith)
hears_goes s v (Writing k) e low = stays s (Writing k) e low
hears_goes s v Awaiting e low = stays s Awaiting e low
hears_goes s v Waiting e low = (tt, omega arith)
hears_goes s v Sending e low = stays s Sending e low
hears_goes s v Sent e low = (tt, omega arith)

fails_goes : (s : Notifier) (f : ℕ) (p : Duty) → s.duty ≡ p → Low p → Goes p (fails s p f)
fails_goes s f Asking e low = stays s Asking e low
fails_goes s f Asked e low = stays s Asked e low
fails_goes s f (Writing k) e low = stays s (Writing k) e low
fails_goes s f Awaiting e low = stays s Awaiting e low
fails_goes s f Waiting e low =
    chosen (λ (p : Duty). Low p × (written_in p ≤ size)) (eqb f 2) (λ _. (tt, omega arith)) (λ _. (tt, omega arith))
fails_goes s f Sending e low = stays s Sending e low
fails_goes s f Sent e low = (tt, omega arith)

told_goes : (s : Notifier) (o : Outcome) → Low s.duty → Goes s.duty (told s o)
told_goes s Nothing low = (low, omega arith)
told_goes s (Value from cut v) low = hears_goes s v s.duty refl low
told_goes s (Fault f) low = fails_goes s f s.duty refl low

ticks_write : Writes notifier_machine (λ s. s.clock) 0 (request_bytes Tick) (λ s. Low s.duty) (λ s. written_in s.duty)
ticks_write =
    record {
      room = omega arith;
      sized = record { long = refl; small = words_bytes 1 0 };
      most = λ s low. low_most s.duty low;
      asks = λ s low. tick_asks s.event s.clock s.duty low;
      asked = λ s low. after_low s.duty low;
      told = λ s o area low. told_goes s o low;
    }

pub tick_is_sent_lem : TickIsSent
tick_is_sent_lem n g event w rs r begins new obeys same kind =
    let low : Low w.state.duty = rw new tt in
    let none : written_in w.state.duty ≡ 0 = rw new in
    let last = holds_ended ticks_write rs w (holds_first ticks_write begins low none) obeys in
    let sent = message_stands ticks_write last r same kind in
    (ap (λ (q : Request). q.arg0) sent.0, ap (λ (q : Request). q.arg2) sent.0, sent.1)
