-- The laws of specs/Laws.antt.
use Rattle.std.proofs.Common.{false, refl, arith}
use Rattle.clock_tasks.specs.State as State
use Rattle.clock_tasks.specs.NotifierState as NotifierState
use Rattle.clock_tasks.specs.Calls.{state_refusal, asking_refusal, is_ended, clock_asks, clock_told, notifier_asks, notifier_told, client_asks, client_told}
use Rattle.clock_tasks.specs.Laws.{ClockIsKept, NotifierIsKept, ClientIsKept}
use Rattle.clock_tasks.proofs.Kept.{is_kept, state_passes}
use Rattle.clock_tasks.proofs.Sane.{sane_new}
use Rattle.clock_tasks.proofs.ClockKept.{clock_keeps}
use Rattle.clock_tasks.proofs.NotifierKept.{notifier_keeps}
use Rattle.clock_tasks.proofs.ClientKept.{client_keeps, client_refuses}

pub clock_is_kept : ClockIsKept
unfolding clock_asks clock_told
clock_is_kept priority ms some lent =
    is_kept clock_keeps (λ s. false) clock_asks clock_told (state_refusal State.words State.is_server) (λ s h. state_passes clock_keeps h)
    (λ state out. refl) (λ state answer area. refl) (sane_new priority some) lent

pub notifier_is_kept : NotifierIsKept
unfolding notifier_asks notifier_told
notifier_is_kept event ms some lent =
    is_kept notifier_keeps (λ s. false) notifier_asks notifier_told (state_refusal NotifierState.words NotifierState.is_notifier)
    (λ s h. state_passes notifier_keeps h) (λ state out. refl) (λ state answer area. refl)
    (record { event = some; clock = omega arith; within = omega arith }) lent

pub client_is_kept : ClientIsKept
unfolding client_asks client_told
client_is_kept clock offset q ms tid argument called within lent =
    is_kept client_keeps (λ s. is_ended s.stage) client_asks client_told asking_refusal
    (λ s h. client_refuses h) (λ state out. refl) (λ state answer area. refl)
    (record { clock = tid; called = called; argument = argument; offset = within; within = omega arith; came = refl }) lent
