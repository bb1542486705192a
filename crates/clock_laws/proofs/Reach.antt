-- The clock's answer reaches the one who sleeps, and means what was said.
use Prim.Native.Nat.{ℕ, ◌≤◌}
use mathlib.Core.Path.{◌≡◌, ap, subst⁻¹, ◌∙◌}
use mathlib.Core.Bool.{true, false}
use mathlib.Core.List.{List}
use Rattle.tid.specs.Tid.{slot_named}
use Rattle.task.specs.declared.task.Buffer.{Buffer}
use Rattle.task.specs.declared.task.Outcome.TheVariants.{Value}
use Rattle.task.specs.declared.task.State.TheVariants.{ReplyBlocked}
use Rattle.kernel.specs.declared.table.Request.{Request}
use Rattle.kernel.specs.Numbers.{reply_kind}
use Rattle.kernel.specs.Table.{task_at}
use Rattle.step.specs.Run as Run
use Rattle.laws.specs.View.{Gets, NoReplyTo}
use Rattle.clock.specs.declared.clock.Clock.{Clock}
use Rattle.clock.specs.Message.{size, meaning}
use Rattle.clock.proofs.Laws.{said_is_meant}
use Rattle.server.specs.Service.{Serving, request, serving}
use Rattle.served.specs.World.{World, bytes_in, areas_after, decided, asks_now, ended, Obeys}
use Rattle.served.proofs.Laws as Served
use Rattle.clock_tasks.specs.Server.{clock_service}
use Rattle.clock_tasks.specs.Laws.{clock_machine}
use Rattle.clock_laws.specs.Laws.{served, AnswerReaches}
use Rattle.clock_laws.proofs.Service.{clock_fits}
use Rattle.clock_laws.proofs.Sound.{Sound, new_sound}
use Rattle.clock_laws.proofs.AsServing.{asks_so, ended_sound, ended_so, obeys_so}
use Rattle.clock_laws.proofs.KeepsTime.{begins_served}

-- what is so of a Reply of the service's task, by the world in which the sleeper is found and the one in which the Reply is asked for
abbrev Reaching : ℕ → List Request → Request → Buffer → World (Serving Clock) → World (Serving Clock) → Type 0
Reaching g rs' r b asleep now =
    let x = slot_named r.arg0 in
    Obeys (serving clock_service) g asleep rs'
    → 1 ≤ r.arg0 → (task_at asleep.table x).state ≡ ReplyBlocked b → size ≤ b.len → NoReplyTo r.arg0 (Run.run asleep.table asleep.areas rs')
    → asks_now g now r ≡ true → r ≡ request clock_service now.state → r.kind ≡ reply_kind
    → Gets x (Value 0 false size) (decided now r) × (bytes_in r.arg0 b.start size (areas_after now r) ≡ now.state.answer)

pub answer_reaches_lem : AnswerReaches
answer_reaches_lem n g priority w rs rs' r b q begins new obeys obeys' some blocked enough never asks same kind fits =
    let sound : Sound w.state = rw new (new_sound priority) in
    let asleep = ended clock_machine g w rs in
    let now = ended clock_machine g asleep rs' in
    let then = ended_sound g rs w sound in
    let last = ended_sound g rs' asleep then in
    let all = Served.answer_reaches clock_service clock_fits n g (served w) rs rs' r b (begins_served priority begins new) (obeys_so g rs w sound obeys) in
    let here : Reaching g rs' r b (served asleep) (ended (serving clock_service) g (served asleep) rs') =
    subst⁻¹ (λ (a : World (Serving Clock)). Reaching g rs' r b a (ended (serving clock_service) g a rs')) (ended_so g rs w sound) all in
    let (gets, bytes) = subst⁻¹ (Reaching g rs' r b (served asleep)) (ended_so g rs' asleep then) here
    (obeys_so g rs' asleep then obeys') some blocked enough never asks (same ∙ asks_so now.state last) kind in
    (gets, ap (meaning q (Value 0 false size)) bytes ∙ said_is_meant q now.state.said 0 false last.said fits)
