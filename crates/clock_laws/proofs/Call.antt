-- A call is sent as it was asked.
use Prim.Native.Nat.{ℕ, ◌+◌, ◌≤◌, ◌<◌}
use mathlib.Core.Path.{◌≡◌, refl, ap, subst⁻¹, ◌∙◌}
use mathlib.Core.List.{List}
use native.Mathlib.Omega.{arith}
use lib.ListN.{get_or}
use lib.Dec.{ltb}
use borrow.Author.Tests.{ltb-true, ltb-false}
use Rattle.queue.proofs.Below.{by_test}
use Rattle.task.specs.declared.task.Outcome.{Outcome}
use Rattle.task.specs.declared.task.Outcome.TheVariants.{Nothing, Value, Fault}
use Rattle.kernel.specs.declared.table.Request.{Request}
use Rattle.kernel.specs.Numbers.{own_write_kind}
use Rattle.clock.specs.declared.clock.Asked as Question
use Rattle.clock.specs.Message.{size, op_of, argument_of, request_bytes}
use Rattle.server.specs.Phase.{ask}
use Rattle.clock_tasks.specs.declared.client.Stage.{Stage}
use Rattle.clock_tasks.specs.declared.client.Stage.TheVariants.{Writing, Sending, Sent, Ended}
use Rattle.clock_tasks.specs.declared.client.Client.{Client}
use Rattle.clock_tasks.specs.Client.{request_in, after, answered_in, told_in}
use Rattle.clock_tasks.specs.ClientState.{last_offset}
use Rattle.clock_tasks.specs.Laws.{client_machine}
use Rattle.clock_laws.specs.Laws.{CallIsSent}
use Rattle.clock_laws.proofs.Service.{words_bytes}
use Rattle.clock_laws.proofs.Lends.{Asks, writing, sending}
use Rattle.clock_laws.proofs.Sends.{Writes, holds_first, holds_ended, message_stands}

-- how many bytes of its message a client has written
abbrev written_in : Stage → ℕ
written_in (Writing k) = k
written_in Sending = size
written_in Sent = size
written_in Ended = size

abbrev Low : Stage → Type 0
Low (Writing k) = k < size
Low Sending = Unit
Low Sent = Unit
Low Ended = Unit

-- it goes on with the call that it began
record Calls (clock : ℕ) (q : Question.Asked) (offset : ℕ) (s : Client) : Type 0 where
  to : s.clock ≡ clock
  question : s.asked ≡ q
  at : s.offset ≡ offset
  low : Low s.stage

low_most : (p : Stage) → Low p → written_in p ≤ size
low_most (Writing k) low = omega arith
low_most Sending low = omega arith
low_most Sent low = omega arith
low_most Ended low = omega arith

after_low : (p : Stage) → Low p → Low (after p)
after_low (Writing k) low = by_test (ltb k 7) (λ more. rw more (omega (arith, ltb-true k 7 more))) (λ last. rw last tt)
after_low Sending low = tt
after_low Sent low = tt
after_low Ended low = tt

module _ (clock offset : ℕ) (q : Question.Asked) where
  abbrev C : Client → Type 0
  C = Calls clock q offset

  call_asks : (s : Client) → C s → (p : Stage) → Low p → Asks s.clock offset (request_bytes q) (written_in p) (request_in p s) (written_in (after p))
  call_asks s calls (Writing k) low =
      let next : written_in (after (Writing k)) ≡ k + 1 = by_test (ltb k 7) (λ more. rw more) (λ last. rw last (omega (arith, ltb-false k 7 last))) in
      rw next
      (subst⁻¹ (λ (x : Question.Asked). Asks s.clock offset (request_bytes q) k (ask own_write_kind (s.offset + k) (get_or (request_bytes x) k 0) 0) (k + 1))
      calls.question (rw calls.at (writing low)))
  call_asks s calls Sending low = rw calls.at (sending refl)
  call_asks s calls Sent low = rw calls.at (sending refl)
  call_asks s calls Ended low = rw calls.at (sending refl)

  abbrev Goes : Stage → Client → Type 0
  Goes p s = C s × (written_in s.stage ≤ written_in p)

  answered_goes : (s : Client) (o : Outcome) (area : List ℕ) → C s → s.stage ≡ Sent → Goes Sent (answered_in s o area)
  answered_goes s Nothing area calls e = (calls, rw e (omega arith))
  answered_goes s (Value from cut v) area calls e = (record { to = calls.to; question = calls.question; at = calls.at; low = tt }, omega arith)
  answered_goes s (Fault f) area calls e = (record { to = calls.to; question = calls.question; at = calls.at; low = tt }, omega arith)

  told_goes : (s : Client) (o : Outcome) (area : List ℕ) → C s → (p : Stage) → s.stage ≡ p → Goes p (told_in p s o area)
  told_goes s o area calls (Writing k) e = (calls, rw e (omega arith))
  told_goes s o area calls Sending e = (calls, rw e (omega arith))
  told_goes s o area calls Sent e = answered_goes s o area calls e
  told_goes s o area calls Ended e = (calls, rw e (omega arith))

  calls_write : offset ≤ last_offset → Writes client_machine (λ s. s.clock) offset (request_bytes q) C (λ s. written_in s.stage)
  calls_write fits =
      record {
        room = omega arith;
        sized = record { long = refl; small = words_bytes (op_of q) (argument_of q) };
        most = λ s calls. low_most s.stage calls.low;
        asks = λ s calls. call_asks s calls s.stage calls.low;
        asked = λ s calls. record { to = calls.to; question = calls.question; at = calls.at; low = after_low s.stage calls.low };
        told = λ s o area calls. told_goes s o area calls s.stage refl;
      }

pub call_is_sent_lem : CallIsSent
call_is_sent_lem n g clock offset q w rs r fits begins new obeys same kind =
    let does = calls_write clock offset q fits in
    let calls : Calls clock q offset w.state = rw new (record { to = refl; question = refl; at = refl; low = omega arith }) in
    let none : written_in w.state.stage ≡ 0 = rw new in
    let last = holds_ended does rs w (holds_first does begins calls none) obeys in
    let sent = message_stands does last r same kind in (
      ap (λ (q : Request). q.arg0) sent.0 ∙ last.kept.to,
      ap (λ (q : Request). q.arg1) sent.0,
      ap (λ (q : Request). q.arg2) sent.0,
      sent.1,
    )
