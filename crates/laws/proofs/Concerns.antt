-- Whom an entry concerns beside the caller: what the five tests of `View` tell, and how each leaves the record of slot s.
use Prim.Native.Nat.{ℕ, ◌<◌}
use mathlib.Core.Path.{◌≡◌, ap, ◌∙◌}
use mathlib.Core.Logic.{◌≢◌}
use mathlib.Core.Bool.{Bool, true, false}
use native.Mathlib.Omega.{arith}
use lib.Dec.{ltb}
use borrow.Author.Tests.{eqb-true, eq-eqb, ltb-true, lt-ltb}
use Rattle.queue.specs.Numbering.{send_queue}
use Rattle.queue.specs.Row.{place_at}
use Rattle.queue.proofs.Below.{by_test, both_true, true_both}
use Rattle.tid.specs.Tid.{mark_of, slot_of, tid_of}
use Rattle.tid.proofs.Trips.{slot_of_mark}
use Rattle.task.specs.declared.task.Outcome.TheVariants.{Nothing, Value, Fault}
use Rattle.task.specs.declared.task.State.TheVariants.{Ready, ReplyBlocked}
use Rattle.task.specs.Task.{good_buffer, message_of, reply_of, awaited, task_as}
use Rattle.kernel.specs.declared.table.Table.{Table}
use Rattle.kernel.specs.declared.table.Request.{Request}
use Rattle.kernel.specs.Numbers.{exit_kind, send_kind, receive_kind, reply_kind, event_kind}
use Rattle.kernel.specs.Table.{slots, task_at, queue_at, active_slot}
use Rattle.kernel.specs.Kinds.{signal}
use Rattle.kernel.specs.Refusal.{Enters}
use Rattle.kernel.specs.Decide.{active_tid, buffer}
use Rattle.kernel.proofs.Refusals.{fine}
use Rattle.rules.specs.Facts.{Good}
use Rattle.kept.proofs.Tasks.{code_at}
use Rattle.kept.proofs.Moves.{sender_head}
use Rattle.laws.specs.View.{is_sent_to, is_received_from, is_replied_to, waits_for, is_signalled, waits_at, is_turned_away, others_left}

-- a test that cannot pass
pub fails : {b : Bool} → (b ≡ true → ⊥) → b ≡ false
fails {b} never = by_test b (λ e. absurd (never e)) (λ e. e)

module _ (t : Table) (r : Request) (s : ℕ) where
  pub record Sent : Type 0 where
    pub kind : r.kind ≡ send_kind
    pub named : r.arg0 ≡ tid_of s
    pub state : code_at t s ≡ 3
    pub message : good_buffer (buffer r.arg1 r.arg2) ≡ true
    pub reply : good_buffer (buffer r.arg3 r.arg4) ≡ true

  pub record Received : Type 0 where
    pub kind : r.kind ≡ receive_kind
    pub message : good_buffer (buffer r.arg0 r.arg1) ≡ true
    pub some : 0 < (queue_at t (send_queue (active_slot t))).len
    pub head : place_at (queue_at t (send_queue (active_slot t))) 0 ≡ mark_of s

  pub record Replied : Type 0 where
    pub kind : r.kind ≡ reply_kind
    pub named : r.arg0 ≡ tid_of s
    pub state : code_at t s ≡ 5
    pub message : good_buffer (buffer r.arg1 r.arg2) ≡ true

  pub record Signalled : Type 0 where
    pub kind : r.kind ≡ event_kind
    pub state : code_at t s ≡ 6
    pub event : awaited (task_at t s).state ≡ r.arg0

  pub record TurnedAway : Type 0 where
    pub kind : r.kind ≡ exit_kind
    pub state : code_at t s ≡ 4
    pub target : awaited (task_at t s).state ≡ active_tid t

  pub sent_facts : is_sent_to t r s ≡ true → Sent
  sent_facts h =
      let four = both_true _ _ h in
      let three = both_true _ _ four.0 in
      let two = both_true _ _ three.0 in
      let one = both_true _ _ two.0 in
      record {
        kind = eqb-true r.kind send_kind one.0;
        named = eqb-true r.arg0 (tid_of s) one.1;
        state = eqb-true (code_at t s) 3 two.1;
        message = three.1;
        reply = four.1;
      }

  pub facts_sent : Sent → is_sent_to t r s ≡ true
  facts_sent f =
      true_both (true_both (true_both (true_both (eq-eqb _ _ f.kind) (eq-eqb _ _ f.named)) (eq-eqb _ 3 f.state)) f.message) f.reply

  pub received_facts : is_received_from t r s ≡ true → Received
  received_facts h =
      let q = queue_at t (send_queue (active_slot t)) in
      let three = both_true _ _ h in
      let two = both_true _ _ three.0 in
      let one = both_true _ _ two.0 in
      record {
        kind = eqb-true r.kind receive_kind one.0;
        message = one.1;
        some = ltb-true 0 q.len two.1;
        head = eqb-true (place_at q 0) (mark_of s) three.1;
      }

  facts_received : Received → is_received_from t r s ≡ true
  facts_received f =
      true_both (true_both (true_both (eq-eqb _ _ f.kind) f.message) (lt-ltb _ _ f.some)) (eq-eqb _ _ f.head)

  pub replied_facts : is_replied_to t r s ≡ true → Replied
  replied_facts h =
      let three = both_true _ _ h in
      let two = both_true _ _ three.0 in
      let one = both_true _ _ two.0 in
      record {
        kind = eqb-true r.kind reply_kind one.0;
        named = eqb-true r.arg0 (tid_of s) one.1;
        state = eqb-true (code_at t s) 5 two.1;
        message = three.1;
      }

  facts_replied : Replied → is_replied_to t r s ≡ true
  facts_replied f =
      true_both (true_both (true_both (eq-eqb _ _ f.kind) (eq-eqb _ _ f.named)) (eq-eqb _ 5 f.state)) f.message

  pub signalled_facts : is_signalled t r s ≡ true → Signalled
  signalled_facts h =
      let two = both_true _ (waits_for t r.arg0 s) h in
      let one = both_true _ _ two.1 in
      record {
        kind = eqb-true r.kind event_kind two.0;
        state = eqb-true (code_at t s) 6 one.0;
        event = eqb-true (awaited (task_at t s).state) r.arg0 one.1;
      }

  facts_signalled : Signalled → is_signalled t r s ≡ true
  facts_signalled f = true_both (eq-eqb _ _ f.kind) (true_both (eq-eqb _ 6 f.state) (eq-eqb _ _ f.event))

  turned_facts : is_turned_away t r s ≡ true → TurnedAway
  turned_facts h =
      let two = both_true _ (waits_at t (active_tid t) s) h in
      let one = both_true _ _ two.1 in
      record {
        kind = eqb-true r.kind exit_kind two.0;
        state = eqb-true (code_at t s) 4 one.0;
        target = eqb-true (awaited (task_at t s).state) (active_tid t) one.1;
      }

  facts_turned : TurnedAway → is_turned_away t r s ≡ true
  facts_turned f = true_both (eq-eqb _ _ f.kind) (true_both (eq-eqb _ 4 f.state) (eq-eqb _ _ f.target))

  -- at most one of the five is so, and where none is the task is not concerned
  pub left_sent : Sent → let x = task_at t s in
      others_left t r s ≡ task_as Ready (Value (active_tid t) (ltb (message_of x.state).len r.arg2) r.arg2) x
  unfolding others_left
  left_sent f = rw (facts_sent f)

  pub left_received : Received → others_left t r s ≡ task_as (ReplyBlocked (reply_of (task_at t s).state)) Nothing (task_at t s)
  unfolding others_left
  left_received f = rw (fails (λ e. let g = sent_facts e in omega arith), facts_received f)

  pub left_replied : Replied → let x = task_at t s in others_left t r s ≡ task_as Ready (Value 0 (ltb (reply_of x.state).len r.arg2) r.arg2) x
  unfolding others_left
  left_replied f =
      rw (fails (λ e. let g = sent_facts e in omega arith), fails (λ e. let g = received_facts e in omega arith), facts_replied f)

  pub left_signalled : Signalled → others_left t r s ≡ task_as Ready (signal r.arg1) (task_at t s)
  unfolding others_left
  left_signalled f =
      rw (
        fails (λ e. let g = sent_facts e in omega arith),
        fails (λ e. let g = received_facts e in omega arith),
        fails (λ e. let g = replied_facts e in omega arith),
        facts_signalled f,
      )

  pub left_turned : TurnedAway → others_left t r s ≡ task_as Ready (Fault 2) (task_at t s)
  unfolding others_left
  left_turned f =
      rw (
        fails (λ e. let g = sent_facts e in omega arith),
        fails (λ e. let g = received_facts e in omega arith),
        fails (λ e. let g = replied_facts e in omega arith),
        fails (λ e. let g = signalled_facts e in omega arith),
        facts_turned f,
      )

  pub left_aside : (Sent → ⊥) → (Received → ⊥) → (Replied → ⊥) → (Signalled → ⊥) → (TurnedAway → ⊥) → others_left t r s ≡ task_at t s
  unfolding others_left
  left_aside a b c d e =
      rw (
        fails (λ h. a (sent_facts h)),
        fails (λ h. b (received_facts h)),
        fails (λ h. c (replied_facts h)),
        fails (λ h. d (signalled_facts h)),
        fails (λ h. e (turned_facts h)),
      )

-- whose message is received is receive-blocked
pub received_state : {n : ℕ} {t : Table} {r : Request} {s : ℕ} → Good n t → Enters (slots t) (active_slot t) r → Received t r s → code_at t s ≡ 4
received_state {n} {t} {r} {s} good enters f =
    let known = fine (slots t) (active_slot t) r enters.0 in
    let here : active_slot t < slots t = known.caller (λ ten. omega arith) in
    let code = sender_head good.rules (active_slot t) (omega (arith, good.rules.size)) f.some in
    let slot : slot_of (place_at (queue_at t (send_queue (active_slot t))) 0) ≡ s = ap slot_of f.head ∙ slot_of_mark s in
    rw slot at code

-- who waits for no message, no reply and no event, and is in no send queue, is not concerned
pub left_alone : {n : ℕ} {t : Table} (good : Good n t) (r : Request) (s : ℕ) → Enters (slots t) (active_slot t) r
    → code_at t s ≢ 3 → code_at t s ≢ 4 → (code_at t s ≡ 5 → Replied t r s → ⊥) → code_at t s ≢ 6 → others_left t r s ≡ task_at t s
left_alone {n} {t} good r s enters three four five six =
    left_aside t r s (λ f. three f.state) (λ f. four (received_state good enters f)) (λ f. five f.state f) (λ f. six f.state)
    (λ f. four f.state)
