-- Deliveries: a Send, a Receive and a Reply reach whom they are for, in the value and in the bytes.
use Prim.Native.Nat.{ℕ, ◌+◌, ◌*◌, ◌<◌, min}
use mathlib.Core.Path.{◌≡◌, refl, ap, ◌∙◌}
use mathlib.Core.Logic.{◌≢◌}
use mathlib.Core.Bool.{true}
use mathlib.Core.List.{List}
use native.Mathlib.Omega.{arith}
use lib.ListN.{length}
use lib.Dec.{ltb}
use borrow.Author.Tests.{leb-true, lt-ltb, ne_eqb}
use Rattle.queue.specs.Numbering.{send_queue}
use Rattle.tid.specs.Sizes.{area_bytes}
use Rattle.tid.specs.Tid.{tid_of}
use Rattle.tid.proofs.Trips.{slot_of_mark}
use Rattle.task.specs.declared.task.Buffer.{Buffer}
use Rattle.task.specs.declared.task.Outcome.TheVariants.{Value}
use Rattle.task.specs.declared.task.State.TheVariants.{Ready, SendBlocked, ReplyBlocked}
use Rattle.task.specs.declared.task.Task.{Task}
use Rattle.task.specs.Task.{good_buffer, message_of, reply_of}
use Rattle.kernel.specs.declared.table.Table.{Table}
use Rattle.kernel.specs.declared.table.Request.{Request}
use Rattle.kernel.specs.declared.table.Decision.{Decision}
use Rattle.kernel.specs.Numbers.{event_kind}
use Rattle.kernel.specs.Table.{slots, task_at, queue_at, active_slot, used_slots}
use Rattle.kernel.specs.Kinds.{place_in, delivery, send, receive, reply}
use Rattle.kernel.specs.Decide.{active_tid, buffer, turn_of}
use Rattle.kernel.proofs.Refusals.{fine}
use Rattle.rules.specs.Facts.{Good}
use Rattle.kept.proofs.Moves.{slot_used}
use Rattle.step.specs.Step.{step, after}
use Rattle.laws.specs.View.{is_entry, is_sent_to, is_received_from, is_replied_to, Ends, runs, waits, Steps, bytes_at, Gets, holds, shown, Reaches}
use Rattle.laws.proofs.Effects.{entry_effect}
use Rattle.laws.proofs.Landing.{active_code, known_state}
use Rattle.laws.proofs.Concerns.{Sent, Received, Replied, sent_facts, received_facts, replied_facts, left_sent, left_replied, received_state}
use Rattle.laws.proofs.Sees.{not_caller, left_other, left_own, enters, steps_good, step_entry, step_sees}
use Rattle.laws.proofs.Areas.{copy_brings}

-- a task that is left ready gets its result
pub ends_gets : {s : ℕ} {x : Task} {d : Decision} → Ends s x d → x.state ≡ Ready → Gets s x.result d
ends_gets (runs _ next result task) ready = shown next result
ends_gets (waits next task) ready = holds (ap (λ (y : Task). y.state) task ∙ ready) (ap (λ (y : Task). y.result) task)

-- a delivery between two areas brings the bytes that both buffers have
delivered : {n : ℕ} (xs : List ℕ) (giver : ℕ) (given : Buffer) (s : ℕ) (taken : Buffer) → length xs ≡ n * area_bytes
    → giver < n → good_buffer given ≡ true → s < n → good_buffer taken ≡ true
    → let m = min given.len taken.len in
    bytes_at s taken.start m (after (delivery giver given s taken) xs) ≡ bytes_at giver given.start m xs
delivered {n} xs giver given s taken size low fits low' room =
    let m = min given.len taken.len in
    let ends = leb-true (given.start + given.len) area_bytes fits in
    let ends' = leb-true (taken.start + taken.len) area_bytes room in
    copy_brings xs (place_in giver given.start) (place_in s taken.start) m (omega arith) (omega arith)

module _ {n : ℕ} {t : Table} {xs : List ℕ} (steps : Steps n t xs) (r : Request) (e : is_entry t r ≡ true) where
  abbrev a : ℕ
  a = active_slot t

  abbrev d : Decision
  d = step t r (length xs)

  good : Good n t
  good = steps_good steps

  below : {s : ℕ} → s < used_slots t → s < n
  below l = omega (arith, good.rules.tasks.fits)

  -- the caller is there, since no event of the hardware delivers a message
  caller : r.kind ≢ event_kind → a < slots t
  caller other = (fine (slots t) a r (enters t r e).0).caller other

  -- the effect of a step is that of its turn
  pub step_effect : d.effect ≡ (turn_of t a r).effect
  step_effect = ap (λ (d : Decision). d.effect) (step_entry steps r e) ∙ entry_effect a (turn_of t a r)

  pub sent_effect : (s : ℕ) → Sent t r s → s ≢ a
      → (turn_of t a r).effect ≡ delivery a (buffer r.arg1 r.arg2) s (message_of (task_at t s).state)
  unfolding turn_of send
  sent_effect s f other =
      rw (
        f.kind,
        f.named,
        slot_of_mark s,
        lt-ltb 0 (tid_of s) (omega arith),
        f.state,
        ne_eqb (tid_of s) (tid_of a) (λ z. other (omega arith)),
        f.message,
        f.reply,
      )

  pub send_effect : (s : ℕ) (b : Buffer) → Sent t r s → s ≢ a → (task_at t s).state ≡ SendBlocked b
      → (turn_of t a r).effect ≡ delivery a (buffer r.arg1 r.arg2) s b
  send_effect s b f other blocked = rw blocked at (sent_effect s f other)

  pub send_reaches_lem : (s : ℕ) (b : Buffer) → is_sent_to t r s ≡ true → (task_at t s).state ≡ SendBlocked b
      → Reaches a (buffer r.arg1 r.arg2) s b (active_tid t) xs d
  send_reaches_lem s b sent blocked =
      let f = sent_facts t r s sent in
      let l : s < used_slots t = slot_used good.rules (rw blocked) in
      let other = not_caller good s l (λ z. omega (arith, f.state)) in
      let here = caller (λ ten. omega (arith, f.kind)) in
      record {
        gets = rw blocked at (ends_gets (rw (left_other t r s other ∙ left_sent t r s f) at (step_sees steps r e s l)) refl);
        bytes = rw (step_effect ∙ send_effect s b f other blocked)
            (delivered xs a (buffer r.arg1 r.arg2) s b steps.size (omega (arith, good.rules.size)) f.message (below l)
            (rw blocked at (known_state good s l).message));
      }

  pub receive_turn : (s : ℕ) → Received t r s → let u = turn_of t a r in let given = message_of (task_at t s).state in
      (u.state ≡ Ready) × (u.result ≡ Value (tid_of s) (ltb r.arg1 given.len) given.len)
      × (u.effect ≡ delivery s given a (buffer r.arg0 r.arg1))
  unfolding turn_of receive
  receive_turn s f =
      let q = queue_at t (send_queue a) in
      rw (f.kind, f.message, ne_eqb q.len 0 (λ z. omega (arith, f.some)), f.head, slot_of_mark s) (refl, refl, refl)

  pub receive_reaches_lem : (s : ℕ) → is_received_from t r s ≡ true
      → Reaches s (message_of (task_at t s).state) a (buffer r.arg0 r.arg1) (tid_of s) xs d
  receive_reaches_lem s received =
      let f = received_facts t r s received in
      let (state, result, effect) = receive_turn s f in
      let here = caller (λ ten. omega (arith, f.kind)) in
      let l : s < used_slots t = slot_used good.rules (rw (received_state good (enters t r e) f)) in
      let used : a < used_slots t = slot_used good.rules (rw (active_code t here)) in
      record {
        gets = rw result at (ends_gets (rw (left_own t r) at (step_sees steps r e a used)) state);
        bytes = rw (step_effect ∙ effect)
            (delivered xs s (message_of (task_at t s).state) a (buffer r.arg0 r.arg1) steps.size (below l) (known_state good s l).message
            (below used) f.message);
      }

  pub replied_effect : (s : ℕ) → Replied t r s
      → (turn_of t a r).effect ≡ delivery a (buffer r.arg1 r.arg2) s (reply_of (task_at t s).state)
  unfolding turn_of reply
  replied_effect s f = rw (f.kind, f.named, slot_of_mark s, lt-ltb 0 (tid_of s) (omega arith), f.state, f.message)

  pub reply_reaches_lem : (s : ℕ) (b : Buffer) → is_replied_to t r s ≡ true → (task_at t s).state ≡ ReplyBlocked b
      → Reaches a (buffer r.arg1 r.arg2) s b 0 xs d
  reply_reaches_lem s b replied blocked =
      let f = replied_facts t r s replied in
      let l : s < used_slots t = slot_used good.rules (rw blocked) in
      let other = not_caller good s l (λ z. omega (arith, f.state)) in
      let here = caller (λ ten. omega (arith, f.kind)) in
      record {
        gets = rw blocked at (ends_gets (rw (left_other t r s other ∙ left_replied t r s f) at (step_sees steps r e s l)) refl);
        bytes = rw (step_effect ∙ rw blocked at (replied_effect s f))
            (delivered xs a (buffer r.arg1 r.arg2) s b steps.size (omega (arith, good.rules.size)) f.message (below l)
            (rw blocked at (known_state good s l).reply));
      }
