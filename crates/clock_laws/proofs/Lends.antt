-- What a task that writes a message and then sends it lends to others: nothing but what lies behind the message.
use Prim.Native.Nat.{ℕ, ◌+◌, ◌≤◌, ◌<◌}
use mathlib.Core.Path.{◌≡◌, refl, ap, subst⁻¹, ◌∙◌}
use mathlib.Core.Logic.{◌≢◌, ◌⊎◌, inl, inr}
use mathlib.Core.Bool.{true, not, ◌&&◌, false≢true, and-false}
use mathlib.Core.List.{List}
use native.Mathlib.Omega.{arith}
use lib.ListN.{get_or}
use lib.Dec.{leb, eqb}
use borrow.Author.Tests.{eqb-true}
use Rattle.queue.specs.Numbering.{event_queue}
use Rattle.tid.specs.Sizes.{events}
use Rattle.tid.specs.Tid.{tid_of, slot_named}
use Rattle.tid.proofs.Trips.{slot_of_mark}
use Rattle.task.specs.declared.task.State.{State}
use Rattle.task.specs.declared.task.State.TheVariants.{Active, Ready}
use Rattle.task.specs.declared.task.Task.{Task}
use Rattle.task.specs.Task.{state_code, good_buffer, reply_of, is_send_blocked}
use Rattle.task.proofs.Tests.{chosen}
use Rattle.kernel.specs.declared.table.Table.{Table}
use Rattle.kernel.specs.declared.table.Request.{Request}
use Rattle.kernel.specs.declared.table.Turn.{Turn}
use Rattle.kernel.specs.Numbers.{my_parent_tid_kind, send_kind, receive_kind, await_event_kind, event_kind, own_write_kind}
use Rattle.kernel.specs.Edition.{may_wait}
use Rattle.kernel.specs.Table.{task_at, queue_at, active_slot}
use Rattle.kernel.specs.Kinds.{alive, my_parent_tid, send, await_event, event}
use Rattle.kernel.specs.Decide.{active_tid, buffer, turn_of, own_write}
use Rattle.step.specs.Step.{step}
use Rattle.laws.specs.Parties.{Parties, parties}
use Rattle.laws.specs.View.{is_entry, is_sent_to, is_received_from, is_replied_to, is_signalled, is_turned_away, others_left}
use Rattle.laws.proofs.Areas.{InBuffer}
use Rattle.laws.proofs.Concerns.{Sent}
use Rattle.laws.proofs.Effects.{step_cases, entry_effect}
use Rattle.clock.specs.Message.{size}
use Rattle.server.specs.Phase.{ask}
use Rattle.served.specs.Letters.{copies}
use Rattle.served.proofs.Brought.{copies_sent}
use Rattle.clock_tasks.specs.Client.{sends}

-- what such a task asks, which sends to `to`: k is how many bytes of the message stand in its area, and k' how many once it has asked
pub data Asks (to offset : ℕ) (message : List ℕ) (k : ℕ) : Request → ℕ → Type 0 where
  writing : k < size → Asks to offset message k (ask own_write_kind (offset + k) (get_or message k 0) 0) (k + 1)
  sending : k ≡ size → Asks to offset message k (sends to offset) k
  awaiting : (which : ℕ) → Asks to offset message k (ask await_event_kind which 0 0) k
  asking : Asks to offset message k (ask my_parent_tid_kind 0 0 0) k

pub own_kind : {to offset k k' : ℕ} {message : List ℕ} {r : Request} → Asks to offset message k r k' → r.kind ≢ receive_kind
own_kind (writing low) e = omega arith
own_kind (sending whole) e = omega arith
own_kind (awaiting _) e = omega arith
own_kind asking e = omega arith

-- a Send is of the whole message
pub send_whole : {to offset k k' : ℕ} {message : List ℕ} {r : Request} → Asks to offset message k r k' → r.kind ≡ send_kind
    → (r ≡ sends to offset) × (size ≤ k)
send_whole (writing low) e = absurd (omega arith)
send_whole (sending whole) e = (refl, omega arith)
send_whole (awaiting _) e = absurd (omega arith)
send_whole asking e = absurd (omega arith)

-- it writes one more byte, or it asks for something else
pub own_write_lem : {to offset k k' : ℕ} {message : List ℕ} {r : Request} → Asks to offset message k r k'
    → ((r ≡ ask own_write_kind (offset + k) (get_or message k 0) 0) × (k < size) × (k' ≡ k + 1)) ⊎ ((r.kind ≢ own_write_kind) × (k' ≡ k))
own_write_lem (writing low) = inl (refl, low, refl)
own_write_lem (sending whole) = inr (λ e. omega arith, refl)
own_write_lem (awaiting _) = inr (λ e. omega arith, refl)
own_write_lem asking = inr (λ e. omega arith, refl)

-- the state of such a task: it waits for no message, and for a reply behind its own
pub record Lends (offset : ℕ) (st : State) : Type 0 where
  pub used : 0 < state_code st
  pub closed : state_code st ≢ 3
  pub behind : (i : ℕ) → i < size → (reply_of st).start ≤ offset + i → offset + i < (reply_of st).start + (reply_of st).len → ⊥

module _ {offset : ℕ} where
  pub active_lends : Lends offset Active
  active_lends = record { used = omega arith; closed = λ e. omega arith; behind = λ i low least most. omega arith }

  pub ready_lends : Lends offset Ready
  ready_lends = record { used = omega arith; closed = λ e. omega arith; behind = λ i low least most. omega arith }

  -- WHAT BECOMES OF IT

  send_lends : (t : Table) (s to : ℕ) → Lends offset (send t s to (buffer offset size) (buffer (offset + size) size)).state
  unfolding send
  send_lends t s to =
      let target = (task_at t (slot_named to)).state in
      let Left : Turn → Type 0 = λ u. Lends offset u.state in
      chosen Left (not (alive t to)) (λ _. ready_lends)
      (λ _. chosen Left (eqb to (tid_of s)) (λ _. ready_lends)
      (λ _. chosen Left (not (good_buffer (buffer offset size) && good_buffer (buffer (offset + size) size))) (λ _. ready_lends)
      (λ _. chosen Left (is_send_blocked target)
      (λ _. record { used = omega arith; closed = λ e. omega arith; behind = λ i low least most. omega arith })
      (λ _. record { used = omega arith; closed = λ e. omega arith; behind = λ i low least most. omega arith }))))

  await_lends : (t : Table) (s which : ℕ) → Lends offset (await_event t s which).state
  unfolding await_event
  await_lends t s which =
      let Left : Turn → Type 0 = λ u. Lends offset u.state in
      chosen Left (leb events which) (λ _. ready_lends)
      (λ _. chosen Left (not (may_wait t.edition ((queue_at t (event_queue which)).len + 1))) (λ _. ready_lends)
      (λ _. record { used = omega arith; closed = λ e. omega arith; behind = λ i low least most. omega arith }))

  -- by an entry of its own
  pub own_lends : (t : Table) (s : ℕ) {to k k' : ℕ} {message : List ℕ} {r : Request} → Asks to offset message k r k' → is_entry t r ≡ true
      → Lends offset (turn_of t s r).state
  unfolding turn_of my_parent_tid
  own_lends t s (writing low) entry = absurd (false≢true (rw and-false at entry))
  own_lends t s {to} (sending whole) entry = send_lends t s to
  own_lends t s (awaiting k) entry = await_lends t s k
  own_lends t s asking entry = ready_lends

  -- by an event that interrupts it
  pub event_lends : (t : Table) (s : ℕ) (r : Request) → r.kind ≡ event_kind → Lends offset (turn_of t s r).state
  unfolding turn_of event
  event_lends t s r kind = rw kind ready_lends

  -- by an entry of another
  pub others_lend : (t : Table) (r : Request) (s : ℕ) → Lends offset (task_at t s).state → Lends offset (others_left t r s).state
  unfolding others_left
  others_lend t r s old =
      let Is : Task → Type 0 = λ x. Lends offset x.state in
      chosen Is (is_sent_to t r s) (λ _. ready_lends)
      (λ _. chosen Is (is_received_from t r s) (λ _. record { used = omega arith; closed = λ e. omega arith; behind = old.behind })
      (λ _. chosen Is (is_replied_to t r s) (λ _. ready_lends)
      (λ _. chosen Is (is_signalled t r s) (λ _. ready_lends)
      (λ _. chosen Is (is_turned_away t r s) (λ _. ready_lends) (λ _. old)))))

-- WHERE A STEP WRITES

-- a Send that copies goes to one who waits for it
step_sent : (t : Table) (r : Request) (s len : ℕ) → r.kind ≡ send_kind → r.arg0 ≡ tid_of s → copies (step t r len).effect ≡ true → Sent t r s
unfolding own_write
step_sent t r s len kind named =
    step_cases t r (λ d. copies d.effect ≡ true → Sent t r s) (λ _ _ _ e. absurd (false≢true e)) (λ _ e. absurd (false≢true e))
    (λ _ _ e. copies_sent t (active_slot t) r s kind named (rw (entry_effect (active_slot t) (turn_of t (active_slot t) r)) at e)) len

-- no delivery into the message
pub lent_none : (t : Table) (r : Request) (s len offset i : ℕ) → Lends offset (task_at t s).state → i < size
    → (active_tid t ≡ tid_of s → r.kind ≢ receive_kind) → copies (step t r len).effect ≡ true → InBuffer (parties t r) s (offset + i) → ⊥
lent_none t r s len offset i lends low receives copied =
    let Out : Parties → Type 0 = λ p. InBuffer p s (offset + i) → ⊥ in
    let slot : r.arg0 ≡ tid_of s → slot_named r.arg0 ≡ s = λ e. ap slot_named e ∙ slot_of_mark s in
    chosen Out (eqb r.kind send_kind)
    (λ kind lies. lends.closed (step_sent t r s len (eqb-true r.kind send_kind kind) lies.taker copied).state)
    (λ _. chosen Out (eqb r.kind receive_kind)
    (λ kind lies. receives lies.taker (eqb-true r.kind receive_kind kind))
    (λ _ lies. (subst⁻¹ (λ (x : ℕ). Lends offset (task_at t x).state) (slot lies.taker) lends).behind i low lies.least lies.most))
