-- What an entry is to the server's task.
use Prim.Native.Nat.{ℕ, ◌+◌, ◌≤◌, ◌<◌}
use mathlib.Core.Path.{◌≡◌, refl, ap, subst⁻¹, ◌∙◌}
use mathlib.Core.Logic.{◌≢◌}
use mathlib.Core.Bool.{true, false, false≢true, and-false}
use native.Mathlib.Omega.{arith}
use lib.Dec.{ltb, leb, eqb}
use borrow.Author.Tests.{eqb-true, eqb-false, eq-eqb, lt-ltb, le-leb}
use Rattle.queue.specs.Numbering.{send_queue}
use Rattle.queue.specs.Row.{place_at}
use Rattle.queue.proofs.Below.{by_test}
use Rattle.tid.specs.Sizes.{priorities, area_bytes}
use Rattle.tid.specs.Tid.{mark_of, slot_of, tid_of}
use Rattle.task.specs.declared.task.Outcome.TheVariants.{Value}
use Rattle.task.specs.declared.task.State.TheVariants.{Active, Ready, SendBlocked}
use Rattle.task.specs.declared.task.Task.{Task}
use Rattle.task.specs.Task.{state_code, message_of, task_as}
use Rattle.task.proofs.Tests.{chosen, clash}
use Rattle.kernel.specs.declared.table.Table.{Table}
use Rattle.kernel.specs.declared.table.Request.{Request}
use Rattle.kernel.specs.declared.table.Turn.{Turn}
use Rattle.kernel.specs.Numbers.{create_kind, send_kind, receive_kind, reply_kind, event_kind}
use Rattle.kernel.specs.Table.{slots, task_at, queue_at, active_slot, used_slots}
use Rattle.kernel.specs.Kinds.{create, receive, reply, event}
use Rattle.kernel.specs.Refusal.{refusal_of}
use Rattle.kernel.specs.Decide.{active_tid, buffer, turn_of}
use Rattle.rules.specs.Facts.{Good}
use Rattle.kept.proofs.Tasks.{code_at}
use Rattle.laws.specs.View.{is_entry, is_sent_to, is_received_from, left}
use Rattle.laws.proofs.Concerns.{Sent, sent_facts, facts_sent, received_state, left_sent, left_aside}
use Rattle.laws.proofs.Sees.{enters, left_other, left_own}
use Rattle.kept.proofs.Choices.{through, choose_same}
use Rattle.server.specs.declared.phase.Phase.{Phase}
use Rattle.server.specs.declared.phase.Phase.TheVariants.{Making, Made, Writing, Replying, Listening}
use Rattle.server.specs.Phase.{ask, receives, request_in, after}
use Rattle.served.proofs.Stands.{Unread, busy, busy_goes, busy_unread, Waits, ready, listening, wait_code}

-- An entry, to the task of slot s, whose server is in phase p, and in p' once it has asked, if it asks.
pub data Meets (size : ℕ) (t : Table) (r : Request) (s : ℕ) (p p' : Phase) : Type 0 where
  -- it goes on by itself, or is interrupted, or makes a task
  turns : (task_at t s).state ≡ Active → r.kind ≢ send_kind → r.kind ≢ receive_kind → Unread p' → Waits size (left t r s) p' → Meets size t r s p p'
  -- it takes the message of the first who waits
  takes : (h : ℕ) → (task_at t s).state ≡ Active → r ≡ receives size → is_received_from t r h ≡ true → p' ≡ Listening
      → (left t r s).state ≡ Ready
      → (left t r s).result ≡ Value (tid_of h) (ltb size (message_of (task_at t h).state).len) (message_of (task_at t h).state).len → Meets size t r s p p'
  -- it begins to listen
  listens : (task_at t s).state ≡ Active → r ≡ receives size → (queue_at t (send_queue s)).len ≡ 0 → p' ≡ Listening
      → (left t r s).state ≡ SendBlocked (buffer 0 size) → Meets size t r s p p'
  -- a message is sent to it
  hears : (task_at t s).state ≡ SendBlocked (buffer 0 size) → is_sent_to t r s ≡ true → p ≡ Listening → p' ≡ p
      → (left t r s).state ≡ Ready → (left t r s).result ≡ Value (active_tid t) (ltb size r.arg2) r.arg2 → Meets size t r s p p'
  -- it is not concerned
  aside : s ≢ active_slot t → Waits size (task_at t s) p → (Sent t r s → ⊥) → p' ≡ p → left t r s ≡ task_at t s → Meets size t r s p p'

-- so it waits, or will be told what it waited for
pub meets_waits : {size : ℕ} {t : Table} {r : Request} {s : ℕ} {p p' : Phase} → Meets size t r s p p' → Waits size (left t r s) p'
meets_waits (turns a e₆ e₇ l w) = w
meets_waits (takes h a r i l e o) = ready e (rw (l, o))
meets_waits (listens a r i l e) = listening e l
meets_waits (hears b i l same e o) = ready e (rw (same, l, o))
meets_waits (aside other w i same e) = rw (same, e) w

-- AN ENTRY OF ANOTHER

module _ {n : ℕ} {t : Table} (good : Good n t) (r : Request) (s : ℕ) (other : s ≢ active_slot t) (entry : is_entry t r ≡ true) where
  -- who is ready or send-blocked is concerned by a Send alone
  not_concerned : 2 ≤ code_at t s → code_at t s ≤ 3 → (Sent t r s → ⊥) → left t r s ≡ task_at t s
  not_concerned least most unsent =
      left_other t r s other
      ∙ left_aside t r s unsent (λ f. omega (arith, received_state good (enters t r entry) f)) (λ f. omega (arith, f.state)) (λ f. omega (arith, f.state))
      (λ f. omega (arith, f.state))

  pub others_meet : {size : ℕ} {p : Phase} → Waits size (task_at t s) p → Meets size t r s p p
  others_meet {size} {p} w = go w
    where
      unmoved : (Sent t r s → ⊥) → Meets size t r s p p
      unmoved unsent = let range = wait_code w in aside other w unsent refl (not_concerned range.0 range.1 unsent)

      go : Waits size (task_at t s) p → Meets size t r s p p
      go (ready e b) = unmoved (λ f. omega (arith, f.state, ap state_code e))
      go (listening e l) =
          by_test (is_sent_to t r s)
          (λ i.
          let sent = left_other t r s other ∙ left_sent t r s (sent_facts t r s i) in
          hears e i l refl (ap (λ (x : Task). x.state) sent) (ap (λ (x : Task). x.result) sent ∙ rw e))
          (λ unsent. unmoved (λ f. clash (facts_sent t r s f) unsent))

-- AN ENTRY OF ITS OWN, or one that interrupts it

module _ {n : ℕ} {t : Table} (good : Good n t) (size : ℕ) (room : size ≤ area_bytes) (s : ℕ) (mine : s ≡ active_slot t) (here : s < n)
    (active : (task_at t s).state ≡ Active) where
  own_left : (r : Request) → left t r s ≡ task_as (turn_of t s r).state (turn_of t s r).result (task_at t s)
  own_left r = rw mine (left_own t r)

  pub event_meets : (r : Request) (p : Phase) → r.kind ≡ event_kind → busy p ≡ true → Meets size t r s p p
  unfolding turn_of event
  event_meets r p kind b =
      turns active (λ e. omega arith) (λ e. omega arith) (busy_unread p b) (rw own_left (ready (rw kind) (busy_goes p _ b)))

  create_meets : (priority : ℕ) (p : Phase) → Meets size t (ask create_kind priority 0 0) s p Made
  unfolding turn_of create
  create_meets priority p =
      let W : Turn → Type 0 = λ u. Waits size (task_as u.state u.result (task_at t s)) Made in
      turns active (λ e. omega arith) (λ e. omega arith) (λ _ _ _. refl)
      (rw own_left
      (chosen W (leb priorities priority) (λ _. ready refl refl)
      (λ _. chosen W (leb (slots t) (used_slots t)) (λ _. ready refl refl) (λ _. ready refl refl))))

  reply_meets : (tid offset len : ℕ) (p p' : Phase) → busy p' ≡ true → Meets size t (ask reply_kind tid offset len) s p p'
  unfolding turn_of reply
  reply_meets tid offset len p p' b =
      turns active (λ e. omega arith) (λ e. omega arith) (busy_unread p' b)
      (rw own_left (ready (simp (through (λ (u : Turn). u.state), choose_same)) (busy_goes p' _ b)))

  receive_meets : (p : Phase) → Meets size t (receives size) s p Listening
  unfolding turn_of receive
  receive_meets p =
      let q = queue_at t (send_queue s) in
      let h = slot_of (place_at q 0) in
      let fits : leb (0 + size) area_bytes ≡ true = le-leb (0 + size) area_bytes (omega arith) in
      by_test (eqb q.len 0)
      (λ none. listens active refl (eqb-true q.len 0 none) refl (rw (own_left, fits, none)))
      (λ some.
      let more : 0 < q.len = omega (arith, eqb-false q.len 0 some) in
      let head : 1 ≤ place_at q 0 = ((good.rules.lined.holds.row (send_queue s) (omega (arith, good.rules.lined.shaped.count))).mark 0 more).0 in
      let back : place_at q 0 ≡ mark_of h = omega arith in
      takes h active refl
      (rw (← mine, fits, lt-ltb 0 q.len more, eq-eqb (place_at q 0) (mark_of h) back))
      refl (rw (own_left, fits, some)) (rw (own_left, fits, some)))

  -- what it asks, by its phase
  pub asked_meets : {r : Request} (p : Phase) (priority len byte tid : ℕ) → busy p ≡ true → r ≡ request_in p priority size len byte tid
      → is_entry t r ≡ true → Meets size t r s p (after p size len)
  asked_meets {r} p priority len byte tid b same = subst⁻¹ (λ (q : Request). is_entry t q ≡ true → Meets size t q s p (after p size len)) same (go p b)
    where
      go : (p : Phase) → busy p ≡ true → let q = request_in p priority size len byte tid in is_entry t q ≡ true → Meets size t q s p (after p size len)
      go Making b entry = create_meets priority Making
      go Made b entry = absurd (false≢true b)
      go (Writing k) b entry = absurd (false≢true (rw and-false at entry))
      go (Replying k) b entry =
          by_test (ltb k len) (λ more. rw more (reply_meets tid size size (Replying k) (Replying (k + 1)) refl)) (λ done. rw done (receive_meets (Replying k)))
      go Listening b entry = absurd (false≢true b)

  -- what is no entry leaves it busy
  pub asked_busy : {r : Request} (p : Phase) (priority len byte tid : ℕ) → busy p ≡ true → r ≡ request_in p priority size len byte tid
      → is_entry t r ≡ false → busy (after p size len) ≡ true
  unfolding refusal_of
  asked_busy {r} p priority len byte tid b same = subst⁻¹ (λ (q : Request). is_entry t q ≡ false → busy (after p size len) ≡ true) same (go p b)
    where
      runs : ltb (active_slot t) (slots t) ≡ true
      runs = lt-ltb (active_slot t) (slots t) (omega (arith, good.rules.size))

      go : (p : Phase) → busy p ≡ true → let q = request_in p priority size len byte tid in is_entry t q ≡ false → busy (after p size len) ≡ true
      go Making b = λ none. clash (rw runs) none
      go Made b = absurd (false≢true b)
      go (Writing k) b = λ _. chosen (λ (p : Phase). busy p ≡ true) (ltb (k + 1) size) (λ _. refl) (λ _. refl)
      go (Replying k) b =
          by_test (ltb k len) (λ more. rw more (λ _. refl)) (λ done. rw done (λ none. clash (rw runs) none))
      go Listening b = absurd (false≢true b)
