-- The letter that a step brings to the task with tid g, if it brings one.
use Prim.Native.Nat.{ℕ, ◌≤◌, min}
use mathlib.Core.Path.{◌≡◌, refl, sym, ap, ◌∙◌}
use mathlib.Core.Logic.{◌≢◌}
use mathlib.Core.Bool.{true, false, not, ◌&&◌, and-false, false≢true}
use mathlib.Core.List.{List, [], ◌∷◌}
use lib.ListN.{length}
use lib.Dec.{eqb}
use borrow.Author.Tests.{eqb-true, eqb-false, eq-eqb, ne_eqb, not-false}
use Rattle.queue.specs.Numbering.{send_queue}
use Rattle.queue.proofs.Below.{by_test, both_true, true_both}
use Rattle.tid.specs.Tid.{tid_of, slot_named}
use Rattle.tid.proofs.Trips.{slot_of_mark, tid_named}
use Rattle.task.specs.declared.task.Buffer.{Buffer}
use Rattle.task.specs.declared.task.State.TheVariants.{SendBlocked}
use Rattle.task.specs.Task.{good_buffer, message_of, is_send_blocked}
use Rattle.task.proofs.Tests.{chosen, clash}
use Rattle.kernel.specs.declared.table.Table.{Table}
use Rattle.kernel.specs.declared.table.Request.{Request}
use Rattle.kernel.specs.declared.table.Turn.{Turn}
use Rattle.kernel.specs.declared.table.Decision.{Decision}
use Rattle.kernel.specs.Numbers.{send_kind, receive_kind, reply_kind, own_write_kind, accepted}
use Rattle.kernel.specs.Table.{slots, task_at, queue_at, active_slot}
use Rattle.kernel.specs.Kinds.{alive, send, receive}
use Rattle.kernel.specs.Refusal.{refusal_of}
use Rattle.kernel.specs.Decide.{active_tid, buffer, turn_of, own_write}
use Rattle.kernel.proofs.Every.{every_kind}
use Rattle.kept.proofs.Tasks.{code_at}
use Rattle.step.specs.Step.{step, after}
use Rattle.laws.specs.View.{is_entry, is_sent_to, is_received_from, Steps}
use Rattle.kept.proofs.Choices.{through, choose_same}
use Rattle.laws.proofs.Concerns.{fails, Sent, sent_facts, received_facts}
use Rattle.laws.proofs.Effects.{step_cases}
use Rattle.laws.proofs.Reach.{step_effect, send_effect, receive_turn}
use Rattle.laws.proofs.Rests.{active_not}
use Rattle.server.specs.Phase.{receives}
use Rattle.served.specs.World.{bytes_in}
use Rattle.served.specs.Letters.{Letter, copies, letter_in}

-- of all kinds, only Send, Receive and Reply copy
turn_keeps : (t : Table) (c : ℕ) (r : Request) → r.kind ≢ send_kind → r.kind ≢ receive_kind → r.kind ≢ reply_kind → copies (turn_of t c r).effect ≡ false
unfolding turn_of every_kind
turn_keeps t c r six seven eight =
    simp (
      ne_eqb r.kind send_kind six,
      ne_eqb r.kind receive_kind seven,
      ne_eqb r.kind reply_kind eight,
      through (λ (u : Turn). copies u.effect),
      choose_same,
    )

-- a Send copies only to one who waits for it
send_copies : (t : Table) (c g : ℕ) (m p : Buffer) → copies (send t c g m p).effect ≡ true
    → (code_at t (slot_named g) ≡ 3) × (good_buffer m ≡ true) × (good_buffer p ≡ true)
unfolding send
send_copies t c g m p =
    let Ends : Turn → Type 0 = λ u. copies u.effect ≡ true → (code_at t (slot_named g) ≡ 3) × (good_buffer m ≡ true) × (good_buffer p ≡ true) in
    chosen Ends (not (alive t g)) (λ _ no_way. absurd (false≢true no_way))
    (λ _. chosen Ends (eqb g (tid_of c)) (λ _ no_way. absurd (false≢true no_way))
    (λ _. chosen Ends (not (good_buffer m && good_buffer p)) (λ _ no_way. absurd (false≢true no_way))
    (λ fit. chosen Ends (is_send_blocked (task_at t (slot_named g)).state)
    (λ blocked _.
    let both = both_true (good_buffer m) (good_buffer p) (not-false _ fit) in
    (eqb-true (code_at t (slot_named g)) 3 blocked, both.0, both.1))
    (λ _ no_way. absurd (false≢true no_way)))))

pub copies_sent : (t : Table) (c : ℕ) (r : Request) (s : ℕ) → r.kind ≡ send_kind → r.arg0 ≡ tid_of s → copies (turn_of t c r).effect ≡ true → Sent t r s
unfolding turn_of
copies_sent t c r s kind named some =
    let known = send_copies t c r.arg0 (buffer r.arg1 r.arg2) (buffer r.arg3 r.arg4) (rw kind at some) in
    let slot : slot_named r.arg0 ≡ s = ap slot_named named ∙ slot_of_mark s in
    record { kind = kind; named = named; state = rw slot at known.0; message = known.1; reply = known.2 }

-- a Receive copies only if someone is queued
receive_keeps : (t : Table) (c size : ℕ) → (queue_at t (send_queue c)).len ≡ 0 → copies (turn_of t c (receives size)).effect ≡ false
unfolding turn_of receive
receive_keeps t c size none = rw none (simp (through (λ (u : Turn). copies u.effect), choose_same))

module _ {n g : ℕ} {t : Table} {xs : List ℕ} (steps : Steps n t xs) (least : 1 ≤ g) (r : Request) where
  abbrev d : Decision
  d = step t r (length xs)

  abbrev brought : List Letter
  brought = letter_in g xs (record { before = t; request = r; decision = d; areas = after d.effect xs })

  keeps_none : copies d.effect ≡ false → brought ≡ []
  keeps_none keeps = rw keeps

  pub stays_none : is_entry t r ≡ false → brought ≡ []
  unfolding own_write
  stays_none none =
      keeps_none
      (step_cases t r (λ d. copies d.effect ≡ false) (λ _ _ _. refl) (λ _. refl)
      (λ _ e. clash (true_both (eq-eqb (refusal_of (slots t) (active_slot t) r) accepted e.0) (rw (ne_eqb r.kind own_write_kind e.1))) none)
      (length xs))

  module _ (entry : is_entry t r ≡ true) where
    effect_is : copies d.effect ≡ copies (turn_of t (active_slot t) r).effect
    effect_is = ap copies (step_effect steps r entry)

    pub kind_none : r.kind ≢ send_kind → r.kind ≢ receive_kind → brought ≡ []
    kind_none six seven =
        by_test (eqb r.kind reply_kind)
        (λ reply. rw (reply, and-false))
        (λ other. keeps_none (effect_is ∙ turn_keeps t (active_slot t) r six seven (eqb-false r.kind reply_kind other)))

    pub unsent_none : slot_named g ≢ active_slot t → (Sent t r (slot_named g) → ⊥) → brought ≡ []
    unsent_none other unsent =
        by_test (eqb r.kind send_kind)
        (λ six. by_test (eqb r.arg0 g)
        (λ mine.
        let named : r.arg0 ≡ tid_of (slot_named g) = eqb-true r.arg0 g mine ∙ sym (tid_named g least) in
        keeps_none (effect_is ∙ fails (λ copies. unsent (copies_sent t (active_slot t) r (slot_named g) (eqb-true r.kind send_kind six) named copies))))
        (λ another. rw (six, another, and-false)))
        (λ not-six. by_test (eqb r.kind receive_kind)
        (λ seven.
        let not-mine : active_tid t ≢ g = λ e. active_not t (slot_named g) other (e ∙ sym (tid_named g least)) in
        rw (not-six, seven, ne_eqb (active_tid t) g not-mine, and-false))
        (λ not-seven. kind_none (eqb-false r.kind send_kind not-six) (eqb-false r.kind receive_kind not-seven)))

    pub queue_none : (size : ℕ) → r ≡ receives size → (queue_at t (send_queue (active_slot t))).len ≡ 0 → brought ≡ []
    queue_none size same none =
        keeps_none (effect_is ∙ ap (λ (r : Request). copies (turn_of t (active_slot t) r).effect) same ∙ receive_keeps t (active_slot t) size none)

    pub sent_one : (b : Buffer) → slot_named g ≢ active_slot t → is_sent_to t r (slot_named g) ≡ true → (task_at t (slot_named g)).state ≡ SendBlocked b
        → brought
        ≡ record { from = active_tid t; length = r.arg2; bytes = bytes_in (active_tid t) r.arg1 (min r.arg2 b.len) xs } ∷ []
    sent_one b other sent blocked =
        let f = sent_facts t r (slot_named g) sent in
        let named : r.arg0 ≡ g = f.named ∙ tid_named g least in
        rw (step_effect steps r entry ∙ send_effect steps r entry (slot_named g) b f other blocked, f.kind, named, eq-eqb g g refl, blocked)

    pub received_one : (h : ℕ) → active_tid t ≡ g → is_received_from t r h ≡ true → let m = message_of (task_at t h).state in
        brought ≡ record { from = tid_of h; length = m.len; bytes = bytes_in (tid_of h) m.start (min m.len r.arg1) xs } ∷ []
    received_one h tid received =
        let f = received_facts t r h received in
        rw (step_effect steps r entry ∙ (receive_turn steps r entry h f).2, f.kind, f.head, slot_of_mark h, slot_of_mark h, eq-eqb (active_tid t) g tid)
