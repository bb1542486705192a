-- What the work of each kind leaves: of the caller's record, of the others', and of the ready queues.
use Prim.Native.Nat.{ℕ, ◌+◌, ◌≤◌, ◌<◌}
use mathlib.Core.Path.{◌≡◌, refl, sym, ap, ◌∙◌}
use mathlib.Core.Logic.{◌≢◌, ⊎_elim}
use mathlib.Core.Bool.{Bool, true, false, not, ◌&&◌}
use native.Mathlib.Omega.{arith}
use native.Mathlib.Decide.{ℕ_discrete}
use lib.ListN.{length, length-set}
use lib.Seq.{get_or-set_same, get_or-set_other}
use lib.Dec.{leb, eqb}
use borrow.Author.Tests.{eqb-true, eqb-false, eq-eqb, ne_eqb, leb-false, lt-ltb, not-true, not-false}
use Rattle.queue.specs.Choose.{choose}
use Rattle.queue.specs.Numbering.{places, ready_queue, event_queue, send_queue, queues_for}
use Rattle.queue.specs.Row.{place_at, empty_row, emptied}
use Rattle.queue.specs.Rows.{no_row}
use Rattle.queue.specs.Facts.{RowFacts}
use Rattle.queue.proofs.Below.{by_test, both_true, true_both}
use Rattle.queue.proofs.Rules.{empty_row_lem, alone_row_lem}
use Rattle.tid.specs.Sizes.{priorities, events}
use Rattle.tid.specs.Tid.{mark_of, slot_of, tid_of, slot_named}
use Rattle.tid.proofs.Trips.{slot_of_mark}
use Rattle.task.specs.declared.task.Outcome.{Outcome}
use Rattle.task.specs.declared.task.Outcome.TheVariants.{Nothing}
use Rattle.task.specs.declared.task.State.{State}
use Rattle.task.specs.declared.task.State.TheVariants.{Ready}
use Rattle.task.specs.declared.task.Task.{Task}
use Rattle.task.specs.Standing.{queue_of}
use Rattle.task.specs.Task.{no_task, entry_of, is_used, good_buffer, awaited, is_send_blocked, is_reply_blocked, task_as}
use Rattle.task.proofs.Stands.{stands_in}
use Rattle.task.proofs.Tests.{chosen, clash}
use Rattle.kernel.specs.declared.table.Table.{Table}
use Rattle.kernel.specs.declared.table.Request.{Request}
use Rattle.kernel.specs.declared.table.Effect.TheVariants.{Keep}
use Rattle.kernel.specs.declared.table.Turn.{Turn}
use Rattle.kernel.specs.Numbers.{create_kind, my_tid_kind, my_parent_tid_kind, yield_kind, exit_kind, send_kind, receive_kind, reply_kind, await_event_kind, event_kind}
use Rattle.kernel.specs.Edition.{may_wait}
use Rattle.kernel.specs.Table.{slots, task_at, queue_at, with_queue, active_slot, used_slots}
use Rattle.kernel.specs.Moves.{queued}
use Rattle.kernel.specs.Kinds.{alive, create, my_tid, my_parent_tid, yield, exit, send, receive, reply, await_event, event}
use Rattle.kernel.specs.Refusal.{Enters}
use Rattle.kernel.specs.Decide.{active_tid, buffer, turn_of}
use Rattle.kernel.proofs.Refusals.{fine}
use Rattle.rules.specs.Facts.{standing, nobody, Good}
use Rattle.rules.proofs.Targets.{sender}
use Rattle.kept.proofs.Tasks.{code_at, apart, free}
use Rattle.kept.proofs.Moves.{slot_used, stander_used, sender_head}
use Rattle.kept.proofs.Entries.{alive_used}
use Rattle.laws.specs.View.{others_left}
use Rattle.laws.proofs.Landing.{active_code, known_state, alive_at_lem}
use Rattle.laws.proofs.Concerns.{Sent, Received, Replied, Signalled, left_sent, left_received, left_replied, left_signalled, left_turned, left_aside}

-- what may stand in a slot that was not used before: no result, and a task only by a Create, with the entry number that it gives
pub record New (r : Request) (x : Task) : Type 0 where
  pub result : x.result ≡ Nothing
  pub entry : x.entry ≡ choose (is_used x.state) (entry_of r.arg1) 0
  pub by : is_used x.state ≡ true → r.kind ≡ create_kind

pub none_new : (r : Request) → New r no_task
none_new r = record { result = refl; entry = refl; by = λ e. clash e refl }

-- the turn wakes others than the caller, and leaves them, once they are woken, as `others_left` says; it leaves the caller and the ready queues,
-- and the slots that are not used but for a task that it makes
pub record Leaves (n : ℕ) (t : Table) (r : Request) (u : Turn) : Type 0 where
  pub wakes : ℕ → Bool
  pub row : RowFacts n wakes u.woken
  pub out : (s : ℕ) → wakes s ≡ true → s ≢ active_slot t
  pub size : slots u.table ≡ slots t
  pub queues : (p : ℕ) → p < priorities → queue_at u.table (ready_queue p) ≡ queue_at t (ready_queue p)
  pub own : task_at u.table (active_slot t) ≡ task_at t (active_slot t)
  pub others : (s : ℕ) → s < used_slots t → s ≢ active_slot t
      → choose (wakes s) (task_as Ready u.told (task_at u.table s)) (task_at u.table s) ≡ others_left t r s
  pub unused : (s : ℕ) → used_slots t ≤ s
      → New r (choose (wakes s) (task_as Ready u.told (task_at u.table s)) (task_at u.table s))

module _ {n : ℕ} {t : Table} (good : Good n t) (r : Request) where
  abbrev a : ℕ
  a = active_slot t

  empty : (s : ℕ) → used_slots t ≤ s → New r (task_at t s)
  empty s past = rw (good.rules.tasks.unused s past) (none_new r)

  -- nobody is woken, and no other is concerned
  aside : {u : Turn} → u.woken ≡ empty_row places → u.table.tasks ≡ t.tasks
      → ((p : ℕ) → p < priorities → queue_at u.table (ready_queue p) ≡ queue_at t (ready_queue p))
      → ((s : ℕ) → s ≢ a → others_left t r s ≡ task_at t s)
      → Leaves n t r u
  aside none tasks queues others =
      record {
        wakes = nobody;
        row = rw none (empty_row_lem n places nobody (λ _ _. refl));
        out = λ s e. clash e refl;
        size = rw tasks;
        queues = queues;
        own = rw tasks;
        others = λ s _ other. rw tasks (sym (others s other));
        unused = λ s past. rw tasks (empty s past);
      }

  -- where the table stays as it is
  rests : {st : State} {o : Outcome} → ((s : ℕ) → s ≢ a → others_left t r s ≡ task_at t s)
      → Leaves n t r (record { table = t; woken = empty_row places; told = Nothing; state = st; result = o; effect = Keep })
  rests = aside refl refl (λ _ _. refl)

  -- of a kind that concerns no other
  plain : (k : ℕ) → r.kind ≡ k → k ≢ exit_kind → k ≢ send_kind → k ≢ receive_kind → k ≢ reply_kind → k ≢ event_kind
      → (s : ℕ) → others_left t r s ≡ task_at t s
  plain k kind five six seven eight ten s =
      left_aside t r s (λ f. six (sym kind ∙ f.kind)) (λ f. seven (sym kind ∙ f.kind)) (λ f. eight (sym kind ∙ f.kind)) (λ f. ten (sym kind ∙ f.kind))
      (λ f. five (sym kind ∙ f.kind))

  module _ (runs : a < slots t) where
    active : code_at t a ≡ 1
    active = active_code t runs

    create_leaves : r.kind ≡ create_kind → (p : ℕ) → Leaves n t r (create t a p r.arg1)
    unfolding create
    create_leaves kind p =
        let f = good.rules in
        let u = used_slots t in
        let same = plain create_kind kind (λ e. omega arith) (λ e. omega arith) (λ e. omega arith) (λ e. omega arith) (λ e. omega arith) in
        chosen (Leaves n t r) (leb priorities p) (λ _. rests (λ s _. same s))
        (λ _. chosen (Leaves n t r) (leb (slots t) u) (λ _. rests (λ s _. same s))
        (λ room.
        let here : a < u = slot_used f (rw active) in
        record {
          wakes = λ j. eqb j u;
          row = alone_row_lem n u (omega (arith, leb-false (slots t) u room, f.size));
          out = λ s e own. omega (arith, eqb-true s u e);
          size = length-set t.tasks u _;
          queues = λ _ _. refl;
          own = get_or-set_other t.tasks u a _ no_task (λ e. omega arith);
          others = λ s l _.
              rw (ne_eqb s u (λ e. omega arith))
              (get_or-set_other t.tasks u s _ no_task (λ e. omega arith) ∙ sym (same s));
          unused = λ s past. chosen (New r) (eqb s u)
              (λ same.
              rw (eqb-true s u same, get_or-set_same t.tasks u _ no_task (leb-false (slots t) u room))
              (record { result = refl; entry = refl; by = λ _. kind }))
              (λ other. rw (get_or-set_other t.tasks u s _ no_task (eqb-false s u other)) (empty s past));
        }))

    send_leaves : r.kind ≡ send_kind → Leaves n t r (send t a r.arg0 (buffer r.arg1 r.arg2) (buffer r.arg3 r.arg4))
    unfolding send queued
    send_leaves kind =
        let g = r.arg0 in
        let m = buffer r.arg1 r.arg2 in
        let p = buffer r.arg3 r.arg4 in
        let x = slot_named g in
        let unsent : (s : ℕ) → (Sent t r s → ⊥) → others_left t r s ≡ task_at t s =
        λ s never. left_aside t r s never (λ f. omega arith) (λ f. omega arith) (λ f. omega arith) (λ f. omega arith) in
        let slot : (s : ℕ) → Sent t r s → x ≡ s = λ s f. ap slot_named f.named ∙ slot_of_mark s in
        chosen (Leaves n t r) (not (alive t g))
        (λ dead. rests
        (λ s _. unsent s (λ f. clash (alive_at_lem t s (rw f.state)) (rw f.named at (not-true (alive t g) dead)))))
        (λ lives. chosen (Leaves n t r) (eqb g (tid_of a))
        (λ self. rests (λ s other. unsent s (λ f. other (omega (arith, eqb-true g (tid_of a) self, f.named)))))
        (λ _. chosen (Leaves n t r) (not (good_buffer m && good_buffer p))
        (λ bad. rests
        (λ s _. unsent s (λ f. clash (true_both f.message f.reply) (not-true (good_buffer m && good_buffer p) bad))))
        (λ fit. chosen (Leaves n t r) (is_send_blocked (task_at t x).state)
        (λ waits.
        let target = alive_used good.rules active g (not-false _ lives) in
        let code = eqb-true (code_at t x) 3 waits in
        let both = both_true (good_buffer m) (good_buffer p) (not-false _ fit) in
        record {
          wakes = λ j. eqb j x;
          row = alone_row_lem n x (omega (arith, good.rules.tasks.fits));
          out = λ s e. apart t 3 1 (rw (eqb-true s x e) code) active (λ z. omega arith);
          size = refl;
          queues = λ _ _. refl;
          own = refl;
          others = λ s _ _. elim (ℕ_discrete s x) [
            | yes same ↦
                rw (eq-eqb s x same, same)
                (sym (rw (lt-ltb a (slots t) runs) at
                (left_sent t r x (record { kind = kind; named = omega arith; state = code; message = both.0; reply = both.1 }))))
            | no other ↦ rw (ne_eqb s x other) (sym (unsent s (λ f. other (sym (slot s f)))))
          ];
          unused = λ s past. rw (ne_eqb s x (λ e. omega (arith, target.1))) (empty s past);
        })
        (λ busy. aside refl refl (λ p low. get_or-set_other t.queues (send_queue x) (ready_queue p) _ no_row (λ e. omega arith))
        (λ s _. unsent s (λ f. eqb-false (code_at t x) 3 busy (ap (code_at t) (slot s f) ∙ f.state)))))))

    receive_leaves : r.kind ≡ receive_kind → Leaves n t r (receive t a (buffer r.arg0 r.arg1))
    unfolding receive
    receive_leaves kind =
        let f = good.rules in
        let b = buffer r.arg0 r.arg1 in
        let k = send_queue a in
        let q = queue_at t k in
        let x = slot_of (place_at q 0) in
        let spared : (s : ℕ) → (Received t r s → ⊥) → others_left t r s ≡ task_at t s =
        λ s never. left_aside t r s (λ f. omega arith) never (λ f. omega arith) (λ f. omega arith) (λ f. omega arith) in
        chosen (Leaves n t r) (not (good_buffer b))
        (λ bad. rests (λ s _. spared s (λ f. clash f.message (not-true (good_buffer b) bad))))
        (λ fit. chosen (Leaves n t r) (eqb q.len 0)
        (λ none. rests (λ s _. spared s (λ f. omega (arith, eqb-true q.len 0 none, f.some))))
        (λ filled.
        let some : 0 < q.len = omega (arith, eqb-false q.len 0 filled) in
        let l : a < n = omega (arith, f.size) in
        let code = sender_head f a l some in
        let within : k < length t.queues = omega (arith, f.lined.shaped.count) in
        let whole : place_at q 0 ≡ mark_of x = omega (arith, (f.lined.holds.row k within).mark 0 some) in
        let inside : x < slots t = omega (arith, slot_used f {s = x} (rw code), f.tasks.fits, f.size) in
        record {
          wakes = nobody;
          row = empty_row_lem n places nobody (λ _ _. refl);
          out = λ s e. clash e refl;
          size = length-set t.tasks x _;
          queues = λ p low. get_or-set_other t.queues k (ready_queue p) _ no_row (λ e. omega arith);
          own = get_or-set_other t.tasks x a _ no_task (apart t 1 4 active code (λ z. omega arith));
          others = λ s _ _. elim (ℕ_discrete s x) [
            | yes same ↦
                rw same
                (get_or-set_same t.tasks x _ no_task inside
                ∙ sym (left_received t r x (record { kind = kind; message = not-false _ fit; some = some; head = whole })))
            | no other ↦
                get_or-set_other t.tasks x s _ no_task other
                ∙ sym (spared s (λ f. other (sym (ap slot_of f.head ∙ slot_of_mark s))))
          ];
          unused = λ s past. rw (get_or-set_other t.tasks x s _ no_task (λ e. omega (arith, slot_used f {s = x} (rw code)))) (empty s past);
        }))

    reply_leaves : r.kind ≡ reply_kind → Leaves n t r (reply t a r.arg0 (buffer r.arg1 r.arg2))
    unfolding reply
    reply_leaves kind =
        let g = r.arg0 in
        let b = buffer r.arg1 r.arg2 in
        let x = slot_named g in
        let unanswered : (s : ℕ) → (Replied t r s → ⊥) → others_left t r s ≡ task_at t s =
        λ s never. left_aside t r s (λ f. omega arith) (λ f. omega arith) never (λ f. omega arith) (λ f. omega arith) in
        let slot : (s : ℕ) → Replied t r s → x ≡ s = λ s f. ap slot_named f.named ∙ slot_of_mark s in
        chosen (Leaves n t r) (not (alive t g))
        (λ dead. rests
        (λ s _. unanswered s (λ f. clash (alive_at_lem t s (rw f.state)) (rw f.named at (not-true (alive t g) dead)))))
        (λ lives. chosen (Leaves n t r) (not (is_reply_blocked (task_at t x).state))
        (λ other. rests
        (λ s _. unanswered s (λ f. eqb-false (code_at t x) 5 (not-true _ other) (ap (code_at t) (slot s f) ∙ f.state))))
        (λ waits. chosen (Leaves n t r) (not (good_buffer b))
        (λ bad. rests (λ s _. unanswered s (λ f. clash f.message (not-true (good_buffer b) bad))))
        (λ fit.
        let target = alive_used good.rules active g (not-false _ lives) in
        let code = eqb-true (code_at t x) 5 (not-false _ waits) in
        record {
          wakes = λ j. eqb j x;
          row = alone_row_lem n x (omega (arith, good.rules.tasks.fits));
          out = λ s e. apart t 5 1 (rw (eqb-true s x e) code) active (λ z. omega arith);
          size = refl;
          queues = λ _ _. refl;
          own = refl;
          others = λ s _ _. elim (ℕ_discrete s x) [
            | yes same ↦
                rw (eq-eqb s x same, same)
                (sym (left_replied t r x (record { kind = kind; named = omega arith; state = code; message = not-false _ fit })))
            | no other ↦ rw (ne_eqb s x other) (sym (unanswered s (λ f. other (sym (slot s f)))))
          ];
          unused = λ s past. rw (ne_eqb s x (λ e. omega (arith, target.1))) (empty s past);
        })))

    await_leaves : r.kind ≡ await_event_kind → (e : ℕ) → Leaves n t r (await_event t a e)
    unfolding await_event queued
    await_leaves kind e =
        let same = plain await_event_kind kind (λ e. omega arith) (λ e. omega arith) (λ e. omega arith) (λ e. omega arith) (λ e. omega arith) in
        chosen (Leaves n t r) (leb events e) (λ _. rests (λ s _. same s))
        (λ _. chosen (Leaves n t r) (not (may_wait t.edition ((queue_at t (event_queue e)).len + 1))) (λ _. rests (λ s _. same s))
        (λ _. aside refl refl (λ p low. get_or-set_other t.queues (event_queue e) (ready_queue p) _ no_row (λ e. omega arith)) (λ s _. same s)))

  -- who stands in the queue of an event waits for it
  waits_event : (e s : ℕ) → e < events → s < used_slots t → standing n (task_at t s) ≡ event_queue e
      → (code_at t s ≡ 6) × (awaited (task_at t s).state ≡ e)
  waits_event e s low l stands =
      ⊎_elim (λ x. absurd (omega (arith, (good.rules.tasks.each s l).priority)))
      (⊎_elim (λ x. absurd (omega arith)) (λ x. (x.0, omega arith)))
      (stands_in (queues_for n) (task_at t s) stands (omega arith))

  -- and the other way round
  event_waits : (s : ℕ) → Signalled t r s → standing n (task_at t s) ≡ event_queue r.arg0
  unfolding queue_of
  event_waits s f = rw (f.state, f.event)

  -- who stands in the send queue of a slot sends to it
  waits_sender : (c s : ℕ) → c < n → s < used_slots t → standing n (task_at t s) ≡ send_queue c
      → (code_at t s ≡ 4) × (awaited (task_at t s).state ≡ tid_of c)
  waits_sender c s h l stands =
      let (code, named) = sender t good.rules.tasks c s h stands in
      (code, omega (arith, (known_state good s l).target (rw code)))

  -- and the other way round
  sender_waits : (c s : ℕ) → code_at t s ≡ 4 → awaited (task_at t s).state ≡ tid_of c → standing n (task_at t s) ≡ send_queue c
  unfolding queue_of
  sender_waits c s code named = rw (code, named, slot_of_mark c)

  -- a queue that is no ready queue is woken whole: who stands in it is told o, and nobody else is concerned
  row_leaves : (k : ℕ) {o v : Outcome} {st : State} → priorities ≤ k → k < queues_for n
      → ((s : ℕ) → s < used_slots t → standing n (task_at t s) ≡ k → others_left t r s ≡ task_as Ready o (task_at t s))
      → ((s : ℕ) → standing n (task_at t s) ≢ k → others_left t r s ≡ task_at t s)
      → let q = queue_at t k in
      Leaves n t r (record { table = with_queue t k (emptied q); woken = q; told = o; state = st; result = v; effect = Keep })
  row_leaves k least most concerned others =
      let f = good.rules in
      let out : (s : ℕ) → eqb (standing n (task_at t s)) k ≡ true → s ≢ a =
      λ s e same.
      let l = stander_used f s k (eqb-true _ k e) most in
      let runs : a < slots t = omega (arith, f.tasks.fits, f.size) in
      let nowhere = (free n (task_at t a) (rw (active runs))).nowhere in
      omega (arith, eqb-true _ k (rw same at e)) in
      record {
        wakes = λ s. eqb (standing n (task_at t s)) k;
        row = f.lined.holds.row k (omega (arith, f.lined.shaped.count));
        out = out;
        size = refl;
        queues = λ p h. get_or-set_other t.queues k (ready_queue p) _ no_row (λ e. omega arith);
        own = refl;
        others = λ s l _. by_test (eqb (standing n (task_at t s)) k)
            (λ own. rw own (sym (concerned s l (eqb-true _ k own))))
            (λ none. rw none (sym (others s (eqb-false _ k none))));
        unused = λ s past.
            rw (ne_eqb (standing n (task_at t s)) k (λ e. omega (arith, stander_used f s k e most))) (empty s past);
      }

  event_leaves : r.kind ≡ event_kind → r.arg0 < events → Leaves n t r (event t r.arg0 r.arg1)
  unfolding event
  event_leaves kind low =
      row_leaves (event_queue r.arg0) (omega arith) (omega arith)
      (λ s l stands.
      let (code, awaits) = waits_event r.arg0 s low l stands in
      left_signalled t r s (record { kind = kind; state = code; event = awaits }))
      (λ s never.
      left_aside t r s (λ g. omega arith) (λ g. omega arith) (λ g. omega arith) (λ g. never (event_waits s g)) (λ g. omega arith))

  exit_leaves : r.kind ≡ exit_kind → a < slots t → Leaves n t r (exit t a)
  unfolding exit
  exit_leaves kind runs =
      let own : active_tid t ≡ tid_of a = rw (lt-ltb a (slots t) runs) in
      let below : a < n = omega (arith, good.rules.size) in
      row_leaves (send_queue a) (omega arith) (omega arith)
      (λ s l stands.
      let (code, named) = waits_sender a s below l stands in
      left_turned t r s (record { kind = kind; state = code; target = named ∙ sym own }))
      (λ s never.
      left_aside t r s (λ g. omega arith) (λ g. omega arith) (λ g. omega arith) (λ g. omega arith)
      (λ g. never (sender_waits a s g.state (g.target ∙ own))))

  pub turn_leaves : Enters (slots t) a r → Leaves n t r (turn_of t a r)
  unfolding turn_of my_tid my_parent_tid yield
  turn_leaves enters =
      let k = r.kind in
      let known = fine (slots t) a r enters.0 in
      let runs : (j : ℕ) → eqb j event_kind ≡ false → eqb k j ≡ true → a < slots t =
      λ j other e. known.caller (λ ten. omega (arith, eqb-false j event_kind other, eqb-true k j e)) in
      let same : (j : ℕ) → j < exit_kind → eqb k j ≡ true → (s : ℕ) → others_left t r s ≡ task_at t s =
      λ j low e. plain j (eqb-true k j e) (λ z. omega arith) (λ z. omega arith) (λ z. omega arith) (λ z. omega arith) (λ z. omega arith) in
      chosen (Leaves n t r) (eqb k create_kind) (λ e. create_leaves (runs create_kind refl e) (eqb-true k create_kind e) r.arg0)
      (λ n₁. chosen (Leaves n t r) (eqb k my_tid_kind) (λ e. rests (λ s _. same my_tid_kind (omega arith) e s))
      (λ n₂. chosen (Leaves n t r) (eqb k my_parent_tid_kind) (λ e. rests (λ s _. same my_parent_tid_kind (omega arith) e s))
      (λ n₃. chosen (Leaves n t r) (eqb k yield_kind) (λ e. rests (λ s _. same yield_kind (omega arith) e s))
      (λ n₄. chosen (Leaves n t r) (eqb k exit_kind) (λ e. exit_leaves (eqb-true k exit_kind e) (runs exit_kind refl e))
      (λ n₅. chosen (Leaves n t r) (eqb k send_kind) (λ e. send_leaves (runs send_kind refl e) (eqb-true k send_kind e))
      (λ n₆. chosen (Leaves n t r) (eqb k receive_kind) (λ e. receive_leaves (runs receive_kind refl e) (eqb-true k receive_kind e))
      (λ n₇. chosen (Leaves n t r) (eqb k reply_kind) (λ e. reply_leaves (runs reply_kind refl e) (eqb-true k reply_kind e))
      (λ n₈. chosen (Leaves n t r) (eqb k await_event_kind) (λ e. await_leaves (runs await_event_kind refl e) (eqb-true k await_event_kind e) r.arg0)
      (λ n₉.
      let most = known.known.1 in
      let five : exit_kind < k =
      omega (
        arith,
        known.known.0,
        eqb-false k create_kind n₁,
        eqb-false k my_tid_kind n₂,
        eqb-false k my_parent_tid_kind n₃,
        eqb-false k yield_kind n₄,
        eqb-false k exit_kind n₅,
      ) in
      let ten : k ≡ event_kind =
      omega (
        arith,
        eqb-false k send_kind n₆,
        eqb-false k receive_kind n₇,
        eqb-false k reply_kind n₈,
        eqb-false k await_event_kind n₉,
        enters.1,
      ) in
      event_leaves ten (known.event ten))))))))))
