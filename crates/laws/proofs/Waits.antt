-- Waiting for an event: the edition stays, where many wait nobody who asks is told that the event is taken, and an event wakes all in their order.
use Prim.Native.Nat.{ℕ, ◌≤◌, ◌<◌}
use mathlib.Core.Path.{◌≡◌, refl, ap, ◌∙◌}
use mathlib.Core.Bool.{true}
use mathlib.Core.List.{List, [], ◌∷◌, ◌++◌, append-nil}
use native.Mathlib.Omega.{arith}
use native.Mathlib.Decide.{dec_lt}
use lib.ListN.{length}
use lib.Seq.{get_or-set_same, get_or-set_other}
use lib.Dec.{ltb}
use borrow.Author.Tests.{ltb-true, lt-ltb, le-ltb, lt-leb}
use Rattle.tid.specs.Sizes.{priorities, events}
use Rattle.tid.specs.Tid.{mark_of}
use Rattle.queue.specs.Numbering.{event_queue}
use Rattle.queue.specs.Row.{members, count, emptied, pushed_row}
use Rattle.queue.specs.Rows.{no_row}
use Rattle.queue.proofs.Rules.{room}
use Rattle.queue.proofs.Turns.{pushed_members}
use Rattle.task.specs.declared.task.Outcome.TheVariants.{Nothing}
use Rattle.task.specs.declared.task.State.TheVariants.{Ready, EventBlocked}
use Rattle.task.specs.declared.task.Task.{Task}
use Rattle.task.specs.Task.{state_code}
use Rattle.task.proofs.Tests.{chosen}
use Rattle.kernel.specs.declared.table.Table.{Table}
use Rattle.kernel.specs.declared.table.Request.{Request}
use Rattle.kernel.specs.declared.table.Effect.{Effect}
use Rattle.kernel.specs.declared.table.Effect.TheVariants.{Keep}
use Rattle.kernel.specs.declared.table.Turn.{Turn}
use Rattle.kernel.specs.declared.table.Decision.{Decision}
use Rattle.kernel.specs.Edition.{many_wait}
use Rattle.kernel.specs.Numbers.{await_event_kind, event_kind}
use Rattle.kernel.specs.Table.{slots, task_at, queue_at, with_queue, active_slot, used_slots}
use Rattle.kernel.specs.Moves.{queued, woken_row, first_ready, activated, dispatched}
use Rattle.kernel.specs.Turn.{stops, settled}
use Rattle.kernel.specs.Kinds.{signal, await_event, event}
use Rattle.kernel.specs.Decide.{turn_of}
use Rattle.kernel.proofs.Refusals.{fine}
use Rattle.rules.specs.Facts.{Good}
use Rattle.kept.proofs.Edition.{decide_edition}
use Rattle.kept.proofs.Tasks.{code_at, same_code, free, signal_good}
use Rattle.kept.proofs.Moves.{slot_used}
use Rattle.kept.proofs.Woken.{wakes_none}
use Rattle.kept.proofs.Entries.{rejoined_ready, rejoined_stops, rejoined_none}
use Rattle.step.specs.Step.{step, after}
use Rattle.step.specs.Run.{run}
use Rattle.step.specs.Every.{Every, none, more}
use Rattle.step.proofs.Steps.{step_is}
use Rattle.laws.specs.Order.{TakesTurns}
use Rattle.laws.specs.View.{is_entry, others_left, left, Ends, runs, waits, Steps}
use Rattle.laws.specs.Waits.{WaitsLast, left_by_event, interrupted}
use Rattle.laws.proofs.Effects.{slots_woken}
use Rattle.laws.proofs.Landing.{active_code}
use Rattle.laws.proofs.Sees.{left_own, enters, steps_good, step_entry, step_sees}
use Rattle.laws.proofs.Order.{one_joins_last, queue_woken, queue_aside, queue_priority, queue_joins, takes_turns}

-- THE EDITION STAYS

pub step_keeps : (t : Table) (r : Request) (len : ℕ) → (step t r len).table.edition ≡ t.edition
step_keeps t r len = step_is t r len (λ d. d.table.edition ≡ t.edition) refl refl (λ _. refl) (λ _. decide_edition t r)

pub run_edition : (rs : List Request) (t : Table) (xs : List ℕ) {ed : ℕ} → t.edition ≡ ed
    → Every (λ s. s.decision.table.edition ≡ ed) (run t xs rs)
unfolding run
run_edition [] t xs known = none
run_edition (r ∷ rs) t xs known =
    let d = step t r (length xs) in
    let next = step_keeps t r (length xs) ∙ known in
    more next (run_edition rs d.table (after d.effect xs) next)

-- WHERE MANY WAIT, EVERYBODY MAY

-- the choice of the next task changes ready queues only
dispatched_row : (e : Effect) (x : Table) (k : ℕ) → priorities ≤ k → queue_at (dispatched e x).table k ≡ queue_at x k
unfolding dispatched activated
dispatched_row e x k other =
    let p = first_ready x in
    chosen (λ (d : Decision). queue_at d.table k ≡ queue_at x k) (ltb p priorities)
    (λ found. get_or-set_other x.queues p k _ no_row (λ same. omega (arith, ltb-true p priorities found)))
    (λ _. refl)

-- the caller stands behind those who wait already
joins_last : {n : ℕ} {t : Table} → Good n t → active_slot t < slots t → (e : ℕ) → e < events → let a = active_slot t in let k = event_queue e in
    members (queue_at (settled a (stops (queued t k (mark_of a)) (EventBlocked e))).table k) ≡ members (queue_at t k) ++ mark_of a ∷ []
unfolding settled queued
joins_last {n} {t} good here e low =
    let f = good.rules in
    let a = active_slot t in
    let k = event_queue e in
    let x = queued t k (mark_of a) in
    let inside : k < length t.queues = omega (arith, f.lined.shaped.count) in
    let nowhere = (free n (task_at t a) (rw (active_code t here))).nowhere in
    let fits = room f.lined.holds k inside a (omega (arith, f.size)) (λ own. omega (arith, nowhere)) in
    rw (wakes_none x Nothing, rejoined_stops x a (EventBlocked e) Nothing here refl, dispatched_row Keep _ k (omega arith))
    (rw (get_or-set_same t.queues k (pushed_row (queue_at t k) (mark_of a)) no_row inside)
    (pushed_members (queue_at t k) (mark_of a) (omega (arith, f.lined.shaped.places k (omega arith)))))

ends_blocked : {s e : ℕ} {x : Task} {d : Decision} → Ends s x d → x.state ≡ EventBlocked e → (task_at d.table s).state ≡ EventBlocked e
ends_blocked (runs ready next result task) blocked = absurd (omega (arith, ap state_code ready, ap state_code blocked))
ends_blocked (waits next task) blocked = ap (λ (x : Task). x.state) task ∙ blocked

-- no fault is left for an event that there is
turn_waits : (t : Table) (c : ℕ) (r : Request) → t.edition ≡ many_wait → r.kind ≡ await_event_kind → r.arg0 < events
    → turn_of t c r ≡ stops (queued t (event_queue r.arg0) (mark_of c)) (EventBlocked r.arg0)
unfolding turn_of await_event
turn_waits t c r many kind low = rw (kind, many, lt-leb events r.arg0 low)

pub many_wait_lem : {n : ℕ} {t : Table} {xs : List ℕ} → Steps n t xs → t.edition ≡ many_wait → (r : Request) → is_entry t r ≡ true
    → r.kind ≡ await_event_kind → r.arg0 < events → WaitsLast t r.arg0 (step t r (length xs))
many_wait_lem {n} {t} steps many r entry kind low =
    let good = steps_good steps in
    let a = active_slot t in
    let here : a < slots t = (fine (slots t) a r (enters t r entry).0).caller (λ e. omega arith) in
    let l : a < used_slots t = slot_used good.rules (rw (active_code t here)) in
    let turn = turn_waits t a r many kind low in
    record {
      waits = ends_blocked (step_sees steps r entry a l) (ap (λ (x : Task). x.state) (left_own t r) ∙ ap (λ (u : Turn). u.state) turn);
      last = rw (step_entry steps r entry, turn) (joins_last good here r.arg0 low);
    }

-- AN EVENT WAKES ALL

-- of all that an entry may leave, an event leaves this
pub event_left : (t : Table) (r : Request) (s : ℕ) → r.kind ≡ event_kind → left t r s ≡ left_by_event t r.arg0 r.arg1 s
unfolding left left_by_event others_left turn_of event
event_left t r s kind = rw kind

-- the queue of the event is woken whole, and then the interrupted task, if there is one, is woken alone
event_turns : {n : ℕ} {t : Table} → Good n t → (e word : ℕ) → e < events
    → TakesTurns t (members (queue_at t (event_queue e)) ++ interrupted t) (settled (active_slot t) (event t e word))
unfolding event settled
event_turns {n} {t} good e word low =
    let f = good.rules in
    let a = active_slot t in
    let k = event_queue e in
    let q = queue_at t k in
    let o = signal word in
    let tells = signal_good (used_slots t) word in
    let x = woken_row (with_queue t k (emptied q)) q o in
    let size : slots x ≡ slots t = slots_woken _ q o (count q) in
    let waiters = queue_joins f k (omega arith) (omega arith) o tells in
    elim (dec_lt a (slots t)) [
      | yes here ↦
          let runs = active_code t here in
          let still : code_at x a ≡ 1 = same_code (queue_aside f k (omega arith) (omega arith) o tells a (rw runs)) runs in
          rw (lt-ltb a (slots t) here, rejoined_ready x a Nothing (omega arith))
          (takes_turns _ (one_joins_last (queue_woken f k (omega arith) (omega arith) o tells) a (rw still) Nothing refl
          (queue_priority f k (omega arith) (omega arith) o tells) waiters) Keep)
      | no ge ↦
          rw (le-ltb a (slots t) (omega arith), rejoined_none x a Ready Nothing (omega arith), append-nil) (takes_turns x waiters Keep)
    ]

pub event_order : {n : ℕ} {t : Table} {xs : List ℕ} → Steps n t xs → (r : Request) → is_entry t r ≡ true → r.kind ≡ event_kind
    → TakesTurns t (members (queue_at t (event_queue r.arg0)) ++ interrupted t) (step t r (length xs))
unfolding turn_of
event_order {n} {t} steps r entry kind =
    let low : r.arg0 < events = (fine (slots t) (active_slot t) r (enters t r entry).0).event kind in
    rw (step_entry steps r entry, kind) (event_turns (steps_good steps) r.arg0 r.arg1 low)
