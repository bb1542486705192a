-- What one step is to the server's task, and where the task then stands.
use Prim.Native.Nat.{ℕ, ◌≤◌, ◌<◌}
use mathlib.Core.Path.{◌≡◌, refl, sym, ap, ◌∙◌}
use mathlib.Core.Logic.{◌≢◌}
use mathlib.Core.Bool.{true, false, false≢true}
use mathlib.Core.List.{List}
use native.Mathlib.Omega.{arith}
use lib.ListN.{length, get_or}
use lib.Dec.{ltb, eqb}
use borrow.Author.Tests.{eqb-true, eq-eqb, ne_eqb, ltb-true, lt-ltb, not-false}
use Rattle.queue.proofs.Below.{by_test}
use Rattle.tid.specs.Sizes.{area_bytes}
use Rattle.tid.specs.Tid.{tid_of, slot_named}
use Rattle.tid.proofs.Trips.{tid_named}
use Rattle.task.specs.declared.task.Outcome.{Outcome}
use Rattle.task.specs.declared.task.Outcome.TheVariants.{Nothing, Value, Fault}
use Rattle.task.specs.declared.task.State.TheVariants.{Active}
use Rattle.task.specs.declared.task.Task.{Task}
use Rattle.task.specs.Task.{state_code}
use Rattle.task.proofs.Tests.{chosen}
use Rattle.kernel.specs.declared.table.Table.{Table}
use Rattle.kernel.specs.declared.table.Request.{Request}
use Rattle.kernel.specs.Numbers.{event_kind}
use Rattle.kernel.specs.Table.{slots, task_at, active_slot, used_slots}
use Rattle.kernel.specs.Decide.{active_tid}
use Rattle.rules.specs.Facts.{Good}
use Rattle.kept.proofs.Tasks.{code_at}
use Rattle.kept.proofs.Moves.{slot_used}
use Rattle.laws.specs.View.{is_entry, left, Ends, runs, waits, Stays, Steps}
use Rattle.laws.proofs.Laws.{one_task_sees}
use Rattle.laws.proofs.Sees.{not_caller, steps_good}
use Rattle.server.specs.declared.phase.Phase.{Phase}
use Rattle.server.specs.declared.phase.Phase.TheVariants.{Making, Made, Writing, Replying, Listening}
use Rattle.server.specs.Phase.{place}
use Rattle.server.specs.Service.{Service, Serving, request, asked, value_in, fault_in, told, serving}
use Rattle.served.specs.World.{World, area_of, decided, areas_after, asks_now, state_asked, advanced}
use Rattle.served.proofs.Stands.{goes_on, busy, Waits, ready, listening, Stands, works, rests, wait_code, stand_code}
use Rattle.served.proofs.Meets.{Meets, meets_waits, others_meet, event_meets, asked_meets, asked_busy}

-- the slot of the active tid
pub slot_of_lem : (t : Table) (g : ℕ) → 1 ≤ g → active_tid t ≡ g → (active_slot t < slots t) × (slot_named g ≡ active_slot t)
slot_of_lem t g least tid =
    by_test (ltb (active_slot t) (slots t))
    (λ here. let one : tid_of (active_slot t) ≡ g = rw here at tid in (ltb-true _ _ here, omega arith))
    (λ none. let zero : 0 ≡ g = rw none at tid in absurd (omega arith))

-- an active task is the one that asks
pub active_is : {n : ℕ} {t : Table} → Good n t → (g : ℕ) → 1 ≤ g → (task_at t (slot_named g)).state ≡ Active
    → (slot_named g ≡ active_slot t) × (active_tid t ≡ g)
active_is {n} {t} good g least e =
    let s = slot_named g in
    let used : s < used_slots t = slot_used good.rules (rw e) in
    let mine : s ≡ active_slot t = good.rules.tasks.only_active s (omega (arith, good.rules.tasks.fits)) (rw e) in
    let here : active_slot t < slots t = omega (arith, good.rules.tasks.fits, good.rules.size) in
    (mine, rw (lt-ltb (active_slot t) (slots t) here, ← mine) (tid_named g least))

-- a server that is told what lets it go on does so
told_goes : {M : Type 0} (sv : Service M) (q : Serving M) (o : Outcome) (area : List ℕ) → goes_on q.phase o ≡ true
    → busy (told sv q o area).phase ≡ true
told_goes sv q Nothing area h = h
told_goes sv q (Value from cut v) area h = go q.phase refl h
  where
    go : (p : Phase) → q.phase ≡ p → goes_on p (Value from cut v) ≡ true → busy (value_in sv p q from cut v area).phase ≡ true
    go Making e h = ap busy e
    go Made e h = refl
    go (Writing k) e h = ap busy e
    go (Replying k) e h = ap busy e
    go Listening e h =
        chosen (λ (p : Phase). busy p ≡ true) (eqb (length (sv.hear q.mind from v area).to) 0) (λ _. refl) (λ _. refl)
told_goes sv q (Fault f) area h = go q.phase refl h
  where
    go : (p : Phase) → q.phase ≡ p → goes_on p (Fault f) ≡ true → busy (fault_in sv p q f).phase ≡ true
    go Making e h = ap busy e
    go Made e h = refl
    go (Writing k) e h = ap busy e
    go (Replying k) e h = ap busy e
    go Listening e h = absurd (false≢true h)

-- a step, to the task with tid g
pub data Moves {M : Type 0} (sv : Service M) (g : ℕ) (w : World (Serving M)) (r : Request) : Type 0 where
  enters : is_entry w.table r ≡ true
      → Meets sv.size w.table r (slot_named g) w.state.phase (state_asked (serving sv) g w r).phase
      → Ends (slot_named g) (left w.table r (slot_named g)) (decided w r) → Moves sv g w r
  stays : is_entry w.table r ≡ false → Stays w.table (decided w r) → active_tid w.table ≡ g
      → (task_at w.table (slot_named g)).state ≡ Active → busy (state_asked (serving sv) g w r).phase ≡ true → Moves sv g w r
  passes : is_entry w.table r ≡ false → Stays w.table (decided w r) → active_tid w.table ≢ g
      → Waits sv.size (task_at w.table (slot_named g)) w.state.phase → state_asked (serving sv) g w r ≡ w.state → Moves sv g w r

module _ {M : Type 0} (sv : Service M) (room : sv.size ≤ area_bytes) {n g : ℕ} (least : 1 ≤ g) (w : World (Serving M)) (r : Request)
    (steps : Steps n w.table w.areas) (obeys : asks_now g w r ≡ true → r ≡ request sv w.state) where
  abbrev t : Table
  t = w.table

  abbrev s : ℕ
  s = slot_named g

  abbrev q : Serving M
  q = w.state

  good : Good n t
  good = steps_good steps

  abbrev q' : Serving M
  q' = state_asked (serving sv) g w r

  used : Stands sv.size (task_at t s) q.phase → s < used_slots t
  used stands = slot_used good.rules (lt-ltb 0 (code_at t s) (stand_code stands))

  active_moves : (task_at t s).state ≡ Active → busy q.phase ≡ true → s < used_slots t → Moves sv g w r
  active_moves e b here =
      let low : s < n = omega (arith, good.rules.tasks.fits) in
      let (mine, tid) = active_is good g least e in
      let sees = one_task_sees n t r w.areas s steps here in
      let k = place q.phase in
      by_test (asks_now g w r)
      (λ asks.
      let same = obeys asks in
      let after : q' ≡ asked sv q = rw asks in
      by_test (is_entry t r)
      (λ entry. enters entry
      (rw after (asked_meets good sv.size room s mine low e q.phase q.priority (length q.to) (get_or q.answer k 0) (get_or q.to k 0) b same entry))
      (sees.0 entry))
      (λ none. stays none (sees.1 none) tid e
      (rw after (asked_busy good sv.size room s mine low e q.phase q.priority (length q.to) (get_or q.answer k 0) (get_or q.to k 0) b same none))))
      (λ still.
      let event : r.kind ≡ event_kind = eqb-true r.kind event_kind (not-false _ (rw (eq-eqb (active_tid t) g tid) at still)) in
      let after : q' ≡ q = rw still in
      by_test (is_entry t r)
      (λ entry. enters entry (rw after (event_meets good sv.size room s mine low e r q.phase event b)) (sees.0 entry))
      (λ none. stays none (sees.1 none) tid e (rw after b)))

  waiting_moves : Waits sv.size (task_at t s) q.phase → s < used_slots t → Moves sv g w r
  waiting_moves idle here =
      let other : s ≢ active_slot t = not_caller good s here (λ one. omega (arith, wait_code idle)) in
      let unnamed : active_tid t ≢ g = λ tid. other (slot_of_lem t g least tid).1 in
      let after : q' ≡ q = rw (ne_eqb (active_tid t) g unnamed) in
      let sees = one_task_sees n t r w.areas s steps here in
      by_test (is_entry t r)
      (λ entry. enters entry (rw after (others_meet good r s other entry idle)) (sees.0 entry))
      (λ none. passes none (sees.1 none) unnamed idle after)

  pub step_moves : Stands sv.size (task_at t s) q.phase → Moves sv g w r
  step_moves (works e b) = active_moves e b (used (works e b))
  step_moves (rests idle) = waiting_moves idle (used (rests idle))

-- WHERE IT THEN STANDS

module _ {M : Type 0} (sv : Service M) {g : ℕ} (least : 1 ≤ g) (w : World (Serving M)) (r : Request) where
  abbrev Then : Serving M → Type 0
  Then q = Stands sv.size (task_at (decided w r).table (slot_named g)) q.phase

  pub moves_stand : Moves sv g w r → Then (advanced (serving sv) g w r).state
  unfolding advanced
  moves_stand (enters entry meets ends) = go (meets_waits meets) ends
    where
      go : {x : Task} → Waits sv.size x (state_asked (serving sv) g w r).phase → Ends (slot_named g) x (decided w r)
          → Then (advanced (serving sv) g w r).state
      go {x} (ready e b) (runs now next result task) =
          rw (eq-eqb _ g (next ∙ tid_named g least), task, result) (works refl (told_goes sv (state_asked (serving sv) g w r) x.result (area_of g (areas_after w r)) b))
      go (listening e l) (runs now next result task) =
          let z : ◌≡◌ {A = ℕ} 3 2 = sym (ap state_code e) ∙ ap state_code now in absurd (omega arith)
      go idle (waits next task) = rw (ne_eqb _ g (λ e. next (e ∙ sym (tid_named g least))), task) (rests idle)
  moves_stand (stays none same tid e b) =
      rw (eq-eqb _ g (same.next ∙ tid), same.table, same.result) (works e b)
  moves_stand (passes none same tid idle after) =
      rw (ne_eqb _ g (λ e. tid (sym same.next ∙ e)), same.table, after) (rests idle)
