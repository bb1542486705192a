-- A step as one task sees it: an entry leaves its record as `left` says, and then it runs or it does not.
use Prim.Native.Nat.{ℕ, ◌≤◌, ◌<◌}
use mathlib.Core.Path.{◌≡◌, refl, sym, ap, subst, ◌∙◌}
use mathlib.Core.Logic.{◌≢◌}
use mathlib.Core.Bool.{true, false, false≢true}
use mathlib.Core.List.{List}
use native.Mathlib.Omega.{arith}
use native.Mathlib.Decide.{ℕ_discrete, dec_lt}
use lib.ListN.{length, get_or-eq_default}
use lib.Dec.{ltb, eqb}
use borrow.Author.Tests.{eqb-true, eqb-false, eq-eqb, ne_eqb, ltb-false, lt-ltb, not-true}
use Rattle.queue.specs.Row.{place_at, count}
use Rattle.queue.proofs.Below.{both_true, true_both}
use Rattle.tid.specs.Tid.{slot_of}
use Rattle.tid.proofs.Trips.{slot_of_mark}
use Rattle.task.specs.declared.task.Outcome.{Outcome}
use Rattle.task.specs.declared.task.Outcome.TheVariants.{Nothing}
use Rattle.task.specs.declared.task.State.{State}
use Rattle.task.specs.declared.task.State.TheVariants.{Unused, Active, Ready, SendBlocked, ReceiveBlocked, ReplyBlocked, EventBlocked, Exited}
use Rattle.task.specs.declared.task.Task.{Task}
use Rattle.task.specs.Task.{no_task, is_ready, task_as}
use Rattle.task.proofs.Tests.{chosen, clash}
use Rattle.kernel.specs.declared.table.Table.{Table}
use Rattle.kernel.specs.declared.table.Request.{Request}
use Rattle.kernel.specs.declared.table.Turn.{Turn}
use Rattle.kernel.specs.declared.table.Decision.{Decision}
use Rattle.kernel.specs.Numbers.{own_write_kind, accepted}
use Rattle.kernel.specs.Table.{slots, task_at, active_slot, used_slots}
use Rattle.kernel.specs.Moves.{woken_row, rejoined}
use Rattle.kernel.specs.Turn.{settled}
use Rattle.kernel.specs.Refusal.{refusal_of, Enters}
use Rattle.kernel.specs.Decide.{turn_of, own_write, decide_at, decide}
use Rattle.kernel.proofs.Refusals.{fine}
use Rattle.rules.specs.Facts.{Good}
use Rattle.rules.proofs.Good.{good_facts, facts_good, good_shaped}
use Rattle.kept.proofs.Tasks.{code_at}
use Rattle.kept.proofs.Moves.{slot_used, ready_head}
use Rattle.step.specs.Step.{step, after}
use Rattle.step.proofs.Steps.{step_decides}
use Rattle.laws.specs.View.{is_entry, others_left, left, Ends, runs, waits, Stays, Steps}
use Rattle.laws.proofs.Effects.{slots_woken, slots_rejoined}
use Rattle.laws.proofs.SameRuns.{length_after}
use Rattle.laws.proofs.Steps.{step_sound}
use Rattle.laws.proofs.Landing.{active_code}
use Rattle.laws.proofs.View.{Heads, IsReady, heads_woken, heads_rejoined, row_seen, rejoined_here, rejoined_other, dispatch_seen, AllTold, dispatch_tells}
use Rattle.laws.proofs.Concerns.{fails, left_alone}
use Rattle.laws.proofs.Turns.{New, none_new, Leaves, turn_leaves}

pub is_ready_lem : (x : State) → is_ready x ≡ true → x ≡ Ready
is_ready_lem Unused e = absurd (false≢true e)
is_ready_lem Active e = absurd (false≢true e)
is_ready_lem Ready e = refl
is_ready_lem (SendBlocked b) e = absurd (false≢true e)
is_ready_lem (ReceiveBlocked g m r) e = absurd (false≢true e)
is_ready_lem (ReplyBlocked r) e = absurd (false≢true e)
is_ready_lem (EventBlocked k) e = absurd (false≢true e)
is_ready_lem Exited e = absurd (false≢true e)

-- a task that is not active is not the caller
pub not_caller : {n : ℕ} {t : Table} → Good n t → (s : ℕ) → s < used_slots t → code_at t s ≢ 1 → s ≢ active_slot t
not_caller {n} {t} good s l other same =
    let here : active_slot t < slots t = omega (arith, good.rules.tasks.fits, good.rules.size) in
    other (ap (code_at t) same ∙ active_code t here)

pub left_other : (t : Table) (r : Request) (s : ℕ) → s ≢ active_slot t → left t r s ≡ others_left t r s
unfolding left
left_other t r s other = rw (ne_eqb s (active_slot t) other)

pub left_own : (t : Table) (r : Request) → let a = active_slot t in let u = turn_of t a r in left t r a ≡ task_as u.state u.result (task_at t a)
unfolding left
left_own t r = rw (eq-eqb (active_slot t) (active_slot t) refl)

module _ {n : ℕ} {t : Table} (good : Good n t) (r : Request) (enters : Enters (slots t) (active_slot t) r) where
  abbrev a : ℕ
  a = active_slot t

  abbrev u : Turn
  u = turn_of t a r

  -- once those who are to be woken are, and once the caller is left too
  abbrev woke : Table
  woke = woken_row u.table u.woken u.told

  abbrev ended : Table
  ended = rejoined woke a u.state u.result

  leaves : Leaves n t r u
  leaves = turn_leaves good r enters

  woke_size : slots woke ≡ slots t
  woke_size = slots_woken u.table u.woken u.told (count u.woken) ∙ leaves.size

  woke_own : a < slots t → task_at woke a ≡ task_at t a
  woke_own here =
      row_seen u.table u.told a leaves.row (leaves.size ∙ good.rules.size) (omega (arith, good.rules.size))
      ∙ rw (fails (λ e. leaves.out a e refl)) leaves.own

  ended_own : a < slots t → task_at ended a ≡ task_as u.state u.result (task_at t a)
  ended_own here = rejoined_here woke a u.state u.result (omega (arith, woke_size)) ∙ ap (task_as u.state u.result) (woke_own here)

  ended_left : (s : ℕ) → s < used_slots t → task_at ended s ≡ left t r s
  ended_left s l =
      let below : s < n = omega (arith, good.rules.tasks.fits) in
      elim (ℕ_discrete s a) [
        | yes same ↦ rw same (ended_own (omega (arith, good.rules.size)) ∙ sym (left_own t r))
        | no other ↦
            rejoined_other woke a u.state u.result s other
            ∙ row_seen u.table u.told s leaves.row (leaves.size ∙ good.rules.size) below
            ∙ leaves.others s l other ∙ sym (left_other t r s other)
      ]

  -- who was ready is so still
  still_ready : (s : ℕ) → code_at t s ≡ 2 → (task_at ended s).state ≡ Ready
  still_ready s code =
      let l : s < used_slots t = slot_used good.rules (rw code) in
      let same : task_at ended s ≡ task_at t s =
      ended_left s l ∙ left_other t r s (not_caller good s l (λ e. omega arith))
      ∙ left_alone good r s enters (λ e. omega arith) (λ e. omega arith) (λ e _. omega arith) (λ e. omega arith) in
      ap (λ (x : Task). x.state) same ∙ is_ready_lem (task_at t s).state (rw code)

  -- who is woken is ready
  woken_ready : (p : ℕ) → p < count u.woken → IsReady ended (place_at u.woken p)
  woken_ready p h =
      let x = slot_of (place_at u.woken p) in
      let inside = leaves.row.mark p (omega arith) in
      let own = leaves.row.belongs p (omega arith) in
      let here : task_at ended x ≡ task_as Ready u.told (task_at u.table x) =
      rejoined_other woke a u.state u.result x (leaves.out x own)
      ∙ row_seen u.table u.told x leaves.row (leaves.size ∙ good.rules.size) (omega arith) ∙ rw own in
      ap (λ (x : Task). x.state) here

  ended_heads : Heads (IsReady ended) ended
  ended_heads =
      heads_rejoined (IsReady ended) woke a u.state u.result
      (heads_woken (IsReady ended) u.table u.woken u.told
      (λ p low. rw (leaves.queues p low) (λ some. still_ready _ (ready_head good.rules p low some)))
      woken_ready)
      (λ here ready.
      rw (slot_of_mark a) (ap (λ (x : Task). x.state) (ended_own (omega (arith, woke_size))) ∙ is_ready_lem u.state ready))

  ended_seen : (s : ℕ) → s < n → Ends s (task_at ended s) (settled a u)
  unfolding settled
  ended_seen s below =
      let size = slots_rejoined woke a u.state u.result in
      dispatch_seen s u.effect ended (omega (arith, woke_size, good.rules.size)) ended_heads

  pub entry_sees : (s : ℕ) → s < used_slots t → Ends s (left t r s) (settled a u)
  entry_sees s l = subst (λ (x : Task). Ends s x (settled a u)) (ended_left s l) (ended_seen s (omega (arith, good.rules.tasks.fits)))

  -- a slot that was not used holds nothing, or the task that is made
  ended_unused : (s : ℕ) → used_slots t ≤ s → New r (task_at ended s)
  ended_unused s past =
      let size : slots ended ≡ n = slots_rejoined woke a u.state u.result ∙ woke_size ∙ good.rules.size in
      elim (dec_lt s n) [
        | yes below ↦
            let used : a < slots t → a < used_slots t = λ here. slot_used good.rules (rw (active_code t here)) in
            let other : s ≢ a = λ e. omega (arith, used (omega (arith, good.rules.size))) in
            subst (New r)
            (sym (rejoined_other woke a u.state u.result s other
            ∙ row_seen u.table u.told s leaves.row (leaves.size ∙ good.rules.size) below))
            (leaves.unused s past)
        | no out ↦
            let outside : slots ended ≤ s = omega arith in
            rw (get_or-eq_default ended.tasks no_task outside) (none_new r)
      ]

  pub entry_makes : (s : ℕ) → used_slots t ≤ s → s < n → New r (task_at (settled a u).table s)
  entry_makes s past below = go (ended_seen s below) (ended_unused s past)
    where
      -- a task that is made may run at once
      go : {x : Task} {d : Decision} → Ends s x d → New r x → New r (task_at d.table s)
      go (runs ready next result task) new =
          rw task (record { result = refl; entry = rw ready at new.entry; by = λ _. new.by (rw ready) })
      go (waits next task) new = rw task new

  -- what holds of nothing, and of the result that each used task is left with, holds of all that an entry tells
  pub entry_tells : (P : ℕ → Outcome → Type 0) → ((s : ℕ) → P s Nothing) → ((s : ℕ) → s < used_slots t → P s (left t r s).result)
      → AllTold P (settled a u)
  unfolding settled
  entry_tells P none used =
      dispatch_tells P none u.effect ended
      (λ s. elim (dec_lt s (used_slots t)) [
        | yes l ↦ rw (ended_left s l) (used s l)
        | no past ↦ rw (ended_unused s (omega arith)).result (none s)
      ])

-- WHICH STEPS ARE ENTRIES

module _ (t : Table) (r : Request) where
  pub enters : is_entry t r ≡ true → Enters (slots t) (active_slot t) r
  enters h =
      let both = both_true _ _ h in
      (eqb-true (refusal_of (slots t) (active_slot t) r) accepted both.0, eqb-false r.kind own_write_kind (not-true _ both.1))

  pub decide_entry : Enters (slots t) (active_slot t) r → decide t r ≡ settled (active_slot t) (turn_of t (active_slot t) r)
  unfolding decide decide_at
  decide_entry e = rw (e.0, ne_eqb r.kind own_write_kind e.1)

  pub decide_stays : is_entry t r ≡ false → Stays t (decide t r)
  unfolding decide decide_at own_write
  decide_stays h =
      let a = active_slot t in
      let v = refusal_of (slots t) a r in
      chosen (Stays t) (ltb accepted v) (λ _. record { table = refl; next = refl; result = refl })
      (λ none.
      let clear : v ≡ accepted = omega (arith, ltb-false accepted v none) in
      chosen (Stays t) (eqb r.kind own_write_kind)
      (λ own.
      let here = (fine (slots t) a r clear).caller (λ ten. omega (arith, eqb-true r.kind own_write_kind own)) in
      record { table = refl; next = sym (rw (lt-ltb a (slots t) here)); result = refl })
      (λ other. clash (true_both (eq-eqb v accepted clear) (rw other)) h))

-- A STEP OF A GOOD TABLE

pub steps_good : {n : ℕ} {t : Table} {xs : List ℕ} → Steps n t xs → Good n t
steps_good {n} {t} steps = good_facts n t steps.shaped steps.good

module _ {n : ℕ} {t : Table} {xs : List ℕ} (steps : Steps n t xs) (r : Request) where
  decides : step t r (length xs) ≡ decide t r
  decides = step_decides t r (length xs) (steps_good steps) steps.size

  pub step_entry : is_entry t r ≡ true → step t r (length xs) ≡ settled (active_slot t) (turn_of t (active_slot t) r)
  step_entry e = decides ∙ decide_entry t r (enters t r e)

  pub step_sees : is_entry t r ≡ true → (s : ℕ) → s < used_slots t → Ends s (left t r s) (step t r (length xs))
  step_sees e s l = rw (step_entry e) (entry_sees (steps_good steps) r (enters t r e) s l)

  pub step_stays : is_entry t r ≡ false → Stays t (step t r (length xs))
  step_stays e = rw decides (decide_stays t r e)

-- the next step is one of a good table too
pub steps_next : {n : ℕ} {t : Table} {xs : List ℕ} → Steps n t xs → (r : Request) → let d = step t r (length xs) in
    Steps n d.table (after d.effect xs)
steps_next {n} {t} {xs} steps r =
    let d = step t r (length xs) in
    let next = (step_sound steps.small t r (length xs) (steps_good steps)).good in
    record { small = steps.small; shaped = good_shaped next; good = facts_good n d.table next; size = length_after d.effect xs ∙ steps.size }
