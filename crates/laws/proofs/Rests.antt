-- What stays while a task does not run: the result and the area of one that is ready, the record of one that waits for a reply.
use Prim.Native.Nat.{ℕ, ◌+◌, ◌<◌}
use mathlib.Core.Path.{◌≡◌, refl, sym, ap, ◌∙◌}
use mathlib.Core.Logic.{◌≢◌}
use mathlib.Core.Bool.{true}
use mathlib.Core.List.{List, [], ◌∷◌}
use native.Mathlib.Omega.{arith}
use lib.ListN.{length}
use lib.Dec.{ltb, eqb}
use Rattle.queue.proofs.Below.{by_test}
use Rattle.tid.specs.Sizes.{area_bytes}
use Rattle.tid.specs.Tid.{tid_of, slot_named}
use Rattle.tid.proofs.Trips.{slot_of_mark}
use Rattle.task.specs.declared.task.Buffer.{Buffer}
use Rattle.task.specs.declared.task.State.TheVariants.{Ready, ReplyBlocked}
use Rattle.task.specs.declared.task.Task.{Task}
use Rattle.task.specs.Task.{state_code}
use Rattle.task.proofs.Tests.{chosen}
use Rattle.kernel.specs.declared.table.Table.{Table}
use Rattle.kernel.specs.declared.table.Request.{Request}
use Rattle.kernel.specs.declared.table.Effect.{Effect}
use Rattle.kernel.specs.declared.table.Effect.TheVariants.{Keep, Copy, Put}
use Rattle.kernel.specs.declared.table.Decision.{Decision}
use Rattle.kernel.specs.Numbers.{send_kind, receive_kind, reply_kind}
use Rattle.kernel.specs.Table.{slots, task_at, active_slot, used_slots}
use Rattle.kernel.specs.Kinds.{place_in}
use Rattle.kernel.specs.Decide.{active_tid}
use Rattle.rules.specs.Facts.{Good}
use Rattle.kept.proofs.Tasks.{code_at}
use Rattle.kept.proofs.Moves.{slot_used}
use Rattle.step.specs.Step.{step, after}
use Rattle.step.specs.Run.{run, last_of, table_after}
use Rattle.step.specs.Every.{more}
use Rattle.laws.specs.Parties.{Parties, parties, Lands}
use Rattle.laws.specs.View.{is_entry, left, Ends, runs, waits, Steps, bytes_at, Gets, holds, NoReplyTo}
use Rattle.laws.proofs.Landing.{step_lands}
use Rattle.laws.proofs.Concerns.{left_alone}
use Rattle.laws.proofs.Sees.{not_caller, left_other, enters, steps_good, step_sees, step_stays, steps_next}
use Rattle.laws.proofs.Areas.{Spares, part_spared, copy_writes, put_writes}
use Rattle.laws.proofs.Reach.{ends_gets}

-- only the active task is shown as active
pub active_not : (t : Table) (s : ℕ) → s ≢ active_slot t → active_tid t ≢ tid_of s
active_not t s other =
    chosen (λ (g : ℕ). g ≢ tid_of s) (ltb (active_slot t) (slots t)) (λ _ e. other (omega arith)) (λ _ e. omega arith)

-- one who is ready
module _ {n : ℕ} {t : Table} {xs : List ℕ} (steps : Steps n t xs) (r : Request) (s : ℕ) (ready : (task_at t s).state ≡ Ready) where
  abbrev d : Decision
  d = step t r (length xs)

  good : Good n t
  good = steps_good steps

  code : code_at t s ≡ 2
  code = ap state_code ready

  used : s < used_slots t
  used = slot_used good.rules (rw code)

  other : s ≢ active_slot t
  other = not_caller good s used (λ e. omega (arith, code))

  unconcerned : is_entry t r ≡ true → left t r s ≡ task_at t s
  unconcerned e =
      left_other t r s other
      ∙ left_alone good r s (enters t r e) (λ e. omega (arith, code)) (λ e. omega (arith, code)) (λ e _. omega (arith, code)) (λ e. omega (arith, code))

  pub ready_gets : Gets s (task_at t s).result d
  ready_gets =
      by_test (is_entry t r)
      (λ e. ends_gets (rw (unconcerned e) at (step_sees steps r e s used)) ready)
      (λ e. let same = step_stays steps r e in holds (rw same.table ready) (rw same.table))

  -- it lends no buffer
  narrow : (parties t r).taker ≡ tid_of s → (parties t r).taken.len ≡ 0
  narrow =
      let Narrow : Parties → Type 0 = λ p. p.taker ≡ tid_of s → p.taken.len ≡ 0 in
      let slot : r.arg0 ≡ tid_of s → slot_named r.arg0 ≡ s = λ q. ap slot_named q ∙ slot_of_mark s in
      chosen Narrow (eqb r.kind send_kind) (λ _ q. rw (slot q, ready))
      (λ _. chosen Narrow (eqb r.kind receive_kind) (λ _ q. absurd (active_not t s other q)) (λ _ q. rw (slot q, ready)))

  spares : (f : Effect) → Lands t r f → (i : ℕ) → i < area_bytes → Spares f (place_in s 0 + i)
  spares Keep lands i low = tt
  spares (Copy source dest m cut) lands i low =
      λ j h e. let inside = copy_writes lands s i j low h (omega arith) in omega (arith, narrow inside.taker)
  spares (Put at byte) lands i low = λ e. active_not t s other (put_writes lands s i low (omega arith))

  pub ready_bytes : bytes_at s 0 area_bytes (after d.effect xs) ≡ bytes_at s 0 area_bytes xs
  ready_bytes =
      part_spared d.effect xs (place_in s 0) area_bytes (omega (arith, steps.size, used, good.rules.tasks.fits))
      (spares d.effect (step_lands good r (length xs)))

-- one who waits for a reply
module _ {n : ℕ} {t : Table} {xs : List ℕ} (steps : Steps n t xs) (r : Request) (s : ℕ) (b : Buffer) (blocked : (task_at t s).state ≡ ReplyBlocked b) where
  pub blocked_stays : (r.kind ≡ reply_kind → r.arg0 ≡ tid_of s → ⊥) → task_at (step t r (length xs)).table s ≡ task_at t s
  blocked_stays never =
      let good = steps_good steps in
      let code : code_at t s ≡ 5 = ap state_code blocked in
      let l : s < used_slots t = slot_used good.rules (rw code) in
      by_test (is_entry t r)
      (λ e.
      let same : left t r s ≡ task_at t s =
      left_other t r s (not_caller good s l (λ e. omega arith))
      ∙ left_alone good r s (enters t r e) (λ e. omega arith) (λ e. omega arith) (λ _ f. never f.kind f.named) (λ e. omega arith) in
      still code (rw same at (step_sees steps r e s l)))
      (λ e. rw (step_stays steps r e).table)
    where
      still : {x : Task} {d : Decision} → state_code x.state ≡ 5 → Ends s x d → task_at d.table s ≡ x
      still code (runs ready next result task) = let z : ◌≡◌ {A = ℕ} 2 5 = sym (ap state_code ready) ∙ code in absurd (omega arith)
      still code (waits next task) = task

-- along a run in which no Reply names it
pub run_stays : {n : ℕ} (rs : List Request) (t : Table) (xs : List ℕ) (s : ℕ) (b : Buffer) → Steps n t xs → (task_at t s).state ≡ ReplyBlocked b
    → NoReplyTo (tid_of s) (run t xs rs) → task_at (table_after t (run t xs rs)) s ≡ task_at t s
unfolding run last_of
run_stays [] t xs s b steps blocked never = refl
run_stays (r ∷ rs) t xs s b steps blocked (more first rest) =
    let d = step t r (length xs) in
    let same = blocked_stays steps r s b blocked first in
    run_stays rs d.table (after d.effect xs) s b (steps_next steps r) (ap (λ (x : Task). x.state) same ∙ blocked) rest ∙ same
