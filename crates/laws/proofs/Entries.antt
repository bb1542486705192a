-- Entry numbers stay: the first law of specs/Entries.
use Prim.Native.Nat.{ℕ, ◌≤◌, ◌<◌}
use mathlib.Core.Path.{◌≡◌, refl, sym, ap, ◌∙◌}
use mathlib.Core.Bool.{Bool, true, false, not, ◌&&◌}
use native.Mathlib.Omega.{arith}
use native.Mathlib.Decide.{dec_lt}
use lib.ListN.{get_or-eq_default}
use Rattle.task.specs.declared.task.Task.{Task}
use Rattle.task.specs.Task.{no_task, is_used}
use Rattle.task.proofs.Tests.{clash}
use Rattle.kernel.specs.declared.table.Table.{Table}
use Rattle.kernel.specs.declared.table.Request.{Request}
use Rattle.kernel.specs.declared.table.Decision.{Decision}
use Rattle.kernel.specs.Table.{slots, task_at, active_slot, used_slots}
use Rattle.kernel.specs.Refusal.{Enters}
use Rattle.kernel.specs.Turn.{settled}
use Rattle.kernel.specs.Decide.{turn_of, own_write}
use Rattle.rules.specs.Facts.{Good}
use Rattle.rules.proofs.Good.{good_facts}
use Rattle.step.specs.Step.{step}
use Rattle.laws.specs.View.{others_left, left, Ends, runs, waits}
use Rattle.laws.specs.Entries.{Keeps, EntriesStay}
use Rattle.kept.proofs.Choices.{through, choose_same}
use Rattle.laws.proofs.Effects.{step_cases, slots_step}
use Rattle.laws.proofs.Turns.{New}
use Rattle.laws.proofs.Sees.{entry_sees, entry_makes}

not_both : (b : Bool) → not b && b ≡ false
not_both true = refl
not_both false = refl

module _ (t : Table) (r : Request) (t' : Table) (s : ℕ) where
  -- a slot that is left as it was
  same_keeps : task_at t' s ≡ task_at t s → Keeps t r t' s
  same_keeps same =
      let never = not_both (is_used (task_at t s).state) in
      record { entry = rw (same, never); by = λ e. clash e (rw same never) }

  -- a task that was there before
  used_keeps : is_used (task_at t s).state ≡ true → (task_at t' s).entry ≡ (task_at t s).entry → Keeps t r t' s
  used_keeps used same = record { entry = rw used same; by = λ e. clash e (rw used) }

  -- a slot that was not used
  new_keeps : task_at t s ≡ no_task → New r (task_at t' s) → Keeps t r t' s
  new_keeps none new = record { entry = rw none new.entry; by = λ e. new.by (rw none at e) }

left_entry : (t : Table) (r : Request) (s : ℕ) → (left t r s).entry ≡ (task_at t s).entry
unfolding left others_left
left_entry t r s = simp (through (λ (x : Task). x.entry), choose_same)

ends_entry : {s : ℕ} {x : Task} {d : Decision} → Ends s x d → (task_at d.table s).entry ≡ x.entry
ends_entry (runs ready next result task) = ap (λ (x : Task). x.entry) task
ends_entry (waits next task) = ap (λ (x : Task). x.entry) task

entry_keeps : {n : ℕ} {t : Table} → Good n t → (r : Request) → Enters (slots t) (active_slot t) r → (s : ℕ) → s < n
    → Keeps t r (settled (active_slot t) (turn_of t (active_slot t) r)).table s
entry_keeps {n} {t} good r enters s below =
    elim (dec_lt s (used_slots t)) [
      | yes l ↦
          used_keeps t r _ s (good.rules.tasks.each s l).in_use (ends_entry (entry_sees good r enters s l) ∙ left_entry t r s)
      | no ge ↦
          let past : used_slots t ≤ s = omega arith in
          new_keeps t r _ s (good.rules.tasks.unused s past) (entry_makes good r enters s past below)
    ]

pub entries_stay : EntriesStay
unfolding own_write
entries_stay n t r len s small shaped =
    elim (dec_lt s n) [
      | yes below ↦
          step_cases t r (λ d. Keeps t r d.table s) (λ v next listed. same_keeps t r t s refl) (λ own. same_keeps t r t s refl)
          (λ good enters. entry_keeps (good_facts n t shaped good) r enters s below) len
      | no ge ↦
          let past : slots t ≤ s = omega (arith, shaped.tasks) in
          let past' : slots (step t r len).table ≤ s = omega (arith, slots_step t r len) in
          same_keeps t r _ s
          (get_or-eq_default (step t r len).table.tasks no_task past' ∙ sym (get_or-eq_default t.tasks no_task past))
    ]
