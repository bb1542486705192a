-- Waiting for an event by the bytes of the image, from what a step does to the table that the image gives.
use Prim.Native.Nat.{ℕ, ◌*◌, ◌<◌}
use mathlib.Core.Path.{◌≡◌, refl, sym, ap, ◌∙◌}
use mathlib.Core.Bool.{true}
use mathlib.Core.List.{List}
use native.Mathlib.Omega.{arith}
use native.Mathlib.Decide.{ℕ_discrete}
use lib.ListN.{length}
use lib.Dec.{ltb}
use borrow.Author.Tests.{eq-eqb, ne_eqb, ltb-true, ltb-false}
use Rattle.tid.specs.Sizes.{slot_count, area_bytes}
use Rattle.queue.proofs.Below.{by_test}
use Rattle.task.specs.declared.task.Outcome.{Outcome}
use Rattle.task.specs.declared.task.State.TheVariants.{EventBlocked}
use Rattle.task.specs.Task.{awaited, state_code}
use Rattle.kernel.specs.declared.table.Table.{Table}
use Rattle.kernel.specs.declared.table.Request.{Request}
use Rattle.kernel.specs.declared.table.Answer.{Answer}
use Rattle.kernel.specs.declared.table.Decision.{Decision}
use Rattle.kernel.specs.Edition.{many_wait}
use Rattle.kernel.specs.Numbers.{accepted}
use Rattle.kernel.specs.Table.{slots, task_at, active_slot, used_slots}
use Rattle.kernel.specs.Refusal.{refusal_of}
use Rattle.kernel.specs.Decide.{decide_at, decide}
use Rattle.rules.specs.Facts.{Good}
use Rattle.rules.proofs.Good.{facts_good, good_shaped}
use Rattle.kept.specs.Sound.{Sound}
use Rattle.kept.proofs.Tasks.{code_at}
use Rattle.kept.proofs.Moves.{slot_used}
use Rattle.step.specs.Step.{step}
use Rattle.step.proofs.Steps.{step_areas, step_decides}
use Rattle.image.specs.Bytes.{record_at}
use Rattle.image.specs.Record.{record_length, at_state, at_awaited, byte_at, result_parts_in, result_of}
use Rattle.image.specs.Image.{image_of, table_of}
use Rattle.image.specs.Call.{request_from, answer_from, answer_bytes}
use Rattle.image.proofs.Laws.{write_back, edition_read, answer_is_read}
use Rattle.records.proofs.Images.{image_records, read_records}
use Rattle.records.proofs.Tasks.{code_told, awaited_told, result_told}
use Rattle.laws.specs.View as View
use Rattle.laws.specs.View.{Steps, is_entry, waits_for}
use Rattle.laws.specs.Waits.{left_by_event}
use Rattle.laws.proofs.Steps.{step_sound}
use Rattle.laws.proofs.Sees.{not_caller}
use Rattle.laws.proofs.Reach.{ends_gets}
use Rattle.laws.proofs.Laws.{many_may_wait, event_tells}
use Rattle.entry.specs.Entry.{Call, called}
use Rattle.calls.specs.Laws.{HostsTasksMayWait, Gets, holds, shown, HostWakesAll}
use Rattle.calls.proofs.Accepted.{accepted_call}

-- a step of a good table that is accepted was lent areas of the right size, and its request is none that is refused
accepted_step : {n : ℕ} {t : Table} (r : Request) (xs : List ℕ) → Good n t → (step t r (length xs)).answer.verdict ≡ accepted
    → (length xs ≡ n * area_bytes) × (refusal_of (slots t) (active_slot t) r ≡ accepted)
unfolding decide decide_at
accepted_step {n} {t} r xs good e =
    let size = good.rules.size in
    elim (ℕ_discrete (length xs) (n * area_bytes)) [
      | yes right ↦
          let v = refusal_of (slots t) (active_slot t) r in (
            right,
            by_test (ltb accepted v)
                (λ some. absurd (omega (arith, ltb-true accepted v some, rw (step_decides t r (length xs) good right, some) at e)))
                (λ none. omega (arith, ltb-false accepted v none)),
          )
      | no wrong ↦ absurd (omega (arith, rw (step_areas t r (length xs) good.edition (rw size wrong)) at e))
    ]

-- An accepted call on an image, by the table that the image gives.
record Accepted (ed : ℕ) (image areas request : List ℕ) (c : Call) : Type 0 where
  good : Good slot_count (table_of slot_count ed image)
  steps : Steps slot_count (table_of slot_count ed image) areas
  clear : refusal_of (slots (table_of slot_count ed image)) (active_slot (table_of slot_count ed image)) (request_from request) ≡ accepted
  code : (s : ℕ) → s < slot_count → byte_at image s at_state ≡ code_at (table_of slot_count ed image) s
  awaits : (s : ℕ) → s < slot_count → byte_at image s at_awaited ≡ awaited (task_at (table_of slot_count ed image) s).state
  left : let d = step (table_of slot_count ed image) (request_from request) (length areas) in
      (c.image ≡ image_of d.table) × (c.answer ≡ answer_bytes d.answer) × (d.answer.verdict ≡ accepted) × Sound slot_count d

accepted_facts : (ed : ℕ) (image areas request answer : List ℕ) → let c = called slot_count ed image areas request answer in
    c.verdict ≡ accepted → Accepted ed image areas request c
accepted_facts ed image areas request answer e =
    let (is, fine, same) = accepted_call slot_count ed image areas request answer e in
    let t = table_of slot_count ed image in
    let good = (write_back slot_count ed is).0 in
    let (size, clear) = accepted_step (request_from request) areas good fine in
    let records = read_records slot_count ed image is in
    record {
      good = good;
      steps = record { small = omega arith; shaped = good_shaped good; good = facts_good slot_count t good; size = size };
      clear = clear;
      code = code_told good.rules records;
      awaits = awaited_told good.rules records;
      left = (
        ap (λ (x : Call). x.image) same,
        ap (λ (x : Call). x.answer) same,
        fine,
        step_sound (omega arith) t (request_from request) (length areas) good,
      );
    }

pub hosts_tasks_may_wait : HostsTasksMayWait
hosts_tasks_may_wait image areas request answer s below e kind there one =
    let a = accepted_facts many_wait image areas request answer e in
    let t = table_of slot_count many_wait image in
    let r = request_from request in
    let d = step t r (length areas) in
    let (after, _, _, sound) = a.left in
    let entry : is_entry t r ≡ true = rw (a.clear, kind) in
    let own : s ≡ active_slot t = a.good.rules.tasks.only_active s below (eq-eqb (code_at t s) 1 (sym (a.code s below) ∙ one)) in
    let waits = (many_may_wait slot_count t r areas a.steps (edition_read slot_count many_wait image slot_count) entry kind there).waits in
    let state : (task_at d.table s).state ≡ EventBlocked r.arg0 = ap (λ (k : ℕ). (task_at d.table k).state) own ∙ waits in
    let rules = sound.good.rules in
    let records = image_records slot_count d.table rules.size in (
      ap (λ b. byte_at b s at_state) after ∙ code_told rules records s below ∙ ap state_code state,
      ap (λ b. byte_at b s at_awaited) after ∙ awaited_told rules records s below ∙ ap awaited state,
    )

-- what a task gets by a step it gets by the call
step_gets : {s : ℕ} {o : Outcome} {d : Decision} {c : Call} → s < slot_count → c.image ≡ image_of d.table → c.answer ≡ answer_bytes d.answer
    → d.answer.verdict ≡ accepted → Sound slot_count d → View.Gets s o d → Gets s o c
step_gets {s} {o} {d} below image answer fine sound (View.holds ready told) =
    let rules = sound.good.rules in
    let records = image_records slot_count d.table rules.size in
    holds
    (ap (λ b. byte_at b s at_state) image ∙ code_told rules records s below ∙ ap state_code ready)
    (ap (λ b. result_of (result_parts_in (record_at record_length b s))) image ∙ result_told rules records s below ∙ told)
step_gets {s} {o} {d} below image answer fine sound (View.shown next told) =
    let a = d.answer in
    let read : answer_from (answer_bytes a) ≡ a = answer_is_read slot_count a (omega arith) (omega arith) (omega arith) sound.result in
    shown
    (ap (λ b. (answer_from b).next) answer ∙ ap (λ (x : Answer). x.next) read ∙ next)
    (ap (λ b. (answer_from b).result) answer ∙ ap (λ (x : Answer). x.result) read ∙ told)

pub host_wakes_all : HostWakesAll
unfolding left_by_event
host_wakes_all ed image areas request answer s below e kind (six, event) =
    let a = accepted_facts ed image areas request answer e in
    let t = table_of slot_count ed image in
    let r = request_from request in
    let (after, said, fine, sound) = a.left in
    let entry : is_entry t r ≡ true = rw (a.clear, kind) in
    let code : code_at t s ≡ 6 = sym (a.code s below) ∙ six in
    let used : s < used_slots t = slot_used a.good.rules (rw code) in
    let other = not_caller a.good s used (λ one. omega arith) in
    let waits : waits_for t r.arg0 s ≡ true = rw code (eq-eqb _ _ (sym (a.awaits s below) ∙ event)) in
    let sees = event_tells slot_count t r areas s a.steps entry kind used in
    step_gets below after said fine sound (ends_gets (rw (ne_eqb s (active_slot t) other, waits) at sees) refl)
