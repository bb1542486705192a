-- A list of calls on the image of a good table is a run of that table.
use Prim.Native.Nat.{ℕ, ◌<◌}
use mathlib.Core.Path.{◌≡◌, refl, sym, ap, ap₂, ◌∙◌}
use mathlib.Core.Bool.{true, false, ◌&&◌}
use mathlib.Core.List.{List, [], ◌∷◌, map}
use native.Mathlib.Omega.{arith}
use lib.ListN.{length}
use lib.Dec.{ltb, eqb}
use borrow.Author.Tests.{eqb-true, ltb-true, ltb-false}
use Rattle.queue.specs.Choose.{choose}
use Rattle.queue.proofs.Below.{both_true, by_test}
use Rattle.task.specs.declared.task.Outcome.TheVariants.{Nothing}
use Rattle.task.specs.Task.{first_negative}
use Rattle.task.proofs.Tests.{clash}
use Rattle.kernel.specs.declared.table.Table.{Table}
use Rattle.kernel.specs.declared.table.Request.{Request}
use Rattle.kernel.specs.declared.table.Effect.{Effect}
use Rattle.kernel.specs.Edition.{is_edition}
use Rattle.kernel.specs.Numbers.{accepted, bad_record, bad_answer}
use Rattle.rules.specs.Facts.{Good}
use Rattle.step.specs.Step.{step, after}
use Rattle.step.specs.Run.{Done, run, last_of}
use Rattle.step.proofs.Steps.{refused_step}
use Rattle.image.specs.declared.stored.Reading.{Reading}
use Rattle.image.specs.Image.{image_of, read_newest}
use Rattle.image.specs.Call.{request_length, request_from, answer_length, answer_bytes}
use Rattle.image.proofs.Laws.{image_reads, length_image}
use Rattle.laws.proofs.Steps.{step_sound}
use Rattle.laws.proofs.Waits.{step_keeps}
use Rattle.entry.specs.Entry.{Call, call, called, due}
use Rattle.entry.proofs.Calls.{due_step}
use Rattle.calls.specs.Calls.{Lent, calls, is_taken, of_taken, requests_of, as_call}

-- of two calls with the same lengths both are taken, or neither is
pub same_taken : (l l' : Lent) → length l.request ≡ length l'.request → l.answer ≡ l'.answer → is_taken l' ≡ is_taken l
same_taken l l' sized room = sym (ap₂ (λ answer n. eqb (length answer) answer_length && eqb n request_length) room sized)

-- what a call that is not taken comes to, whatever it asks: refused by 5 where there is room for the answer, else by 10 with nothing shown
abbrev pub not_taken : List ℕ → List ℕ → List ℕ → Call
not_taken image areas answer =
    let room = eqb (length answer) answer_length in
    call (choose room bad_record bad_answer) image areas
    (choose room (answer_bytes (record { verdict = bad_record; next = 0; result = Nothing })) answer)

pub other_call : (n ed : ℕ) → is_edition ed ≡ true → (image areas : List ℕ) (l : Lent) → is_taken l ≡ false
    → called n ed image areas l.request l.answer ≡ not_taken image areas l.answer
unfolding called due
other_call n ed known image areas l other =
    by_test (eqb (length l.answer) answer_length)
    (λ room. by_test (eqb (length l.request) request_length) (λ asked. clash (rw (room, asked)) other) (λ wrong. rw (known, room, wrong)))
    (λ wrong. rw wrong)

-- a call with an edition that is none changes nothing
pub unknown_call : (n ed : ℕ) → is_edition ed ≡ false → (image areas request answer : List ℕ) → let c = called n ed image areas request answer in
    (c.image ≡ image) × (c.areas ≡ areas)
unfolding called due
unknown_call n ed unknown image areas request answer =
    by_test (eqb (length answer) answer_length) (λ room. rw (room, unknown) (refl, refl)) (λ wrong. rw wrong (refl, refl))

-- the step that a request comes to
abbrev done_by : Table → List ℕ → Request → Done
done_by t areas r =
    let d = step t r (length areas) in
    record { before = t; request = r; decision = d; areas = after d.effect areas }

module _ {n : ℕ} {t : Table} (good : Good n t) where
  -- a call that is taken is a step
  own_call : (areas : List ℕ) (l : Lent) → is_taken l ≡ true
      → called n t.edition (image_of t) areas l.request l.answer ≡ as_call (done_by t areas (request_from l.request))
  unfolding called
  own_call areas l taken =
      let r = request_from l.request in
      let (room, asked) = both_true (eqb (length l.answer) answer_length) _ taken in
      let read : (read_newest n t.edition (image_of t)).table ≡ t = ap (λ (x : Reading). x.table) (image_reads n good) in
      let is = due_step n t.edition (image_of t) areas l.request good.edition (eqb-true _ _ asked) (length_image n good) in
      let d = step t r (length areas) in
      let v = d.answer.verdict in
      by_test (ltb accepted v)
      (λ some.
      let same = refused_step t r (length areas) (λ e. omega (arith, ltb-true accepted v some)) in
      rw (room, is, read, some)
      (ap₂ (λ (u : Table) (e : Effect). call v (image_of u) (after e areas) (answer_bytes d.answer)) (sym same.table) (sym same.effect)))
      (λ none.
      let zero : v ≡ accepted = omega (arith, ltb-false accepted v none) in
      rw (room, is, read, none, zero))

  pub taken_call : {ed : ℕ} → t.edition ≡ ed → (areas : List ℕ) (l : Lent) → is_taken l ≡ true
      → called n ed (image_of t) areas l.request l.answer ≡ as_call (done_by t areas (request_from l.request))
  taken_call same areas l taken = rw (← same) (own_call areas l taken)

-- the edition of the calls is that of the table
pub known_edition : {n ed : ℕ} {t : Table} → Good n t → t.edition ≡ ed → is_edition ed ≡ true
known_edition good same = rw (← same) good.edition

pub calls_run : {n ed : ℕ} → n < first_negative → (ls : List Lent) {t : Table} → Good n t → t.edition ≡ ed → (areas : List ℕ)
    → of_taken ls (calls n ed (image_of t) areas ls) ≡ map as_call (run t areas (requests_of ls))
unfolding calls of_taken run
calls_run small [] good same areas = refl
calls_run {n} {ed} small (l ∷ ls) {t} good same areas =
    by_test (is_taken l)
    (λ taken.
    let done = done_by t areas (request_from l.request) in
    rw (taken_call good same areas l taken, taken)
    (ap (λ (cs : List Call). as_call done ∷ cs)
    (calls_run small ls (step_sound small t done.request (length areas) good).good (step_keeps t done.request (length areas) ∙ same) done.areas)))
    (λ other.
    rw (other_call n ed (known_edition good same) (image_of t) areas l other, other) (calls_run small ls good same areas))

-- the areas after the last call are those after the last that is taken
pub last_taken : (n ed : ℕ) → is_edition ed ≡ true → (ls : List Lent) (image areas : List ℕ) → let cs = calls n ed image areas ls in
    last_of areas (map (λ c. c.areas) (of_taken ls cs)) ≡ last_of areas (map (λ c. c.areas) cs)
unfolding calls of_taken last_of
last_taken n ed known [] image areas = refl
last_taken n ed known (l ∷ ls) image areas =
    by_test (is_taken l) (λ taken. rw taken (last_taken n ed known ls _ _))
    (λ other. rw (other_call n ed known image areas l other, other) (last_taken n ed known ls image areas))
