-- An accepted call: it was lent an image, and did the step of the table that the image gives.
use Prim.Native.Nat.{ℕ, ◌*◌, ◌≤◌}
use mathlib.Core.Path.{◌≡◌, refl, sym, ap, ◌∙◌}
use mathlib.Core.Bool.{true, not}
use mathlib.Core.List.{List}
use native.Mathlib.Omega.{arith}
use lib.ListN.{length}
use lib.Dec.{eqb, ltb}
use borrow.Author.Tests.{ltb-true, ltb-false}
use Rattle.queue.proofs.Below.{by_test}
use Rattle.task.proofs.Tests.{chosen, clash}
use Rattle.kernel.specs.declared.table.Decision.{Decision}
use Rattle.kernel.specs.Edition.{is_edition}
use Rattle.kernel.specs.Numbers.{accepted}
use Rattle.rules.specs.Fresh.{unused_table}
use Rattle.rules.proofs.Fresh.{unused_broken}
use Rattle.step.specs.Step.{step, after}
use Rattle.step.proofs.Steps.{step_is}
use Rattle.image.specs.Record.{record_length}
use Rattle.image.specs.Image.{image_of, table_of, is_image, read_newest}
use Rattle.image.specs.Call.{request_length, request_from, answer_length, answer_bytes}
use Rattle.entry.specs.Entry.{Call, call, called, due}

module _ (n ed : ℕ) (image areas request : List ℕ) where
  -- the step of the table that the image gives
  abbrev left : Decision
  left = step (table_of n ed image) (request_from request) (length areas)

  due_accepted : (due n ed image areas request).answer.verdict ≤ accepted → (is_image n ed image ≡ true) × (due n ed image areas request ≡ left)
  unfolding due read_newest
  due_accepted =
      let P : Decision → Type 0 = λ d. d.answer.verdict ≤ accepted → (is_image n ed image ≡ true) × (d ≡ left) in
      let never : (step (unused_table n) (request_from request) (length areas)).answer.verdict ≤ accepted → ⊥ =
      step_is (unused_table n) (request_from request) (length areas) (λ d. d.answer.verdict ≤ accepted → ⊥)
      (λ e. absurd (omega arith)) (λ e. absurd (omega arith)) (λ _ e. absurd (omega arith)) (λ good. clash good (unused_broken n)) in
      by_test (is_edition ed)
      (λ known. rw known
      (chosen P (not (eqb (length request) request_length)) (λ _ e. absurd (omega arith))
      (λ _. chosen P (not (eqb (length image) (n * record_length))) (λ _ e. absurd (omega arith))
      (λ sized. by_test (is_image n ed image) (λ is. rw (sized, is) (λ _. (refl, refl))) (λ no. rw (sized, no) (λ e. absurd (never e)))))))
      (λ unknown. rw unknown (λ e. absurd (omega arith)))

  pub accepted_call : (answer : List ℕ) → let c = called n ed image areas request answer in
      c.verdict ≡ accepted
      → (is_image n ed image ≡ true) × (left.answer.verdict ≡ accepted)
      × (c ≡ call accepted (image_of left.table) (after left.effect areas) (answer_bytes left.answer))
  unfolding called
  accepted_call answer =
      let v = (due n ed image areas request).answer.verdict in
      let done : Decision → Call = λ d. call accepted (image_of d.table) (after d.effect areas) (answer_bytes d.answer) in
      let P : Call → Type 0 = λ c. c.verdict ≡ accepted → (is_image n ed image ≡ true) × (left.answer.verdict ≡ accepted) × (c ≡ done left) in
      chosen P (not (eqb (length answer) answer_length)) (λ _ e. absurd (omega arith))
      (λ _. chosen P (ltb accepted v) (λ some e. absurd (omega (arith, ltb-true accepted v some)))
      (λ none _.
      let zero : v ≡ accepted = omega (arith, ltb-false accepted v none) in
      let (is, same) = due_accepted (omega arith) in
      (is, ap (λ (x : Decision). x.answer.verdict) (sym same) ∙ zero, ap done same)))
