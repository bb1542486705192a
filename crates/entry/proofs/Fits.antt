-- What a call comes to whose lengths are right: the step of the table that the image is read as.
use Prim.Native.Nat.{ℕ, ◌*◌}
use mathlib.Core.Path.{◌≡◌, refl, subst}
use mathlib.Core.Logic.{◌≢◌}
use mathlib.Core.Bool.{true}
use mathlib.Core.List.{List}
use native.Mathlib.Omega.{arith}
use lib.ListN.{length, length-replicate}
use lib.Dec.{ltb}
use borrow.Author.Tests.{eq-eqb, ltb-true, ltb-false}
use Rattle.queue.proofs.Below.{by_test}
use Rattle.tid.specs.Sizes.{area_bytes}
use Rattle.kernel.specs.declared.table.Request.{Request}
use Rattle.kernel.specs.declared.table.Effect.TheVariants.{Keep}
use Rattle.kernel.specs.Edition.{is_edition}
use Rattle.kernel.specs.Numbers.{accepted}
use Rattle.rules.specs.Fresh.{unused_table}
use Rattle.rules.proofs.Fresh.{unused_broken}
use Rattle.step.specs.Step.{after}
use Rattle.step.proofs.Steps.{refused_step, step_broken, step_decides}
use Rattle.image.specs.Record.{record_length}
use Rattle.image.specs.Image.{table_of, is_image, read_newest}
use Rattle.image.specs.Call.{request_length, request_from, answer_length, answered}
use Rattle.image.proofs.Laws.{write_back}
use Rattle.inplace.specs.declared.Shown.{Shown}
use Rattle.inplace.specs.Decided.{decided_in, Decided}
use Rattle.entry.specs.Entry.{call, due, called}
use Rattle.entry.proofs.Calls.{due_step}

module _ (n ed : ℕ) (image areas request answer : List ℕ) (room : length answer ≡ answer_length) (known : is_edition ed ≡ true) (asked : length request ≡ request_length)
    (sized : length image ≡ n * record_length) (lent : length areas ≡ n * area_bytes) where
  -- what is decided of the image is what is due; where it is none, of another table, which is not written
  due_decided : {shown : Shown} {image' : List ℕ} → Decided (decided_in n ed image (request_from request)) image shown image'
      → Decided (due n ed image areas request) image shown image'
  unfolding decided_in read_newest
  due_decided d =
      let r = request_from request in
      let step = due_step n ed image areas request known asked sized in
      let whole = eq-eqb (length image) (n * record_length) sized in
      by_test (is_image n ed image)
      (λ good.
      let table : (read_newest n ed image).table ≡ table_of n ed image = rw (known, whole, good) in
      rw (step, table, step_decides _ r (length areas) (write_back n ed good).0 lent) (rw (whole, good) at d))
      (λ bad.
      let table : (read_newest n ed image).table ≡ unused_table n = rw (known, whole, bad) in
      let slots : length areas ≡ length (unused_table n).tasks * area_bytes = rw length-replicate lent in
      let was = rw (whole, bad) at d in
      rw (step, table, step_broken _ r (length areas) refl slots (unused_broken n))
      (record { shown = was.shown; effect = was.effect; image = was.image }))

  -- a refusal does nothing to the areas
  due_keeps : let d = due n ed image areas request in d.answer.verdict ≢ accepted → d.effect ≡ Keep
  due_keeps = rw (due_step n ed image areas request known asked sized) (λ other. (refused_step _ _ _ other).effect)

  -- what is due was carried out on the bytes that were lent
  fit_call : {shown : Shown} {image' areas' answer' : List ℕ} → Decided (due n ed image areas request) image shown image'
      → areas' ≡ after shown.effect areas → answer' ≡ answered shown.answer answer
      → call shown.answer.verdict image' areas' answer' ≡ called n ed image areas request answer
  unfolding called
  fit_call d a s =
      let v = (due n ed image areas request).answer.verdict in
      let whole = eq-eqb (length answer) answer_length room in
      by_test (ltb accepted v)
      (λ some. rw (a, s, d.image, d.shown, d.effect, whole, some, due_keeps (λ e. omega (arith, ltb-true accepted v some))))
      (λ none.
      let zero : v ≡ accepted = omega (arith, ltb-false accepted v none) in
      rw (a, s, d.image, d.shown, d.effect, whole, none, zero))

  -- what is shown is what was decided
  pub fit_step : (q : Request) → q ≡ request_from request → {shown : Shown} {image' areas' answer' : List ℕ}
      → Decided (decided_in n ed image q) image shown image' → areas' ≡ after shown.effect areas → answer' ≡ answered shown.answer answer
      → call shown.answer.verdict image' areas' answer' ≡ called n ed image areas request answer
  fit_step q e {shown} {image'} d a s =
      fit_call (due_decided (subst (λ (x : Request). Decided (decided_in n ed image x) image shown image') e d)) a s
