-- `decide`: a way out for each refusal, the own write, and the entry.
use Rattle.std.proofs.Common.{◌≡◌, ◌*◌, ℕ, List, true, length, sym, ap, ◌∙◌, arith, rules, refl, Ok, ltb-true}
use Rattle.std.proofs.lemmas.Bool.{not-false, not-true}
use Rattle.tid.specs.Sizes.{slot_count}
use Rattle.kernel.proofs.Verdicts.{number_positive}
use Rattle.image.specs.Record.{record_length}
use Rattle.image.specs.Image.{is_image}
use Rattle.image.proofs.Rebuilt.{Bytes}
use Rattle.audit.specs.declared.Found.{Found}
use Rattle.audit.specs.Audit.{found_in}
use Rattle.inplace.proofs.Decisions.{wrong_length, wrong_image, found_good, begins, decided_refused, decided_write, decided_enters}
use Rattle.inplace.proofs.decide.Goals as goal

-- bytes that were found good are an image
image_of_good : (ed : ℕ) (b : List ℕ) → length b ≡ slot_count * record_length → Bytes b → (found : Found) → found ≡ found_in slot_count ed b
    → found.good ≡ true → is_image slot_count ed b ≡ true
image_of_good ed b size small found is good = sym (found_good slot_count ed b size small found is) ∙ good

pub returns-then-image-ne-IMAGE : goal.returns-then-image-ne-IMAGE
returns-then-image-ne-IMAGE c =
    rw c.refused.ensures (wrong_length slot_count c.args.edition c.args.image.now c.args.r (λ e. omega arith))

pub returns-then-not-found : goal.returns-then-not-found
returns-then-not-found c =
    let b : List ℕ = c.args.image.now in
    let size : length b ≡ slot_count * record_length = omega arith in
    let small : Bytes b = λ i. search rules in
    let bad = sym (found_good slot_count c.args.edition b size small c.check-found.result c.check-found.ensures) ∙ not-true _ c.if-not-found.true in
    rw c.refused-then-not-found.ensures (wrong_image slot_count c.args.edition b size small c.args.r bad)

pub returns-in-Err : goal.returns-in-Err
returns-in-Err c =
    let b : List ℕ = c.args.image.now in
    let size : length b ≡ slot_count * record_length = omega arith in
    let small : Bytes b = λ i. search rules in
    let good = image_of_good c.args.edition b size small c.check-found.result c.check-found.ensures (not-false _ c.if-not-found.false) in
    rw (c.refused-in-Err.ensures, c.shown_tid.ensures)
    (decided_refused slot_count c.args.edition b size small c.check-found.result c.check-found.ensures good
    c.args.r _ c.in-Err.ensures.verdict (ltb-true _ _ (number_positive c.in-Err.refusal)))

pub returns-in-Ok-OwnWrite : goal.returns-in-Ok-OwnWrite
returns-in-Ok-OwnWrite c =
    let b : List ℕ = c.args.image.now in
    let size : length b ≡ slot_count * record_length = omega arith in
    let small : Bytes b = λ i. search rules in
    let good = image_of_good c.args.edition b size small c.check-found.result c.check-found.ensures (not-false _ c.if-not-found.false) in
    let met = c.in-Ok-OwnWrite.ensures {u = tt {0}} in
    rw (c.own_write.ensures, c.in-Ok-OwnWrite.offset-is, c.in-Ok-OwnWrite.byte-is)
    (decided_write slot_count c.args.edition b size small c.check-found.result c.check-found.ensures good
    c.args.r _ met.verdict refl _ _ (met.call ∙ ap Ok c.in-Ok-OwnWrite.field-0-is))

pub turned-turn-requires : goal.turned-turn-requires
turned-turn-requires c =
    let b : List ℕ = c.args.image.now in
    let size : length b ≡ slot_count * record_length = omega arith in
    let small : Bytes b = λ i. search rules in
    let good = image_of_good c.args.edition b size small c.check-found.result c.check-found.ensures (not-false _ c.if-not-found.false) in (
      search rules,
      begins slot_count c.args.edition b size small c.check-found.result c.check-found.ensures good,
    )

pub returns-in-Ok-Entry : goal.returns-in-Ok-Entry
returns-in-Ok-Entry c =
    let b : List ℕ = c.args.image.now in
    let size : length b ≡ slot_count * record_length = omega arith in
    let small : Bytes b = λ i. search rules in
    let good = image_of_good c.args.edition b size small c.check-found.result c.check-found.ensures (not-false _ c.if-not-found.false) in
    let met = c.in-Ok-Entry.ensures {u = tt {0}} in
    decided_enters slot_count c.args.edition b size small c.check-found.result c.check-found.ensures good
    c.args.r _ met.verdict refl _ (met.call ∙ ap Ok c.in-Ok-Entry.field-0-is)
    c.turned-turn.result (rw c.in-Ok-Entry.entry-is at c.turned-turn.ensures) c.settled.ensures
