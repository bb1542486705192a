-- `image::stored::write` meets its contract, refusal by refusal.
use Rattle.std.proofs.Common.{Some, ◌≡◌, ℕ, Bool, true, false, List, length, sym, ap, ◌∙◌, arith}
use Rattle.std.proofs.lemmas.Bool.{not-false, not-true}
use Rattle.tid.specs.Sizes.{slot_count}
use Rattle.rules.specs.declared.Checked.{Checked}
use Rattle.rules.specs.Good.{good_table}
use Rattle.kernel.specs.Edition.{is_edition}
use Rattle.kernel.specs.declared.table.Table.{Table}
use Rattle.kernel.specs.Table.{slots}
use Rattle.kernel.proofs.Owned.{owned_shaped}
use Rattle.image.specs.declared.form.Form.{Form}
use Rattle.image.specs.Form.{is_form, form_of, form_found, reformed_into, holds}
use Rattle.image.specs.Image.{image_of}
use Rattle.image.proofs.Forms.{length_image, some_form, none_form, from_newest}
use Rattle.image.proofs.Made.{write_unknown, write_other, write_bad, write_lost, write_good}
use Rattle.image.proofs.stored.write.Goals as goal

-- a form that was found is the length's, by the slots of the table
found : (t : Table) (len : ℕ) (f : Form) → slots t ≡ slot_count → Some f ≡ form_found slot_count len
    → (is_form (slots t) len ≡ true) × (f ≡ form_of (slots t) len)
found t len f size e = rw size (some_form slot_count len f e)

-- what was asked of the form
asked : (t : Table) (len : ℕ) (f : Form) (answer : Bool) → f ≡ form_of (slots t) len → answer ≡ holds f t → holds (form_of (slots t) len) t ≡ answer
asked t len f answer own asks = sym (asks ∙ ap (λ (f : Form). holds f t) own)

pub returns-then-not-is_edition : goal.returns-then-not-is_edition
returns-then-not-is_edition c =
    let (answer, bytes) = write_unknown c.args.table c.args.out.now (sym c.is_edition.ensures ∙ c.if-not-is_edition.true) in
    record { verdict = answer; bytes = bytes }

pub returns-in_default : goal.returns-in_default
returns-in_default c =
    let t = c.args.table in
    let out : List ℕ = c.args.out.now in
    let size : slots t ≡ slot_count = (owned_shaped t _ c.well_formed.0).tasks in
    let known : is_edition t.edition ≡ true = sym c.is_edition.ensures ∙ c.if-not-is_edition.false in
    let (answer, bytes) = write_other t out known (rw size (none_form slot_count (length out) c.in_default.ensures)) in
    record { verdict = answer; bytes = bytes }

pub returns-then-not-check : goal.returns-then-not-check
returns-then-not-check c =
    let t = c.args.table in
    let out : List ℕ = c.args.out.now in
    let size : slots t ≡ slot_count = (owned_shaped t _ c.well_formed.0).tasks in
    let known : is_edition t.edition ≡ true = sym c.is_edition.ensures ∙ c.if-not-is_edition.false in
    let (form, own) = found t (length out) _ size c.in-Some.ensures in
    let bad : good_table t ≡ false = sym (ap (λ (k : Checked). k.good) c.check.ensures) ∙ not-true _ c.if-not-check.true in
    let (answer, bytes) = write_bad t out known form bad in
    record { verdict = answer; bytes = bytes }

pub returns-then-not-holds : goal.returns-then-not-holds
returns-then-not-holds c =
    let t = c.args.table in
    let out : List ℕ = c.args.out.now in
    let size : slots t ≡ slot_count = (owned_shaped t _ c.well_formed.0).tasks in
    let known : is_edition t.edition ≡ true = sym c.is_edition.ensures ∙ c.if-not-is_edition.false in
    let (form, own) = found t (length out) _ size c.in-Some.ensures in
    let good : good_table t ≡ true = sym (ap (λ (k : Checked). k.good) c.check.ensures) ∙ not-false _ c.if-not-check.false in
    let asks = asked t (length out) _ _ own c.holds.ensures in
    let (answer, bytes) = write_lost t out known form good (asks ∙ c.if-not-holds.true) in
    record { verdict = answer; bytes = bytes }

pub returns : goal.returns
returns c =
    let t = c.args.table in
    let out : List ℕ = c.args.out.now in
    let size : slots t ≡ slot_count = (owned_shaped t _ c.well_formed.0).tasks in
    let known : is_edition t.edition ≡ true = sym c.is_edition.ensures ∙ c.if-not-is_edition.false in
    let (form, own) = found t (length out) _ size c.in-Some.ensures in
    let good : good_table t ≡ true = sym (ap (λ (k : Checked). k.good) c.check.ensures) ∙ not-false _ c.if-not-check.false in
    let asks = asked t (length out) _ _ own c.holds.ensures in
    let (answer, bytes) =
    write_good t out known form good _ (asks ∙ c.if-not-holds.false)
    (c.reform.ensures
    ∙ ap (λ (b : List ℕ). reformed_into slot_count b out) c.store.ensures
    ∙ from_newest slot_count (omega arith) (image_of t) out (rw size at form) (length_image t ∙ rw size)
    ∙ rw size) in
    record { verdict = answer; bytes = bytes }
