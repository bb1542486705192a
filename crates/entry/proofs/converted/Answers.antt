-- `converted`: the edition, then both lengths, then the rules, then what the form lacks, then the bytes.
use Rattle.std.proofs.Common.{ℕ, ◌*◌, ◌≡◌, sym, ap, ◌∙◌, Bool, true, ◌||◌, List, arith, length, eqb, eq-eqb}
use mathlib.Core.Bool.{not}
use Rattle.std.proofs.lemmas.Bool.{not-false, not-true}
use lib.ListN.{replicate, length-replicate}
use Rattle.tid.specs.Sizes.{slot_count}
use Rattle.queue.specs.Choose.{all_below}
use Rattle.kernel.specs.Edition.{is_edition}
use Rattle.image.specs.declared.form.Form.{Form}
use Rattle.image.specs.Record.{record_length, entry_at}
use Rattle.image.specs.Form.{form_for, form_of, is_form, reformed, reformed_into}
use Rattle.image.specs.Image.{is_image}
use Rattle.image.proofs.Fitted.{length_reformed}
use Rattle.image.proofs.Forms.{form_asked, some_form, none_form, into_newest}
use Rattle.audit.specs.declared.Found.{Found}
use Rattle.audit.specs.Audit.{found_in}
use Rattle.image.proofs.Made.{convert_unknown, convert_other}
use Rattle.entry.proofs.Converts.{convert_from, convert_bad, convert_lost, convert_made}
use Rattle.entry.proofs.converted.Goals as goal

-- the newest form of an image
abbrev newest : List ℕ → List ℕ
newest image = reformed slot_count (form_of slot_count (length image)).bytes record_length image

-- what was made beside `out` is the newest form of the image
made_newest : (image b : List ℕ) → is_form slot_count (length image) ≡ true
    → b ≡ reformed_into slot_count image (replicate (slot_count * record_length) 0) → b ≡ newest image
made_newest image b from made = made ∙ into_newest slot_count (omega arith) image _ from (length-replicate {A = ℕ} (slot_count * record_length) 0)

-- and was asked for the rules
checked_newest : (ed : ℕ) (image b : List ℕ) (found : Found) → b ≡ newest image → found ≡ found_in slot_count ed b
    → is_image slot_count ed (newest image) ≡ found.good
unfolding found_in
checked_newest ed image b found made is =
    let whole = eq-eqb (length (newest image)) (slot_count * record_length) (length_reformed slot_count _ record_length _) in
    sym (ap (λ (f : Found). f.good) (is ∙ ap (found_in slot_count ed) made) ∙ rw whole)

-- and for what the form lacks
asked_newest : (image out b : List ℕ) (f : Form) (held : Bool) → b ≡ newest image → f ≡ form_of slot_count (length out)
    → held ≡ (f.entries || all_below slot_count (λ s. eqb (entry_at b s) 0))
    → held ≡ ((form_of slot_count (length out)).entries || all_below slot_count (λ s. eqb (entry_at (newest image) s) 0))
asked_newest image out b f held made own asks =
    asks
    ∙ ap (λ (f : Form). f.entries || all_below slot_count (λ s. eqb (entry_at b s) 0)) own
    ∙ ap (λ (b : List ℕ). (form_of slot_count (length out)).entries || all_below slot_count (λ s. eqb (entry_at b s) 0)) made

pub returns-then-not-is_edition : goal.returns-then-not-is_edition
returns-then-not-is_edition c =
    let (answer, bytes) = convert_unknown slot_count c.args.edition c.args.image.now c.args.out.now (sym c.is_edition.ensures ∙ c.if-not-is_edition.true) in
    record { verdict = answer; bytes = bytes }

pub returns-then-is_none : goal.returns-then-is_none
returns-then-is_none c =
    let a = c.args in
    let image : List ℕ = a.image.now in
    let out : List ℕ = a.out.now in
    let known : is_edition a.edition ≡ true = sym c.is_edition.ensures ∙ c.if-not-is_edition.false in
    let (answer, bytes) = convert_from slot_count a.edition image out known (form_asked slot_count (length image) _ c.form_for.ensures c.is_none.ensures ∙ ap not c.if-is_none.true) in
    record { verdict = answer; bytes = bytes }

pub returns-in_default : goal.returns-in_default
returns-in_default c =
    let a = c.args in
    let image : List ℕ = a.image.now in
    let out : List ℕ = a.out.now in
    let known : is_edition a.edition ≡ true = sym c.is_edition.ensures ∙ c.if-not-is_edition.false in
    let (answer, bytes) = convert_other slot_count a.edition image out known (none_form slot_count (length out) (sym c.in_default.is ∙ c.form_for-2.ensures)) in
    record { verdict = answer; bytes = bytes }

pub returns-then-not-found : goal.returns-then-not-found
returns-then-not-found c =
    let a = c.args in
    let image : List ℕ = a.image.now in
    let out : List ℕ = a.out.now in
    let known : is_edition a.edition ≡ true = sym c.is_edition.ensures ∙ c.if-not-is_edition.false in
    let from = form_asked slot_count (length image) _ c.form_for.ensures c.is_none.ensures ∙ ap not c.if-is_none.false in
    let (to, own) = some_form slot_count (length out) c.in-Some.form (sym c.in-Some.is ∙ c.form_for-2.ensures) in
    let made = made_newest image c.reform.new.out from c.reform.ensures in
    let checks = checked_newest a.edition image c.reform.new.out c.check-found.result made c.check-found.ensures in
    let (answer, bytes) = convert_bad slot_count a.edition image out known from to (checks ∙ not-true _ c.if-not-found.true) in
    record { verdict = answer; bytes = bytes }

pub returns-then-not-holds : goal.returns-then-not-holds
returns-then-not-holds c =
    let a = c.args in
    let image : List ℕ = a.image.now in
    let out : List ℕ = a.out.now in
    let known : is_edition a.edition ≡ true = sym c.is_edition.ensures ∙ c.if-not-is_edition.false in
    let from = form_asked slot_count (length image) _ c.form_for.ensures c.is_none.ensures ∙ ap not c.if-is_none.false in
    let (to, own) = some_form slot_count (length out) c.in-Some.form (sym c.in-Some.is ∙ c.form_for-2.ensures) in
    let made = made_newest image c.reform.new.out from c.reform.ensures in
    let checks = checked_newest a.edition image c.reform.new.out c.check-found.result made c.check-found.ensures in
    let good = checks ∙ not-false _ c.if-not-found.false in
    let asks = asked_newest image out c.reform.new.out _ _ made own c.holds.ensures in
    let (answer, bytes) = convert_lost slot_count a.edition image out known from to good (sym c.if-not-holds.true ∙ asks) in
    record { verdict = answer; bytes = bytes }

pub returns : goal.returns
returns c =
    let a = c.args in
    let image : List ℕ = a.image.now in
    let out : List ℕ = a.out.now in
    let known : is_edition a.edition ≡ true = sym c.is_edition.ensures ∙ c.if-not-is_edition.false in
    let from = form_asked slot_count (length image) _ c.form_for.ensures c.is_none.ensures ∙ ap not c.if-is_none.false in
    let (to, own) = some_form slot_count (length out) c.in-Some.form (sym c.in-Some.is ∙ c.form_for-2.ensures) in
    let made = made_newest image c.reform.new.out from c.reform.ensures in
    let checks = checked_newest a.edition image c.reform.new.out c.check-found.result made c.check-found.ensures in
    let good = checks ∙ not-false _ c.if-not-found.false in
    let asks = asked_newest image out c.reform.new.out _ _ made own c.holds.ensures in
    let (answer, bytes) =
    convert_made slot_count a.edition image out known from to good (omega arith) (sym c.if-not-holds.false ∙ asks)
    (c.reform-2.ensures ∙ ap (λ (b : List ℕ). reformed_into slot_count b out) made) in
    record { verdict = answer; bytes = bytes }
