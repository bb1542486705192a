-- `image::stored::convert` meets its contract: what was read, and what was written.
use Rattle.std.proofs.Common.{◌≡◌, ℕ, true, List, length, sym, ap, ◌∙◌, ltb-true}
use mathlib.Core.Bool.{not}
use Rattle.tid.specs.Sizes.{slot_count}
use Rattle.kernel.specs.Edition.{is_edition}
use Rattle.kernel.specs.Numbers.{accepted}
use Rattle.kernel.specs.declared.refusal.Refusal.{Refusal}
use Rattle.kernel.specs.Verdict.{refusal_number, verdict_of}
use Rattle.kernel.proofs.Verdicts.{number_positive}
use Rattle.std.specs.Prelude.{Result}
use Rattle.std.specs.Result.{IsErrAnd}
use Rattle.std.proofs.lemmas.Result.{err_from_is_err_and}
use Rattle.image.specs.declared.stored.Reading.{Reading}
use Rattle.image.specs.Stored.{read_image, write_verdict, written}
use Rattle.image.proofs.Forms.{form_asked}
use Rattle.image.proofs.Made.{convert_unknown, convert_other, convert_refused, convert_written}
use Rattle.image.proofs.stored.convert.Goals as goal

pub returns-then-not-is_edition : goal.returns-then-not-is_edition
returns-then-not-is_edition c =
    let (answer, bytes) = convert_unknown slot_count c.args.edition c.args.image.now c.args.out.now (sym c.is_edition.ensures ∙ c.if-not-is_edition.true) in
    record { verdict = answer; bytes = bytes }

pub returns-then-is_none : goal.returns-then-is_none
returns-then-is_none c =
    let out : List ℕ = c.args.out.now in
    let known : is_edition c.args.edition ≡ true = sym c.is_edition.ensures ∙ c.if-not-is_edition.false in
    let (answer, bytes) = convert_other slot_count c.args.edition c.args.image.now out known (form_asked slot_count (length out) _ c.form_for.ensures c.is_none.ensures ∙ ap not c.if-is_none.true) in
    record { verdict = answer; bytes = bytes }

-- a refusal that is handed on keeps its number
handed_on : (done : Result (Unit {0}) Refusal) (e : Refusal) → IsErrAnd done (λ f. f ≡ e) → verdict_of done ≡ refusal_number e
handed_on done e h = let (f, is, same) = err_from_is_err_and done h in ap verdict_of is ∙ ap refusal_number same

pub returns-in_err-reading : goal.returns-in_err-reading
returns-in_err-reading c =
    let out : List ℕ = c.args.out.now in
    let known : is_edition c.args.edition ≡ true = sym c.is_edition.ensures ∙ c.if-not-is_edition.false in
    let form = form_asked slot_count (length out) _ c.form_for.ensures c.is_none.ensures ∙ ap not c.if-is_none.false in
    let e : Refusal = c.in_err-reading.field-0.0 in
    let read : refusal_number e ≡ (read_image slot_count c.args.edition c.args.image.now).verdict = ap (λ (r : Reading). r.verdict) c.in_err-reading.ensures.read in
    let (answer, bytes) =
    convert_refused slot_count c.args.edition c.args.image.now out known form (rw (← read) (ltb-true accepted (refusal_number e) (number_positive e))) in
    record { verdict = handed_on _ e c.from_residual.ensures.1 ∙ read ∙ answer; bytes = bytes }

pub returns : goal.returns
returns c =
    let out : List ℕ = c.args.out.now in
    let known : is_edition c.args.edition ≡ true = sym c.is_edition.ensures ∙ c.if-not-is_edition.false in
    let form = form_asked slot_count (length out) _ c.form_for.ensures c.is_none.ensures ∙ ap not c.if-is_none.false in
    let read : c.in_ok-reading.reading ≡ read_image slot_count c.args.edition c.args.image.now = c.in_ok-reading.ensures.read in
    let (answer, bytes) =
    convert_written slot_count c.args.edition c.args.image.now out known form (sym (ap (λ (r : Reading). r.verdict) read) ∙ c.in_ok-reading.ensures.good) in
    record {
      verdict = c.write.ensures.verdict ∙ ap (λ (r : Reading). write_verdict r.table (length out)) read ∙ answer;
      bytes = c.write.ensures.bytes ∙ ap (λ (r : Reading). written r.table out) read ∙ bytes;
    }
