-- `image::stored::admitted`: what is given by the newest form, unless it is refused for the edition, for its length or for a broken rule.
use Rattle.std.proofs.Common.{◌≡◌, ℕ, ◌*◌, true, List, length, sym, ap, ◌∙◌, arith}
use mathlib.Core.Bool.{not}
use lib.ListN.{length-replicate}
use Rattle.tid.specs.Sizes.{slot_count}
use Rattle.kernel.specs.Edition.{is_edition}
use Rattle.image.specs.Record.{record_length}
use Rattle.image.proofs.Forms.{form_asked, into_newest}
use Rattle.image.proofs.Made.{read_unknown, read_other, read_judged}
use Rattle.image.proofs.stored.admitted.Goals as goal

pub returns-then-not-is_edition-clause-read : goal.returns-then-not-is_edition-clause-read
returns-then-not-is_edition-clause-read c =
    read_unknown slot_count c.args.edition c.args.bytes.now (sym c.is_edition.ensures ∙ c.if-not-is_edition.true)

pub returns-then-is_none-clause-read : goal.returns-then-is_none-clause-read
returns-then-is_none-clause-read c =
    let bytes : List ℕ = c.args.bytes.now in
    let known : is_edition c.args.edition ≡ true = sym c.is_edition.ensures ∙ c.if-not-is_edition.false in
    read_other slot_count c.args.edition bytes known (form_asked slot_count (length bytes) _ c.form_for.ensures c.is_none.ensures ∙ ap not c.if-is_none.true)

pub returns : goal.returns
returns c =
    let ed = c.args.edition in
    let bytes : List ℕ = c.args.bytes.now in
    let known : is_edition ed ≡ true = sym c.is_edition.ensures ∙ c.if-not-is_edition.false in
    let form = form_asked slot_count (length bytes) _ c.form_for.ensures c.is_none.ensures ∙ ap not c.if-is_none.false in
    let newest =
    c.reform.ensures ∙ into_newest slot_count (omega arith) bytes _ form (length-replicate {A = ℕ} (slot_count * record_length) 0) in
    let (read, good) = read_judged slot_count ed bytes known form c.judged.result (rw newest at c.judged.ensures.given) (rw newest at c.judged.ensures.verdict) in
    record { read = read; good = good }
