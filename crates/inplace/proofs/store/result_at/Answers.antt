-- `inplace::store::result_at` meets its contract, part by part.
use Rattle.std.proofs.Common.{sym, ap, ◌∙◌, arith}
use Rattle.image.specs.Record.{at_result, at_from, at_cut, at_word, result_of}
use Rattle.image.proofs.Bytes.{byte_in_lem}
use Rattle.records.proofs.Numbers.{number_in_lem}
use Rattle.inplace.proofs.store.result_at.Goals as goal

pub returns : goal.returns
returns c = let a = c.args in
    let b = a.image.now in
    let kind = sym (byte_in_lem b a.s at_result (omega arith)) in
    let from = sym (byte_in_lem b a.s at_from (omega arith)) in
    let cut = sym (byte_in_lem b a.s at_cut (omega arith)) in
    let word = c.word_at.ensures ∙ number_in_lem b a.s at_word 4 (omega arith) in
    c.result_of.ensures ∙ ap result_of (λ i. record { kind = kind i; from = from i; cut = cut i; word = word i })
