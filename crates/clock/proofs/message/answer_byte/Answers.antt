use Rattle.std.proofs.Common.{◌≡◌, ℕ, ◌+◌, ◌-◌, get_or, sym, ap, ◌∙◌, arith, get_or-append-add}
use Rattle.image.specs.Bytes.{bytes_of}
use Rattle.clock.specs.Message.{status_of, count_of, answer_bytes}
use Rattle.clock.proofs.message.answer_byte.Goals as goal

-- a byte of the second word
pub returns : goal.returns
returns c =
    let k = c.args.k in
    let whole : 4 + (k - 4) ≡ k = omega arith in
    c.byte_of-2.ensures
    ∙ ap (λ (w : ℕ). get_or (bytes_of 4 w) (k - 4) 0) c.count_of.ensures
    ∙ sym (get_or-append-add (bytes_of 4 (status_of c.args.said)) (bytes_of 4 (count_of c.args.said)) (k - 4) 0)
    ∙ ap (λ (j : ℕ). get_or (answer_bytes c.args.said) j 0) whole
