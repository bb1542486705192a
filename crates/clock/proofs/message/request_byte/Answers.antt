use Rattle.std.proofs.Common.{◌≡◌, ℕ, ◌+◌, ◌-◌, get_or, sym, ap, ◌∙◌, arith, get_or-append-add}
use Rattle.image.specs.Bytes.{bytes_of}
use Rattle.clock.specs.Message.{op_of, argument_of, request_bytes}
use Rattle.clock.proofs.message.request_byte.Goals as goal

-- a byte of the second word
pub returns : goal.returns
returns c =
    let k = c.args.k in
    let whole : 4 + (k - 4) ≡ k = omega arith in
    c.byte_of-2.ensures
    ∙ ap (λ (w : ℕ). get_or (bytes_of 4 w) (k - 4) 0) c.argument_of.ensures
    ∙ sym (get_or-append-add (bytes_of 4 (op_of c.args.asked)) (bytes_of 4 (argument_of c.args.asked)) (k - 4) 0)
    ∙ ap (λ (j : ℕ). get_or (request_bytes c.args.asked) j 0) whole
