-- `image::stored::judged` meets its contract: by what is asked of the decoded table.
use Rattle.std.proofs.Common.{ap, arith}
use Rattle.tid.specs.Sizes.{slot_count}
use Rattle.kernel.specs.Numbers.{accepted, bad_table}
use Rattle.image.specs.declared.stored.Reading.{Reading}
use Rattle.image.proofs.Exact.{given_placed}
use Rattle.image.proofs.stored.judged.Goals as goal

pub returns-then-not-decoded-checked-clause-verdict : goal.returns-then-not-decoded-checked-clause-verdict
returns-then-not-decoded-checked-clause-verdict c =
    ap (λ (r : Reading). r.verdict)
    (given_placed slot_count c.args.edition c.args.bytes.now c.requires (λ i. omega (arith, c.type_inv.bytes i)) {verdict = bad_table}
    c.decode-decoded.ensures c.check_placed-checked.ensures (rw c.if-not-decoded-checked.true))

pub returns : goal.returns
returns c =
    let given =
    given_placed slot_count c.args.edition c.args.bytes.now c.requires (λ i. omega (arith, c.type_inv.bytes i)) {verdict = accepted}
    c.decode-decoded.ensures c.check_placed-checked.ensures (rw c.if-not-decoded-checked.false) in
    record { given = given; verdict = ap (λ (r : Reading). r.verdict) given }
