use Rattle.std.proofs.Common.{◌≡◌, ℕ, List, get_or, sym, refl, ap, ◌∙◌, add-one, arith, length-set}
use lib.Seq.{paste, paste-zero, paste-suc}
use Rattle.image.specs.Form.{fitted}
use Rattle.image.proofs.Fitted.{length_fitted, fitted_byte}
use Rattle.image.proofs.form.put_fitted.Goals as goal

pub loop-i-init : goal.loop-i-init
loop-i-init c = (refl, paste-zero c.args.out.now c.args.at (fitted c.args.to c.args.r.now))

pub loop-i-preserved : goal.loop-i-preserved
loop-i-preserved c = let d : List ℕ = c.args.out.now in
    let r : List ℕ = c.args.r.now in
    let to : ℕ = c.args.to in
    let i : ℕ = c.loop-i.i in
    let byte : c.byte_or_zero.result ≡ get_or (fitted to r) i 0 = c.byte_or_zero.ensures ∙ sym (fitted_byte to r i (omega arith)) in (
      rw length-set c.loop-i.invariant.0,
      rw (add-one, c.loop-i.invariant.1, byte) (paste-suc d c.args.at (fitted to r) i 0 (omega arith) (omega (arith, length_fitted to r))),
    )

pub returns : goal.returns
returns c = let end : c.loop-i.i ≡ c.args.to = omega arith in
    c.loop-i.invariant.1 ∙ ap (paste c.args.out.now c.args.at (fitted c.args.to c.args.r.now)) end
