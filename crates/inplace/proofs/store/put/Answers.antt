use Rattle.std.proofs.Common.{ℕ, ◌≡◌, refl, ap, ◌∙◌, List, arith, add-one, length-set, rules}
use lib.Seq.{paste, paste-zero, paste-suc}
use Rattle.image.specs.Record.{record_length}
use Rattle.inplace.proofs.store.put.Goals as goal

pub loop-i-init : goal.loop-i-init
loop-i-init c = (omega arith, refl, paste-zero c.args.image.now c.args.at c.args.r)

pub loop-i-preserved : goal.loop-i-preserved
loop-i-preserved c = let d : List ℕ = c.args.image.now in
    let at : ℕ = c.args.at in
    let r : List ℕ = c.args.r in
    let i : ℕ = c.loop-i.i in (
      omega arith,
      rw length-set c.loop-i.invariant.1,
      rw (add-one, c.loop-i.invariant.2) (paste-suc d at r i 0 (omega arith) (search rules)),
    )

pub returns : goal.returns
returns c = let end : c.loop-i.i ≡ record_length = omega arith in
    c.loop-i.invariant.2 ∙ ap (paste c.args.image.now c.args.at c.args.r) end
