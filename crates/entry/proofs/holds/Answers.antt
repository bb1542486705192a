use Rattle.std.proofs.Common.{ℕ, ◌+◌, ◌*◌, ◌≡◌, ap, add-one, arith, get_or}
use native.Mathlib.Numerals.{add-two, add-three}
use Rattle.tid.specs.Sizes.{slot_count}
use Rattle.queue.proofs.Below.{tells_none, tells_more, tells_all}
use Rattle.image.specs.Record.{record_length, at_entry, entry_at}
use Rattle.entry.proofs.holds.Goals as goal

pub returns-then-form : goal.returns-then-form
returns-then-form c = rw c.if-form.true

pub loop-s-init : goal.loop-s-init
loop-s-init c = tells_none slot_count _

pub loop-s-preserved : goal.loop-s-preserved
loop-s-preserved c = let s : ℕ = c.loop-s.s in
    let at : ℕ = s * record_length + at_entry in
    let byte : ℕ → ℕ = λ k. get_or c.args.image.now k 0 in
    let word : c.word.result ≡ entry_at c.args.image.now s =
    omega (arith, c.word.ensures, ap byte (add-one at), ap byte (add-two at), ap byte (add-three at)) in
    rw word (tells_more c.loop-s.invariant (omega arith))

pub returns : goal.returns
returns c = rw c.if-form.false (tells_all c.loop-s.invariant (omega arith))
