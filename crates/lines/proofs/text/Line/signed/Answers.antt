use Rattle.std.proofs.Common.{◌≡◌, ◌-◌, ◌^◌, ℕ, arith, le-ltb, lt-ltb}
use Rattle.task.specs.Task.{first_negative}
use Rattle.lines.specs.Text.{signed}
use Rattle.lines.proofs.Joined.{and_then}
use Rattle.lines.proofs.text.Line.signed.Goals as goal

pub returns-then-w-lt-FIRST_NEGATIVE : goal.returns-then-w-lt-FIRST_NEGATIVE
unfolding signed
returns-then-w-lt-FIRST_NEGATIVE c =
    rw (lt-ltb c.args.w first_negative c.if-w-lt-FIRST_NEGATIVE.true) (rw c.from.ensures at c.decimal.ensures)

pub returns-else-w-lt-FIRST_NEGATIVE : goal.returns-else-w-lt-FIRST_NEGATIVE
unfolding signed
returns-else-w-lt-FIRST_NEGATIVE c =
    let w : ℕ = c.args.w in
    let lacks : c.from-else-w-lt-FIRST_NEGATIVE.result ≡ 2 ^ 32 - w = omega arith in
    rw (le-ltb w first_negative c.if-w-lt-FIRST_NEGATIVE.false) (and_then c.put.ensures (rw lacks at c.decimal-else-w-lt-FIRST_NEGATIVE.ensures))
