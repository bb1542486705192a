use Rattle.std.proofs.Common.{◌≡◌, ℕ, arith}
use Rattle.task.specs.Result.{negated}
use Rattle.lines.specs.Line.{result_text}
use Rattle.lines.proofs.Joined.{and_then, bit_is}
use Rattle.lines.proofs.text.Line.result.Goals as goal

pub returns-in-Nothing : goal.returns-in-Nothing
unfolding result_text
returns-in-Nothing c = rw c.in-Nothing.is c.put.ensures

pub returns-in-Value : goal.returns-in-Value
unfolding result_text
returns-in-Value c =
    let value = and_then c.text.ensures c.signed.ensures in
    let from = rw c.from.ensures at c.behind.ensures in
    rw c.in-Value.is (and_then (and_then value from) (rw (c.from-in-Value.ensures, bit_is) at c.behind-in-Value.ensures))

pub returns-in-Fault : goal.returns-in-Fault
unfolding result_text
returns-in-Fault c =
    let fault : ℕ = c.in-Fault.fault in
    let word : c.wrapping_neg.result ≡ negated fault = omega arith in
    rw c.in-Fault.is (and_then c.text-in-Fault.ensures (rw word at c.signed-in-Fault.ensures))
