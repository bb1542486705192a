use Rattle.lines.specs.State.{effect_text}
use Rattle.lines.proofs.Joined.{and_then, bit_is}
use Rattle.lines.proofs.text.Line.effect.Goals as goal

pub returns-in-Keep : goal.returns-in-Keep
unfolding effect_text
returns-in-Keep c = rw c.in-Keep.is c.put.ensures

pub returns-in-Copy : goal.returns-in-Copy
unfolding effect_text
returns-in-Copy c =
    let source = and_then c.put-in-Copy.ensures c.behind.ensures in
    let count = and_then (and_then source c.behind-in-Copy.ensures) c.behind-in-Copy-2.ensures in
    rw c.in-Copy.is (and_then count (rw (c.from.ensures, bit_is) at c.behind-in-Copy-3.ensures))

pub returns-in-Put : goal.returns-in-Put
unfolding effect_text
returns-in-Put c = rw c.in-Put.is (and_then c.put-in-Put.ensures c.behind-in-Put.ensures)
