-- `state::wide_line`: the step's text, its effect, the tasks, and the end of the line.
use Rattle.std.proofs.Common.{arith, length-append, rules}
use Rattle.lines.specs.State.{wide_line_of}
use Rattle.lines.specs.Written.{Written}
use Rattle.lines.proofs.Joined.{and_then}
use Rattle.lines.proofs.Lengths.{answer_size, step_size, effect_size, table_size}
use Rattle.lines.proofs.state.wide_line.Goals as goal

pub returns : goal.returns
unfolding wide_line_of
returns c = let asked = c.args in
    let decision = c.well_formed.1.1.1.1.0 in
    let answer = answer_size asked.decision.answer _ decision.1.1.1.0 in
    let step = step_size asked.step asked.kind asked.decision.answer (omega (arith, c.ranges.step)) (omega (arith, c.ranges.kind)) answer in
    let effect = effect_size asked.decision.effect _ decision.1.1.1.1.0 in
    let tasks = table_size asked.decision.table _ decision.1.1.0 in
    let moved = and_then c.text.ensures c.effect.ensures in
    let shown = and_then c.text-2.ensures c.tasks.ensures in
    let written : Written c.new-line.result (wide_line_of asked.step asked.kind asked.decision) c.put.new.self =
    and_then (and_then (and_then c.step.ensures moved) shown) c.put.ensures in
    record { appended = search rules; short = simp length-append (omega arith) }
