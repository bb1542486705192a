-- `shown::line`: the step's text, and the end of the line.
use Rattle.std.proofs.Common.{arith, length-append, rules}
use Rattle.lines.specs.Line.{line_of}
use Rattle.lines.specs.Written.{Written}
use Rattle.lines.proofs.Joined.{and_then}
use Rattle.lines.proofs.Lengths.{answer_size, step_size}
use Rattle.lines.proofs.shown.line.Goals as goal

pub returns : goal.returns
unfolding line_of
returns c = let asked = c.args in
    let answer = answer_size asked.answer _ c.well_formed.1.1.1.1.0 in
    let step = step_size asked.step asked.kind asked.answer (omega (arith, c.ranges.step)) (omega (arith, c.ranges.kind)) answer in
    let written : Written c.new-line.result (line_of asked.step asked.kind asked.answer) c.put.new.self = and_then c.step.ensures c.put.ensures in
    record { appended = search rules; short = simp length-append (omega arith) }
