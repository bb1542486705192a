use Rattle.std.proofs.Common.{ℕ, List, length, sym, ◌∙◌, arith, rules}
use Rattle.std.proofs.lemmas.List.{length_push}
use Rattle.queue.specs.Choose.{choose}
use Rattle.step.specs.Run.{run}
use Rattle.image.specs.Call.{request_length}
use Rattle.lines.specs.Line.{longest}
use Rattle.lines.specs.State.{longest_wide}
use Rattle.lines.specs.Block.{lines_from, requests_in}
use Rattle.lines.proofs.Onward.{front_is, front_fits, behind_front, run_more, size_more, run_none}
use Rattle.lines.proofs.block.run_block.Goals as goal

pub loop-record-init : goal.loop-record-init
unfolding requests_in run lines_from
loop-record-init c = let asked = c.args in
    record {
      size = search rules;
      within = omega arith;
      left = search rules;
      done = run_none asked.wide asked.first asked.records.now asked.areas.now asked.out.now;
      short = omega arith;
    }

pub loop-record-preserved : goal.loop-record-preserved
loop-record-preserved c = let asked = c.args in
    let records : List ℕ = asked.records.now in
    let inv = c.loop-record.invariant in
    let k : ℕ = length c.loop-record.yielded in
    let step = c.in-Some.ensures.steps in
    let cut = sym inv.left ∙ step.1.0 in
    let whole = step.1.1 ∙ inv.size in
    let same = front_is request_length k records _ _ cut whole in
    let made = c.step_one-b.ensures in
    rw (length_push c.loop-record.yielded c.in-Some.record) (record {
      size = step.0 ∙ inv.size;
      within = front_fits request_length k records _ _ inv.within cut whole;
      left = behind_front request_length k records _ _ cut whole;
      done = run_more asked.wide asked.first asked.areas.now records k same inv.done made.ran;
      short = size_more asked.wide asked.first asked.areas.now records k same inv.done (choose asked.wide longest_wide longest) inv.short made.short;
    })
