-- `block::step_one`: what `step` and the line promise, put together.
use Rattle.std.proofs.Common.{◌≤◌, ℕ, List, [], ◌++◌, length, sym, ap, ◌∙◌, append-nil, refl}
use Rattle.queue.specs.Choose.{choose}
use Rattle.kernel.specs.declared.table.Decision.{Decision}
use Rattle.step.specs.Run.{run, last_of}
use Rattle.lines.specs.Text.{Appended}
use Rattle.lines.specs.Line.{line_of, longest}
use Rattle.lines.specs.State.{wide_line_of, longest_wide}
use Rattle.lines.specs.Block.{lines_from, number_after}
use Rattle.lines.proofs.Joined.{known_as}
use Rattle.lines.proofs.block.step_one.Goals.{then-wide, else-wide}
use Rattle.lines.proofs.block.step_one.Goals as goal

pub returns : goal.returns
unfolding run last_of lines_from number_after
returns c = let k : ℕ = c.args.b.step in
    let kind : ℕ = c.request_from-r.result.kind in
    let made = c.step-decision.ensures in
    let line : Decision → List ℕ = λ d. choose c.args.wide (wide_line_of k kind d) (line_of k kind d.answer) in
    let same = sym (append-nil (line c.step-decision.result)) ∙ ap (λ (d : Decision). line d ++ []) made.answered in
    let put : Appended c.args.out.now c.args.b.end (line c.step-decision.result) c.if-wide.out c.if-wide.end = elim c.if-wide.branch [
      | then-wide w ↦ rw (w.if-wide.true, w.out-is, w.end-is) w.wide_line-end.ensures.appended
      | else-wide w ↦ rw (w.if-wide.false, w.out-is, w.end-is) w.line-end.ensures.appended
    ] in
    let short : length (line c.step-decision.result) ≤ choose c.args.wide longest_wide longest = elim c.if-wide.branch [
      | then-wide w ↦ rw w.if-wide.true w.wide_line-end.ensures.short
      | else-wide w ↦ rw w.if-wide.false w.line-end.ensures.short
    ] in
    rw (← c.request_from-r.ensures) (record {
      ran = record {
        reached = ap (λ (d : Decision). d.table) made.answered;
        counted = refl;
        changed = made.changed;
        shown = known_as same put;
      };
      short = rw (← same) short;
    })
