-- `block::show_block`: the lines, the end behind them, and that both fit.
use Rattle.std.proofs.Common.{ℕ, ◌/◌, ◌++◌, length, mul-add, arith, length-append, rules}
use Rattle.queue.specs.Choose.{choose}
use Rattle.image.specs.Call.{request_length}
use Rattle.lines.specs.Text.{Appended}
use Rattle.lines.specs.Line.{longest}
use Rattle.lines.specs.State.{longest_wide}
use Rattle.lines.specs.Block.{ran, requests, end_of}
use Rattle.lines.proofs.Joined.{then}
use Rattle.lines.proofs.Lengths.{end_size, whole}
use Rattle.lines.proofs.block.show_block.Goals as goal

pub returns : goal.returns
returns c = let asked = c.args in
    let due = ran asked.wide asked.first asked.areas.now (requests asked.records.now) in
    let count : ℕ = length asked.records.now in
    let ended = end_of count in
    let most : ℕ = choose asked.wide longest_wide longest in
    let made = c.run_block-done.ensures.ran in
    let short = c.run_block-done.ensures.short in
    let line = c.new-line.ensures in
    let shown : Appended asked.out.now asked.first.end (due.text ++ ended) _ c.end.new.self.at =
    then made.shown (rw (line.lent, line.at) at c.end.ensures.put) in
    let size = length-append due.text ended in
    record {
      ran = record { reached = made.reached; counted = made.counted; changed = made.changed; shown = search rules };
      whole = λ none room.
          whole {before = asked.out.now} (search rules) none (omega (arith, end_size asked.wide count, mul-add most (count / request_length) 1));
    }
