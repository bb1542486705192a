-- `shown`: what `show_block` promises, where there is room.
use Rattle.std.proofs.Common.{ℕ, List, arith}
use Rattle.lines.proofs.Printed.{reached_more, lines_more}
use Rattle.kernel_run.proofs.shown.Goals as goal

pub returns : goal.returns
returns c =
    let first = c.args.first in
    let bytes : List ℕ = c.args.records.now in
    let made = c.show_block.ensures.ran in
    let text = c.show_block.ensures.whole c.requires.0 c.requires.1 in
    record {
      whole = (text, omega (arith, made.shown.ended, c.requires.0));
      onward = λ input at. record {
        printed = rw text (lines_more c.args.wide first at bytes);
        stands = λ whole. reached_more c.args.wide first at bytes whole made;
      };
    }
