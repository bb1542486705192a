use Rattle.std.proofs.Common.{◌≡◌, ◌+◌, ◌*◌, min, get_or, replicate, sym, ◌∙◌, add-one, arith, rules}
use Rattle.step.specs.Every.{numbers}
use Rattle.clock.specs.Row.{room, sleeper}
use Rattle.clock_tasks.specs.State.{sleepers_at}
use Rattle.clock_tasks.proofs.Rows.{row_made, sleeper_in}
use Rattle.clock_tasks.proofs.Filled.{fill_more}
use Rattle.clock_tasks.proofs.InPlace.{word_in, ws, ws_at}
use Rattle.clock_tasks.proofs.state.row_of.Goals as goal

pub loop-i-init : goal.loop-i-init
unfolding numbers
loop-i-init c = search rules

pub loop-i-preserved : goal.loop-i-preserved
loop-i-preserved c =
    let at = c.loop-i in
    let f = word_in c.args.state.now in
    let tid = c.word-in-loop-i.ensures ∙ sym (ws_at f (sleepers_at + 2 * at.i) (omega arith)) in
    let due = c.word-in-loop-i-2.ensures ∙ sym (ws_at f (sleepers_at + 2 * at.i + 1) (omega arith)) in (
      omega arith,
      omega arith,
      rw (at.invariant.2, tid, due, add-one at.i) (fill_more (sleeper_in (ws f)) (replicate room (sleeper 0 0)) at.i (omega arith)),
    )

pub returns : goal.returns
unfolding numbers
returns c =
    let at = c.loop-i in
    let f = word_in c.args.state.now in
    let len : c.at_most-len.result ≡ min (get_or (ws f) 7 0) room = rw (c.at_most-len.ensures, c.word.ensures) in
    row_made (sleeper_in (ws f)) _ at.i _ _ (omega arith) len at.invariant.2
