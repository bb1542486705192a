use Rattle.std.proofs.Common.{◌≡◌, ◌+◌, min, get_or, replicate, sym, ◌∙◌, add-one, arith, rules}
use Rattle.step.specs.Every.{numbers}
use Rattle.clock.specs.Row.{hearers}
use Rattle.clock_tasks.specs.State.{hearers_at}
use Rattle.clock_tasks.proofs.Rows.{hearers_made, hearer_in}
use Rattle.clock_tasks.proofs.Filled.{fill_more}
use Rattle.clock_tasks.proofs.InPlace.{word_in, ws, ws_at}
use Rattle.clock_tasks.proofs.state.hearers_of.Goals as goal

pub loop-i-init : goal.loop-i-init
unfolding numbers
loop-i-init c = search rules

pub loop-i-preserved : goal.loop-i-preserved
loop-i-preserved c =
    let at = c.loop-i in
    let f = word_in c.args.state.now in
    let tid = c.word-in-loop-i.ensures ∙ sym (ws_at f (hearers_at + at.i) (omega arith)) in (
      omega arith,
      omega arith,
      rw (at.invariant.2, tid, add-one at.i) (fill_more (hearer_in (ws f)) (replicate hearers 0) at.i (omega arith)),
    )

pub returns : goal.returns
unfolding numbers
returns c =
    let at = c.loop-i in
    let f = word_in c.args.state.now in
    let len : c.at_most-len.result ≡ min (get_or (ws f) 40 0) hearers = rw (c.at_most-len.ensures, c.word.ensures) in
    hearers_made (hearer_in (ws f)) _ at.i _ _ (omega arith) len at.invariant.2
