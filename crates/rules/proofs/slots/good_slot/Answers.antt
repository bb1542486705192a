-- `good_slot`: what the task holds, and what its state asks beside that.
use Rattle.std.proofs.Common.{le-ltb, lt-ltb, ltb, eqb, not, unwrap_or, ◌+◌, ◌∙◌, ◌≡◌, ◌&&◌, ◌||◌, sym, rules, tests}
use mathlib.Core.Bool.{and_assoc}
use Rattle.queue.specs.Choose.{choose}
use Rattle.task.specs.Task.{is_active, is_quiet}
use Rattle.rules.specs.Good.{good_unused, good_used}
use Rattle.rules.proofs.slots.good_slot.Goals as goal
use Rattle.rules.proofs.slots.good_slot.Goals.{then-s-used, else-s-used, in-Active, in-SendBlocked, in_default}

pub returns : goal.returns
returns c =
    let x = c.args.task in
    let s = c.args.s in
    let used = c.args.used in
    let good = choose (ltb s used) (good_used used s x) (good_unused x) in
    let one = not (is_active x.state) || eqb s (unwrap_or c.args.active (s + 1)) in
    let quiet = not (is_quiet x.state) || eqb c.args.senders 0 in
    let held : c.if-s-used.held ≡ good =
    elim c.if-s-used.branch [
      | then-s-used w ↦ rw (lt-ltb s used w.if-s-used.true) (w.held-is ∙ w.good_used-held.ensures)
      | else-s-used w ↦ rw (le-ltb s used w.if-s-used.false) (w.held-is ∙ w.good_unused-held.ensures)
    ]
    in
    let alone : c.match-task.alone ≡ (one && quiet) =
    elim c.match-task.branch [
      | in-Active w ↦ search (rules, tests)
      | in-SendBlocked w ↦ search (rules, tests)
      | in_default w ↦ search (rules, tests)
    ]
    in
    rw (held, alone) (sym (and_assoc good one quiet))
