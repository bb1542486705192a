-- `await_event`: a way out for each test of the paper's row.
use Rattle.std.proofs.Common.{sym, ◌∙◌, arith}
use Rattle.inplace.proofs.EventWays.{await_unknown, await_taken, await_waits}
use Rattle.inplace.proofs.events.await_event.Goals as goal

pub returns-then-event-ge-EVENTS : goal.returns-then-event-ge-EVENTS
returns-then-event-ge-EVENTS c = let (running, begins) = c.requires in
    rw c.resumes.ensures (await_unknown begins (omega arith) running c.args.event c.if-event-ge-EVENTS.true)

pub returns-then-not-may_join : goal.returns-then-not-may_join
returns-then-not-may_join c = let (running, begins) = c.requires in
    let taken = sym c.may_join.ensures ∙ c.if-not-may_join.true in
    rw c.resumes-then-not-may_join.ensures (await_taken begins (omega arith) running c.args.event c.if-event-ge-EVENTS.false taken)

pub returns : goal.returns
returns c = let (running, begins) = c.requires in
    let fits = sym c.may_join.ensures ∙ c.if-not-may_join.false in
    rw c.stops.ensures (await_waits begins (omega arith) running c.args.event c.if-event-ge-EVENTS.false fits)
