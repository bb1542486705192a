-- `Table::event`: whoever waits is woken.
use Rattle.std.proofs.Common.{length, ◌≡◌, arith}
use Rattle.kernel.proofs.Owned.{owned_shaped}
use Rattle.kernel.specs.Kinds.{event}
use Rattle.kernel.specs.Table.{queue_at}
use Rattle.queue.specs.Numbering.{event_queue, places}
use Rattle.kernel.proofs.table.Table.event.Goals as goal

pub returns : goal.returns
unfolding event
returns c = let e = c.args.event in
    let shaped = owned_shaped c.args.self _ c.well_formed.0 in
    let l : length (queue_at c.args.self (event_queue e)).marks ≡ places = shaped.queues.places (event_queue e) (omega (arith, c.requires)) in
    rw (c.resumes.ensures, c.signal.ensures, c.put_queue.ensures, c.empty.ensures, c.queue-woken.ensures, c.event_queue-k.ensures, l)
