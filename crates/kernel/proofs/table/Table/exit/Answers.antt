-- `Table::exit`: whoever is queued at the caller is woken.
use Rattle.std.proofs.Common.{length, ◌≡◌, arith}
use Rattle.kernel.proofs.Owned.{owned_shaped}
use Rattle.kernel.specs.Kinds.{exit}
use Rattle.kernel.specs.Table.{queue_at}
use Rattle.queue.specs.Numbering.{places, send_queue}
use Rattle.kernel.proofs.table.Table.exit.Goals as goal
use Rattle.kernel.proofs.table.Table.exit.Goals.{After-send_queue-k}

own : (p : After-send_queue-k) → p.send_queue-k.result ≡ send_queue p.args.c
own p = omega (arith, p.send_queue-k.ensures, p.tid_of.ensures)

pub returns : goal.returns
unfolding exit
returns c = let s = c.args.c in
    let shaped = owned_shaped c.args.self _ c.well_formed.0 in
    let l : length (queue_at c.args.self (send_queue s)).marks ≡ places = shaped.queues.places (send_queue s) (omega (arith, c.requires)) in
    rw (c.stops.ensures, c.put_queue.ensures, c.empty.ensures, c.queue-woken.ensures, own (goal.at.returns c).After-send_queue-k, l)
