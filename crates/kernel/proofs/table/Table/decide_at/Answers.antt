-- `Table::decide_at`: the work of an entry is that of the request that asks for it.
use Rattle.std.proofs.Common.{◌∙◌, ◌≡◌, ap, Ok}
use Rattle.kernel.proofs.Owned.{owned_shaped}
use Rattle.kernel.proofs.Calls.{turned_by, entry_kind}
use Rattle.kernel.specs.Table.{slots}
use Rattle.tid.specs.Sizes.{slot_count}
use Rattle.kernel.specs.Decide.{decide_at}
use Rattle.kernel.proofs.table.Table.decide_at.Goals as goal

pub returns-in-Ok-Entry : goal.returns-in-Ok-Entry
unfolding decide_at
returns-in-Ok-Entry c =
    let all : slots c.args.self ≡ slot_count = (owned_shaped c.args.self _ c.well_formed.0).tasks in
    let met = c.in-Ok-Entry.ensures {u = tt {0}} in
    let none = rw (← c.unwrap_or-c.ensures) at met.verdict in
    let asks = met.call ∙ ap Ok c.in-Ok-Entry.field-0-is in
    rw (c.settled.ensures, c.turned.ensures, all, ← c.unwrap_or-c.ensures, ← none, entry_kind c.args.r _ asks, turned_by c.args.self c.unwrap_or-c.result c.args.r _ asks, c.in-Ok-Entry.entry-is)
