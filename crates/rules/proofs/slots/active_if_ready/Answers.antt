-- `active_if_ready`: no first row is filled exactly if every row is empty.
use Rattle.std.proofs.Common.{◌≡◌, ◌∙◌, ltb, unwrap_or, is_none, false, le-ltb, rules, tests}
use Rattle.tid.specs.Sizes.{slot_count, priorities}
use Rattle.rules.proofs.Walk.{none_found, none_filled}
use Rattle.rules.proofs.slots.active_if_ready.Goals as goal

pub returns-else-unwrap_or-lt-SLOTS : goal.returns-else-unwrap_or-lt-SLOTS
returns-else-unwrap_or-lt-SLOTS c =
    let idle : ltb (unwrap_or c.args.active slot_count) slot_count ≡ false =
    rw (← c.unwrap_or.ensures) (le-ltb _ slot_count c.if-unwrap_or-lt-SLOTS.false) in
    let none : c.is_none.result ≡ is_none c.first_ready.result = search (rules, tests) in
    rw idle
    (none ∙ none_found priorities c.first_ready.result c.first_ready.ensures.below
    ∙ rw c.first_ready.ensures.found (none_filled priorities c.args.queues))
