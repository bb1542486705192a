use Rattle.std.proofs.Common.{arith, rules, tests, ◌∙◌, nat_le}
use Rattle.std.proofs.lemmas.Iterator.{YieldsList-from_slice}
use Rattle.std.proofs.lemmas.Iterator.Search.{all_from_yields_List}
use Rattle.queue.specs.Numbering.{queue_count}
use Rattle.queue.proofs.Chains.{list_all_below}
use Rattle.queue.proofs.spent.Goals as goal

pub returns : goal.returns
returns c =
    all_from_yields_List (nat_le queue_count) _ _ _ c.all.ensures.ran (YieldsList-from_slice c.args.keys cc) (λ x b q k. search (rules, tests))
    ∙ list_all_below (nat_le queue_count) c.args.keys 0 (omega arith)
