use Rattle.std.proofs.Common.{rules, tests, ◌∙◌}
use Rattle.std.proofs.lemmas.Iterator.{YieldsList-from_slice}
use Rattle.std.proofs.lemmas.Iterator.Search.{all_from_yields_List}
use lib.ListN.{take, drop}
use Rattle.kernel.specs.Edition.{may_wait}
use Rattle.rules.proofs.Walk.{events_fit}
use Rattle.rules.proofs.slots.waiters_fit.Goals as goal

pub returns : goal.returns
returns c =
    all_from_yields_List (λ q. may_wait c.args.edition q.len) _ _ _ c.all.ensures.ran (YieldsList-from_slice (take 64 (drop 32 c.args.queues)) (search (rules, tests))) (λ x b q k. search (rules, tests))
    ∙ events_fit c.args.edition c.args.queues (search rules)
