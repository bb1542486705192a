use Rattle.std.proofs.Common.{arith, rules, tests, ◌∙◌, not}
use Rattle.std.proofs.lemmas.Iterator.{YieldsList-from_slice}
use Rattle.std.proofs.lemmas.Iterator.Search.{position_from_yields_List}
use Rattle.queue.proofs.Chains.{whole_or_end}
use Rattle.task.specs.Task.{no_task, is_used}
use Rattle.task.proofs.search.used_slots.Goals as goal

pub returns : goal.returns
returns c =
    let found = position_from_yields_List (λ x. not (is_used x.state)) _ _ _ c.position.ensures.ran (YieldsList-from_slice c.args.tasks cc) (λ x b q k. search (rules, tests)) in
    c.unwrap_or.ensures ∙ rw found (whole_or_end (λ x. not (is_used x.state)) c.args.tasks no_task (omega arith))
