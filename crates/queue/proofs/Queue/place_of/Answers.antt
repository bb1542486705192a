use Rattle.std.proofs.Common.{arith, rules, tests, ◌≡◌, ◌∙◌, ◌==◌, take}
use Rattle.std.proofs.lemmas.Iterator.{YieldsList-from_slice}
use Rattle.std.proofs.lemmas.Iterator.Search.{position_from_yields_List}
use Rattle.queue.proofs.Chains.{first_or_end}
use Rattle.queue.specs.Row.{count}
use Rattle.queue.proofs.Queue.place_of.Goals as goal

pub returns : goal.returns
returns c =
    let q = c.args.self in
    let found = position_from_yields_List (λ m. m == c.args.mark) _ _ _ c.position.ensures.ran (YieldsList-from_slice (take c.min-len.result q.marks) cc) (λ x b q k. search (rules, tests)) in
    let len : count q ≡ c.min-len.result = omega arith in
    c.unwrap_or.ensures ∙ rw (found, len) (first_or_end (λ m. m == c.args.mark) q.marks 0 (omega arith))
