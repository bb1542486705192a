-- `image::stored::holds` meets its contract: where the form has no entry number, each task's is asked.
use Rattle.std.proofs.Common.{◌==◌, ◌∙◌, refl, rules, tests}
use Rattle.std.proofs.lemmas.Iterator.{YieldsList-from_slice}
use Rattle.std.proofs.lemmas.Iterator.Search.{all_from_yields_List}
use Rattle.task.specs.declared.task.Task.{Task}
use Rattle.task.specs.Task.{no_task}
use Rattle.queue.proofs.Chains.{list_all_below}
use Rattle.image.proofs.stored.holds.Goals as goal

pub returns-else-form : goal.returns-else-form
returns-else-form c = let t = c.args.table in
    rw c.if-form.false
    (all_from_yields_List (λ (x : Task). x.entry == 0) _ _ _ c.all.ensures.ran (YieldsList-from_slice t.tasks cc) (λ x b q k. search (rules, tests))
    ∙ list_all_below (λ (x : Task). x.entry == 0) t.tasks no_task refl)
