use Rattle.std.proofs.Common.{ℕ, List, ap, ◌∙◌}
use Rattle.image.specs.Bytes.{same}
use Rattle.clock_tasks.specs.NotifierState.{notifier_words}
use Rattle.clock_tasks.proofs.Same.{same_pointwise}
use Rattle.clock_tasks.proofs.notifier_state.NotifierWordsWORDS.is_one.Goals as goal

pub returns : goal.returns
returns c =
    let again = c.words.ensures ∙ ap notifier_words c.of.ensures in
    c.eq.ensures ∙ same_pointwise c.words.result c.args.words ∙ ap (λ (ws : List ℕ). same ws c.args.words) again
