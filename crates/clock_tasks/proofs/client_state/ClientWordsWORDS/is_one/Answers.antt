use Rattle.std.proofs.Common.{ℕ, List, ap, ◌∙◌, slice_index, le-leb}
use Rattle.image.specs.Bytes.{same}
use Rattle.clock_tasks.specs.ClientState.{client_words}
use Rattle.clock_tasks.proofs.Same.{same_pointwise}
use Rattle.clock_tasks.proofs.client_state.ClientWordsWORDS.is_one.Goals as goal

pub returns-then-words-ge-FIRST_OP : goal.returns-then-words-ge-FIRST_OP
returns-then-words-ge-FIRST_OP c =
    let again = c.words.ensures ∙ ap client_words c.of.ensures in
    c.eq.ensures ∙ same_pointwise c.words.result c.args.words
    ∙ rw (le-leb 2 (slice_index c.args.words 3) c.if-words-ge-FIRST_OP.true) (ap (λ (ws : List ℕ). same ws c.args.words) again)
