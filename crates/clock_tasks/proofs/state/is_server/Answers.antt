use Rattle.std.proofs.Common.{sym}
use Rattle.clock_tasks.proofs.InPlace.{word_in, in_place}
use Rattle.clock_tasks.proofs.state.is_server.Goals as goal

-- each test is one of those that `same` comes to
pub returns : goal.returns
returns c =
    rw (
      c.zero_from-2.ensures,
      c.within-3.ensures,
      c.zero_from.ensures,
      c.within-2.ensures,
      c.is_said.ensures,
      c.word-5.ensures,
      c.word-4.ensures,
      c.within.ensures,
      c.word-3.ensures,
      c.is_phase.ensures,
      c.word-2.ensures,
      c.word.ensures,
      c.at_most-hearers.ensures,
      c.at_most-sleepers.ensures,
      c.word-answered.ensures,
      c.word-asleep.ensures,
    )
    (sym (in_place (word_in c.args.state.now)))
