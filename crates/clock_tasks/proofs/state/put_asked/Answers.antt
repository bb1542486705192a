use Rattle.std.proofs.Common.{◌≡◌, min, ◌∙◌, rules}
use Rattle.server.specs.Phase.{after}
use Rattle.clock.specs.Row.{hearers}
use Rattle.clock.specs.Message.{size}
use Rattle.clock_tasks.specs.State.{phase_of}
use Rattle.clock_tasks.proofs.InPlace.{word_in}
use Rattle.clock_tasks.proofs.AskedInPlace.{asked_in_place}
use Rattle.clock_tasks.proofs.state.put_asked.Goals as goal

pub returns : goal.returns
returns c =
    let bytes = c.args.state.now in
    let f = word_in bytes in
    let now : c.phase_of-now.result ≡ phase_of (f 0) (f 1) = rw (c.phase_of-now.ensures, c.word-2.ensures, c.word-3.ensures) in
    let many : c.at_most-len.result ≡ min (f 40) hearers = rw (c.at_most-len.ensures, c.word.ensures) in
    let next : c.after-next.result ≡ after (phase_of (f 0) (f 1)) size (min (f 40) hearers) = rw (c.after-next.ensures, now, many) in
    c.put_word-2.ensures
    ∙ rw (c.from.ensures, c.put_word.ensures, c.phase_code.ensures, c.place.ensures, next)
    (asked_in_place bytes (λ i. search rules) c.requires.0 c.requires.1)
