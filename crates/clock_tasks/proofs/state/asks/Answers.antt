use Rattle.std.proofs.Common.{◌≡◌, ℕ, ◌-◌, min, get_or, ap, ◌∙◌, ap₂}
use Rattle.tid.specs.Sizes.{priorities}
use Rattle.server.specs.Phase.{place}
use Rattle.clock.specs.declared.clock.Said.{Said}
use Rattle.clock.specs.Row.{hearers, hearers_of}
use Rattle.clock.specs.Message.{answer_bytes}
use Rattle.clock_tasks.specs.Words.{words_in}
use Rattle.clock_tasks.specs.State.{words, phase_of, said_of, hearers_in}
use Rattle.clock_tasks.proofs.InPlace.{word_in}
use Rattle.clock_tasks.proofs.AskedInPlace.{asks_in_place}
use Rattle.clock_tasks.proofs.state.asks.Goals as goal

pub returns : goal.returns
returns c =
    let f = word_in c.args.state.now in
    let p = phase_of (f 0) (f 1) in
    let now : c.phase_of-phase.result ≡ p = rw (c.phase_of-phase.ensures, c.word.ensures, c.word-2.ensures) in
    let many : c.at_most-len.result ≡ min (f 40) hearers = rw (c.at_most-len.ensures, c.word-3.ensures) in
    let last : c.said_of.result ≡ said_of (f 5) (f 6) = rw (c.said_of.ensures, c.word-4.ensures, c.word-5.ensures) in
    let rank : c.at_most-priority.result ≡ min (f 2) (priorities - 1) = rw (c.at_most-priority.ensures, c.word-6.ensures) in
    let k : c.place-k.result ≡ place p = c.place-k.ensures ∙ ap place now in
    let written = c.answer_byte-byte.ensures ∙ ap₂ (λ (s : Said) (j : ℕ). get_or (answer_bytes s) j 0) last k in
    let whom = c.tid_at-tid.ensures ∙ ap₂ (λ (n j : ℕ). get_or (hearers_of (hearers_in (words_in words c.args.state.now) n)).tids j 0) many k in
    c.request_in.ensures ∙ rw (now, rank, written, whom, many) (asks_in_place f)
