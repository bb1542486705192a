use Rattle.std.proofs.Common.{◌≡◌, ◌-◌, min}
use Rattle.tid.specs.Sizes.{priorities}
use Rattle.step.specs.Every.{numbers}
use Rattle.clock_tasks.specs.State.{phase_of, said_of}
use Rattle.clock_tasks.proofs.InPlace.{word_in}
use Rattle.clock_tasks.proofs.state.read.Goals as goal

pub returns : goal.returns
unfolding numbers
returns c =
    let f = word_in c.args.state.now in
    let phase : c.phase_of.result ≡ phase_of (f 0) (f 1) = rw (c.phase_of.ensures, c.word-7.ensures, c.word-6.ensures) in
    let said-is : c.said_of.result ≡ said_of (f 5) (f 6) = rw (c.said_of.ensures, c.word-5.ensures, c.word-4.ensures) in
    let priority : c.at_most.result ≡ min (f 2) (priorities - 1) = rw (c.at_most.ensures, c.word.ensures) in
    λ i. record {
      priority = priority i;
      clock = record { notifier = c.word-2.ensures i; count = c.word-3.ensures i; row = c.row_of.ensures i };
      said = said-is i;
      to = c.hearers_of.ensures i;
      phase = phase i;
    }
