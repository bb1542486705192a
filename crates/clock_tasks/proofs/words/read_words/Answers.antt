use Rattle.std.proofs.Common.{◌*◌, refl, ◌∙◌, add-one, arith, length-set}
use Rattle.step.specs.Every.{numbers}
use Rattle.image.specs.Bytes.{number_in}
use Rattle.clock_tasks.proofs.Filled.{fill_more}
use Rattle.clock_tasks.proofs.words.read_words.Goals as goal

pub loop-i-init : goal.loop-i-init
unfolding numbers
loop-i-init c = (refl, refl)

pub loop-i-preserved : goal.loop-i-preserved
loop-i-preserved c =
    let at = c.loop-i in (
      length-set at.words at.i c.word_at.result ∙ at.invariant.0,
      rw (at.invariant.1, c.word_at.ensures, add-one) (fill_more (λ k. number_in c.args.bytes.now (4 * k) 4) c.args.words.now at.i (omega arith)),
    )
