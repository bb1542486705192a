use Rattle.std.proofs.Common.{refl, ◌∙◌, add-one, arith}
use mathlib.Core.List.{flatten}
use Rattle.clock_tasks.proofs.WordBytes.{put_more}
use Rattle.clock_tasks.proofs.words.put_words.Goals as goal

pub loop-i-init : goal.loop-i-init
unfolding flatten
loop-i-init c = refl

pub loop-i-preserved : goal.loop-i-preserved
loop-i-preserved c =
    let at = c.loop-i in
    c.put_word.ensures ∙ rw add-one (put_more c.args.words.now c.args.bytes.now at.bytes at.i (omega arith) c.requires.1 at.invariant)
