-- `inplace::wake::join` meets its contract: its place is the number of those who stand there.
use Rattle.std.proofs.Common.{ℕ, ◌+◌, ap, ◌∙◌, arith, get_or, set}
use Rattle.task.specs.declared.task.State.TheVariants.{Ready}
use Rattle.records.specs.Stage.{left_bytes, joined_bytes, joined_count}
use Rattle.inplace.proofs.wake.join.Goals as goal

pub overflow_add-count : goal.overflow_add-count
overflow_add-count c = omega (arith, ap (λ (p : ℕ). get_or c.args.count.now p 0) c.wide-p.ensures, c.requires.1.1.room)

pub returns : goal.returns
unfolding joined_bytes joined_count
returns c = let a = c.args in
    let count = a.count.now in record {
      image = c.leave.ensures ∙ ap (λ (p : ℕ). left_bytes a.image.now a.s Ready a.res (get_or count p 0)) c.wide-p.ensures;
      count = ap (λ (p : ℕ). set count p (get_or count p 0 + 1)) c.wide-p.ensures;
    }
