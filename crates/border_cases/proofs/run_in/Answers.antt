use Rattle.std.proofs.Common.{ℕ, ◌≡◌, arith}
use Rattle.border_cases.proofs.run_in.Goals as goal

pub slice_bounds-out-end : goal.slice_bounds-out-end
slice_bounds-out-end g c =
    let none : c.fresh_block.result.end ≡ 0 = rw (c.fresh_block.ensures) in
    omega (arith, none, c.show_block-block.ensures.ran.shown.ended)
