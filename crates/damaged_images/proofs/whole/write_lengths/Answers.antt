use Rattle.std.proofs.Common.{arith, sym, length-take-le}
use Rattle.damaged_images.proofs.whole.write_lengths.Goals as goal

pub slice_bounds-write_whole-length : goal.slice_bounds-write_whole-length
slice_bounds-write_whole-length g c = sym (length-take-le 767 c.args.image (omega arith))
