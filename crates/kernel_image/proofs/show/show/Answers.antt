-- `show`: no more slots are used than there are.
use Rattle.tid.specs.Sizes.{slot_count}
use Rattle.queue.proofs.Below.{first_below_lem}
use Rattle.kernel_image.proofs.show.show.Goals as goal

pub overflow_sub-used : goal.overflow_sub-used
overflow_sub-used g c = rw c.used_slots-used.ensures (first_below_lem slot_count _).most
