-- `image::stored::refused` meets its contract: where every slot is unused, none is active.
use Rattle.queue.specs.Choose.{first_from}
use Rattle.kernel.specs.Table.{active_slot}
use Rattle.image.proofs.stored.refused.Goals as goal

pub returns : goal.returns
unfolding active_slot first_from
returns c = rw (c.unused_table.ensures, c.number.ensures)
