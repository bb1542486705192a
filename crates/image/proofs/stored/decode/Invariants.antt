-- `image::stored::decode` meets its contract. The loop's invariant: the table is that of the first s records, and those are exact or not.
use Rattle.std.proofs.Common.{◌≡◌}
use Rattle.tid.specs.Sizes.{slot_count}
use Rattle.image.specs.Image.{table_up_to}
use Rattle.image.specs.Exact.{exact_up_to}
use Rattle.image.proofs.stored.decode.Given as goal

abbrev pub invariant-loop-s : goal.invariant-loop-s
invariant-loop-s l = (l.table ≡ table_up_to slot_count l.edition l.bytes l.s) × (l.exact ≡ exact_up_to l.bytes l.s)
