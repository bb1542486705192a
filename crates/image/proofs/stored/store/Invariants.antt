-- `image::stored::store` meets its contract. The loop's invariant: the first s records are written, and behind them the bytes are as they were.
use Rattle.std.proofs.Common.{◌≡◌, ◌*◌, ◌++◌, length, drop}
use Rattle.image.specs.Bytes.{in_order}
use Rattle.image.specs.Record.{record_length, record_of}
use Rattle.image.proofs.stored.store.Given as goal

abbrev pub invariant-loop-s : goal.invariant-loop-s
invariant-loop-s l = (length l.out ≡ length l.initial.out) × (l.out ≡ in_order (record_of l.table) l.s ++ drop (l.s * record_length) l.initial.out)
