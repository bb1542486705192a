-- `put_entry` meets its contract, byte by byte.
use Rattle.std.proofs.Common.{◌≡◌, ◌/◌, ◌%◌, arith, length-set, rules}
use Rattle.image.proofs.Made.{four_stored}
use Rattle.image.specs.Bytes.{bytes_of}
use Rattle.image.specs.Record.{at_entry}
use Rattle.entry.proofs.put_entry.Goals as goal

pub bounds-image : goal.bounds-image
bounds-image c = simp length-set (omega arith)

pub bounds-image-2 : goal.bounds-image-2
bounds-image-2 c = simp length-set (omega arith)

pub bounds-image-3 : goal.bounds-image-3
bounds-image-3 c = simp length-set (omega arith)

pub returns : goal.returns
returns c =
    let x = c.args.entry in
    let bytes : c.to_le_bytes.result ≡ bytes_of 4 x = search rules in
    rw bytes (four_stored c.args.image.now at_entry (x % 256) (x / 256 % 256) (x / 256 / 256 % 256) (x / 256 / 256 / 256 % 256) (omega arith))
