use Rattle.std.proofs.Common.{◌≡◌, ◌+◌, ◌/◌, ◌%◌, ◌≤◌, length, arith, le-leb, rules}
use Rattle.image.specs.Bytes.{bytes_of}
use Rattle.image.proofs.Made.{four_stored}
use Rattle.server.proofs.words.put_word.Goals as goal

pub returns : goal.returns
returns c =
    let out = c.args.out.now in
    let at = c.args.at in
    let x = c.args.x in
    let room : at + 4 ≤ length out = omega arith in
    let bytes : c.to_le_bytes.result ≡ bytes_of 4 x = search rules in
    rw (c.from-first.ensures, bytes, le-leb _ _ room)
    (four_stored out at (x % 256) (x / 256 % 256) (x / 256 / 256 % 256) (x / 256 / 256 / 256 % 256) room)
