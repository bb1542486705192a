-- `image::words::put_word` meets its contract, byte by byte.
use Rattle.std.proofs.Common.{◌≡◌, ℕ, ◌/◌, ◌%◌, List, [], ◌∷◌, ◌∙◌, ap, get_or, arith, length-set}
use lib.Seq.{paste}
use Rattle.std.specs.Int.{w32, to_le_bytes}
use Rattle.image.specs.Bytes.{bytes_of}
use Rattle.image.proofs.Made.{four_stored}
use Rattle.image.proofs.words.put_word.Goals as goal

-- the four bytes of a number, each by its place
four_of : (x : ℕ) (r : List ℕ) → r ≡ to_le_bytes w32 x → get_or r 0 0 ∷ get_or r 1 0 ∷ get_or r 2 0 ∷ get_or r 3 0 ∷ [] ≡ bytes_of 4 x
four_of x r e = let third : x / 65536 % 256 ≡ x / 256 / 256 % 256 = omega arith in
    let last : x / 16777216 % 256 ≡ x / 256 / 256 / 256 % 256 = omega arith in
    rw (e, third, last)

pub bounds-out-at-2 : goal.bounds-out-at-2
bounds-out-at-2 c = simp length-set (omega arith)

pub bounds-out-at-3 : goal.bounds-out-at-3
bounds-out-at-3 c = simp length-set (omega arith)

pub bounds-out-at-4 : goal.bounds-out-at-4
bounds-out-at-4 c = simp length-set (omega arith)

pub returns : goal.returns
returns c =
    four_stored c.args.out.now c.args.at _ _ _ _ c.requires
    ∙ ap (λ (s : List ℕ). paste c.args.out.now c.args.at s 4) (four_of c.args.x c.to_le_bytes.result c.to_le_bytes.ensures)
