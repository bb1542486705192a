-- What a host keeps of a task: words of 32 bits one after another, the lowest byte of each first.
use Rattle.std.specs.Prelude.{ℕ, ◌*◌, List, map}
use mathlib.Core.List.{flatten}
use Rattle.step.specs.Every.{numbers}
use Rattle.image.specs.Bytes.{bytes_of, number_in}

-- the bytes of words
abbrev pub word_bytes : List ℕ → List ℕ
word_bytes ws = flatten (map (bytes_of 4) ws)

-- the n words of bytes
abbrev pub words_in : ℕ → List ℕ → List ℕ
words_in n bytes = map (λ i. number_in bytes (4 * i) 4) (numbers 0 n)
