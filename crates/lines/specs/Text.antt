-- Text in a lent buffer, and numbers as text.
use Rattle.std.specs.Prelude.{◌≡◌, ℕ, zero, suc, ◌+◌, ◌-◌, ◌/◌, ◌%◌, ◌^◌, min, max, List, [], ◌∷◌, ◌++◌, length, nat_lt}
use Rattle.std.proofs.lemmas.List.Edits.{sets}
use Rattle.queue.specs.Choose.{choose}
use Rattle.task.specs.Task.{first_negative}

-- A text stored from a place on, and the place behind it. What does not fit is cut at the buffer's end.
pub record Appended (before : List ℕ) (at : ℕ) (text : List ℕ) (after : List ℕ) (end : ℕ) : Type 0 where
  pub stored : after ≡ sets before at text
  pub ended : end ≡ min (at + length text) (max at (length before))

-- the character of a number's last digit
abbrev pub digit : ℕ → ℕ
digit n = 48 + n % 10

-- a number's last k + 1 digits, and none before its first
unfoldable pub digits : ℕ → ℕ → List ℕ
digits zero n = digit n ∷ []
digits (suc k) n = choose (nat_lt n 10) [] (digits k (n / 10)) ++ (digit n ∷ [])

-- a number in decimal; it has no more digits than the number says
abbrev pub decimal : ℕ → List ℕ
decimal n = digits n n

-- a word of 32 bits in decimal, with a minus where it is negative
unfoldable pub signed : ℕ → List ℕ
signed w = choose (nat_lt w first_negative) (decimal w) (45 ∷ decimal (2 ^ 32 - w))
