-- Rows of a fixed number of places that fill from the front, and the lists that they stand for: who sleeps, and who is to be answered.
use Rattle.std.specs.Prelude.{ℕ, ◌+◌, ◌-◌, Bool, eqb, List, [], ◌∷◌, ◌++◌, length, take, set, replicate, nat_lt}
use Rattle.std.specs.List.{list_any}
use Rattle.queue.specs.Choose.{choose}
use Rattle.clock.specs.declared.row.Sleeper.{Sleeper}
use Rattle.clock.specs.declared.row.Row.{Row}
use Rattle.clock.specs.declared.row.Hearers.{Hearers}

-- as many as may sleep at one time
abbrev pub room : ℕ
room = 16

-- as many as one message may have answered: its sender, and all who may sleep
abbrev pub hearers : ℕ
hearers = 17

-- the n places of a row that holds xs: first xs, then z in each place that is left
abbrev pub filled {ℓ} : {A : Type ℓ} → ℕ → A → List A → List A
filled n z xs = xs ++ replicate (n - length xs) z

-- those of a list that pass a test, in their order
unfoldable pub picked {ℓ} : {A : Type ℓ} → (A → Bool) → List A → List A
picked p [] = []
picked p (x ∷ xs) = choose (p x) (x ∷ picked p xs) (picked p xs)

-- whether any of a list passes a test
abbrev pub some : {A : Type 0} → (A → Bool) → List A → Bool
some p xs = list_any p xs

-- who sleeps, and the count at which it is due
abbrev pub sleeper : ℕ → ℕ → Sleeper
sleeper tid due = record { tid = tid; due = due }

-- those who sleep, in order of arrival
abbrev pub asleep : Row → List Sleeper
asleep q = take q.len q.places

-- the row in which these sleep, with zeros past the last
abbrev pub row_of : List Sleeper → Row
row_of xs = record { places = filled room (sleeper 0 0) xs; len = length xs }

-- a sleeper comes last; a full row stays as it is
unfoldable pub pushed_row : Row → Sleeper → Row
pushed_row q x = choose (nat_lt q.len room) (record { places = set q.places q.len x; len = q.len + 1 }) q

-- whether a tid sleeps
unfoldable pub holds : Row → ℕ → Bool
holds q tid = some (λ x. eqb x.tid tid) (asleep q)

-- the tids that are to be answered, in this order
abbrev pub answered_tids : Hearers → List ℕ
answered_tids h = take h.len h.tids

-- the row of these tids, with zeros past the last
abbrev pub hearers_of : List ℕ → Hearers
hearers_of tids = record { tids = filled hearers 0 tids; len = length tids }

-- a tid comes last; a full row stays as it is
unfoldable pub pushed_hearers : Hearers → ℕ → Hearers
pushed_hearers h tid = choose (nat_lt h.len hearers) (record { tids = set h.tids h.len tid; len = h.len + 1 }) h
