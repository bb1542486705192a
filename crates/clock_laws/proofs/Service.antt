-- The clock is a service of the kind that crates/served speaks of.
use Prim.Native.Nat.{ℕ, zero, suc, ◌+◌, ◌*◌, ◌/◌, ◌≤◌, ◌<◌, min}
use mathlib.Core.Path.{◌≡◌, refl, ap, ap₂}
use mathlib.Core.List.{List, [], ◌∷◌, ◌++◌}
use native.Mathlib.Omega.{arith}
use lib.ListN.{get_or, take}
use lib.Seq.{get_or-take}
use lib.Dec.{eqb}
use borrow.Author.Tests.{eqb-true}
use Rattle.queue.proofs.Below.{by_test}
use Rattle.image.specs.Bytes.{bytes_of, number_in}
use Rattle.clock.specs.declared.clock.Clock.{Clock}
use Rattle.clock.specs.declared.clock.Asked.{Asked}
use Rattle.clock.specs.Row.{answered_tids}
use Rattle.clock.specs.Clock.{hear}
use Rattle.clock.specs.Message.{size, asked_in, answer_bytes}
use Rattle.server.specs.Service.{Heard}
use Rattle.served.specs.Laws.{Fits}
use Rattle.clock_tasks.specs.Server.{clock_service}

-- the bytes of a number are bytes, and so are those of two
one_bytes : (n x k : ℕ) → get_or (bytes_of n x) k 0 < 256
one_bytes zero x k = omega arith
one_bytes (suc n) x zero = omega arith
one_bytes (suc n) x (suc k) = one_bytes n (x / 256) k

both_bytes : (xs ys : List ℕ) → ((k : ℕ) → get_or xs k 0 < 256) → ((k : ℕ) → get_or ys k 0 < 256) → (k : ℕ) → get_or (xs ++ ys) k 0 < 256
both_bytes [] ys h h' k = h' k
both_bytes (x ∷ xs) ys h h' zero = h 0
both_bytes (x ∷ xs) ys h h' (suc k) = both_bytes xs ys (λ k. h (suc k)) h' k

pub words_bytes : (a b k : ℕ) → get_or (bytes_of 4 a ++ bytes_of 4 b) k 0 < 256
words_bytes a b k = both_bytes (bytes_of 4 a) (bytes_of 4 b) (one_bytes 4 a) (one_bytes 4 b) k

-- a number is read of the bytes that it stands in
number_front : (area : List ℕ) (n at k : ℕ) → at + k ≤ n → number_in (take n area) at k ≡ number_in area at k
number_front area n at zero fits = refl
number_front area n at (suc k) fits =
    ap₂ (λ (x y : ℕ). x + 256 * y) (get_or-take n area at 0 (omega arith)) (number_front area n (suc at) k (omega arith))

-- what a message asks stands in its first bytes
asked_front : (v : ℕ) (area : List ℕ) → asked_in v area ≡ asked_in v (take (min v size) area)
unfolding asked_in
asked_front v area =
    by_test (eqb v size)
    (λ whole.
    let least : min v size ≡ size = omega (arith, eqb-true v size whole) in
    rw (whole, least, number_front area size 0 4 (omega arith), number_front area size 4 4 (omega arith)))
    (λ other. rw other)

-- what the service makes of what is asked
abbrev heard_as : Clock → ℕ → Asked → Heard Clock
heard_as c from q = let h = hear c from q in record { mind = h.clock; answer = answer_bytes h.said; to = answered_tids h.to }

pub clock_fits : Fits clock_service
clock_fits =
    record {
      some = omega arith;
      room = omega arith;
      sized = λ m from v area. refl;
      bytes = λ m from v area k. words_bytes _ _ k;
      front = λ m from v area. ap (λ (q : Asked). heard_as m from q) (asked_front v area);
    }
