-- A worked example: nine messages, on which the count wraps while two sleep.
use Rattle.std.specs.Prelude.{◌≡◌, ℕ, List, [], ◌∷◌}
use Rattle.clock.specs.declared.clock.Asked.{Asked}
use Rattle.clock.specs.declared.clock.Asked.TheVariants.{Tick, Time, Delay, Until}
use Rattle.clock.specs.declared.clock.Said.{Said}
use Rattle.clock.specs.declared.clock.Said.TheVariants.{Count, Refused}
use Rattle.clock.specs.Clock.{new_clock}
use Rattle.clock.specs.Plan.{Arrival, Answer, answers}

infix 70 ◌asks◌
abbrev ◌asks◌ : ℕ → Asked → Arrival
from asks q = record { from = from; asked = q }

infix 70 ◌hears◌
abbrev ◌hears◌ : ℕ → Said → Answer
to hears s = record { to = to; said = s }

-- what is sent; the notifier is tid 1
abbrev pub sent : List Arrival
sent =
    5 asks Delay 2
    ∷ 6 asks Until 0
    ∷ 1 asks Tick
    ∷ 6 asks Time
    ∷ 5 asks Delay 1
    ∷ 7 asks Delay 4294967295
    ∷ 1 asks Tick
    ∷ 5 asks Delay 0
    ∷ 8 asks Tick
    ∷ []

-- what is answered to each of them
abbrev pub answered : List (List Answer)
answered =
    []
    ∷ []
    ∷ (1 hears Count 0 ∷ 6 hears Count 0 ∷ [])
    ∷ (6 hears Count 0 ∷ [])
    ∷ (5 hears Refused 4 ∷ [])
    ∷ (7 hears Refused 2 ∷ [])
    ∷ (1 hears Count 1 ∷ 5 hears Count 1 ∷ [])
    ∷ (5 hears Count 1 ∷ [])
    ∷ (8 hears Refused 4 ∷ [])
    ∷ []

-- a clock whose first count is the last of 32 bits answers so: 6 is woken at the first tick, where the count is 0 again, 5 at the second
abbrev pub Wraps : Type 0
Wraps = answers (new_clock 1 4294967295) sent ≡ answered
