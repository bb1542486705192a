-- What the clock makes of one message: what it keeps, who is answered, and what these are told. All who are answered are told the same.
use Rattle.std.specs.Prelude.{ℕ, ◌+◌, ◌-◌, ◌%◌, ◌^◌, Bool, not, List, [], ◌∷◌, map, ◌==◌, nat_le, nat_lt}
use Rattle.queue.specs.Choose.{choose}
use Rattle.task.specs.Task.{first_negative, is_negative}
use Rattle.clock.specs.declared.row.Sleeper.{Sleeper}
use Rattle.clock.specs.declared.clock.Clock.{Clock}
use Rattle.clock.specs.declared.clock.Asked.{Asked}
use Rattle.clock.specs.declared.clock.Asked.TheVariants.{Tick, Time, Delay, Until, Unknown}
use Rattle.clock.specs.declared.clock.Said.TheVariants.{Count, Refused}
use Rattle.clock.specs.declared.clock.Answer.{Answer}
use Rattle.clock.specs.declared.clock.Said.{Said}
use Rattle.clock.specs.declared.row.Hearers.{Hearers}
use Rattle.clock.specs.Row.{room, picked, sleeper, asleep, row_of, hearers_of, pushed_row, holds}

-- the clock after a message, who is answered and what each of them is told
pub record Heard : Type 0 where
  pub clock : Clock
  pub said : Said
  pub to : Hearers

abbrev pub heard : Clock → Answer → Heard
heard c a = record { clock = c; said = a.said; to = a.to }

-- a number as a word of 32 bits, which wraps
abbrev pub wrapped : ℕ → ℕ
wrapped x = x % 2 ^ 32

-- Whether the count has come to a target: the count less the target, wrapped, is below 2^31. So a target is due at 2^31 counts in a row,
-- from itself on, and is still to come at the 2^31 before it.
unfoldable pub is_due : ℕ → ℕ → Bool
is_due count target = nat_lt (wrapped (count + (2 ^ 32 - target))) first_negative

-- a clock where nobody sleeps, with the tid whose ticks count and the first count
abbrev pub new_clock : ℕ → ℕ → Clock
new_clock notifier count = record { notifier = notifier; count = count; row = row_of [] }

-- the sender is told the count, and nothing changes
abbrev pub counted : Clock → ℕ → Heard
counted c from = record { clock = c; said = Count c.count; to = hearers_of (from ∷ []) }

-- the sender is refused by -n, and nothing changes
abbrev pub refusal : Clock → ℕ → ℕ → Heard
refusal c from n = record { clock = c; said = Refused n; to = hearers_of (from ∷ []) }

-- the sender sleeps, behind all who came before, and nobody is answered: what is said goes to no one
unfoldable pub sleeps : Clock → ℕ → ℕ → Heard
sleeps c from due =
    record {
      clock = record { notifier = c.notifier; count = c.count; row = pushed_row c.row (sleeper from due) };
      said = Count c.count;
      to = hearers_of [];
    }

-- the sender waits for a target: it is answered at once where that is due, which needs no place; refused by -3 where no place is free; and
-- else it sleeps
unfoldable pub waits : Clock → ℕ → ℕ → Heard
waits c from due =
    choose (is_due c.count due) (counted c from)
    (choose (nat_le room c.row.len) (refusal c from 3)
    (sleeps c from due))

-- those who are due at a count, in order of arrival
abbrev pub due_at : ℕ → List Sleeper → List Sleeper
due_at count xs = picked (λ x. is_due count x.due) xs

-- those who are not, in order of arrival
abbrev pub not_due_at : ℕ → List Sleeper → List Sleeper
not_due_at count xs = picked (λ x. not (is_due count x.due)) xs

-- a tick of the notifier: the count is one more; the notifier is answered first, then those who are due at the new count, who give their
-- places back; the others sleep on
unfoldable pub ticked : Clock → Heard
ticked c =
    let now = wrapped (c.count + 1) in
    let xs = asleep c.row in
    record {
      clock = record { notifier = c.notifier; count = now; row = row_of (not_due_at now xs) };
      said = Count now;
      to = hearers_of (c.notifier ∷ map (λ x. x.tid) (due_at now xs));
    }

-- What the clock makes of a message from a tid. Of the refusals that would fit, -4 comes first, then -2, then -3. A delay is a target, d
-- ticks from now.
unfoldable pub hear : Clock → ℕ → Asked → Heard
hear c from Tick = choose (from == c.notifier) (ticked c) (refusal c from 4)
hear c from Time = counted c from
hear c from (Delay d) =
    choose (holds c.row from) (refusal c from 4)
    (choose (is_negative d) (refusal c from 2)
    (waits c from (wrapped (c.count + d))))
hear c from (Until due) = choose (holds c.row from) (refusal c from 4) (waits c from due)
hear c from Unknown = refusal c from 4
