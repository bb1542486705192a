-- What the clock's task keeps true of what it keeps: rows with all their places, a count of 32 bits, and nothing said but what is proper.
use Prim.Native.Nat.{ℕ, ◌+◌, ◌^◌, ◌≤◌, ◌<◌}
use mathlib.Core.Path.{◌≡◌, refl, ◌∙◌}
use mathlib.Core.Bool.{not}
use mathlib.Core.List.{List, ◌∷◌, map}
use native.Mathlib.Omega.{arith}
use lib.ListN.{length, length-take, length-set, length-map}
use lib.Dec.{ltb, leb, eqb}
use Rattle.task.specs.Task.{is_negative}
use Rattle.task.specs.declared.task.Outcome.{Outcome}
use Rattle.task.specs.declared.task.Outcome.TheVariants.{Nothing, Value, Fault}
use Rattle.task.proofs.Tests.{chosen}
use Rattle.clock.specs.declared.row.Row.{Row}
use Rattle.clock.specs.declared.clock.Clock.{Clock}
use Rattle.clock.specs.declared.clock.Asked.{Asked}
use Rattle.clock.specs.declared.clock.Asked.TheVariants.{Tick, Time, Delay, Until, Unknown}
use Rattle.clock.specs.Clock.{Heard}
use Rattle.clock.specs.Row.{room, hearers, asleep, sleeper, pushed_row, holds}
use Rattle.clock.specs.Clock.{wrapped, is_due, new_clock, due_at, not_due_at, sleeps, waits, ticked, hear}
use Rattle.clock.specs.Message.{asked_in}
use Rattle.clock.specs.Laws.{Proper}
use Rattle.clock.proofs.Lists.{picked_fewer, length_filled}
use Rattle.clock.proofs.Laws.{says_proper}
use Rattle.server.specs.declared.phase.Phase.{Phase}
use Rattle.server.specs.declared.phase.Phase.TheVariants.{Making, Made, Writing, Replying, Listening}
use Rattle.clock_tasks.specs.declared.serving.Server.{Server}
use Rattle.clock_tasks.specs.Server.{new_server, asked, opened, heard, value_in, fault_in, told}

-- a clock of so many places, with a count of 32 bits
pub record Whole (c : Clock) : Type 0 where
  pub places : length c.row.places ≡ room
  pub count : c.count < 2 ^ 32

pub new_whole : (n : ℕ) → Whole (new_clock n 0)
new_whole n = record { places = refl; count = omega arith }

-- what is made of a message by a clock whose notifier is n
pub record Fine (n : ℕ) (h : Heard) : Type 0 where
  pub whole : Whole h.clock
  pub to : length h.to.tids ≡ hearers
  pub notifier : h.clock.notifier ≡ n

module _ (c : Clock) (whole : Whole c) where
  -- the sender alone is answered, and the clock is as before
  stays : {h : Heard} → h.clock ≡ c → length h.to.tids ≡ hearers → Fine c.notifier h
  stays same to = record { whole = rw same whole; to = to; notifier = rw same }

  pushed_places : (from due : ℕ) → length (pushed_row c.row (sleeper from due)).places ≡ room
  unfolding pushed_row
  pushed_places from due =
      chosen (λ (q : Row). length q.places ≡ room) (ltb c.row.len room)
      (λ _. length-set c.row.places c.row.len (sleeper from due) ∙ whole.places) (λ _. whole.places)

  waits_fine : (from due : ℕ) → Fine c.notifier (waits c from due)
  unfolding waits sleeps
  waits_fine from due =
      chosen (Fine c.notifier) (is_due c.count due) (λ _. stays refl refl)
      (λ _. chosen (Fine c.notifier) (leb room c.row.len) (λ _. stays refl refl)
      (λ _. record { whole = record { places = pushed_places from due; count = whole.count }; to = refl; notifier = refl }))

  ticked_fine : Fine c.notifier (ticked c)
  unfolding ticked
  ticked_fine =
      let now = wrapped (c.count + 1) in
      let xs = asleep c.row in
      let many : length xs ≤ room = rw (length-take c.row.len c.row.places) (omega (arith, whole.places)) in
      let due = due_at now xs in
      record {
        whole =
            record {
              places = length_filled room (sleeper 0 0) (not_due_at now xs) (omega (arith, picked_fewer (λ x. not (is_due now x.due)) xs));
              count = omega arith;
            };
        to = length_filled hearers 0 (c.notifier ∷ map (λ x. x.tid) due)
            (omega (arith, picked_fewer (λ x. is_due now x.due) xs, length-map due (λ x. x.tid)));
        notifier = refl;
      }

  pub hear_fine : (from : ℕ) (q : Asked) → Fine c.notifier (hear c from q)
  unfolding hear
  hear_fine from Tick = chosen (Fine c.notifier) (eqb from c.notifier) (λ _. ticked_fine) (λ _. stays refl refl)
  hear_fine from Time = stays refl refl
  hear_fine from (Delay d) =
      chosen (Fine c.notifier) (holds c.row from) (λ _. stays refl refl)
      (λ _. chosen (Fine c.notifier) (is_negative d) (λ _. stays refl refl) (λ _. waits_fine from (wrapped (c.count + d))))
  hear_fine from (Until due) = chosen (Fine c.notifier) (holds c.row from) (λ _. stays refl refl) (λ _. waits_fine from due)
  hear_fine from Unknown = stays refl refl

pub record Sound (s : Server) : Type 0 where
  pub clock : Whole s.clock
  pub to : length s.to.tids ≡ hearers
  pub said : Proper s.said

pub new_sound : (priority : ℕ) → Sound (new_server priority)
new_sound priority = record { clock = new_whole 0; to = refl; said = omega arith }

pub asked_sound : {s : Server} → Sound s → Sound (asked s)
asked_sound old = record { clock = old.clock; to = old.to; said = old.said }

opened_sound : (s : Server) (v : ℕ) → Sound s → Sound (opened s v)
opened_sound s v old = record { clock = new_whole v; to = refl; said = old.said }

heard_sound : (s : Server) (from v : ℕ) (area : List ℕ) → Sound s → Sound (heard s from v area)
heard_sound s from v area old =
    let q = asked_in v area in
    let fine = hear_fine s.clock old.clock from q in
    record { clock = fine.whole; to = fine.to; said = says_proper s.clock from q old.clock.count }

pub told_sound : (s : Server) (o : Outcome) (area : List ℕ) → Sound s → Sound (told s o area)
told_sound s Nothing area old = old
told_sound s (Value from cut v) area old = go s.phase
  where
    go : (p : Phase) → Sound (value_in p s from v area)
    go Making = old
    go Made = opened_sound s v old
    go (Writing k) = old
    go (Replying k) = old
    go Listening = heard_sound s from v area old
told_sound s (Fault f) area old = go s.phase
  where
    go : (p : Phase) → Sound (fault_in p s)
    go Making = old
    go Made = opened_sound s 0 old
    go (Writing k) = old
    go (Replying k) = old
    go Listening = old
