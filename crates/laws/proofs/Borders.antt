-- The borders of the laws. A step of a good table is its decision, so that no table is checked by computation.
use Prim.Native.Nat.{ℕ, suc, ◌<◌}
use mathlib.Core.Path.{◌≡◌, refl, ap}
use mathlib.Core.Bool.{and-false}
use mathlib.Core.List.{[], ◌∷◌, map}
use native.Mathlib.Nat.{le_refl}
use native.Mathlib.Omega.{arith}
use borrow.Author.Tests.{lt-ltb, le-leb, lt-leb}
use Rattle.queue.specs.Choose.{first_from}
use Rattle.tid.specs.Sizes.{slot_count, priorities, events, area_bytes}
use Rattle.task.specs.Task.{first_negative}
use Rattle.kernel.specs.declared.table.Table.{Table}
use Rattle.kernel.specs.declared.table.Request.{Request}
use Rattle.kernel.specs.declared.table.Decision.{Decision}
use Rattle.kernel.specs.Numbers.{exit_kind, event_kind, own_write_kind, bad_areas, bad_table, bad_edition}
use Rattle.kernel.specs.Edition.{one_waits}
use Rattle.kernel.specs.Table.{active_slot}
use Rattle.kernel.specs.Moves.{first_ready, dispatched}
use Rattle.kernel.specs.Turn.{settled}
use Rattle.kernel.proofs.Every.{every_kind, every_move}
use Rattle.kernel.specs.Refusal.{refusal_of}
use Rattle.kernel.specs.Decide.{turn_of, decide_at, decide}
use Rattle.rules.specs.Fresh.{blank_table, unused_table, fresh}
use Rattle.rules.specs.Facts.{Good}
use Rattle.rules.proofs.Fresh.{fresh_good, unused_broken}
use Rattle.step.specs.Every.{numbers}
use Rattle.step.specs.Step.{step}
use Rattle.step.proofs.Steps.{step_decides}
use Rattle.laws.specs.FirstRun.{areas_bytes, ask}
use Rattle.laws.specs.Laws.{step_refusals}
use Rattle.laws.specs.Borders.{idle, refused_cases, EachRefusalIsGiven, ValuesEnd, FaultsEnd}
use Rattle.laws.proofs.Steps.{step_sound}

abbrev leave : Request
leave = ask exit_kind []

-- the three refusals that come before a decision
refused_first :
    ((step (blank_table slot_count 257) leave (suc areas_bytes)).answer.verdict ≡ bad_edition)
    × ((step (unused_table slot_count) leave (suc areas_bytes)).answer.verdict ≡ bad_areas)
    × ((step (unused_table slot_count) leave areas_bytes).answer.verdict ≡ bad_table)
unfolding step
refused_first = (refl, refl, rw (unused_broken slot_count))

module _ (p : ℕ) (low : p < priorities) where
  -- the table of most cases
  abbrev first : Table
  first = fresh slot_count one_waits p 0

  first_good : Good slot_count first
  first_good = fresh_good slot_count one_waits p 0 refl (omega arith) low

  idle_good : Good slot_count (idle p)
  unfolding idle
  idle_good = (step_sound (omega arith) first leave areas_bytes first_good).good

  idle_left : idle p ≡ (decide first leave).table
  unfolding idle
  idle_left = ap (λ (d : Decision). d.table) (step_decides first leave areas_bytes first_good refl)

  given : map (λ c. (step c.table c.request c.areas).answer.verdict) (refused_cases p) ≡ step_refusals
  unfolding refused_cases decide decide_at refusal_of turn_of every_kind every_move settled dispatched first_ready active_slot first_from
  given =
      rw (
        refused_first.0,
        refused_first.1,
        refused_first.2,
        step_decides first (ask 0 []) areas_bytes first_good refl,
        step_decides (idle p) leave areas_bytes idle_good refl,
        step_decides first (ask event_kind (events ∷ [])) areas_bytes first_good refl,
        step_decides first (ask own_write_kind (area_bytes ∷ [])) areas_bytes first_good refl,
        idle_left,
      )

pub each_refusal_is_given : EachRefusalIsGiven
each_refusal_is_given p low = given p low

pub values_end : ValuesEnd
values_end n from v cut =
    (λ small. rw (lt-ltb v first_negative small, le-leb n n (le_refl n)), refl, rw (lt-leb (suc n) n (omega arith), and-false))

pub faults_end : FaultsEnd
unfolding numbers
faults_end n = refl
