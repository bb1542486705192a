-- The laws at their borders: cases that hold, and the next ones that do not, so that no word of a law could be loosened unseen.
use Rattle.std.specs.Prelude.{ℕ, suc, ◌<◌, ◌≡◌, Bool, true, false, List, [], ◌∷◌, map}
use Rattle.tid.specs.Sizes.{slot_count, priorities, events, area_bytes}
use Rattle.task.specs.declared.task.Outcome.TheVariants.{Value, Fault}
use Rattle.task.specs.Task.{first_negative}
use Rattle.kernel.specs.declared.table.Table.{Table}
use Rattle.kernel.specs.declared.table.Request.{Request}
use Rattle.kernel.specs.Numbers.{exit_kind, event_kind, own_write_kind}
use Rattle.rules.specs.Good.{good_result}
use Rattle.kernel.specs.Edition.{one_waits}
use Rattle.rules.specs.Fresh.{blank_table, unused_table, fresh}
use Rattle.step.specs.Every.{numbers}
use Rattle.step.specs.Step.{step}
use Rattle.laws.specs.FirstRun.{areas_bytes, ask}
use Rattle.laws.specs.Laws.{step_refusals}

-- a table, a request, and how many bytes the areas have
pub record Case : Type 0 where
  pub table : Table
  pub request : Request
  pub areas : ℕ

abbrev case : Table → Request → ℕ → Case
case t r len = record { table = t; request = r; areas = len }

-- a kernel whose one task, of priority p, has exited
unfoldable pub idle : ℕ → Table
idle p = (step (fresh slot_count one_waits p 0) (ask exit_kind []) areas_bytes).table

-- an edition that is none; areas with a byte too many; a table that breaks a rule; no kind; nobody active; no event; a write past the area.
-- Each of the first three has all that the next one has, too
unfoldable pub refused_cases : ℕ → List Case
refused_cases p =
    let t = fresh slot_count one_waits p 0 in
    case (blank_table slot_count 257) (ask exit_kind []) (suc areas_bytes)
    ∷ case (unused_table slot_count) (ask exit_kind []) (suc areas_bytes)
    ∷ case (unused_table slot_count) (ask exit_kind []) areas_bytes
    ∷ case t (ask 0 []) areas_bytes
    ∷ case (idle p) (ask exit_kind []) areas_bytes
    ∷ case t (ask event_kind (events ∷ [])) areas_bytes
    ∷ case t (ask own_write_kind (area_bytes ∷ [])) areas_bytes
    ∷ []

-- Each number of the list is given, whatever the first task's priority, so that it names no number too many; that it names none too few is
-- AnyTable.
abbrev pub EachRefusalIsGiven : Type 0
EachRefusalIsGiven =
    (p : ℕ) → p < priorities → map (λ c. (step c.table c.request c.areas).answer.verdict) (refused_cases p) ≡ step_refusals

-- a value below 2^31 from tid n may be shown; 2^31 may not, from whomever, nor anything from tid n + 1
abbrev pub ValuesEnd : Type 0
ValuesEnd =
    (n from v : ℕ) (cut : Bool)
    → (v < first_negative → good_result n (Value n cut v) ≡ true)
    × (good_result n (Value from cut first_negative) ≡ false)
    × (good_result n (Value (suc n) cut v) ≡ false)

-- of 0 to 4, 1 to 3 are faults
abbrev pub FaultsEnd : Type 0
FaultsEnd =
    (n : ℕ) → map (λ f. good_result n (Fault f)) (numbers 0 5) ≡ false ∷ true ∷ true ∷ true ∷ false ∷ []
