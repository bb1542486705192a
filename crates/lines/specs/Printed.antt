-- What a program prints that reads request records block by block, as kernel-run does: the lines of one run.
use Rattle.std.specs.Prelude.{◌≡◌, ℕ, ◌*◌, ◌%◌, Bool, true, List, [], ◌∷◌, ◌++◌, length, replicate}
use mathlib.Core.List.{flatten}
use Rattle.tid.specs.Sizes.{slot_count, area_bytes}
use Rattle.kernel.specs.declared.table.Table.{Table}
use Rattle.kernel.specs.Edition.{is_edition}
use Rattle.rules.specs.Fresh.{fresh}
use Rattle.step.specs.Every.{Every}
use Rattle.step.specs.Run.{Done, run, table_after, areas_after}
use Rattle.image.specs.Call.{request_length}
use Rattle.lines.specs.declared.block.Block.{Block}
use Rattle.lines.specs.Block.{requests, lines_from, number_after, fresh_block, end_of, showed}

-- the first task's priority
abbrev pub first_priority : ℕ
first_priority = 16

-- its entry number: such a program starts no code by it
abbrev pub first_entry : ℕ
first_entry = 0

-- the areas at the start: zeros
abbrev pub first_areas : List ℕ
first_areas = replicate (slot_count * area_bytes) 0

-- the steps of all whole records of an input, by a fresh kernel of an edition
abbrev pub steps_of : ℕ → List ℕ → List Done
steps_of ed input = run (fresh slot_count ed first_priority first_entry) first_areas (requests input)

-- the lines of an input, wide or not: one for each step, the first of number 1, and one more where the last record is incomplete
abbrev pub lines_of : Bool → ℕ → List ℕ → List ℕ
lines_of wide ed input = lines_from wide 1 (steps_of ed input) ++ end_of (length input)

-- so many bytes are whole records
abbrev pub Whole : List ℕ → Type 0
Whole bytes = length bytes % request_length ≡ 0

-- where a program stands that has read an input of whole records
pub record Reached (ed : ℕ) (input : List ℕ) (table : Table) (step : ℕ) (areas : List ℕ) : Type 0 where
  pub whole : Whole input
  pub stands : table ≡ table_after (fresh slot_count ed first_priority first_entry) (steps_of ed input)
  pub counted : step ≡ number_after 1 (steps_of ed input)
  pub left : areas ≡ areas_after first_areas (steps_of ed input)

-- the text of blocks, each shown from where the one before it ended
unfoldable pub printed : Bool → Block → List ℕ → List (List ℕ) → List ℕ
printed wide b areas [] = []
printed wide b areas (bytes ∷ rest) =
    let s = showed wide b areas bytes in
    s.text ++ printed wide (record { table = s.table; step = s.step; end = 0 }) s.areas rest

-- However an input is cut into blocks, each of whole records but the last: what is printed is its lines, in either edition.
-- Ruled out: a program that starts a block from the first table again, or counts its steps from 1. No line shows a byte of the areas:
-- that they are not cleared between two blocks is what `Reached` says.
abbrev pub PrintedIsRun : Type 0
PrintedIsRun =
    (wide : Bool) (ed : ℕ) (blocks : List (List ℕ)) (last : List ℕ) → is_edition ed ≡ true → Every Whole blocks
    → printed wide (fresh_block ed first_priority first_entry) first_areas (blocks ++ last ∷ []) ≡ lines_of wide ed (flatten blocks ++ last)
