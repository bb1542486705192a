-- A run in blocks: request records one after another, each stepped, and a line for each.
use Rattle.std.specs.Prelude.{◌≡◌, ℕ, zero, suc, ◌+◌, ◌*◌, ◌/◌, ◌%◌, ◌^◌, Bool, List, [], ◌∷◌, ◌++◌, length, ◌==◌}
use Rattle.queue.specs.Choose.{choose}
use Rattle.tid.specs.Sizes.{slot_count}
use Rattle.kernel.specs.declared.table.Table.{Table}
use Rattle.kernel.specs.declared.table.Request.{Request}
use Rattle.rules.specs.Fresh.{started}
use Rattle.step.specs.Run.{Done, run, table_after, areas_after}
use Rattle.lines.specs.declared.block.Block.{Block}
use Rattle.image.specs.Bytes.{record_at}
use Rattle.image.specs.Call.{request_length, request_from}
use Rattle.lines.specs.Text.{Appended}
use Rattle.lines.specs.Line.{line_of, longest, end_line}
use Rattle.lines.specs.State.{wide_line_of, longest_wide}

-- Where a run stands: the table, the areas, the number of the next step, and the lines so far.
pub record Standing : Type 0 where
  pub table : Table
  pub areas : List ℕ
  pub step : ℕ
  pub text : List ℕ

-- the number of the step after a step; it has 64 bits, and no run comes to its end
abbrev pub following : ℕ → ℕ
following n = (n + 1) % 2 ^ 64

-- the line of a step of a run, wide or not
abbrev pub shown_line : Bool → ℕ → Done → List ℕ
shown_line wide k s = choose wide (wide_line_of k s.request.kind s.decision) (line_of k s.request.kind s.decision.answer)

-- the lines of the steps of a run, whose first is number k
unfoldable pub lines_from : Bool → ℕ → List Done → List ℕ
lines_from wide k [] = []
lines_from wide k (s ∷ ss) = shown_line wide k s ++ lines_from wide (following k) ss

-- the number of the step after them
unfoldable pub number_after : ℕ → List Done → ℕ
number_after k [] = k
number_after k (s ∷ ss) = number_after (following k) ss

-- the first k requests of a row of records
unfoldable pub requests_in : List ℕ → ℕ → List Request
requests_in bytes zero = []
requests_in bytes (suc k) = requests_in bytes k ++ (request_from (record_at request_length bytes k) ∷ [])

-- the requests of all whole records
abbrev pub requests : List ℕ → List Request
requests bytes = requests_in bytes (length bytes / request_length)

-- a fresh kernel, whose first step is number 1; an edition or a priority that is none gives one where nobody is
abbrev pub fresh_block : ℕ → ℕ → ℕ → Block
fresh_block ed priority entry = record { table = (started slot_count ed priority entry).table; step = 1; end = 0 }

-- where a run stands after requests, with no line before theirs
abbrev pub ran : Bool → Block → List ℕ → List Request → Standing
ran wide b areas rs =
    let u = run b.table areas rs in
    record {
      table = table_after b.table u;
      areas = areas_after areas u;
      step = number_after b.step u;
      text = lines_from wide b.step u;
    }

-- What a block that is to end as `due` says leaves: its lines stand behind what the buffer held.
pub record Ran (due : Standing) (first : Block) (before : List ℕ) (b : Block) (areas out : List ℕ) : Type 0 where
  pub reached : b.table ≡ due.table
  pub counted : b.step ≡ due.step
  pub changed : areas ≡ due.areas
  pub shown : Appended before first.end due.text out b.end

-- what stands behind the lines of so many bytes: a line more where the last record is incomplete
unfoldable pub end_of : ℕ → List ℕ
end_of count = choose (count % request_length == 0) [] end_line

-- where a run stands after a block of bytes, its last record whole or not
abbrev pub showed : Bool → Block → List ℕ → List ℕ → Standing
showed wide b areas bytes =
    let s = ran wide b areas (requests bytes) in
    record { table = s.table; areas = s.areas; step = s.step; text = s.text ++ end_of (length bytes) }

-- room for the lines of so many bytes
abbrev pub room_for : Bool → ℕ → ℕ
room_for wide count = choose wide longest_wide longest * (count / request_length + 1)
