-- Where the program stands between two blocks: where the one run of all that it has read stands.
use Rattle.std.specs.Prelude.{ℕ, ◌≡◌, Bool, List, ◌++◌}
use Rattle.kernel.specs.declared.table.Table.{Table}
use Rattle.lines.specs.Block.{lines_from}
use Rattle.lines.specs.Printed.{steps_of, lines_of, Whole, Reached}

-- there is an input of whole records whose run in an edition leads here
abbrev pub Stands : ℕ → Table → ℕ → List ℕ → Type 0
Stands ed table step areas = (input : List ℕ) × Reached ed input table step areas

-- whatever input led to a place, bytes behind it lead to another
abbrev pub Leads : ℕ → Table → ℕ → List ℕ → Table → ℕ → List ℕ → Type 0
Leads ed table step areas table' step' areas' =
    (input : List ℕ) → Reached ed input table step areas → (bytes : List ℕ) × Reached ed (input ++ bytes) table' step' areas'

-- What a block of bytes leaves behind an input that led to it: a text that goes on where the input's lines end, wide or not, and, where
-- the bytes are whole records, the place where the run of both stands.
pub record Onward (wide : Bool) (ed : ℕ) (input bytes text : List ℕ) (table : Table) (step : ℕ) (areas : List ℕ) : Type 0 where
  pub printed : lines_from wide 1 (steps_of ed input) ++ text ≡ lines_of wide ed (input ++ bytes)
  pub stands : Whole bytes → Reached ed (input ++ bytes) table step areas
