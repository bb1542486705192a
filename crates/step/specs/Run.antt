-- A run: a list of requests, each done by a step on what the step before it left. Everything that speaks of more than one step, in
-- bytes or in lines too, speaks of these.
use Rattle.std.specs.Prelude.{ℕ, List, [], ◌∷◌, map, length}
use Rattle.kernel.specs.declared.table.Table.{Table}
use Rattle.kernel.specs.declared.table.Request.{Request}
use Rattle.kernel.specs.declared.table.Answer.{Answer}
use Rattle.kernel.specs.declared.table.Decision.{Decision}
use Rattle.step.specs.Step.{step, after}

-- a step of a run: the table that it started from, what was asked, what was decided, and the areas after it
pub record Done : Type 0 where
  pub before : Table
  pub request : Request
  pub decision : Decision
  pub areas : List ℕ

-- the steps of a run from a table and areas, the first step first
unfoldable pub run : Table → List ℕ → List Request → List Done
run t xs [] = []
run t xs (r ∷ rs) =
    let d = step t r (length xs) in
    let ys = after d.effect xs in
    record { before = t; request = r; decision = d; areas = ys } ∷ run d.table ys rs

-- what each step showed: its verdict, the task that runs next and that task's result
abbrev pub answers : List Done → List Answer
answers u = map (λ s. s.decision.answer) u

-- the table after each step
abbrev pub tables : List Done → List Table
tables u = map (λ s. s.decision.table) u

-- the last of a list, or what there was before it
unfoldable pub last_of {ℓ} : {A : Type ℓ} → A → List A → A
last_of a [] = a
last_of a (x ∷ xs) = last_of x xs

-- the table that a run from t ends with
abbrev pub table_after : Table → List Done → Table
table_after t u = last_of t (tables u)

-- the areas that a run from areas xs ends with
abbrev pub areas_after : List ℕ → List Done → List ℕ
areas_after xs u = last_of xs (map (λ s. s.areas) u)
