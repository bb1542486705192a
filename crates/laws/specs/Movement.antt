-- What moves the bytes of the areas in a run: the deliveries and the tasks' own writes, together in step order.
use Rattle.std.specs.Prelude.{ℕ, suc, Bool, List, [], ◌∷◌, ◌++◌}
use Rattle.kernel.specs.declared.table.Effect.{Effect}
use Rattle.kernel.specs.declared.table.Effect.TheVariants.{Keep, Copy, Put}
use Rattle.step.specs.Run.{Done}

-- from which place of the areas, to which, how many bytes, and whether they were cut; or by which step, counted from 1, and at which place
pub data Movement : Type 0 where
  delivery : ℕ → ℕ → ℕ → Bool → Movement
  write : ℕ → ℕ → Movement

-- what the effect of step s moves, if anything
abbrev pub movement_of : ℕ → Effect → List Movement
movement_of s Keep = []
movement_of s (Copy source dest n cut) = delivery source dest n cut ∷ []
movement_of s (Put at byte) = write s at ∷ []

-- the movements of the steps from number s on
unfoldable pub movements_from : ℕ → List Done → List Movement
movements_from s [] = []
movements_from s (d ∷ ds) = movement_of s d.decision.effect ++ movements_from (suc s) ds

-- the movements of a run
abbrev pub movements : List Done → List Movement
movements u = movements_from 1 u
