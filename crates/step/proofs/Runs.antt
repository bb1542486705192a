-- A run of two lists of requests is a run of the first, and one of the second from where the first ends.
use Prim.Native.Nat.{ℕ}
use mathlib.Core.Path.{◌≡◌, refl}
use mathlib.Core.List.{List, [], ◌∷◌, ◌++◌, map}
use lib.ListN.{length}
use Rattle.kernel.specs.declared.table.Table.{Table}
use Rattle.kernel.specs.declared.table.Request.{Request}
use Rattle.step.specs.Step.{step, after}
use Rattle.step.specs.Run.{Done, run, last_of, table_after, areas_after}

pub run_append : (rs qs : List Request) (t : Table) (xs : List ℕ)
    → let u = run t xs rs in
    run t xs (rs ++ qs) ≡ u ++ run (table_after t u) (areas_after xs u) qs
unfolding run last_of
run_append [] qs t xs = refl
run_append (r ∷ rs) qs t xs =
    let d = step t r (length xs) in
    rw (run_append rs qs d.table (after d.effect xs))

-- what the last of them leaves, of the table, the areas or another part of a step
pub last_append {ℓ} : {A : Type ℓ} (f : Done → A) (u w : List Done) (a : A)
    → last_of a (map f (u ++ w)) ≡ last_of (last_of a (map f u)) (map f w)
unfolding last_of
last_append f [] w a = refl
last_append f (s ∷ u) w a = last_append f u w (f s)
