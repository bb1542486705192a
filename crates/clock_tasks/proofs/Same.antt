-- Lists that are the same, as std compares them.
use Rattle.std.proofs.Common.{◌≡◌, ℕ, ◌&&◌, ◌==◌, List, [], ◌∷◌, refl, ap}
use lib.Pointwise.{pointwise}
use lib.Dec.{eqb}
use Rattle.image.specs.Bytes.{same}

pub same_pointwise : (xs ys : List ℕ) → pointwise eqb xs ys ≡ same xs ys
unfolding same
same_pointwise [] [] = refl
same_pointwise [] (y ∷ ys) = refl
same_pointwise (x ∷ xs) [] = refl
same_pointwise (x ∷ xs) (y ∷ ys) = ap (λ b. x == y && b) (same_pointwise xs ys)
