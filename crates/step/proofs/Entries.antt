-- What holds of every entry of lists that are joined.
use mathlib.Core.List.{List, ◌++◌, map, flatten}
use Rattle.step.specs.Every.{Every, none, more}

pub every_append : {A : Type 0} {P : A → Type 0} {xs ys : List A} → Every P xs → Every P ys → Every P (xs ++ ys)
every_append none qs = qs
every_append (more p ps) qs = more p (every_append ps qs)

-- of lists that are made of the entries of one, what holds of every entry of each
pub every_flatten : {A B : Type 0} {P : A → Type 0} {Q : B → Type 0} (f : A → List B) → ((a : A) → P a → Every Q (f a))
    → {xs : List A} → Every P xs → Every Q (flatten (map f xs))
unfolding flatten
every_flatten f h none = none
every_flatten f h (more {x} p ps) = every_append (h x p) (every_flatten f h ps)
