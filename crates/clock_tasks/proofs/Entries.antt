-- What holds of every entry of a list that is picked, mapped or filled.
use Rattle.std.proofs.Common.{ℕ, zero, suc, Bool, List, map, replicate}
use Rattle.task.proofs.Tests.{chosen}
use Rattle.step.specs.Every.{Every, none, more}
use Rattle.clock.specs.Row.{picked}

module _ {A : Type 0} {P : A → Type 0} where
  pub every_picked : (t : A → Bool) {xs : List A} → Every P xs → Every P (picked t xs)
  unfolding picked
  every_picked t none = none
  every_picked t (more {x} p ps) = chosen (Every P) (t x) (λ _. more p (every_picked t ps)) (λ _. every_picked t ps)

pub every_replicate : {A : Type 0} (P : A → Type 0) (n : ℕ) (z : A) → P z → Every P (replicate n z)
every_replicate P zero z p = none
every_replicate P (suc n) z p = more p (every_replicate P n z p)

module _ {A B : Type 0} {P : A → Type 0} {Q : B → Type 0} where
  pub every_map : (f : A → B) → ((a : A) → P a → Q (f a)) → {xs : List A} → Every P xs → Every Q (map f xs)
  every_map f h none = none
  every_map f h (more {x} p ps) = more (h x p) (every_map f h ps)
