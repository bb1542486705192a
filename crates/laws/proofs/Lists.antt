-- What holds of every entry of a list and what stands in one: lists that are mapped, joined or counted up, and entries that are stored.
use Prim.Native.Nat.{ℕ, zero, suc, ◌+◌, ◌≤◌, ◌<◌}
use mathlib.Core.Path.{◌≡◌, refl, ap, ◌∙◌}
use mathlib.Core.List.{List, [], ◌∷◌, ◌++◌, map}
use native.Mathlib.Nat.{add-zero, add-suc, suc-add, add-sub_cancel_left}
use native.Mathlib.Decide.{ℕ_discrete}
use native.Mathlib.Omega.{arith}
use lib.ListN.{get_or, take, drop, set}
use lib.Seq.{sets}
use Rattle.step.specs.Every.{Every, none, more, Among, here, later, numbers}
use Rattle.laws.specs.Origin.{of_step}

module _ {A B : Type 0} (f : A → B) where
  pub map_set : (l : List A) (i : ℕ) (a : A) → map f (set l i a) ≡ set (map f l) i (f a)
  map_set [] i a = refl
  map_set (x ∷ xs) zero a = refl
  map_set (x ∷ xs) (suc i) a = ap (λ (r : List B). f x ∷ r) (map_set xs i a)

  pub map_sets : (vs l : List A) (i : ℕ) → map f (sets l i vs) ≡ sets (map f l) i (map f vs)
  map_sets [] l i = refl
  map_sets (a ∷ vs) l i = map_sets vs (set l i a) (suc i) ∙ ap (λ (r : List B). sets r (suc i) (map f vs)) (map_set l i a)

  pub map_take : (n : ℕ) (l : List A) → map f (take n l) ≡ take n (map f l)
  map_take zero l = refl
  map_take (suc n) [] = refl
  map_take (suc n) (x ∷ xs) = ap (λ (r : List B). f x ∷ r) (map_take n xs)

  pub map_drop : (n : ℕ) (l : List A) → map f (drop n l) ≡ drop n (map f l)
  map_drop zero l = refl
  map_drop (suc n) [] = refl
  map_drop (suc n) (x ∷ xs) = map_drop n xs

-- what holds of the entry at a place, and of one that is stored, holds of what stands there then
pub at_set : {A : Type 0} (P : A → Type 0) (l : List A) (i s : ℕ) (x y : A) → P x → P (get_or l s y) → P (get_or (set l i x) s y)
at_set P [] i s x y new old = old
at_set P (z ∷ l) zero zero x y new old = new
at_set P (z ∷ l) zero (suc s) x y new old = old
at_set P (z ∷ l) (suc i) zero x y new old = old
at_set P (z ∷ l) (suc i) (suc s) x y new old = at_set P l i s x y new old

module _ {A : Type 0} {P : A → Type 0} where
  pub every_set : {xs : List A} → Every P xs → (i : ℕ) {a : A} → P a → Every P (set xs i a)
  every_set none i p = none
  every_set (more q qs) zero p = more p qs
  every_set (more q qs) (suc i) p = more q (every_set qs i p)

  every_sets : {vs : List A} → Every P vs → {xs : List A} → Every P xs → (i : ℕ) → Every P (sets xs i vs)
  every_sets none ps i = ps
  every_sets (more q qs) ps i = every_sets qs (every_set ps i q) (suc i)

  every_take : (n : ℕ) {xs : List A} → Every P xs → Every P (take n xs)
  every_take zero ps = none
  every_take (suc n) none = none
  every_take (suc n) (more p ps) = more p (every_take n ps)

  every_drop : (n : ℕ) {xs : List A} → Every P xs → Every P (drop n xs)
  every_drop zero ps = ps
  every_drop (suc n) none = none
  every_drop (suc n) (more p ps) = every_drop n ps

  pub every_copied : {xs : List A} → Every P xs → (source dest n : ℕ) → Every P (sets xs dest (take n (drop source xs)))
  every_copied ps source dest n = every_sets (every_take n (every_drop source ps)) ps dest

  -- what holds of f of each number holds of every entry that f makes of the numbers
  pub every_numbered : (f : ℕ → A) (n k : ℕ) → ((i : ℕ) → i < k + n → P (f i)) → Every P (map f (numbers k n))
  unfolding numbers
  every_numbered f zero k h = none
  every_numbered f (suc n) k h = more (h k (omega arith)) (every_numbered f n (suc k) (λ i l. h i (omega arith)))

pub every_map : {A : Type 0} {P Q : A → Type 0} → ((a : A) → P a → Q a) → {xs : List A} → Every P xs → Every Q xs
every_map f none = none
every_map f (more {x} p ps) = more (f x p) (every_map f ps)

module _ {A : Type 0} where
  -- every entry of a list stands in it, whatever is put behind it or before it
  pub among_left : (xs ys : List A) → Every (λ a. Among a (xs ++ ys)) xs
  among_left [] ys = none
  among_left (x ∷ xs) ys = more here (every_map (λ a p. later p) (among_left xs ys))

  pub among_right : (xs ys : List A) → Every (λ a. Among a (xs ++ ys)) ys
  among_right [] [] = none
  among_right [] (y ∷ ys) = more here (every_map (λ a p. later p) (among_right [] ys))
  among_right (x ∷ xs) ys = every_map (λ a p. later p) (among_right xs ys)

  -- f of a number stands where the numbers do
  pub among_numbered : (f : ℕ → A) (n k i : ℕ) → k ≤ i → i < k + n → Among (f i) (map f (numbers k n))
  unfolding numbers
  among_numbered f zero k i least most = absurd (omega arith)
  among_numbered f (suc n) k i least most =
      elim (ℕ_discrete i k) [
        | yes e ↦ rw e here
        | no ne ↦ later (among_numbered f n (suc k) i (omega arith) (omega arith))
      ]

-- f gives the entries of a list, the first of them at k
pub record Gives (f : ℕ → ℕ) (k : ℕ) (vs : List ℕ) : Type 0 where
  pub each : (j : ℕ) → f (k + j) ≡ get_or vs j 0

module _ {f : ℕ → ℕ} {k v : ℕ} {vs : List ℕ} (gives : Gives f k (v ∷ vs)) where
  pub gives_first : f k ≡ v
  gives_first = rw add-zero at (gives.each 0)

  pub gives_rest : Gives f (suc k) vs
  gives_rest = record { each = λ j. rw (suc-add, ← add-suc) (gives.each (suc j)) }

-- what a list has for each step, the first step being 1
pub of_steps : (vs : List ℕ) → Gives (λ s. of_step vs s 0) 1 vs
of_steps vs = record { each = λ j. ap (λ (n : ℕ). get_or vs n 0) (add-sub_cancel_left 1 j) }
