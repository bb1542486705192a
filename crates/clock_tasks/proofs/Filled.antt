-- Places that are filled from the front: place i with f of i.
use Rattle.std.proofs.Common.{◌≡◌, ℕ, zero, suc, ◌+◌, ◌-◌, ◌<◌, List, [], ◌∷◌, ◌++◌, map, length, get_or, drop, set, replicate, sym, refl, ap, ◌∙◌, arith, drop-cons}
use mathlib.Core.List.{map-append}
use native.Mathlib.Numerals.{unary_clauses}
use lib.Seq.{set_at, append_snoc}
use Rattle.step.specs.Every.{numbers}

numbers_more : (k n : ℕ) → numbers k (suc n) ≡ numbers k n ++ ((k + n) ∷ [])
unfolding numbers
numbers_more k zero = let e : k ≡ k + 0 = omega arith in ap (λ (m : ℕ). m ∷ []) e
numbers_more k (suc n) =
    let e : suc k + n ≡ k + suc n = omega arith in
    ap (λ (r : List ℕ). k ∷ r) (numbers_more (suc k) n ∙ ap (λ (m : ℕ). numbers (suc k) n ++ (m ∷ [])) e)

module _ {A : Type 0} (f : ℕ → A) where
  -- f of each of the first n numbers
  abbrev pub firsts : ℕ → List A
  firsts n = map f (numbers 0 n)

  pub length_numbered : (k n : ℕ) → length (map f (numbers k n)) ≡ n
  unfolding numbers
  length_numbered k zero = refl
  length_numbered k (suc n) = ap suc (length_numbered (suc k) n)

  pub firsts_more : (n : ℕ) → firsts (suc n) ≡ firsts n ++ (f n ∷ [])
  firsts_more n =
      let e : 0 + n ≡ n = omega arith in
      ap (map f) (numbers_more 0 n ∙ ap (λ (m : ℕ). numbers 0 n ++ (m ∷ [])) e) ∙ map-append f (numbers 0 n) (n ∷ [])

  -- a list is f of its places
  numbered_are : (z : A) (xs : List A) (k : ℕ) → ((i : ℕ) → i < length xs → f (k + i) ≡ get_or xs i z) → map f (numbers k (length xs)) ≡ xs
  unfolding numbers
  numbered_are z [] k h = refl
  numbered_are z (x ∷ xs) k h =
      let here : k + 0 ≡ k = omega arith in
      let later : (i : ℕ) → suc k + i ≡ k + suc i = λ i. omega arith in
      λ i. (ap f (sym here) ∙ h 0 (omega arith)) i ∷ numbered_are z xs (suc k) (λ j l. ap f (later j) ∙ h (suc j) (omega arith)) i

  pub firsts_are : (z : A) (xs : List A) → ((i : ℕ) → i < length xs → f i ≡ get_or xs i z) → firsts (length xs) ≡ xs
  firsts_are z xs h = numbered_are z xs 0 (λ i l. let e : 0 + i ≡ i = omega arith in ap f e ∙ h i l)

  -- one place more
  pub fill_more : (old : List A) (i : ℕ) → i < length old → set (firsts i ++ drop i old) i (f i) ≡ firsts (suc i) ++ drop (suc i) old
  fill_more old i h =
      ap (λ (r : List A). set (firsts i ++ r) i (f i)) (drop-cons old i (f i) h)
      ∙ set_at (firsts i) _ (drop (suc i) old) (f i) i (length_numbered 0 i)
      ∙ sym (append_snoc (firsts i) (f i) (drop (suc i) old))
      ∙ ap (λ (r : List A). r ++ drop (suc i) old) (sym (firsts_more i))

-- what is left of places that are all z
pub drop_replicate : {A : Type 0} (z : A) (n i : ℕ) → drop i (replicate n z) ≡ replicate (n - i) z
drop_replicate z n zero = simp unary_clauses
drop_replicate z zero (suc i) = let none : 0 - suc i ≡ 0 = omega arith in rw none
drop_replicate z (suc n) (suc i) = simp unary_clauses (drop_replicate z n i)
