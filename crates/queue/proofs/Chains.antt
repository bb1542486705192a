-- What a chain over a list answers, in the words of `Choose`.
use Prim.Native.Nat.{ℕ, zero, suc, ◌+◌, ◌-◌, ◌≤◌}
use mathlib.Core.Path.{◌≡◌, refl, ap, ◌∙◌}
use mathlib.Core.Bool.{Bool, cond}
use mathlib.Core.List.{List, [], ◌∷◌, ◌++◌}
use native.Mathlib.Numerals.{add-one}
use native.Mathlib.Nat.{zero-add}
use native.Mathlib.Omega.{arith}
use lib.ListN.{length, get_or, take, drop, set, length-drop}
use Rattle.std.proofs.lemmas.List.{get_or-take, length-take-le}
use lib.Dec.{ltb}
use borrow.Author.Tests.{lt-ltb, le-ltb}
use native.Mathlib.Decide.{dec_lt}
use Rattle.std.specs.Prelude.{unwrap_or}
use Rattle.std.proofs.Common.{Some, None}
use Rattle.std.specs.List.{list_all, position_or_len, copy_within}
use Rattle.std.proofs.lemmas.List.{take_all}
use Rattle.std.proofs.lemmas.List.Folds.{list_all_more}
use Rattle.std.proofs.lemmas.List.Sums.{position_or_len_is}
use Rattle.queue.specs.Choose.{all_below, first_below}
use Rattle.queue.proofs.Below.{first_below_lem, first_equal}

list_all_up_to : {X : Type 0} (p : X → Bool) (xs : List X) (d : X) (n : ℕ) → n ≤ length xs
    → list_all p (take n xs) ≡ all_below n (λ i. p (get_or xs i d))
unfolding all_below
list_all_up_to p xs d zero h = refl
list_all_up_to p xs d (suc n) h =
    rw add-one at (list_all_more p xs n d (omega arith)) ∙ rw (list_all_up_to p xs d n (omega arith)) refl

pub list_all_below : {X : Type 0} (p : X → Bool) (xs : List X) (d : X) {n : ℕ} → length xs ≡ n
    → list_all p xs ≡ all_below n (λ i. p (get_or xs i d))
list_all_below p xs d {n = n} len = rw (take_all n xs (omega arith)) at (list_all_up_to p xs d n (omega arith))

pub position_below : {X : Type 0} (p : X → Bool) (xs : List X) (d : X) {n : ℕ} → length xs ≡ n
    → position_or_len p xs ≡ first_below n (λ i. p (get_or xs i d))
position_below p xs d {n = n} len =
    let f = first_below_lem n (λ i. p (get_or xs i d)) in
    position_or_len_is p xs _ d (omega (arith, f.most)) (λ k h. f.before k (omega arith) h) (λ h. f.passes (omega arith))

-- all but the first moved up by one place, and 0 behind them
set_end : (ys zs : List ℕ) {n : ℕ} → length ys ≡ n → length zs ≡ 1 → set (ys ++ zs) n 0 ≡ ys ++ (0 ∷ [])
set_end [] (z ∷ []) {n = zero} e h = refl
set_end [] (z ∷ []) {n = suc n} e h = absurd (omega arith)
set_end [] [] e h = absurd (omega arith)
set_end [] (z ∷ w ∷ zs) e h = absurd (omega arith)
set_end (y ∷ ys) zs {n = zero} e h = absurd (omega arith)
set_end (y ∷ ys) zs {n = suc n} e h = ap (λ (l : List ℕ). y ∷ l) (set_end ys zs (omega arith) h)

pub moved_up : (xs : List ℕ) (n : ℕ) → length xs ≡ n + 1 → set (copy_within xs 1 (length xs) 0) n 0 ≡ drop 1 xs ++ (0 ∷ [])
moved_up xs n len =
    let m : length xs - 1 ≡ n = omega arith in
    let rest : length (drop 1 xs) ≡ n = omega (arith, length-drop 1 xs) in
    rw (m, zero-add, take_all n (drop 1 xs) (omega arith)) (set_end (drop 1 xs) (drop n xs) rest (omega (arith, length-drop n xs)))

-- a search among the first n, or n where none passes
pub first_or_end : {X : Type 0} (p : X → Bool) (xs : List X) (d : X) {n : ℕ} → n ≤ length xs
    → let k = position_or_len p (take n xs) in
    unwrap_or (cond (ltb k (length (take n xs))) (Some k) None) n ≡ first_below n (λ i. p (get_or xs i d))
first_or_end p xs d {n = n} h =
    let len : length (take n xs) ≡ n = length-take-le n xs h in
    let same = first_equal n (λ i. p (get_or (take n xs) i d)) (λ i. p (get_or xs i d)) (λ i l. ap p (get_or-take n xs i d l)) in
    let most = (first_below_lem n (λ i. p (get_or xs i d))).most in
    rw (len, position_below p (take n xs) d len, same)
    (elim (dec_lt (first_below n (λ i. p (get_or xs i d))) n) [
      | yes l ↦ rw (lt-ltb _ _ l) refl
      | no ge ↦ rw (le-ltb (first_below n (λ i. p (get_or xs i d))) n (omega arith)) (omega arith)
    ])

-- the same among all of them
pub whole_or_end : {X : Type 0} (p : X → Bool) (xs : List X) (d : X) {n : ℕ} → length xs ≡ n
    → let k = position_or_len p xs in
    unwrap_or (cond (ltb k (length xs)) (Some k) None) n ≡ first_below n (λ i. p (get_or xs i d))
whole_or_end p xs d {n = n} len =
    rw (take_all n xs (omega arith)) at (first_or_end p xs d {n = n} (omega arith))
