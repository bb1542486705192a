-- How many of the numbers below a bound pass a test, and the rank of each among them.
use Prim.Native.Nat.{ℕ, zero, suc, ◌+◌, ◌≤◌, ◌<◌}
use mathlib.Core.Path.{◌≡◌, refl}
use mathlib.Core.Bool.{Bool, true, false}
use native.Mathlib.Omega.{arith}
use native.Mathlib.Decide.{ℕ_discrete, dec_lt}
use lib.Dec.{ltb}
use borrow.Author.Tests.{lt-ltb, le-ltb}
use Rattle.queue.specs.Choose.{choose}
use Rattle.queue.proofs.Below.{by_test}

-- how many of the numbers below n pass
unfoldable pub count_below : ℕ → (ℕ → Bool) → ℕ
count_below zero p = 0
count_below (suc n) p = choose (p n) (count_below n p + 1) (count_below n p)

module _ (p : ℕ → Bool) where
  below_step : (n : ℕ) → (count_below n p ≤ count_below (suc n) p) × (count_below (suc n) p ≤ count_below n p + 1)
  unfolding count_below
  below_step n = by_test (p n) (λ e. rw e (omega arith, omega arith)) (λ e. rw e (omega arith, omega arith))

  pub below_most : (n : ℕ) → count_below n p ≤ n
  unfolding count_below
  below_most zero = omega arith
  below_most (suc n) = omega (arith, below_step n, below_most n)

  -- where none from u on passes, those below u are all
  pub below_rest : (u n : ℕ) → u ≤ n → ((s : ℕ) → u ≤ s → s < n → p s ≡ false) → count_below u p ≡ count_below n p
  unfolding count_below
  below_rest u zero h none = let e : u ≡ 0 = omega arith in rw e
  below_rest u (suc n) h none = elim (ℕ_discrete u (suc n)) [
    | yes e ↦ rw e
    | no ne ↦ rw (none n (omega arith) (omega arith)) (below_rest u n (omega arith) (λ s l m. none s l (omega arith)))
  ]

  below_grows : (s n : ℕ) → s ≤ n → count_below s p ≤ count_below n p
  below_grows s zero h = let e : s ≡ 0 = omega arith in rw e (omega arith)
  below_grows s (suc n) h = elim (ℕ_discrete s (suc n)) [
    | yes e ↦ rw e (omega arith)
    | no ne ↦ omega (arith, below_grows s n (omega arith), below_step n)
  ]

  -- how many pass before a number that passes is its rank, which no other has
  pub rank_less : (s n : ℕ) → s < n → p s ≡ true → count_below s p < count_below n p
  unfolding count_below
  rank_less s n h e =
      let next : count_below (suc s) p ≡ count_below s p + 1 = rw e in
      omega (arith, below_grows (suc s) n h)

  pub rank_apart : (s r : ℕ) → p s ≡ true → p r ≡ true → count_below s p ≡ count_below r p → s ≡ r
  rank_apart s r e f same = elim (dec_lt s r) [
    | yes l ↦ absurd (omega (arith, rank_less s r l e))
    | no g ↦ elim (dec_lt r s) [ yes l ↦ absurd (omega (arith, rank_less r s l f)) | no g' ↦ omega arith ]
  ]

  -- the number below n that has a rank
  unfoldable pub nth : ℕ → ℕ → ℕ
  nth zero r = 0
  nth (suc n) r = choose (ltb r (count_below n p)) (nth n r) n

  pub record Ranked (n r s : ℕ) : Type 0 where
    pub below : s < n
    pub passes : p s ≡ true
    pub rank : count_below s p ≡ r

  pub nth_is : (n r : ℕ) → r < count_below n p → Ranked n r (nth n r)
  unfolding nth count_below
  nth_is zero r h = absurd (omega arith)
  nth_is (suc n) r h = elim (dec_lt r (count_below n p)) [
    | yes l ↦
        let old = nth_is n r l in
        rw (lt-ltb r (count_below n p) l) (record { below = omega (arith, old.below); passes = old.passes; rank = old.rank })
    | no g ↦
        rw (le-ltb r (count_below n p) (omega arith))
        (by_test (p n)
        (λ e. record { below = omega arith; passes = e; rank = omega (arith, rw e at h) })
        (λ e. absurd (omega (arith, rw e at h))))
  ]

pub below_none : (n : ℕ) (p : ℕ → Bool) → ((i : ℕ) → p i ≡ false) → count_below n p ≡ 0
unfolding count_below
below_none zero p none = refl
below_none (suc n) p none = rw (none n) (below_none n p none)

-- those that pass one of two tests, of which no number passes both
pub below_joined : (n : ℕ) (p q r : ℕ → Bool)
    → ((i : ℕ) → q i ≡ true → (p i ≡ false) × (r i ≡ true))
    → ((i : ℕ) → q i ≡ false → r i ≡ p i)
    → count_below n r ≡ count_below n p + count_below n q
unfolding count_below
below_joined zero p q r one other = refl
below_joined (suc n) p q r one other =
    let less = below_joined n p q r one other in
    by_test (q n)
    (λ e. rw (e, (one n e).0, (one n e).1) (omega arith))
    (λ e. rw (e, other n e) (by_test (p n) (λ f. rw f (omega arith)) (λ f. rw f less)))
