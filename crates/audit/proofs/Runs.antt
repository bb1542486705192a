-- The runs of places that the second pass gives out. The first member of a queue that is met is given as many places in a row as stand in
-- its queue, so that those of two queues never meet, and a place that is taken twice is a place of one queue.
use Prim.Native.Nat.{ℕ, ◌+◌, ◌-◌, ◌≤◌, ◌<◌}
use mathlib.Core.Path.{◌≡◌, sym, ◌∙◌}
use mathlib.Core.Logic.{◌≢◌}
use mathlib.Core.Bool.{Bool, true, false, not, ◌&&◌, and-true, and-false}
use mathlib.Core.List.{List}
use native.Mathlib.Omega.{arith}
use native.Mathlib.Decide.{ℕ_discrete, dec_lt}
use lib.ListN.{length, get_or, set, replicate, length-set, length-replicate, get_or-eq_default}
use lib.Seq.{get_or-set_same, get_or-set_other}
use lib.Dec.{eqb, ltb}
use borrow.Author.Tests.{eq-eqb, ne_eqb, eqb-true, eqb-false, lt-ltb, le-ltb, le-leb, lt-leb}
use Rattle.queue.specs.Choose.{all_below}
use Rattle.queue.proofs.Below.{below_all, all_more}
use Rattle.queue.proofs.Refilled.{zero_at}
use Rattle.audit.specs.Audit.{ranked}
use Rattle.audit.proofs.Below.{count_below, below_most, below_none, below_joined}

-- no slot before s stands at a place of a queue
abbrev pub untaken : (ℕ → ℕ) → (ℕ → ℕ) → ℕ → ℕ → ℕ → Bool
untaken key place s k p = all_below s (λ i. not (eqb (key i) k && eqb (place i) p))

module _ (m : ℕ) (many key place : ℕ → ℕ) (s : ℕ) where
  pub ranked_past : m ≤ key s → ranked m many key place s ≡ true
  ranked_past past = rw (le-leb m (key s) past)

  module _ (k p : ℕ) (own : k ≡ key s) (at : p ≡ place s) (low : k < m) where
    pub ranked_is : ranked m many key place s ≡ (ltb p (many k) && untaken key place s k p)
    ranked_is = rw (← own, ← at, lt-leb m k low)

    pub ranked_high : many k ≤ p → ranked m many key place s ≡ false
    ranked_high high = ranked_is ∙ rw (le-ltb p (many k) high)

-- The first s slots were met. A queue k of m has no run while base[k] is 0, else count[k] places from base[k] - 1 on, of the first
-- `given` ones, which are as many as there are used slots in those queues.
pub record Runs (m used : ℕ) (count : List ℕ) (key place : ℕ → ℕ) (base taken : List ℕ) (given s : ℕ) : Type 0 where
  pub bases : length base ≡ m
  pub room : used ≤ length taken
  -- the queue of each slot that was met has one
  pub met : (i : ℕ) → i < s → key i < m → 0 < get_or base (key i) 0
  pub within : (k : ℕ) → 0 < get_or base k 0 → get_or base k 0 + get_or count k 0 ≤ given + 1
  -- no two runs share a place
  pub apart : (j k p q : ℕ) → j ≢ k → 0 < get_or base j 0 → 0 < get_or base k 0 → p < get_or count j 0 → q < get_or count k 0
      → get_or base j 0 + p ≢ get_or base k 0 + q
  pub sum : given ≡ count_below used (λ i. ltb 0 (get_or base (key i) 0))
  -- a place of a run is marked if one of those slots stands there
  pub marks : (k p : ℕ) → 0 < get_or base k 0 → p < get_or count k 0
      → eqb (get_or taken (get_or base k 0 - 1 + p) 0) 0 ≡ untaken key place s k p
  pub rest : (x : ℕ) → given ≤ x → get_or taken x 0 ≡ 0

pub runs_none : (m n used : ℕ) (count : List ℕ) (key place : ℕ → ℕ) → used ≤ n
    → Runs m used count key place (replicate m 0) (replicate n 0) 0 0
runs_none m n used count key place h =
    let none : (k : ℕ) → 0 < get_or (replicate m 0) k 0 → ⊥ = λ k l. omega (arith, zero_at m k) in
    record {
      bases = length-replicate {A = ℕ} m 0;
      room = omega (arith, length-replicate {A = ℕ} n 0);
      met = λ i l. absurd (omega arith);
      within = λ k l. absurd (none k l);
      apart = λ j k p q ne l. absurd (none j l);
      sum = sym (below_none used (λ i. ltb 0 (get_or (replicate m 0) (key i) 0)) (λ i. rw (zero_at m (key i))));
      marks = λ k p l. absurd (none k l);
      rest = λ x l. zero_at n x;
    }

module _ {m used : ℕ} {count : List ℕ} {key place : ℕ → ℕ} {base taken : List ℕ} {given s : ℕ} (r : Runs m used count key place base taken given s) where
  pub runs_most : given ≤ used
  runs_most = omega (arith, r.sum, below_most (λ i. ltb 0 (get_or base (key i) 0)) used)

  -- only the m queues have runs
  pub run_low : (k : ℕ) → 0 < get_or base k 0 → k < m
  run_low k has = elim (dec_lt k m) [
    | yes h ↦ h
    | no past ↦ absurd (omega (arith, get_or-eq_default base 0 {n = k} (omega (arith, r.bases))))
  ]

  -- a place of a queue that has a run
  pub run_inside : (k p : ℕ) → 0 < get_or base k 0 → p < get_or count k 0 → get_or base k 0 - 1 + p < given
  run_inside k p l h = omega (arith, r.within k l)

  -- a slot that stands in no queue
  pub runs_past : m ≤ key s → Runs m used count key place base taken given (s + 1)
  runs_past past =
      record {
        bases = r.bases;
        room = r.room;
        met = λ i h l. elim (ℕ_discrete i s) [ yes e ↦ absurd (omega (arith, rw e at l)) | no ne ↦ r.met i (omega arith) l ];
        within = r.within;
        apart = r.apart;
        sum = r.sum;
        marks = λ k p l h.
            let other : key s ≢ k = λ e. omega (arith, run_low k l) in
            r.marks k p l h ∙ rw (all_more, ne_eqb (key s) k other) (sym (and-true (untaken key place s k p)));
        rest = r.rest;
      }

  -- a queue whose first member is met
  pub runs_fresh : (k : ℕ) → k < m → get_or base k 0 ≡ 0 → get_or count k 0 ≡ count_below used (λ i. eqb (key i) k)
      → Runs m used count key place (set base k (given + 1)) taken (given + get_or count k 0) s
  runs_fresh k low zero counted =
      let new = set base k (given + 1) in
      let own : get_or new k 0 ≡ given + 1 = get_or-set_same base k (given + 1) 0 (omega (arith, r.bases)) in
      let other : (j : ℕ) → j ≢ k → get_or new j 0 ≡ get_or base j 0 = λ j ne. get_or-set_other base k j (given + 1) 0 ne in
      record {
        bases = length-set base k (given + 1) ∙ r.bases;
        room = r.room;
        met = λ i h l. elim (ℕ_discrete (key i) k) [ yes e ↦ rw (e, own) (omega arith) | no ne ↦ rw (other (key i) ne) (r.met i h l) ];
        within = λ j l. elim (ℕ_discrete j k) [
          | yes e ↦ rw (e, own) (omega arith)
          | no ne ↦ omega (arith, other j ne, r.within j (rw (other j ne) at l))
        ];
        apart = λ i j p q ne l h at at'. elim (ℕ_discrete i k) [
          | yes e ↦
              let ne' : j ≢ k = λ z. ne (e ∙ sym z) in
              rw (e, own) (λ z. omega (arith, other j ne', r.within j (rw (other j ne') at h)))
          | no ne' ↦ elim (ℕ_discrete j k) [
            | yes e ↦ rw (e, own) (λ z. omega (arith, other i ne', r.within i (rw (other i ne') at l)))
            | no ne'' ↦ rw (other i ne', other j ne'') (r.apart i j p q ne (rw (other i ne') at l) (rw (other j ne'') at h) at at')
          ]
        ];
        sum =
            let joined =
            below_joined used (λ i. ltb 0 (get_or base (key i) 0)) (λ i. eqb (key i) k) (λ i. ltb 0 (get_or new (key i) 0))
            (λ i e.
            let here = eqb-true (key i) k e in (
              rw (here, zero),
              rw (here, own) (lt-ltb 0 (given + 1) (omega arith)),
            ))
            (λ i e. rw (other (key i) (eqb-false (key i) k e))) in
            omega (arith, r.sum);
        marks = λ j p l h. elim (ℕ_discrete j k) [
          | yes e ↦
              let at : get_or taken (given + 1 - 1 + p) 0 ≡ 0 = r.rest (given + 1 - 1 + p) (omega arith) in
              let none : (i : ℕ) → i < s → key i ≢ k = λ i h z. omega (arith, rw (z, zero) at (r.met i h (omega arith))) in
              rw (e, own, at) (sym (below_all s (λ i. not (eqb (key i) k && eqb (place i) p)) (λ i h. rw (ne_eqb (key i) k (none i h)))))
          | no ne ↦ rw (other j ne) (r.marks j p (rw (other j ne) at l) h)
        ];
        rest = λ x h. r.rest x (omega arith);
      }

  -- a slot that stands at a place of a queue that has a run
  module _ (k p : ℕ) (own : k ≡ key s) (at : p ≡ place s) (has : 0 < get_or base k 0) (fits : p < get_or count k 0) where
    pub runs_more : Runs m used count key place base (set taken (get_or base k 0 - 1 + p) 1) given (s + 1)
    runs_more =
        let x = get_or base k 0 - 1 + p in
        let inside : x < length taken = omega (arith, run_inside k p has fits, runs_most, r.room) in
        record {
          bases = r.bases;
          room = rw (length-set taken x 1) r.room;
          met = λ i h l. elim (ℕ_discrete i s) [ yes e ↦ rw (e, ← own) has | no ne ↦ r.met i (omega arith) l ];
          within = r.within;
          apart = r.apart;
          sum = r.sum;
          marks = λ j q l h. elim (ℕ_discrete j k) [
            | yes e ↦ elim (ℕ_discrete q p) [
              | yes f ↦
                  rw (all_more, e, f, get_or-set_same taken x 1 0 inside, eq-eqb (key s) k (sym own), eq-eqb (place s) p (sym at))
                  (sym (and-false (untaken key place s k p)))
              | no ne ↦
                  rw (all_more, e, get_or-set_other taken x (get_or base k 0 - 1 + q) 1 0 (λ z. ne (omega arith)), ne_eqb (place s) q (λ z. ne (sym (at ∙ z))), and-false)
                  (r.marks k q has (rw e at h) ∙ sym (and-true (untaken key place s k q)))
            ]
            | no ne ↦
                let away : get_or base j 0 - 1 + q ≢ x = λ z. r.apart j k q p ne l has h fits (omega arith) in
                rw (all_more, get_or-set_other taken x (get_or base j 0 - 1 + q) 1 0 away, ne_eqb (key s) j (λ z. ne (sym (own ∙ z))))
                (r.marks j q l h ∙ sym (and-true (untaken key place s j q)))
          ];
          rest = λ y h. get_or-set_other taken x y 1 0 (λ e. omega (arith, run_inside k p has fits)) ∙ r.rest y h;
        }

    -- the slot is ranked if its place is not taken
    pub ranked_run : ranked m (λ j. get_or count j 0) key place s ≡ eqb (get_or taken (get_or base k 0 - 1 + p) 0) 0
    ranked_run = ranked_is m (λ j. get_or count j 0) key place s k p own at (run_low k has) ∙ rw (lt-ltb p (get_or count k 0) fits) (sym (r.marks k p has fits))
