-- Places that are below the count of their queue, no two of them the same, are exactly those of rows that keep the rule.
use Prim.Native.Nat.{ℕ, ◌-◌, ◌<◌}
use mathlib.Core.Path.{◌≡◌, refl, sym, ap, ◌∙◌}
use mathlib.Core.Logic.{◌≢◌}
use mathlib.Core.Bool.{Bool, true, not, ◌&&◌, false≢true, or-true}
use mathlib.Core.List.{List}
use native.Mathlib.Omega.{arith}
use native.Mathlib.Decide.{ℕ_discrete, dec_lt}
use lib.Dec.{eqb, ltb, leb}
use borrow.Author.Tests.{eqb-true, eq-eqb, ne_eqb, ltb-true, lt-ltb, le-leb, lt-leb}
use Rattle.tid.specs.Tid.{mark_of, slot_of}
use Rattle.queue.specs.declared.Queue.{Queue}
use Rattle.queue.specs.Row.{place_at, place_of}
use Rattle.queue.specs.Rows.{row_at}
use Rattle.queue.specs.Facts.{RowFacts, RowsFacts}
use Rattle.queue.proofs.Below.{both_true, all_below_lem, below_all}
use Rattle.queue.proofs.Facts.{slot_place}
use Rattle.queue.proofs.Made.{RowsMade, Stands, made_row}
use Rattle.queue.proofs.Pigeons.{Injects, pigeons, free_hole}
use Rattle.kernel.specs.Shape.{ShapedRows}
use Rattle.audit.specs.Audit.{ranked}
use Rattle.audit.proofs.Below.{count_below, below_most, rank_less, rank_apart, nth, nth_is}

-- a row is as long as there are slots that belong in it
pub row_count : (n : ℕ) (mine : ℕ → Bool) (q : Queue) → RowFacts n mine q → q.len ≡ count_below n mine
row_count n mine q f =
    let most = pigeons (count_below n mine) q.len (λ p. count_below (slot_of (place_at q p)) mine)
    (record {
      lands = λ p h. rank_less mine (slot_of (place_at q p)) n (omega (arith, f.mark p h)) (f.belongs p h);
      apart = λ p r h l e.
          let same = rank_apart mine (slot_of (place_at q p)) (slot_of (place_at q r)) (f.belongs p h) (f.belongs r l) e in
          f.once p r h l (omega (arith, f.mark p h, f.mark r l));
    }) in
    let least = pigeons q.len (count_below n mine) (λ r. place_of q (mark_of (nth mine n r)))
    (record {
      lands = λ r h. let s = nth_is mine n r h in (slot_place f (nth mine n r) s.below s.passes).0;
      apart = λ r i h l e.
          let s = nth_is mine n r h in
          let z = nth_is mine n i l in
          let same : mark_of (nth mine n r) ≡ mark_of (nth mine n i) =
          sym (slot_place f (nth mine n r) s.below s.passes).1 ∙ ap (place_at q) e ∙ (slot_place f (nth mine n i) z.below z.passes).1 in
          sym s.rank ∙ ap (λ (x : ℕ). count_below x mine) (omega arith) ∙ z.rank;
    }) in
    omega arith

-- what the test of a slot tells
pub record Fit (many key place : ℕ → ℕ) (s : ℕ) : Type 0 where
  pub low : place s < many (key s)
  pub fresh : (i : ℕ) → i < s → key i ≡ key s → place i ≢ place s

module _ (m : ℕ) (many key place : ℕ → ℕ) (s : ℕ) where
  pub ranked_fit : ranked m many key place s ≡ true → key s < m → Fit many key place s
  ranked_fit e l =
      let (low, fresh) = both_true (ltb (place s) (many (key s))) _ (rw (lt-leb m (key s) l) at e) in
      record {
        low = ltb-true _ _ low;
        fresh = λ i h own at.
            let other = all_below_lem s (λ i. not (eqb (key i) (key s) && eqb (place i) (place s))) fresh i h in
            false≢true (rw (eq-eqb (key i) (key s) own, eq-eqb (place i) (place s) at) at other);
      }

  pub fit_ranked : (key s < m → Fit many key place s) → ranked m many key place s ≡ true
  fit_ranked fit = elim (dec_lt (key s) m) [
    | yes l ↦
        let f = fit l in
        let fresh = below_all s (λ i. not (eqb (key i) (key s) && eqb (place i) (place s)))
        (λ i h. elim (ℕ_discrete (key i) (key s)) [
          | yes own ↦ rw (eq-eqb (key i) (key s) own, ne_eqb (place i) (place s) (f.fresh i h own))
          | no other ↦ rw (ne_eqb (key i) (key s) other)
        ]) in
        rw (lt-ltb (place s) (many (key s)) f.low, fresh) (or-true (leb m (key s)))
    | no g ↦ rw (le-leb m (key s) (omega arith))
  ]

-- rows of n places that n slots were put into, and how many of these have each key
pub record Filled (m n : ℕ) (many key place : ℕ → ℕ) (rows : List Queue) : Type 0 where
  pub made : RowsMade m n key place rows
  pub shaped : ShapedRows n m rows
  pub counted : (k : ℕ) → k < m → many k ≡ count_below n (λ i. eqb (key i) k)

module _ {m n : ℕ} {many key place : ℕ → ℕ} {rows : List Queue} (filled : Filled m n many key place rows) where
  pub row_many : RowsFacts n rows key → (k : ℕ) → k < m → (row_at rows k).len ≡ many k
  row_many f k h = row_count n _ (row_at rows k) (f.row k (omega (arith, filled.made.count))) ∙ sym (filled.counted k h)

  pub rows_fit : RowsFacts n rows key → (s : ℕ) → s < n → key s < m → Fit many key place s
  rows_fit f s h l =
      let row = f.row (key s) (omega (arith, filled.made.count)) in
      let at = filled.made.row (key s) l in
      let (p, inside, here) = row.found s h (eq-eqb (key s) (key s) refl) in
      record {
        low = omega (arith, at.filled p s here, row_many f (key s) l);
        fresh = λ i less own same.
            let (r, _, there) = row.found i (omega arith) (eq-eqb (key i) (key s) own) in
            let one : r ≡ p = omega (arith, at.filled p s here, at.filled r i there) in
            omega (arith, rw one at there);
      }

  module _ (fit : (s : ℕ) → s < n → key s < m → Fit many key place s) where
    -- two slots of one queue have different places
    apart : (s r : ℕ) → s < n → r < n → key s < m → key s ≡ key r → place s ≡ place r → s ≡ r
    apart s r h l low own at = elim (dec_lt s r) [
      | yes less ↦ absurd ((fit r l (omega arith)).fresh s less own at)
      | no g ↦ elim (dec_lt r s) [ yes less ↦ absurd ((fit s h low).fresh r less (sym own) (sym at)) | no g' ↦ omega arith ]
    ]

    -- so they fill the places below their count
    stands : (s : ℕ) → s < n → key s < m → Stands (row_at rows (key s)) (place s) (mark_of s)
    stands s h low =
        let k = key s in
        let p = place s in
        let q = row_at rows k in
        let mine : ℕ → Bool = λ i. eqb (key i) k in
        let c = count_below n mine in
        let row = filled.made.row k low in
        let wide = filled.shaped.places k low in
        let most = below_most mine n in
        let below : p < c = omega (arith, (fit s h low).low, filled.counted k low) in
        let found = row.filled p (slot_of (place_at q p)) (omega (arith, row.put s h refl (omega arith))) in
        let own = apart s (slot_of (place_at q p)) h found.0 low (sym found.1) (sym found.2) in
        let key-is : (r : ℕ) → r < c → key (nth mine n r) ≡ k = λ r l. eqb-true _ k (nth_is mine n r l).passes in
        let lands : (r : ℕ) → r < c → place (nth mine n r) < c =
        λ r l. rw (key-is r l, filled.counted k low) at (fit (nth mine n r) (nth_is mine n r l).below (omega (arith, key-is r l))).low in
        let full : Injects c c (λ r. place (nth mine n r)) =
        record {
          lands = lands;
          apart = λ r i l m e.
              let one = nth_is mine n r l in
              let two = nth_is mine n i m in
              let same = apart (nth mine n r) (nth mine n i) one.below two.below (omega (arith, key-is r l)) (key-is r l ∙ sym (key-is i m)) e in
              sym one.rank ∙ ap (λ (x : ℕ). count_below x mine) same ∙ two.rank;
        } in
        record {
          room = omega arith;
          here = omega (arith, row.put s h refl (omega arith));
          before = λ some. elim (dec_lt 0 (place_at q (p - 1))) [
            | yes y ↦ y
            | no none ↦
                absurd (omega (
                  arith,
                  free_hole c c (p - 1) (λ r. place (nth mine n r)) full (omega arith)
                      (λ r l e. omega (arith, rw e at (row.put (nth mine n r) (nth_is mine n r l).below (key-is r l) (omega (arith, lands r l))))),
                ))
          ];
        }

    pub fit_rows : RowsFacts n rows key
    fit_rows =
        record {
          row = λ j l.
              let h : j < m = omega (arith, filled.made.count) in
              made_row (filled.made.row j h) (λ s b own. rw own at (stands s b (omega arith)));
        }
