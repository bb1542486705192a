-- The second pass over the records: where it has come to a slot, those before it passed, and their places are taken.
use Prim.Native.Nat.{ℕ, ◌+◌, ◌-◌, ◌≤◌, ◌<◌}
use mathlib.Core.Path.{◌≡◌, refl, sym, ◌∙◌}
use mathlib.Core.Logic.{◌≢◌}
use mathlib.Core.Bool.{Bool, true, false, not, and-false}
use mathlib.Core.List.{List}
use native.Mathlib.Omega.{arith}
use lib.ListN.{get_or, set, replicate}
use lib.Seq.{get_or-set_same}
use lib.Dec.{eqb}
use borrow.Author.Tests.{eq-eqb, ne_eqb, not-true, not-false}
use Rattle.queue.specs.Choose.{all_below}
use Rattle.queue.specs.Numbering.{send_queue, queues_for}
use Rattle.queue.proofs.Below.{Tells, tells_none, true_both, one_fails, all_more}
use Rattle.image.specs.Record.{at_place, byte_at}
use Rattle.audit.specs.Survey.{queue_in, count_up_to}
use Rattle.audit.specs.Audit.{judged_at, ranked, slot_asked}
use Rattle.audit.proofs.Counts.{count_is}
use Rattle.audit.proofs.Runs.{Runs, runs_none, runs_most, run_inside, runs_past, runs_fresh, runs_more, ranked_past, ranked_high, ranked_run}

-- what is asked of the place of a slot
abbrev place_good : ℕ → List ℕ → List ℕ → ℕ → Bool
place_good n b count s = ranked (queues_for n) (λ k. get_or count k 0) (queue_in n b) (λ i. byte_at b i at_place) s

-- every slot before s passed
pub record Passed (n ed : ℕ) (b : List ℕ) (used active : ℕ) (count base taken : List ℕ) (given s : ℕ) : Type 0 where
  pub told : Tells used (slot_asked n ed b used active count) true s
  pub runs : Runs (queues_for n) used count (queue_in n b) (λ i. byte_at b i at_place) base taken given s

-- slot s is the next, and its record is good; k is its queue
pub record Next (n ed : ℕ) (b : List ℕ) (used active : ℕ) (count base taken : List ℕ) (given s k : ℕ) : Type 0 where
  pub passed : Passed n ed b used active count base taken given s
  pub more : s < used
  pub good : judged_at ed b used active (get_or count (send_queue s) 0) s ≡ true
  pub own : k ≡ queue_in n b s

-- the queue has a run, and the place is one of it
pub record Placed (n ed : ℕ) (b : List ℕ) (used active : ℕ) (count base taken : List ℕ) (given s k : ℕ) : Type 0 where
  pub next : Next n ed b used active count base taken given s k
  pub has : 0 < get_or base k 0
  pub fits : byte_at b s at_place < get_or count k 0

pub passed_none : (n ed : ℕ) (b : List ℕ) (used active : ℕ) (count : List ℕ) → used ≤ n
    → Passed n ed b used active count (replicate (queues_for n) 0) (replicate n 0) 0 0
passed_none n ed b used active count h =
    record {
      told = tells_none used (slot_asked n ed b used active count);
      runs = runs_none (queues_for n) n used count (queue_in n b) (λ i. byte_at b i at_place) h;
    }

told_more : {n s : ℕ} {p : ℕ → Bool} → Tells n p true s → s < n → p s ≡ true → Tells n p true (s + 1)
told_more w h e = record { most = omega arith; tells = rw (all_more, ← w.tells, e) }

module _ {n ed : ℕ} {b : List ℕ} {used active : ℕ} {count base taken : List ℕ} {given s : ℕ} where
  -- what is judged of the next slot
  module _ (w : Passed n ed b used active count base taken given s) (more : s < used) (j : Bool)
      (e : j ≡ judged_at ed b used active (get_or count (send_queue s) 0) s) where
    pub unjudged : not j ≡ true → false ≡ all_below used (slot_asked n ed b used active count)
    unjudged bad = sym (one_fails used (slot_asked n ed b used active count) {i = s} more (rw (← e, not-true j bad)))

    pub judged_next : not j ≡ false → (k : ℕ) → k ≡ queue_in n b s → Next n ed b used active count base taken given s k
    judged_next good k own = record { passed = w; more = more; good = sym e ∙ not-false j good; own = own }

  module _ {k : ℕ} (x : Next n ed b used active count base taken given s k) where
    passes : place_good n b count s ≡ true → Tells used (slot_asked n ed b used active count) true (s + 1)
    passes r = told_more x.passed.told x.more (true_both x.good r)

    fails : place_good n b count s ≡ false → false ≡ all_below used (slot_asked n ed b used active count)
    fails bad =
        sym (one_fails used (slot_asked n ed b used active count) {i = s} x.more
        (rw bad (and-false (judged_at ed b used active (get_or count (send_queue s) 0) s))))

    -- a slot that stands in no queue
    pub passed_past : queues_for n ≤ k → Passed n ed b used active count base taken given (s + 1)
    passed_past past =
        let past' : queues_for n ≤ queue_in n b s = rw x.own at past in
        record {
          told = passes (ranked_past (queues_for n) (λ j. get_or count j 0) (queue_in n b) (λ i. byte_at b i at_place) s past');
          runs = runs_past x.passed.runs past';
        }

    -- a place that is not below the number of those who stand there
    pub placed_high : k < queues_for n → get_or count k 0 ≤ byte_at b s at_place → false ≡ all_below used (slot_asked n ed b used active count)
    placed_high low high =
        fails
        (ranked_high (queues_for n) (λ j. get_or count j 0) (queue_in n b) (λ i. byte_at b i at_place) s k (byte_at b s at_place) x.own refl
        low high)

    -- the first of its queue
    module _ (low : k < queues_for n) (same : count ≡ count_up_to n b used) (none : get_or base k 0 ≡ 0) where
      opened : Runs (queues_for n) used count (queue_in n b) (λ i. byte_at b i at_place) (set base k (given + 1)) taken (given + get_or count k 0) s
      opened = runs_fresh x.passed.runs k low none (rw same (count_is n b used k low))

      pub opened_most : given + get_or count k 0 ≤ used
      opened_most = runs_most opened

      pub placed_fresh : {base' : List ℕ} {given' : ℕ} → base' ≡ set base k (given + 1) → given' ≡ given + get_or count k 0
          → byte_at b s at_place < get_or count k 0
          → Placed n ed b used active count base' taken given' s k
      placed_fresh e e' fits =
          rw (e, e')
          (record {
            next = record { passed = record { told = x.passed.told; runs = opened }; more = x.more; good = x.good; own = x.own };
            has = rw (get_or-set_same base k (given + 1) 0 (omega (arith, x.passed.runs.bases))) (omega arith);
            fits = fits;
          })

    -- a later one
    pub placed_kept : get_or base k 0 ≢ 0 → {base' : List ℕ} {given' : ℕ} → base' ≡ base → given' ≡ given
        → byte_at b s at_place < get_or count k 0
        → Placed n ed b used active count base' taken given' s k
    placed_kept some e e' fits = rw (e, e') (record { next = x; has = omega arith; fits = fits })

  -- at place q of the run that starts at f - 1
  module _ {k : ℕ} (x : Placed n ed b used active count base taken given s k) (f q : ℕ) (first : f ≡ get_or base k 0) (at : q ≡ byte_at b s at_place) where
    pub placed_inside : f - 1 + q < used
    placed_inside =
        omega (arith, run_inside x.next.passed.runs k (byte_at b s at_place) x.has x.fits, runs_most x.next.passed.runs)

    rank : place_good n b count s ≡ eqb (get_or taken (f - 1 + q) 0) 0
    rank = rw (first, at) (ranked_run x.next.passed.runs k (byte_at b s at_place) x.next.own refl x.has x.fits)

    pub placed_twice : get_or taken (f - 1 + q) 0 ≢ 0 → false ≡ all_below used (slot_asked n ed b used active count)
    placed_twice some = fails x.next (rank ∙ ne_eqb (get_or taken (f - 1 + q) 0) 0 some)

    pub passed_more : get_or taken (f - 1 + q) 0 ≡ 0 → Passed n ed b used active count base (set taken (f - 1 + q) 1) given (s + 1)
    passed_more none =
        record {
          told = passes x.next (rank ∙ eq-eqb (get_or taken (f - 1 + q) 0) 0 none);
          runs = rw (first, at) (runs_more x.next.passed.runs k (byte_at b s at_place) x.next.own refl x.has x.fits);
        }
