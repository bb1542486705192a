-- How far the first pass has come.
use Prim.Native.Nat.{ℕ, ◌+◌, ◌≤◌, ◌<◌}
use mathlib.Core.Path.{◌≡◌, refl, ap}
use mathlib.Core.Bool.{true, false}
use mathlib.Core.List.{List}
use native.Mathlib.Numerals.{add-one}
use native.Mathlib.Omega.{arith}
use lib.ListN.{get_or, set, replicate}
use lib.Dec.{eqb}
use borrow.Author.Count.{below_more}
use Rattle.queue.specs.Choose.{choose}
use Rattle.queue.specs.Numbering.{queues_for}
use Rattle.queue.proofs.Below.{first_below_lem, first_ends}
use Rattle.image.specs.Record.{at_state, byte_at}
use Rattle.audit.specs.declared.survey.Seen.{Seen}
use Rattle.audit.specs.Survey.{queue_in, used_in, active_up_to, count_up_to, seen_in}

-- the first s of n records are used, and this is what was seen of them
pub record Passed (n : ℕ) (b count : List ℕ) (active s : ℕ) : Type 0 where
  pub most : s ≤ n
  pub used : (j : ℕ) → j < s → eqb (byte_at b j at_state) 0 ≡ false
  pub last : active ≡ active_up_to n b s
  pub counted : count ≡ count_up_to n b s

pub passed_none : (n : ℕ) (b : List ℕ) → Passed n b (replicate (queues_for n) 0) n 0
unfolding active_up_to count_up_to
passed_none n b = record { most = omega arith; used = λ j h. absurd (omega arith); last = refl; counted = refl }

module _ {n s active : ℕ} {b count : List ℕ} (w : Passed n b count active s) where
  pub passed_more : {active' : ℕ} {count' : List ℕ}
      → s < n
      → eqb (byte_at b s at_state) 0 ≡ false
      → active' ≡ choose (eqb (byte_at b s at_state) 1) s active
      → count' ≡ set count (queue_in n b s) (get_or count (queue_in n b s) 0 + 1)
      → Passed n b count' active' (s + 1)
  unfolding active_up_to count_up_to
  passed_more h some a k =
      record {
        most = omega arith;
        used = below_more _ _ w.used some;
        last = rw (add-one, ← w.last) a;
        counted = rw (add-one, ← w.counted) k;
      }

  -- the pass ends at the first record that is unused
  pub passed_all : (s < n → eqb (byte_at b s at_state) 0 ≡ true)
      → ◌≡◌ {A = Seen} (record { used = s; active = active; count = count }) (seen_in n b)
  passed_all ends =
      let end : s ≡ used_in n b = first_ends n _ s w.most w.used ends in
      rw (← end, ← w.last, ← w.counted)

-- the used records are no more than there are, and the counts are of them
pub seen_used : (n : ℕ) (b : List ℕ) {seen : Seen} → seen ≡ seen_in n b → (seen.used ≤ n) × (seen.count ≡ count_up_to n b seen.used)
seen_used n b e = rw (ap (λ (x : Seen). x.used) e, ap (λ (x : Seen). x.count) e) ((first_below_lem n _).most, refl)
