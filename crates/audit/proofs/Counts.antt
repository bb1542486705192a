-- What the first pass counts: of each queue, how many records stand in it. And which record it takes for the active one.
use Prim.Native.Nat.{ℕ, zero, suc, ◌+◌, ◌≤◌, ◌<◌}
use mathlib.Core.Path.{◌≡◌, refl, ap, ◌∙◌}
use mathlib.Core.Logic.{◌≢◌}
use mathlib.Core.List.{List}
use native.Mathlib.Omega.{arith}
use native.Mathlib.Decide.{ℕ_discrete, dec_lt}
use lib.ListN.{length, get_or, length-set, length-replicate, get_or-eq_default}
use lib.Seq.{get_or-set_same, get_or-set_other}
use lib.Dec.{eqb}
use borrow.Author.Tests.{eqb-true, eqb-false, eq-eqb, ne_eqb}
use Rattle.queue.specs.Numbering.{queues_for}
use Rattle.queue.proofs.Below.{by_test}
use Rattle.queue.proofs.Refilled.{zero_at}
use Rattle.image.specs.Record.{at_state, byte_at}
use Rattle.audit.specs.Survey.{queue_in, active_up_to, count_up_to}
use Rattle.audit.proofs.Below.{count_below, below_most}

pub count_length : (n : ℕ) (b : List ℕ) (u : ℕ) → length (count_up_to n b u) ≡ queues_for n
unfolding count_up_to
count_length n b zero = length-replicate (queues_for n) 0
count_length n b (suc u) = length-set (count_up_to n b u) (queue_in n b u) _ ∙ count_length n b u

-- each queue's count is how many of the records stand in it
pub count_is : (n : ℕ) (b : List ℕ) (u k : ℕ) → k < queues_for n → get_or (count_up_to n b u) k 0 ≡ count_below u (λ s. eqb (queue_in n b s) k)
unfolding count_up_to count_below
count_is n b zero k h = zero_at (queues_for n) k
count_is n b (suc u) k h =
    let count = count_up_to n b u in
    elim (ℕ_discrete (queue_in n b u) k) [
      | yes e ↦
          rw (e, eq-eqb k k refl)
          (get_or-set_same count k _ 0 (omega (arith, count_length n b u)) ∙ ap (λ (c : ℕ). c + 1) (count_is n b u k h))
      | no ne ↦
          rw (ne_eqb (queue_in n b u) k ne)
          (get_or-set_other count (queue_in n b u) k _ 0 (λ e. omega arith) ∙ count_is n b u k h)
    ]

pub count_most : (n : ℕ) (b : List ℕ) (u k : ℕ) → get_or (count_up_to n b u) k 0 ≤ u
count_most n b u k = elim (dec_lt k (queues_for n)) [
  | yes h ↦ omega (arith, count_is n b u k h, below_most (λ s. eqb (queue_in n b s) k) u)
  | no g ↦ omega (arith, get_or-eq_default (count_up_to n b u) 0 {n = k} (omega (arith, count_length n b u)))
]

-- a is an active record below u; n where there is none
pub record Last (n : ℕ) (b : List ℕ) (u a : ℕ) : Type 0 where
  pub most : a ≤ n
  pub none : n ≤ a → (s : ℕ) → s < u → byte_at b s at_state ≢ 1
  pub some : a < n → (a < u) × (byte_at b a at_state ≡ 1)

pub active_last : (n : ℕ) (b : List ℕ) (u : ℕ) → u ≤ n → Last n b u (active_up_to n b u)
unfolding active_up_to
active_last n b zero h =
    record { most = omega arith; none = λ _ s l. absurd (omega arith); some = λ l. absurd (omega arith) }
active_last n b (suc u) h =
    let old = active_last n b u (omega arith) in
    by_test (eqb (byte_at b u at_state) 1)
    (λ e. rw e
    (record { most = omega arith; none = λ g. absurd (omega arith); some = λ _. (omega arith, eqb-true (byte_at b u at_state) 1 e) }))
    (λ e. rw e
    (record {
      most = old.most;
      none = λ g s l. elim (ℕ_discrete s u) [ yes q ↦ rw q (eqb-false (byte_at b u at_state) 1 e) | no ne ↦ old.none g s (omega arith) ];
      some = λ l. (omega (arith, (old.some l).0), (old.some l).1);
    }))
