-- How many may wait for one event.
use Prim.Native.Nat.{ℕ, ◌+◌, ◌≤◌}
use mathlib.Core.Path.{◌≡◌}
use mathlib.Core.Bool.{true}
use native.Mathlib.Decide.{ℕ_discrete}
use native.Mathlib.Omega.{arith}
use lib.Dec.{eqb, leb}
use borrow.Author.Tests.{eq-eqb, ne_eqb, leb-true, le-leb, lt-leb}
use Rattle.queue.proofs.Below.{by_test}
use Rattle.kernel.specs.Edition.{many_wait, may_wait}

-- one more is one at most exactly if there was none
pub joins_none : (waiters : ℕ) → leb (waiters + 1) 1 ≡ eqb waiters 0
joins_none waiters =
    elim (ℕ_discrete waiters 0) [
      | yes none ↦ rw (eq-eqb waiters 0 none) (le-leb (waiters + 1) 1 (omega arith))
      | no some ↦ rw (ne_eqb waiters 0 some) (lt-leb (waiters + 1) 1 (omega arith))
    ]

-- where so many may wait, fewer may
pub fewer_wait : (ed many few : ℕ) → few ≤ many → may_wait ed many ≡ true → may_wait ed few ≡ true
fewer_wait ed many few h fits =
    by_test (eqb ed many_wait) (λ e. rw e)
    (λ e. rw e (le-leb few 1 (omega (arith, leb-true many 1 (rw e at fits)))))
