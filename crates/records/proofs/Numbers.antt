-- A number of several bytes in a record is the one that stands in the image.
use Prim.Native.Nat.{ℕ, zero, suc, ◌+◌, ◌*◌, ◌≤◌, ◌<◌}
use mathlib.Core.Path.{◌≡◌, refl, sym, ap₂}
use mathlib.Core.List.{List}
use native.Mathlib.Nat.{add-zero, suc-add, add-suc, add_assoc}
use native.Mathlib.Omega.{arith}
use lib.ListN.{get_or}
use Rattle.image.specs.Bytes.{number_in, record_at}
use Rattle.image.specs.Record.{record_length}
use Rattle.image.proofs.Bytes.{byte_in_lem}

-- where the bytes are the same, a number is
pub number_same : (b b' : List ℕ) (i j k : ℕ) → ((d : ℕ) → d < k → get_or b (i + d) 0 ≡ get_or b' (j + d) 0) → number_in b i k ≡ number_in b' j k
number_same b b' i j zero same = refl
number_same b b' i j (suc k) same =
    let first : get_or b i 0 ≡ get_or b' j 0 = rw (add-zero i, add-zero j) at (same 0 (omega arith)) in
    ap₂ (λ (x y : ℕ). x + 256 * y) first
    (number_same b b' (suc i) (suc j) k (λ d h. rw (suc-add i d, suc-add j d, ← add-suc i d, ← add-suc j d) (same (suc d) (omega arith))))

pub number_in_lem : (b : List ℕ) (s at k : ℕ) → at + k ≤ record_length → number_in b (s * record_length + at) k ≡ number_in (record_at record_length b s) at k
number_in_lem b s at k fits =
    number_same b (record_at record_length b s) (s * record_length + at) at k
    (λ d h. rw (add_assoc (s * record_length) at d) (sym (byte_in_lem b s (at + d) (omega arith))))
