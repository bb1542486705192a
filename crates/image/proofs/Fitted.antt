-- Records of one length with another, there and back.
use Rattle.std.proofs.Common.{◌≡◌, ℕ, zero, suc, ◌+◌, ◌-◌, ◌*◌, ◌<◌, ◌≤◌, List, ◌++◌, length, get_or, take, replicate, sym, refl, ◌∙◌, mul-le-mul_right, suc-mul, zero-mul, arith, length-append, length-drop, length-take, take_all, get_or-take, get_or-append-add, ext_get_or, take-add}
use native.Mathlib.Decide.{dec_lt}
use lib.ListN.{length-replicate, get_or-eq_default, get_or-append}
use Rattle.rules.proofs.Fresh.{all_same}
use Rattle.image.specs.Bytes.{in_order, record_at}
use Rattle.image.specs.Form.{fitted, reformed}
use Rattle.image.proofs.Bytes.{length_in_order, record_at_in_order}

-- the records one after another are the bytes
pub records_all : (w : ℕ) (bytes : List ℕ) (k : ℕ) → in_order (record_at w bytes) k ≡ take (k * w) bytes
unfolding in_order
records_all w bytes zero = rw zero-mul
records_all w bytes (suc k) = rw (records_all w bytes k, suc-mul) (sym (take-add (k * w) w bytes))

pub in_order_same : (f h : ℕ → List ℕ) (k : ℕ) → ((s : ℕ) → s < k → f s ≡ h s) → in_order f k ≡ in_order h k
unfolding in_order
in_order_same f h zero e = refl
in_order_same f h (suc k) e = rw (in_order_same f h k (λ s l. e s (omega arith)), e k (omega arith))

-- a record ends within its image
pub record_ends : (n w s : ℕ) → s < n → s * w + w ≤ n * w
record_ends n w s l = rw suc-mul at (mul-le-mul_right w l)

pub length_record : (n w : ℕ) (bytes : List ℕ) (s : ℕ) → s < n → length bytes ≡ n * w → length (record_at w bytes s) ≡ w
length_record n w bytes s l whole = let ends = record_ends n w s l in rw (length-take, length-drop) (omega arith)

-- behind a record 0 is read
padded : (w : ℕ) (r : List ℕ) (i : ℕ) → get_or (r ++ replicate w 0) i 0 ≡ get_or r i 0
padded w r i = elim (dec_lt i (length r)) [
  | yes l ↦ get_or-append r (replicate w 0) 0 i l
  | no g ↦
      let past : length r ≤ i = omega arith in
      let j : ℕ = i - length r in
      let e : i ≡ length r + j = omega arith in
      rw (e, get_or-append-add r (replicate w 0) j 0, all_same {A = ℕ} w j 0) (sym (get_or-eq_default r 0 {n = length r + j} (omega arith)))
]

pub length_fitted : (w : ℕ) (r : List ℕ) → length (fitted w r) ≡ w
length_fitted w r = rw (length-take, length-append, length-replicate) (omega arith)

pub fitted_byte : (w : ℕ) (r : List ℕ) (i : ℕ) → i < w → get_or (fitted w r) i 0 ≡ get_or r i 0
fitted_byte w r i h = rw (get_or-take) (padded w r i)

-- two records of one length with the same bytes are the same
same_record : (w : ℕ) (r q : List ℕ) → length r ≡ w → length q ≡ w → ((i : ℕ) → i < w → get_or r i 0 ≡ get_or q i 0) → r ≡ q
same_record w r q e f same = ext_get_or 0 r q (e ∙ sym f) (λ i h. same i (omega arith))

-- filled up and cut off again, a record is the same
pub fitted_longer : (w v : ℕ) (r : List ℕ) → w ≤ v → length r ≡ w → fitted w (fitted v r) ≡ r
fitted_longer w v r h e =
    same_record w (fitted w (fitted v r)) r (length_fitted w (fitted v r)) e
    (λ i l. fitted_byte w (fitted v r) i l ∙ fitted_byte v r i (omega arith))

module _ (n from to : ℕ) (bytes : List ℕ) where
  pub length_reformed : length (reformed n from to bytes) ≡ n * to
  unfolding reformed
  length_reformed = length_in_order to _ (λ s. length_fitted to (record_at from bytes s)) n

  pub record_reformed : (s : ℕ) → s < n → record_at to (reformed n from to bytes) s ≡ fitted to (record_at from bytes s)
  unfolding reformed
  record_reformed s l = record_at_in_order to _ (λ s. length_fitted to (record_at from bytes s)) n s l

-- an image whose records come back comes back
pub reformed_back : (n w v : ℕ) (bytes : List ℕ) → length bytes ≡ n * w
    → ((s : ℕ) → s < n → fitted w (fitted v (record_at w bytes s)) ≡ record_at w bytes s)
    → reformed n v w (reformed n w v bytes) ≡ bytes
unfolding reformed
reformed_back n w v bytes whole each =
    in_order_same _ (record_at w bytes) n (λ s l. rw (record_reformed n w v bytes s l) (each s l))
    ∙ records_all w bytes n ∙ take_all (n * w) bytes (omega arith)
