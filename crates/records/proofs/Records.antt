-- Records in a row, one of them changed.
use Prim.Native.Nat.{ℕ, zero, suc, ◌+◌, ◌-◌, ◌*◌, ◌≤◌, ◌<◌}
use mathlib.Core.Path.{◌≡◌, refl, sym, ap, ◌∙◌}
use mathlib.Core.Logic.{◌≢◌}
use mathlib.Core.List.{List, [], ◌∷◌, ◌++◌}
use native.Mathlib.Nat.{suc-add, zero-add}
use native.Mathlib.Omega.{arith}
use native.Mathlib.Decide.{ℕ_discrete, dec_lt}
use lib.ListN.{length, set, take, drop, length-set, length-append}
use lib.Seq.{length-paste, take-paste, drop-paste, take_at, drop_at, drop-drop, take-take, take_all, take-append-le, drop-set-add, drop-set-lt, take-set-lt, take-set-le, length-take-le}
use lib.Dec.{eqb}
use borrow.Author.Tests.{eq-eqb, ne_eqb}
use Rattle.queue.specs.Choose.{choose}
use Rattle.queue.proofs.Below.{by_test}
use Rattle.image.specs.Bytes.{record_at}
use Rattle.image.proofs.Bytes.{byte_in_lem}
use Rattle.image.specs.Record.{record_length, at_state, at_place, byte_at}
use Rattle.records.specs.Records.{Records, with_record, queues, moved_up, queues_at, up_at, closed_up}

-- the same record, from two lists whose first parts are the same
drop_take : (n m : ℕ) (l : List ℕ) → drop n (take (n + m) l) ≡ take m (drop n l)
drop_take zero m l = rw zero-add
drop_take (suc n) m [] = rw suc-add (sym (take_nil' m))
  where
    take_nil' : (m : ℕ) → ◌≡◌ {A = List ℕ} (take m []) []
    take_nil' zero = refl
    take_nil' (suc m) = refl
drop_take (suc n) m (x ∷ xs) = rw suc-add (drop_take n m xs)

first_same : (n m : ℕ) (l k : List ℕ) → take (n + m) l ≡ take (n + m) k → take m (drop n l) ≡ take m (drop n k)
first_same n m l k e = sym (drop_take n m l) ∙ ap (drop n) e ∙ drop_take n m k

-- a store into a record
module _ (b : List ℕ) (s j v : ℕ) (h : j < record_length) where
  pub set_here : record_at record_length (set b (s * record_length + j) v) s ≡ set (record_at record_length b s) j v
  set_here = rw (drop-set-add, take-set-lt)

  pub set_there : (i : ℕ) → i ≢ s → record_at record_length (set b (s * record_length + j) v) i ≡ record_at record_length b i
  set_there i ne = elim (dec_lt i s) [
    | yes l ↦ first_same (i * record_length) record_length _ b
        (take-set-le (i * record_length + record_length) b (s * record_length + j) v (omega arith))
    | no g ↦ ap (take record_length) (drop-set-lt (i * record_length) b (s * record_length + j) v (omega arith))
  ]

-- a whole record
module _ (b : List ℕ) (s : ℕ) (r : List ℕ) (fits : s * record_length + record_length ≤ length b) (size : length r ≡ record_length) where
  pub paste_here : record_at record_length (with_record b s r) s ≡ r
  paste_here =
      sym (drop_take (s * record_length) record_length (with_record b s r))
      ∙ ap (drop (s * record_length)) (take-paste b (s * record_length) r record_length (omega arith) (omega arith))
      ∙ drop_at (take (s * record_length) b) (take record_length r) (s * record_length) (length-take-le (s * record_length) b (omega arith))
      ∙ take_all record_length r (omega arith)

  -- the bytes before it stay
  front : take (s * record_length) (with_record b s r) ≡ take (s * record_length) b
  front =
      take-append-le (s * record_length) (take (s * record_length) b ++ take record_length r) (drop (s * record_length + record_length) b)
      (rw (length-append, length-take-le (s * record_length) b (omega arith)) (omega arith))
      ∙ take_at (take (s * record_length) b) (take record_length r) (s * record_length) (length-take-le (s * record_length) b (omega arith))

  pub paste_there : (i : ℕ) → i ≢ s → record_at record_length (with_record b s r) i ≡ record_at record_length b i
  paste_there i ne = elim (dec_lt i s) [
    | yes l ↦
        first_same (i * record_length) record_length (with_record b s r) b
        (sym (take-take (i * record_length + record_length) (s * record_length) (with_record b s r) (omega arith))
        ∙ ap (take (i * record_length + record_length)) front
        ∙ take-take (i * record_length + record_length) (s * record_length) b (omega arith))
    | no g ↦
        let at : s * record_length + record_length + (i * record_length - (s * record_length + record_length)) ≡ i * record_length = omega arith in
        ap (take record_length)
        (ap (λ (k : ℕ). drop k (with_record b s r)) (sym at)
        ∙ sym (drop-drop (i * record_length - (s * record_length + record_length)) (s * record_length + record_length) (with_record b s r))
        ∙ ap (drop (i * record_length - (s * record_length + record_length))) (drop-paste b (s * record_length) r record_length (omega arith) (omega arith))
        ∙ drop-drop (i * record_length - (s * record_length + record_length)) (s * record_length + record_length) b
        ∙ ap (λ (k : ℕ). drop k b) at)
  ]

  -- written again, the first writing leaves no trace
  pub paste_again : (r' : List ℕ) → with_record (with_record b s r) s r' ≡ with_record b s r'
  paste_again r' = rw (front, drop-paste b (s * record_length) r record_length (omega arith) (omega arith))

-- record s is r, and every other as it was
pub written : (n : ℕ) (f : ℕ → List ℕ) (b : List ℕ) → Records n f b → (s : ℕ) (r : List ℕ) → s < n → length r ≡ record_length
    → Records n (λ i. choose (eqb i s) r (f i)) (with_record b s r)
written n f b g s r l size =
    let fits : s * record_length + record_length ≤ length b = omega (arith, g.size) in
    record {
      size = length-paste b (s * record_length) r record_length fits (omega arith) ∙ g.size;
      each = λ i h. elim (ℕ_discrete i s) [
        | yes e ↦ rw (e, eq-eqb s s refl) (paste_here b s r fits size)
        | no ne ↦ rw (ne_eqb i s ne) (paste_there b s r fits size i ne ∙ g.each i h)
      ];
    }

-- whoever stands in a queue moves up, slot by slot
module _ (code at key : ℕ) (near : at < record_length) where
  up_length : (b : List ℕ) (s : ℕ) → length (up_at code at key b s) ≡ length b
  up_length b s = by_test (queues_at code at key b s) (λ e. rw (e, length-set)) (λ e. rw e)

  up_here : (b : List ℕ) (s : ℕ) → record_at record_length (up_at code at key b s) s ≡ moved_up code at key (record_at record_length b s)
  up_here b s =
      let same : queues code at key (record_at record_length b s) ≡ queues_at code at key b s = rw (byte_in_lem b s at_state (omega arith), byte_in_lem b s at near) in
      by_test (queues_at code at key b s)
      (λ e. rw (same, e) (set_here b s at_place (byte_at b s at_place - 1) (omega arith)
      ∙ ap (λ (v : ℕ). set (record_at record_length b s) at_place (v - 1)) (sym (byte_in_lem b s at_place (omega arith)))))
      (λ e. rw (same, e))

  up_there : (b : List ℕ) (s i : ℕ) → i ≢ s → record_at record_length (up_at code at key b s) i ≡ record_at record_length b i
  up_there b s i ne =
      by_test (queues_at code at key b s)
      (λ e. rw e (set_there b s at_place (byte_at b s at_place - 1) (omega arith) i ne))
      (λ e. rw e)

  pub closed_length : (b : List ℕ) (k : ℕ) → length (closed_up code at key b k) ≡ length b
  unfolding closed_up
  closed_length b zero = refl
  closed_length b (suc k) = up_length (closed_up code at key b k) k ∙ closed_length b k

  -- a slot that was not reached is as it was
  pub closed_later : (b : List ℕ) (k i : ℕ) → k ≤ i → record_at record_length (closed_up code at key b k) i ≡ record_at record_length b i
  unfolding closed_up
  closed_later b zero i h = refl
  closed_later b (suc k) i h = up_there (closed_up code at key b k) k i (λ e. omega arith) ∙ closed_later b k i (omega arith)

  pub closed_before : (b : List ℕ) (k i : ℕ) → i < k
      → record_at record_length (closed_up code at key b k) i ≡ moved_up code at key (record_at record_length b i)
  unfolding closed_up
  closed_before b zero i h = absurd (omega arith)
  closed_before b (suc k) i h = elim (ℕ_discrete i k) [
    | yes e ↦ rw e (up_here (closed_up code at key b k) k ∙ ap (moved_up code at key) (closed_later b k k (omega arith)))
    | no ne ↦ up_there (closed_up code at key b k) k i ne ∙ closed_before b k i (omega arith)
  ]

pub closed_up_lem : (n : ℕ) (f : ℕ → List ℕ) (b : List ℕ) → Records n f b → (code at key : ℕ) → at < record_length
    → Records n (λ i. moved_up code at key (f i)) (closed_up code at key b n)
closed_up_lem n f b g code at key near =
    record {
      size = closed_length code at key near b n ∙ g.size;
      each = λ i h. closed_before code at key near b n i h ∙ ap (moved_up code at key) (g.each i h);
    }

-- records that are the same one by one
pub as_records : {n : ℕ} {f g : ℕ → List ℕ} {b : List ℕ} → Records n f b → ((i : ℕ) → i < n → f i ≡ g i) → Records n g b
as_records r same = record { size = r.size; each = λ i h. r.each i h ∙ same i h }

-- one is replaced
pub with_record_lem : {n : ℕ} {f g : ℕ → List ℕ} {b : List ℕ} → Records n f b → (s : ℕ) (r : List ℕ) → s < n → length r ≡ record_length
    → r ≡ g s → ((i : ℕ) → i < n → i ≢ s → f i ≡ g i) → Records n g (with_record b s r)
with_record_lem {n} {f} {g} {b} x s r l size new old =
    as_records (written n f b x s r l size)
    (λ i h. elim (ℕ_discrete i s) [
      | yes e ↦ rw (e, eq-eqb s s refl) new
      | no ne ↦ rw (ne_eqb i s ne) (old i h ne)
    ])
