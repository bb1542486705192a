-- Whether words are those of a clock's task, asked of each part where it stands.
use Rattle.std.proofs.Common.{◌≡◌, ℕ, zero, suc, ◌+◌, ◌-◌, ◌*◌, ◌<◌, ◌≤◌, min, Bool, ◌&&◌, eqb, leb, List, [], ◌∷◌, ◌++◌, map, length, get_or, replicate, sym, refl, ap, ◌∙◌, ap₂, add-one, arith, eq-eqb, ne_eqb, le-leb}
use mathlib.Core.Bool.{and_assoc, and-true}
use mathlib.Core.List.{flatten, map-append}
use native.Mathlib.Decide.{dec_lt}
use borrow.Author.Tests.{lt-leb}
use Rattle.std.specs.List.{list_all, range_with_len}
use Rattle.step.specs.Every.{numbers}
use Rattle.image.specs.Bytes.{number_in, same}
use Rattle.image.proofs.Bytes.{same_refl}
use Rattle.image.proofs.Made.{zero_eqb}
use Rattle.tid.specs.Sizes.{priorities}
use Rattle.server.specs.Phase.{place}
use Rattle.clock.specs.declared.row.Sleeper.{Sleeper}
use Rattle.clock.specs.Message.{status_of, count_of}
use Rattle.clock.specs.Row.{room, hearers, sleeper, filled}
use Rattle.clock.proofs.Lists.{length_filled}
use Rattle.clock_tasks.specs.State.{words, sleepers_at, hearers_at, phase_code, phase_of, said_of, sleepers_in, hearers_in, is_server}
use Rattle.clock_tasks.proofs.Filled.{length_numbered}
use Rattle.clock_tasks.proofs.Rows.{sleeper_in, hearer_in, pairs, length_pairs}

-- TWO LISTS IN PARTS

pub same_append : (a c b d : List ℕ) → length a ≡ length c → same (a ++ b) (c ++ d) ≡ same a c && same b d
unfolding same
same_append [] [] b d h = refl
same_append [] (y ∷ c) b d h = absurd (omega arith)
same_append (x ∷ a) [] b d h = absurd (omega arith)
same_append (x ∷ a) (y ∷ c) b d h = rw (same_append a c b d (omega arith)) (sym (and_assoc (eqb x y) (same a c) (same b d)))

numbers_append : (k m n : ℕ) → numbers k (m + n) ≡ numbers k m ++ numbers (k + m) n
unfolding numbers
numbers_append k zero n =
    let e : 0 + n ≡ n = omega arith in
    let f : k ≡ k + 0 = omega arith in
    ap (numbers k) e ∙ ap (λ (j : ℕ). numbers j n) f
numbers_append k (suc m) n =
    let e : suc m + n ≡ suc (m + n) = omega arith in
    let f : suc k + m ≡ k + suc m = omega arith in
    ap (numbers k) e ∙ ap (λ (r : List ℕ). k ∷ r) (numbers_append (suc k) m n ∙ ap (λ (j : ℕ). numbers (suc k) m ++ numbers j n) f)

-- a word that is held to the largest that there is, is the word itself where that is no less
pub held : (a m : ℕ) → leb a m ≡ eqb (min a m) a
held a m = elim (dec_lt m a) [
  | yes l ↦ lt-leb a m l ∙ sym (ne_eqb (min a m) a (λ e. omega arith))
  | no g ↦ le-leb a m (omega arith) ∙ sym (eq-eqb (min a m) a (omega arith))
]

-- a word of bytes
abbrev pub word_in : List ℕ → ℕ → ℕ
word_in bytes i = number_in bytes (4 * i) 4

module _ (f : ℕ → ℕ) where
  -- the n words from a place on
  abbrev pub part : ℕ → ℕ → List ℕ
  part k n = map f (numbers k n)

  -- whether they are all 0
  abbrev pub zeros : ℕ → ℕ → Bool
  zeros k n = list_all (λ i. eqb (f i) 0) (range_with_len k n)

  same_zeros : (k n : ℕ) → same (replicate n 0) (part k n) ≡ zeros k n
  unfolding numbers same
  same_zeros k zero = refl
  same_zeros k (suc n) = ap₂ ◌&&◌ (zero_eqb (f k)) (same_zeros (suc k) n ∙ ap (λ (j : ℕ). zeros j n) (sym (add-one k)))

  pub part_at : (k n i : ℕ) → i < n → get_or (part k n) i 0 ≡ f (k + i)
  unfolding numbers
  part_at k zero i h = absurd (omega arith)
  part_at k (suc n) zero h = let e : k ≡ k + 0 = omega arith in ap f e
  part_at k (suc n) (suc i) h = let e : suc k + i ≡ k + suc i = omega arith in part_at (suc k) n i (omega arith) ∙ ap f e

  part_append : (k m n : ℕ) → part k (m + n) ≡ part k m ++ part (k + m) n
  part_append k m n = ap (map f) (numbers_append k m n) ∙ map-append f (numbers k m) (numbers (k + m) n)

  -- m words and then zeros are the words that stand there if those past m are 0
  pub zeros_past : (k m n : ℕ) → same (part k m ++ replicate n 0) (part k (m + n)) ≡ zeros (k + m) n
  zeros_past k m n =
      ap (same (part k m ++ replicate n 0)) (part_append k m n)
      ∙ same_append (part k m) (part k m) (replicate n 0) (part (k + m) n) refl
      ∙ ap₂ ◌&&◌ (same_refl (part k m)) (same_zeros (k + m) n)

pairs_append : (xs ys : List Sleeper) → pairs (xs ++ ys) ≡ pairs xs ++ pairs ys
unfolding flatten
pairs_append [] ys = refl
pairs_append (x ∷ xs) ys = rw (pairs_append xs ys)

pairs_none : (n : ℕ) → pairs (replicate n (sleeper 0 0)) ≡ replicate (2 * n) 0
unfolding flatten
pairs_none zero = refl
pairs_none (suc n) = let e : 2 * suc n ≡ suc (suc (2 * n)) = omega arith in rw (e, pairs_none n)

-- THE CLOCK'S WORDS

module _ (f : ℕ → ℕ) where
  abbrev pub ws : List ℕ
  ws = part f 0 words

  pub ws_at : (i : ℕ) → i < words → get_or ws i 0 ≡ f i
  ws_at i h = let e : 0 + i ≡ i = omega arith in part_at f 0 words i h ∙ ap f e

  pub tids_part : (j m : ℕ) → hearers_at + j + m ≤ words → map (hearer_in ws) (numbers j m) ≡ part f (hearers_at + j) m
  unfolding numbers
  tids_part j zero h = refl
  tids_part j (suc m) h =
      let e : hearers_at + suc j ≡ suc (hearers_at + j) = omega arith in
      ap (λ (x : ℕ). x ∷ map (hearer_in ws) (numbers (suc j) m)) (ws_at (hearers_at + j) (omega arith))
      ∙ ap (λ (r : List ℕ). f (hearers_at + j) ∷ r) (tids_part (suc j) m (omega arith) ∙ ap (λ (k : ℕ). part f k m) e)

  sleepers_part : (j n : ℕ) → sleepers_at + 2 * j + 2 * n ≤ words → pairs (map (sleeper_in ws) (numbers j n)) ≡ part f (sleepers_at + 2 * j) (2 * n)
  unfolding numbers flatten
  sleepers_part j zero h = refl
  sleepers_part j (suc n) h =
      let e : 2 * suc n ≡ suc (suc (2 * n)) = omega arith in
      let k : sleepers_at + 2 * suc j ≡ suc (suc (sleepers_at + 2 * j)) = omega arith in
      let one : sleepers_at + 2 * j + 1 ≡ suc (sleepers_at + 2 * j) = omega arith in
      let tid = ws_at (sleepers_at + 2 * j) (omega arith) in
      let due = ws_at (sleepers_at + 2 * j + 1) (omega arith) ∙ ap f one in
      let rest = sleepers_part (suc j) n (omega arith) ∙ ap (λ (i : ℕ). part f i (2 * n)) k in
      ap₂ (λ (x y : ℕ). x ∷ y ∷ pairs (map (sleeper_in ws) (numbers (suc j) n))) tid due
      ∙ ap (λ (r : List ℕ). f (sleepers_at + 2 * j) ∷ f (suc (sleepers_at + 2 * j)) ∷ r) rest
      ∙ ap (part f (sleepers_at + 2 * j)) (sym e)

  tids_same : (m : ℕ) → m ≤ hearers
      → same (filled hearers 0 (hearers_in ws m)) (part f hearers_at hearers) ≡ zeros f (hearers_at + m) (words - (hearers_at + m))
  tids_same m h =
      let e : hearers ≡ m + (hearers - m) = omega arith in
      let g : hearers - m ≡ words - (hearers_at + m) = omega arith in
      rw (length_numbered (hearer_in ws) 0 m, tids_part 0 m (omega arith))
      (ap (λ (n : ℕ). same (part f hearers_at m ++ replicate (hearers - m) 0) (part f hearers_at n)) e
      ∙ zeros_past f hearers_at m (hearers - m)
      ∙ ap (zeros f (hearers_at + m)) g)

  sleepers_same : (n : ℕ) → n ≤ room
      → same (pairs (filled room (sleeper 0 0) (sleepers_in ws n))) (part f sleepers_at (2 * room)) ≡ zeros f (sleepers_at + 2 * n) (40 - (sleepers_at + 2 * n))
  sleepers_same n h =
      let e : 2 * room ≡ 2 * n + 2 * (room - n) = omega arith in
      let g : 2 * (room - n) ≡ 40 - (sleepers_at + 2 * n) = omega arith in
      let made : pairs (filled room (sleeper 0 0) (sleepers_in ws n)) ≡ part f sleepers_at (2 * n) ++ replicate (2 * (room - n)) 0 =
      rw (length_numbered (sleeper_in ws) 0 n, pairs_append, pairs_none, sleepers_part 0 n (omega arith)) in
      ap (λ (xs : List ℕ). same xs (part f sleepers_at (2 * room))) made
      ∙ ap (λ (k : ℕ). same (part f sleepers_at (2 * n) ++ replicate (2 * (room - n)) 0) (part f sleepers_at k)) e
      ∙ zeros_past f sleepers_at (2 * n) (2 * (room - n))
      ∙ ap (zeros f (sleepers_at + 2 * n)) g

  -- the eight words before the sleepers: the tid and the count may be any
  head_same : (code k priority status count len : ℕ)
      → same (code ∷ k ∷ priority ∷ f 3 ∷ f 4 ∷ status ∷ count ∷ len ∷ []) (part f 0 sleepers_at)
      ≡ eqb code (f 0) && eqb k (f 1) && eqb priority (f 2) && (eqb status (f 5) && eqb count (f 6)) && eqb len (f 7)
  unfolding numbers same
  head_same code k priority status count len =
      rw (eq-eqb (f 3) (f 3) refl, eq-eqb (f 4) (f 4) refl) (simp (and_assoc, and-true))

  rows_same : (n m : ℕ) → n ≤ room → m ≤ hearers
      → same (pairs (filled room (sleeper 0 0) (sleepers_in ws n)) ++ (m ∷ filled hearers 0 (hearers_in ws m)))
      (part f sleepers_at (2 * room) ++ (f 40 ∷ part f hearers_at hearers))
      ≡ zeros f (sleepers_at + 2 * n) (40 - (sleepers_at + 2 * n)) && (eqb m (f 40) && zeros f (hearers_at + m) (words - (hearers_at + m)))
  unfolding same
  rows_same n m h l =
      let xs = sleepers_in ws n in
      let size : length xs ≡ n = length_numbered (sleeper_in ws) 0 n in
      let all = length_filled room (sleeper 0 0) xs (omega arith) in
      let wide : length (pairs (filled room (sleeper 0 0) xs)) ≡ length (part f sleepers_at (2 * room)) =
      omega (arith, length_pairs (filled room (sleeper 0 0) xs), length_numbered f sleepers_at (2 * room)) in
      same_append (pairs (filled room (sleeper 0 0) xs)) (part f sleepers_at (2 * room)) _ _ wide
      ∙ ap₂ ◌&&◌ (sleepers_same n h) (ap (λ (b : Bool). eqb m (f 40) && b) (tids_same m l))

  pub in_place : let p = phase_of (f 0) (f 1) in
      let said = said_of (f 5) (f 6) in
      let n = min (f 7) room in
      let m = min (f 40) hearers in
      is_server ws
      ≡ eqb (phase_code p) (f 0) && eqb (place p) (f 1) && eqb (min (f 2) (priorities - 1)) (f 2)
      && (eqb (status_of said) (f 5) && eqb (count_of said) (f 6))
      && eqb n (f 7) && zeros f (sleepers_at + 2 * n) (40 - (sleepers_at + 2 * n))
      && eqb m (f 40) && zeros f (hearers_at + m) (words - (hearers_at + m))
  unfolding numbers
  in_place =
      let p = phase_of (f 0) (f 1) in
      let said = said_of (f 5) (f 6) in
      let n = min (f 7) room in
      let m = min (f 40) hearers in
      let asleep : min (length (sleepers_in ws n)) room ≡ n = omega (arith, length_numbered (sleeper_in ws) 0 n) in
      let answered : min (length (hearers_in ws m)) hearers ≡ m = omega (arith, length_numbered (hearer_in ws) 0 m) in
      let head : ℕ → List ℕ = λ k. phase_code p ∷ place p ∷ min (f 2) (priorities - 1) ∷ f 3 ∷ f 4 ∷ status_of said ∷ count_of said ∷ k ∷ [] in
      let rows : ℕ → List ℕ = λ k. pairs (filled room (sleeper 0 0) (sleepers_in ws n)) ++ (k ∷ filled hearers 0 (hearers_in ws m)) in
      ap₂ (λ (i j : ℕ). same (head i ++ rows j) ws) asleep answered
      ∙ same_append (head n) (part f 0 sleepers_at) (rows m) (part f sleepers_at (2 * room) ++ (f 40 ∷ part f hearers_at hearers)) refl
      ∙ ap₂ ◌&&◌ (head_same (phase_code p) (place p) (min (f 2) (priorities - 1)) (status_of said) (count_of said) n) (rows_same n m (omega arith) (omega arith))
      ∙ simp and_assoc
