-- What a clock's task asks, and has asked, by the words of its state where they stand.
use Rattle.std.proofs.Common.{◌≡◌, ℕ, zero, suc, ◌+◌, ◌-◌, ◌*◌, ◌/◌, ◌%◌, ◌<◌, ◌≤◌, min, true, List, [], ◌++◌, length, get_or, drop, replicate, sym, refl, ap, ◌∙◌, append_assoc, arith, length-drop, drop_of_length-le, drop-cons, drop-drop, get_or-append-add}
use mathlib.Core.List.{flatten}
use native.Mathlib.Decide.{dec_lt}
use lib.ListN.{get_or-append, get_or-eq_default, get_or-replicate, length-replicate}
use Rattle.queue.proofs.Below.{by_test}
use Rattle.tid.specs.Sizes.{priorities}
use Rattle.kernel.specs.Numbers.{accepted, bad_table}
use Rattle.step.specs.Every.{numbers}
use Rattle.image.specs.Bytes.{bytes_of, number_in}
use Rattle.image.proofs.Bytes.{same_true}
use Rattle.image.proofs.Rebuilt.{Bytes}
use Rattle.server.specs.declared.phase.Phase.{Phase}
use Rattle.server.specs.Phase.{place, request_in, after}
use Rattle.server.specs.Records.{with_word}
use Rattle.server.proofs.Stored.{next_word}
use Rattle.clock.specs.Row.{hearers, hearers_of}
use Rattle.clock.specs.Message.{size, answer_bytes}
use Rattle.clock_tasks.specs.Words.{word_bytes, words_in}
use Rattle.clock_tasks.specs.Calls.{state_refusal}
use Rattle.clock_tasks.specs.Server.{request, asked}
use Rattle.clock_tasks.specs.State.{words, hearers_at, phase_code, phase_of, said_of, hearers_in, server_from, server_words, is_server}
use Rattle.clock_tasks.proofs.Calls.{state_bad, state_sized}
use Rattle.clock_tasks.proofs.Filled.{length_numbered}
use Rattle.clock_tasks.proofs.Rows.{hearer_in}
use Rattle.clock_tasks.proofs.InPlace.{word_in, part, part_at, tids_part}

-- WHAT IT ASKS

zero_at : (n i : ℕ) → ◌≡◌ {A = ℕ} (get_or (replicate n 0) i 0) 0
zero_at n i = elim (dec_lt i n) [
  | yes h ↦ get_or-replicate n i 0 0 h
  | no g ↦ get_or-eq_default (replicate n 0) 0 (rw length-replicate (omega arith))
]

module _ (f : ℕ → ℕ) where
  -- who is answered at a place
  pub tid_there : (m k : ℕ) → m ≤ hearers → k < m → f (hearers_at + k) ≡ get_or (hearers_of (hearers_in (part f 0 words) m)).tids k 0
  tid_there m k h l =
      let xs = hearers_in (part f 0 words) m in
      let size : length xs ≡ m = length_numbered (hearer_in (part f 0 words)) 0 m in
      sym (get_or-append xs (replicate (hearers - length xs) 0) 0 k (omega arith)
      ∙ ap (λ (ys : List ℕ). get_or ys k 0) (tids_part f 0 m (omega arith))
      ∙ part_at f hearers_at m k l)

  -- nobody past the last
  pub tid_past : (m k : ℕ) → m ≤ k → 0 ≡ get_or (hearers_of (hearers_in (part f 0 words) m)).tids k 0
  tid_past m k l =
      let xs = hearers_in (part f 0 words) m in
      let size : length xs ≡ m = length_numbered (hearer_in (part f 0 words)) 0 m in
      let at : length xs + (k - m) ≡ k = omega arith in
      sym (ap (λ (i : ℕ). get_or (xs ++ replicate (hearers - length xs) 0) i 0) (sym at)
      ∙ get_or-append-add xs (replicate (hearers - length xs) 0) (k - m) 0
      ∙ zero_at (hearers - length xs) (k - m))

  many : let m = min (f 40) hearers in min (length (hearers_in (part f 0 words) m)) hearers ≡ m
  many = let m = min (f 40) hearers in omega (arith, length_numbered (hearer_in (part f 0 words)) 0 m)

  pub asks_in_place : let p = phase_of (f 0) (f 1) in
      let m = min (f 40) hearers in
      request_in p (min (f 2) (priorities - 1)) size m (get_or (answer_bytes (said_of (f 5) (f 6))) (place p) 0)
      (get_or (hearers_of (hearers_in (part f 0 words) m)).tids (place p) 0)
      ≡ request (server_from (part f 0 words))
  unfolding numbers
  asks_in_place =
      let p = phase_of (f 0) (f 1) in
      let m = min (f 40) hearers in
      ap (λ (k : ℕ). request_in p (min (f 2) (priorities - 1)) size k (get_or (answer_bytes (said_of (f 5) (f 6))) (place p) 0)
      (get_or (hearers_of (hearers_in (part f 0 words) m)).tids (place p) 0)) (sym many)

-- ONCE THAT IS ASKED

-- bytes are those of the number that they are
bytes_of_lem : (bytes : List ℕ) → Bytes bytes → (k at : ℕ) → at + k ≤ length bytes
    → bytes_of k (number_in bytes at k) ++ drop (at + k) bytes ≡ drop at bytes
bytes_of_lem bytes small zero at h = let e : at + 0 ≡ at = omega arith in ap (λ (i : ℕ). drop i bytes) e
bytes_of_lem bytes small (suc k) at h =
    let rest = number_in bytes (suc at) k in
    let low : (get_or bytes at 0 + 256 * rest) % 256 ≡ get_or bytes at 0 = omega (arith, small at) in
    let high : (get_or bytes at 0 + 256 * rest) / 256 ≡ rest = omega (arith, small at) in
    let e : at + suc k ≡ suc at + k = omega arith in
    rw (low, high, e, bytes_of_lem bytes small k (suc at) (omega arith)) (sym (drop-cons bytes at 0 (omega arith)))

-- the words from a place to the end are the bytes from there to the end
words_of : (bytes : List ℕ) → Bytes bytes → (n k : ℕ) → length bytes ≡ 4 * (k + n)
    → word_bytes (part (word_in bytes) k n) ≡ drop (4 * k) bytes
unfolding numbers flatten
words_of bytes small zero k h = sym (drop_of_length-le bytes {i = 4 * k} (omega arith))
words_of bytes small (suc n) k h =
    let e : 4 * suc k ≡ 4 * k + 4 = omega arith in
    ap (λ (r : List ℕ). bytes_of 4 (word_in bytes k) ++ r) (words_of bytes small n (suc k) (omega arith) ∙ ap (λ (i : ℕ). drop i bytes) e)
    ∙ bytes_of_lem bytes small 4 (4 * k) (omega arith)

two_words : (bytes : List ℕ) (x y : ℕ) → 8 ≤ length bytes → with_word (with_word bytes 0 x) 4 y ≡ bytes_of 4 x ++ (bytes_of 4 y ++ drop 8 bytes)
two_words bytes x y h =
    let first = next_word [] bytes bytes 0 x refl (omega arith) refl in
    next_word (bytes_of 4 x) (drop 4 bytes) (with_word bytes 0 x) 4 y refl (rw length-drop (omega arith)) first
    ∙ ap (λ (d : List ℕ). (bytes_of 4 x ++ bytes_of 4 y) ++ d) (drop-drop 4 4 bytes)
    ∙ append_assoc (bytes_of 4 x) (bytes_of 4 y) (drop 8 bytes)

-- of a state that is one, only the phase and its place change
pub asked_in_place : (bytes : List ℕ) → Bytes bytes → length bytes ≡ 4 * words
    → is_server (words_in words bytes) ≡ true
    → let f = word_in bytes in
    let p = after (phase_of (f 0) (f 1)) size (min (f 40) hearers) in
    with_word (with_word bytes 0 (phase_code p)) 4 (place p) ≡ word_bytes (server_words (asked (server_from (words_in words bytes))))
unfolding numbers flatten
asked_in_place bytes small sized good =
    let f = word_in bytes in
    let ws = words_in words bytes in
    let next : ℕ → Phase = λ m. after (phase_of (f 0) (f 1)) size m in
    let p = next (min (f 40) hearers) in
    let tail : drop 2 (server_words (server_from ws)) ≡ part f 2 56 = ap (drop 2) (same_true (server_words (server_from ws)) ws good) in
    let rest : drop 8 bytes ≡ word_bytes (drop 2 (server_words (server_from ws))) = sym (ap word_bytes tail ∙ words_of bytes small 56 2 (omega arith)) in
    two_words bytes (phase_code p) (place p) (omega arith)
    ∙ ap (λ (d : List ℕ). bytes_of 4 (phase_code p) ++ (bytes_of 4 (place p) ++ d)) rest
    ∙ ap (λ (m : ℕ). bytes_of 4 (phase_code (next m)) ++ (bytes_of 4 (place (next m)) ++ word_bytes (drop 2 (server_words (server_from ws))))) (sym (many f))

-- a state that is not refused is one
pub state_whole : (state : List ℕ) → state_refusal words is_server state ≡ accepted → is_server (words_in words state) ≡ true
state_whole state none =
    by_test (is_server (words_in words state))
    (λ whole. whole)
    (λ bad. absurd (let z : bad_table ≡ accepted = state_bad words is_server state (state_sized words is_server state none) bad ∙ none in omega arith))
