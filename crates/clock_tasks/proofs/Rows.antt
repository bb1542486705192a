-- The clock's two rows among its words.
use Rattle.std.proofs.Common.{◌≡◌, ℕ, zero, suc, ◌+◌, ◌*◌, ◌<◌, List, [], ◌∷◌, ◌++◌, map, length, get_or, drop, set, replicate, sym, refl, ap, ◌∙◌, append-nil, arith, length-append}
use mathlib.Core.List.{flatten}
use native.Mathlib.Numerals.{unary_clauses}
use lib.Seq.{paste, paste-suc, append_snoc}
use Rattle.image.proofs.Made.{paste_next}
use Rattle.clock.specs.declared.row.Sleeper.{Sleeper}
use Rattle.clock.specs.declared.row.Row.{Row}
use Rattle.clock.specs.declared.row.Hearers.{Hearers}
use Rattle.clock.specs.Row.{filled, room, hearers, sleeper, row_of, hearers_of}
use Rattle.clock_tasks.specs.State.{sleepers_at, hearers_at, sleeper_words}
use Rattle.clock_tasks.proofs.Filled.{firsts, length_numbered, drop_replicate}

-- the sleeper that words name at a place
abbrev pub sleeper_in : List ℕ → ℕ → Sleeper
sleeper_in ws i = sleeper (get_or ws (sleepers_at + 2 * i) 0) (get_or ws (sleepers_at + 2 * i + 1) 0)

-- and who is answered
abbrev pub hearer_in : List ℕ → ℕ → ℕ
hearer_in ws i = get_or ws (hearers_at + i) 0

-- the words of sleepers
abbrev pub pairs : List Sleeper → List ℕ
pairs xs = flatten (map sleeper_words xs)

pub length_pairs : (xs : List Sleeper) → length (pairs xs) ≡ 2 * length xs
unfolding flatten
length_pairs [] = refl
length_pairs (x ∷ xs) = simp unary_clauses (omega (arith, length_pairs xs))

pub tid_at : (xs : List Sleeper) (i : ℕ) → i < length xs → get_or (pairs xs) (2 * i) 0 ≡ (get_or xs i (sleeper 0 0)).tid
unfolding flatten
tid_at [] i h = absurd (omega arith)
tid_at (x ∷ xs) zero h = refl
tid_at (x ∷ xs) (suc i) h =
    let e : 2 * suc i ≡ suc (suc (2 * i)) = omega arith in
    ap (λ (k : ℕ). get_or (pairs (x ∷ xs)) k 0) e ∙ tid_at xs i (omega arith)

pub due_at_lem : (xs : List Sleeper) (i : ℕ) → i < length xs → get_or (pairs xs) (2 * i + 1) 0 ≡ (get_or xs i (sleeper 0 0)).due
unfolding flatten
due_at_lem [] i h = absurd (omega arith)
due_at_lem (x ∷ xs) zero h = refl
due_at_lem (x ∷ xs) (suc i) h =
    let e : 2 * suc i + 1 ≡ suc (suc (2 * i + 1)) = omega arith in
    ap (λ (k : ℕ). get_or (pairs (x ∷ xs)) k 0) e ∙ due_at_lem xs i (omega arith)

-- two places more
pub pair_more : (d w : List ℕ) (xs : List Sleeper) (i : ℕ) → i < length xs → sleepers_at + 2 * i + 1 < length d
    → w ≡ paste d sleepers_at (pairs xs) (2 * i) → let x = get_or xs i (sleeper 0 0) in
    set (set w (sleepers_at + 2 * i) x.tid) (sleepers_at + 2 * i + 1) x.due ≡ paste d sleepers_at (pairs xs) (2 * (i + 1))
pair_more d w xs i h l e =
    let all = length_pairs xs in
    let first = paste-suc d sleepers_at (pairs xs) (2 * i) 0 (omega arith) (omega arith) in
    let second = paste-suc d sleepers_at (pairs xs) (2 * i + 1) 0 (omega arith) (omega arith) in
    let at : sleepers_at + 2 * i + 1 ≡ sleepers_at + (2 * i + 1) = omega arith in
    let one : suc (2 * i) ≡ 2 * i + 1 = omega arith in
    let two : suc (2 * i + 1) ≡ 2 * (i + 1) = omega arith in
    rw (e, ← tid_at xs i h, ← due_at_lem xs i h, first, at, one, second, two)

-- all places filled
pub filled_firsts : {A : Type 0} (f : ℕ → A) (z : A) (k n : ℕ) → firsts f n ++ drop n (replicate k z) ≡ filled k z (firsts f n)
filled_firsts f z k n = rw (drop_replicate z k n, length_numbered f 0 n)

pub row_made : (f : ℕ → Sleeper) (n i len : ℕ) (places : List Sleeper) → i ≡ n → len ≡ n
    → places ≡ firsts f i ++ drop i (replicate room (sleeper 0 0)) → ◌≡◌ {A = Row} (record { places = places; len = len }) (row_of (firsts f n))
row_made f n i len places e l p = rw (p, e, l, filled_firsts f (sleeper 0 0) room n, length_numbered f 0 n)

pub hearers_made : (f : ℕ → ℕ) (n i len : ℕ) (tids : List ℕ) → i ≡ n → len ≡ n
    → tids ≡ firsts f i ++ drop i (replicate hearers 0) → ◌≡◌ {A = Hearers} (record { tids = tids; len = len }) (hearers_of (firsts f n))
hearers_made f n i len tids e l p = rw (p, e, l, filled_firsts f 0 hearers n, length_numbered f 0 n)

-- The eight first words, then two words a sleeper, then how many are answered, and whom: the rows are written over zeros.
pub words_made : (head p tids o₁ o₂ : List ℕ) (k : ℕ) → length head ≡ sleepers_at → length p ≡ 2 * room → length tids ≡ hearers
    → o₁ ≡ paste (head ++ (replicate (2 * room) 0 ++ (k ∷ replicate hearers 0))) sleepers_at p (2 * room)
    → o₂ ≡ paste o₁ hearers_at tids hearers → o₂ ≡ head ++ p ++ (k ∷ tids)
words_made head p tids o₁ o₂ k a b c e₁ e₂ =
    let zeros : List ℕ = replicate hearers 0 in
    let front = head ++ p ++ (k ∷ []) in
    let size : length front ≡ hearers_at = simp length-append (omega arith) in
    let first : o₁ ≡ front ++ zeros =
    e₁ ∙ paste_next head (replicate (2 * room) 0 ++ (k ∷ zeros)) p sleepers_at (2 * room) a b ∙ sym (append_snoc (head ++ p) k zeros) in
    e₂ ∙ ap (λ (d : List ℕ). paste d hearers_at tids hearers) first ∙ paste_next front zeros tids hearers_at hearers size c
    ∙ append-nil (front ++ tids) ∙ append_snoc (head ++ p) k tids
