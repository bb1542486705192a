-- What a host keeps of a task is the task, for any machine whose words are read back: the one argument of the three laws.
use Rattle.std.proofs.Common.{◌≡◌, ℕ, zero, suc, ◌*◌, ◌/◌, ◌%◌, ◌^◌, ◌<◌, ◌≤◌, Bool, true, eqb, ltb, List, ◌∷◌, ◌++◌, map, length, get_or, sym, refl, ap, ◌∙◌, arith, ltb-false, ltb-true, eq-eqb}
use mathlib.Core.List.{flatten}
use Rattle.tid.specs.Sizes.{area_bytes}
use Rattle.queue.specs.Choose.{choose}
use Rattle.queue.proofs.Below.{by_test}
use Rattle.task.specs.declared.task.Outcome.{Outcome}
use Rattle.task.specs.declared.task.Outcome.TheVariants.{Nothing, Value, Fault}
use Rattle.task.specs.Result.{negated}
use Rattle.kernel.specs.Numbers.{accepted, none_active}
use Rattle.step.specs.Every.{Every, none, more, numbers}
use Rattle.image.specs.Bytes.{bytes_of, number_in}
use Rattle.image.specs.Call.{request_length, answer_length, at_kind, at_value, at_sender, at_cut_word, answer_from}
use Rattle.image.proofs.Bytes.{number_tail, number_back}
use Rattle.image.proofs.Rebuilt.{number_small}
use Rattle.server.specs.Records.{request_bytes, result_in}
use Rattle.server.specs.Service.{Machine}
use Rattle.clock_tasks.specs.Words.{word_bytes, words_in}
use Rattle.clock_tasks.specs.Calls.{Kept, Written, kept, written, state_refusal, asks_with, told_with}
use Rattle.clock_tasks.specs.Laws.{Move, asks, tells, Lent, host_does, machine_does}
use Rattle.clock_tasks.proofs.Calls.{state_good}
use Rattle.clock_tasks.proofs.WordBytes.{length_bytes}

-- a word of 32 bits
abbrev pub Word : ℕ → Type 0
Word x = x < 2 ^ 32

-- WORDS ARE READ BACK

-- behind a word, each number stands four bytes later
four_later : (a b c d : ℕ) (rest : List ℕ) (at : ℕ) → number_in (a ∷ b ∷ c ∷ d ∷ rest) (suc (suc (suc (suc at)))) 4 ≡ number_in rest at 4
four_later a b c d rest at =
    number_tail a (b ∷ c ∷ d ∷ rest) (suc (suc (suc at))) 4
    ∙ number_tail b (c ∷ d ∷ rest) (suc (suc at)) 4
    ∙ number_tail c (d ∷ rest) (suc at) 4
    ∙ number_tail d rest at 4

number_behind : (x : ℕ) (rest : List ℕ) (i : ℕ) → number_in (bytes_of 4 x ++ rest) (4 * suc i) 4 ≡ number_in rest (4 * i) 4
number_behind x rest i =
    let at : 4 * suc i ≡ suc (suc (suc (suc (4 * i)))) = omega arith in
    ap (λ (k : ℕ). number_in (bytes_of 4 x ++ rest) k 4) at ∙ four_later (x % 256) (x / 256 % 256) (x / 256 / 256 % 256) (x / 256 / 256 / 256 % 256) rest (4 * i)

map_later : {A : Type 0} (f g : ℕ → A) → ((i : ℕ) → f (suc i) ≡ g i) → (k n : ℕ) → map f (numbers (suc k) n) ≡ map g (numbers k n)
unfolding numbers
map_later f g h k zero = refl
map_later f g h k (suc n) = λ i. h k i ∷ map_later f g h (suc k) n i

pub words_back : {ws : List ℕ} → Every Word ws → words_in (length ws) (word_bytes ws) ≡ ws
unfolding numbers flatten
words_back none = refl
words_back (more {x} {xs = ws} small rest) =
    let later = map_later (λ i. number_in (word_bytes (x ∷ ws)) (4 * i) 4) (λ i. number_in (word_bytes ws) (4 * i) 4) (number_behind x (word_bytes ws)) 0 (length ws) in
    λ i. number_back 4 x small i ∷ (later ∙ words_back rest) i

-- WHAT A TASK IS TOLD

-- a result of the kernel's: a tid is a byte, a value a word, a fault 1, 2 or 3
abbrev pub Told : Outcome → Type 0
Told Nothing = Unit
Told (Value from cut v) = (from < 256) × Word v
Told (Fault f) = (1 ≤ f) × (f ≤ 3)

-- bytes, at each place
pub byte_at : {xs : List ℕ} → Every (λ x. x < 256) xs → (i : ℕ) → get_or xs i 0 < 256
byte_at none i = omega arith
byte_at (more p ps) zero = p
byte_at (more p ps) (suc i) = byte_at ps i

pub told_in_lem : {answer : List ℕ} → Every (λ x. x < 256) answer → Told (result_in answer)
unfolding result_in answer_from
told_in_lem {answer} bytes =
    let kind = number_in answer at_kind 4 in
    let from = number_in answer at_sender 4 in
    let word = number_in answer at_value 4 in
    let small = number_small 4 at_value answer (byte_at bytes) in
    by_test (ltb 255 kind) (λ e. rw e tt)
    (λ e. by_test (ltb 255 from) (λ f. rw (e, f) tt)
    (λ f. by_test (ltb 1 (number_in answer at_cut_word 4)) (λ g. rw (e, f, g) tt)
    (λ g. by_test (eqb kind 1) (λ v. rw (e, f, g, v) (omega (arith, ltb-false 255 from f), small))
    (λ v. by_test (eqb kind 2)
    (λ w. by_test (ltb (negated 4) word) (λ l. rw (e, f, g, v, w, l) (omega (arith, ltb-true (negated 4) word l), omega (arith, ltb-true (negated 4) word l)))
    (λ l. rw (e, f, g, v, w, l) tt))
    (λ w. rw (e, f, g, v, w) tt)))))

-- THE ARGUMENT

-- A task's machine, its words, how they are read, and a rule that every state keeps.
pub record Keeps {S : Type 0} (m : Machine S) (n : ℕ) (words : S → List ℕ) (from : List ℕ → S) (good : List ℕ → Bool) (Rule : S → Type 0) : Type 0 where
  pub sized : {s : S} → Rule s → length (words s) ≡ n
  pub small : {s : S} → Rule s → Every Word (words s)
  pub back : {s : S} → Rule s → from (words s) ≡ s
  pub taken : {s : S} → Rule s → good (words s) ≡ true
  pub asked : {s : S} → Rule s → Rule (m.asked s)
  pub told : {s : S} → Rule s → (o : Outcome) (area : List ℕ) → Told o → Every (λ x. x < 256) area → Rule (m.told s o area)

module _ {S : Type 0} {m : Machine S} {n : ℕ} {words : S → List ℕ} {from : List ℕ → S} {good : List ℕ → Bool} {Rule : S → Type 0}
    (k : Keeps m n words from good Rule) where
  -- a state's bytes are its words
  pub words_read : {s : S} → Rule s → words_in n (word_bytes (words s)) ≡ words s
  words_read {s} h = ap (λ (n' : ℕ). words_in n' (word_bytes (words s))) (sym (k.sized h)) ∙ words_back (k.small h)

  pub state_read : {s : S} → Rule s → from (words_in n (word_bytes (words s))) ≡ s
  state_read h = ap from (words_read h) ∙ k.back h

  -- and are not refused
  pub state_passes : {s : S} → Rule s → state_refusal n good (word_bytes (words s)) ≡ accepted
  state_passes {s} h =
      sym (state_good n good (word_bytes (words s)) (length_bytes (words s) ∙ ap (λ (j : ℕ). 4 * j) (k.sized h)) (ap good (words_read h) ∙ k.taken h))

  module _ (over : S → Bool) (ask : List ℕ → List ℕ → Written) (tell : List ℕ → List ℕ → List ℕ → Kept) (refusal : List ℕ → ℕ)
      (refuses : (s : S) → Rule s → refusal (word_bytes (words s)) ≡ choose (over s) none_active accepted)
      (asks_so : (state out : List ℕ) → let s = from (words_in n state) in ask state out ≡ asks_with (refusal state) (words (m.asked s)) (m.request s) state out)
      (tells-so : (state answer area : List ℕ) → let s = from (words_in n state) in
      tell state answer area ≡ told_with (state_refusal n good state) (words (m.told s (result_in answer) area)) state answer area) where
    asks_one : {s : S} → Rule s → (out : List ℕ) → length out ≡ request_length
        → ask (word_bytes (words s)) out
        ≡ choose (over s) (written none_active (word_bytes (words s)) out) (written accepted (word_bytes (words (m.asked s))) (request_bytes (m.request s)))
    asks_one {s} h out room =
        by_test (over s)
        (λ e. asks_so (word_bytes (words s)) out ∙ rw (eq-eqb (length out) request_length room, refuses s h, state_read h, e))
        (λ e. asks_so (word_bytes (words s)) out ∙ rw (eq-eqb (length out) request_length room, refuses s h, state_read h, e))

    tells_one : {s : S} → Rule s → (answer area : List ℕ) → length answer ≡ answer_length → length area ≡ area_bytes
        → tell (word_bytes (words s)) answer area ≡ kept accepted (word_bytes (words (m.told s (result_in answer) area)))
    tells_one {s} h answer area a b =
        tells-so (word_bytes (words s)) answer area
        ∙ rw (eq-eqb (length answer) answer_length a, eq-eqb (length area) area_bytes b, state_passes h, state_read h)

    pub is_kept : {s : S} → Rule s → {ms : List Move} → Every Lent ms
        → host_does ask tell (word_bytes (words s)) ms ≡ machine_does m words over s ms
    unfolding host_does machine_does
    is_kept h none = refl
    is_kept {s} h (more {x = asks out} room rest) =
        by_test (over s)
        (λ e. rw (asks_one h out room, e, is_kept {s = s} h rest))
        (λ e. rw (asks_one h out room, e, is_kept {s = m.asked s} (k.asked h) rest))
    is_kept {s} h (more {x = tells answer area} ((a, bytes), (b, found)) rest) =
        rw (tells_one h answer area a b, is_kept {s = m.told s (result_in answer) area} (k.told h (result_in answer) area (told_in_lem bytes) found) rest)
