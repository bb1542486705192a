-- What is asked is read, and what is said is meant.
use Rattle.std.proofs.Common.{◌≡◌, ℕ, ◌+◌, ◌^◌, ◌<◌, ◌≤◌, true, false, not, eqb, leb, List, refl, ap, ◌∙◌, subst, arith, eqb-true}
use mathlib.Core.Bool.{false≢true}
use native.Mathlib.Decide.{ℕ_discrete}
use borrow.Author.Tests.{not-false}
use Rattle.task.specs.Task.{is_negative}
use Rattle.task.specs.declared.task.Outcome.{Outcome}
use Rattle.task.specs.declared.task.Outcome.TheVariants.{Nothing, Value, Fault}
use Rattle.task.specs.Result.{negated}
use Rattle.task.proofs.Tests.{chosen}
use Rattle.image.specs.Bytes.{number_in}
use Rattle.image.proofs.Bytes.{number_back}
use Rattle.clock.specs.declared.clock.Clock.{Clock}
use Rattle.clock.specs.Clock.{Heard}
use Rattle.clock.specs.declared.clock.Asked.{Asked}
use Rattle.clock.specs.declared.clock.Asked.TheVariants.{Tick, Time, Delay, Until, Unknown}
use Rattle.clock.specs.declared.clock.Said.TheVariants.{Count, Refused}
use Rattle.clock.specs.declared.message.Meaning.{Meaning}
use Rattle.clock.specs.declared.message.Meaning.TheVariants as Meant
use Rattle.clock.specs.Row.{room, holds}
use Rattle.clock.specs.Clock.{wrapped, is_due, sleeps, waits, ticked, hear}
use Rattle.clock.specs.Message.{size, asked_by, asked_in, answer_bytes, words_mean, count_fits, refusal_fits, fitting, meaning}
use Rattle.clock.specs.Laws.{Proper, SaysProper, AskedIsRead, is_answer, SaidIsMeant, CountsApart, RefusalsApart}

abbrev Fine : Heard → Type 0
Fine h = Proper h.said

waits_proper : (c : Clock) (from due : ℕ) → c.count < 2 ^ 32 → Fine (waits c from due)
unfolding waits sleeps
waits_proper c from due fits =
    chosen Fine (is_due c.count due) (λ _. fits) (λ _. chosen Fine (leb room c.row.len) (λ _. (omega arith, omega arith)) (λ _. fits))

pub says_proper_lem : SaysProper
unfolding hear ticked
says_proper_lem c from Tick fits = chosen Fine (eqb from c.notifier) (λ _. omega arith) (λ _. (omega arith, omega arith))
says_proper_lem c from Time fits = fits
says_proper_lem c from (Delay d) fits =
    chosen Fine (holds c.row from) (λ _. (omega arith, omega arith))
    (λ _. chosen Fine (is_negative d) (λ _. (omega arith, omega arith)) (λ _. waits_proper c from (wrapped (c.count + d)) fits))
says_proper_lem c from (Until due) fits =
    chosen Fine (holds c.row from) (λ _. (omega arith, omega arith)) (λ _. waits_proper c from due fits)
says_proper_lem c from Unknown fits = (omega arith, omega arith)

pub asked_is_read_lem : AskedIsRead
unfolding asked_in asked_by
asked_is_read_lem Tick fits = refl
asked_is_read_lem Time fits = refl
asked_is_read_lem (Delay d) fits = ap Delay (number_back 4 d fits)
asked_is_read_lem (Until u) fits = ap Until (number_back 4 u fits)
asked_is_read_lem Unknown fits = refl

-- what is read from the two words of an answer, by what it means
abbrev ReadAs : ℕ → ℕ → Meaning → Type 0
ReadAs status count (Meant.Count k) = (status ≡ 0) × (count ≡ k)
ReadAs status count (Meant.Refused n) = (2 ≤ n) × (n ≤ 4) × (status ≡ negated n) × (count ≡ 0)
ReadAs status count (Meant.Fault f) = Unit {0}
ReadAs status count Meant.Garbled = Unit {0}

refused_as : (status count n : ℕ) → 2 ≤ n → n ≤ 4 → not (eqb count 0) ≡ false → eqb status (negated n) ≡ true
    → ReadAs status count (Meant.Refused n)
refused_as status count n low high none same =
    (low, high, eqb-true status (negated n) same, eqb-true count 0 (not-false (eqb count 0) none))

read_as : (status count : ℕ) → ReadAs status count (words_mean status count)
unfolding words_mean
read_as status count =
    let Read : Meaning → Type 0 = ReadAs status count in
    chosen Read (eqb status 0) (λ zero. (eqb-true status 0 zero, refl))
    (λ _. chosen Read (not (eqb count 0)) (λ _. tt)
    (λ none. chosen Read (eqb status (negated 2)) (refused_as status count 2 (omega arith) (omega arith) none)
    (λ _. chosen Read (eqb status (negated 3)) (refused_as status count 3 (omega arith) (omega arith) none)
    (λ _. chosen Read (eqb status (negated 4)) (refused_as status count 4 (omega arith) (omega arith) none)
    (λ _. tt)))))

count_read : (status count : ℕ) → status ≡ 0 → words_mean status count ≡ Meant.Count count
unfolding words_mean
count_read status count zero = rw zero

refusal_read : (status count n : ℕ) → 2 ≤ n → n ≤ 4 → status ≡ negated n → count ≡ 0 → words_mean status count ≡ Meant.Refused n
unfolding words_mean
refusal_read status count n low high same none =
    elim (ℕ_discrete n 2) [
      | yes two ↦ rw (same, none, two)
      | no ne ↦ elim (ℕ_discrete n 3) [
        | yes three ↦ rw (same, none, three)
        | no ne' ↦ let four : n ≡ 4 = omega arith in rw (same, none, four)
      ]
    ]

pub said_is_meant_lem : SaidIsMeant
said_is_meant_lem q (Count count) from cut fits may =
    ap (fitting q) (count_read 0 (number_in (answer_bytes (Count count)) 4 4) refl)
    ∙ ap (λ (k : ℕ). fitting q (Meant.Count k)) (number_back 4 count fits)
    ∙ rw may
said_is_meant_lem q (Refused n) from cut fits may =
    ap (λ (w : ℕ). fitting q (words_mean w 0)) (number_back 4 (negated n) (omega arith))
    ∙ rw (refusal_read (negated n) 0 n fits.0 fits.1 refl refl, may)

-- what a client may read from a result and the buffer, by what it means
abbrev Means : Asked → Outcome → List ℕ → Meaning → Type 0
Means q o bytes (Meant.Count k) = (is_answer o ≡ true) × (number_in bytes 0 4 ≡ 0) × (number_in bytes 4 4 ≡ k) × (count_fits q k ≡ true)
Means q o bytes (Meant.Refused n) =
    (is_answer o ≡ true) × (2 ≤ n) × (n ≤ 4) × (number_in bytes 0 4 ≡ negated n) × (number_in bytes 4 4 ≡ 0) × (refusal_fits q n ≡ true)
Means q o bytes (Meant.Fault f) = Unit {0}
Means q o bytes Meant.Garbled = Unit {0}

fitting_means : (q : Asked) (o : Outcome) (bytes : List ℕ) (m : Meaning) → is_answer o ≡ true
    → ReadAs (number_in bytes 0 4) (number_in bytes 4 4) m → Means q o bytes (fitting q m)
fitting_means q o bytes (Meant.Count k) eight r = chosen (Means q o bytes) (count_fits q k) (λ fits. (eight, r.0, r.1, fits)) (λ _. tt)
fitting_means q o bytes (Meant.Refused n) eight r =
    chosen (Means q o bytes) (refusal_fits q n) (λ fits. (eight, r.0, r.1, r.2, r.3, fits)) (λ _. tt)
fitting_means q o bytes (Meant.Fault f) eight r = tt
fitting_means q o bytes Meant.Garbled eight r = tt

means : (q : Asked) (o : Outcome) (bytes : List ℕ) → Means q o bytes (meaning q o bytes)
means q Nothing bytes = tt
means q (Fault f) bytes = tt
means q (Value from cut v) bytes =
    let o : Outcome = Value from cut v in
    let status = number_in bytes 0 4 in
    let count = number_in bytes 4 4 in
    chosen (Means q o bytes) (not (eqb v size)) (λ _. tt)
    (λ eight. fitting_means q o bytes (words_mean status count) (not-false (eqb v size) eight) (read_as status count))

-- what the words mean is meant where it fits
meant_so : (q : Asked) (o : Outcome) (bytes : List ℕ) (m : Meaning) → is_answer o ≡ true
    → words_mean (number_in bytes 0 4) (number_in bytes 4 4) ≡ m → meaning q o bytes ≡ fitting q m
meant_so q Nothing bytes m answer read = absurd (false≢true answer)
meant_so q (Fault f) bytes m answer read = absurd (false≢true answer)
meant_so q (Value from cut v) bytes m answer read = rw answer (ap (fitting q) read)

pub counts_apart_lem : CountsApart
counts_apart_lem q o bytes count = (
  λ h. subst (Means q o bytes) h (means q o bytes),
  λ (answer, zero, same, fits).
      meant_so q o bytes (Meant.Count count) answer (count_read (number_in bytes 0 4) (number_in bytes 4 4) zero ∙ ap Meant.Count same) ∙ rw fits,
)

pub refusals_apart_lem : RefusalsApart
refusals_apart_lem q o bytes n = (
  λ h. subst (Means q o bytes) h (means q o bytes),
  λ (answer, low, high, status, none, fits).
      meant_so q o bytes (Meant.Refused n) answer (refusal_read (number_in bytes 0 4) (number_in bytes 4 4) n low high status none)
      ∙ rw fits,
)
