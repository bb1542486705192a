-- The laws of the clock by value: what holds whatever it is sent, and what a client may rely on. Each is a statement; proofs/Laws.antt
-- proves it under the same name in small letters.
use Rattle.std.specs.Prelude.{◌≡◌, ℕ, ◌+◌, ◌^◌, ◌<◌, ◌≤◌, Bool, true, false, ◌↔◌, List, [], ◌==◌}
use Rattle.task.specs.Task.{first_negative}
use Rattle.task.specs.declared.task.Outcome.{Outcome}
use Rattle.task.specs.declared.task.Outcome.TheVariants.{Nothing, Value, Fault}
use Rattle.task.specs.Result.{negated}
use Rattle.image.specs.Bytes.{number_in}
use Rattle.clock.specs.declared.clock.Clock.{Clock}
use Rattle.clock.specs.declared.clock.Asked.{Asked}
use Rattle.clock.specs.declared.clock.Said.{Said}
use Rattle.clock.specs.declared.clock.Said.TheVariants.{Count, Refused}
use Rattle.clock.specs.declared.message.Meaning.TheVariants as Meant
use Rattle.clock.specs.Clock.{wrapped, is_due, new_clock, hear}
use Rattle.clock.specs.Message.{size, asked_in, argument_of, request_bytes, answer_bytes, count_fits, refusal_fits, meaning, meant_by}
use Rattle.clock.specs.Plan.{Arrival, answers, first_due, nth_tick, plan, booked, by_book, Entry, verdict, answered, sleeps}

-- Every message is answered as planned: each sleeper once, at the first tick at which it is due, those of one tick in order of arrival;
-- besides them only the sender of the message; and a place that is given back is used again.
-- Ruled out: a clock that answers a sleeper at each later tick too, one that answers the last to come first, and one whose places run out.
abbrev pub AsPlanned : Type 0
AsPlanned = (n count : ℕ) (ms : List Arrival) → answers (new_clock n count) ms ≡ plan n count [] 0 ms

-- Exactly once: the book of all who are ever put to sleep has one entry for each time, an entry has one number, and each message wakes
-- just those whose number it is.
-- Ruled out: a clock that forgets a sleeper, and one that answers it twice.
abbrev pub EachOnce : Type 0
EachOnce =
    (n count : ℕ) (ms : List Arrival)
    → answers (new_clock n count) ms ≡ by_book n count (booked n count [] 0 ms) [] 0 ms

-- A delay of d is answered at the d-th tick after it, also where the count wraps on the way.
-- Ruled out: a clock that compares counts as they stand, and one that counts the tick before the delay came.
abbrev pub DelayIsTicks : Type 0
DelayIsTicks =
    (n count d : ℕ) (ms : List Arrival) → count < 2 ^ 32 → 1 ≤ d → d < first_negative
    → first_due n count (wrapped (count + d)) ms ≡ nth_tick n d ms

-- a count of 32 bits, or a refusal by -2, -3 or -4
abbrev pub Proper : Said → Type 0
Proper (Count count) = count < 2 ^ 32
Proper (Refused n) = (2 ≤ n) × (n ≤ 4)

-- The clock says nothing else.
-- Ruled out: a clock that refuses by -1, which no client knows, and one whose count goes past 32 bits.
abbrev pub SaysProper : Type 0
SaysProper = (c : Clock) (from : ℕ) (q : Asked) → c.count < 2 ^ 32 → Proper (hear c from q).said

-- What a client asks is what the clock reads.
-- Ruled out: a client that writes the argument before the op, and a clock that reads a delay from the highest byte on.
abbrev pub AskedIsRead : Type 0
AskedIsRead = (q : Asked) → argument_of q < 2 ^ 32 → asked_in size (request_bytes q) ≡ q

-- whether a result is a value as long as an answer
abbrev pub is_answer : Outcome → Bool
is_answer Nothing = false
is_answer (Value from cut v) = v == size
is_answer (Fault f) = false

-- whether the clock may say this to a message that asks q
abbrev pub said_fits : Asked → Said → Bool
said_fits q (Count count) = count_fits q count
said_fits q (Refused n) = refusal_fits q n

-- What the plan answers to a message fits what was asked: what its sender is told at once, and each count at which it may be woken.
-- Ruled out: a clock that refuses a Time, and a client that calls garbled what the clock does answer.
abbrev pub AnswersFit : Type 0
AnswersFit =
    (n count : ℕ) (sleeping : List Entry) (from : ℕ) (q : Asked)
    → ((said : Said) → verdict n count sleeping from q ≡ answered said → said_fits q said ≡ true)
    × ((due later : ℕ) → verdict n count sleeping from q ≡ sleeps due
    → is_due later due ≡ true → said_fits q (Count later) ≡ true)

-- What the clock says is what the client takes it to mean.
-- Ruled out: a client that calls every refusal garbled, and one that reads the count from the first word.
abbrev pub SaidIsMeant : Type 0
SaidIsMeant =
    (q : Asked) (said : Said) (from : ℕ) (cut : Bool) → Proper said → said_fits q said ≡ true
    → meaning q (Value from cut size) (answer_bytes said) ≡ meant_by said

-- A count is read exactly from an answer of eight bytes with status 0, is the count in it, and is one that the clock may answer; so no
-- refusal, no fault of the kernel and no answer of another length is ever taken for a count, whatever the count is.
-- Ruled out: a client that takes the refusal -2 for the count 4294967294, and one that finds a count in an answer of four bytes.
abbrev pub CountsApart : Type 0
CountsApart =
    (q : Asked) (o : Outcome) (bytes : List ℕ) (count : ℕ)
    → (meaning q o bytes ≡ Meant.Count count)
    ↔ (is_answer o ≡ true) × (number_in bytes 0 4 ≡ 0) × (number_in bytes 4 4 ≡ count) × (count_fits q count ≡ true)

-- And a refusal exactly from an answer of eight bytes whose status is the refusal's, as a negative word, with no count beside it, where the
-- clock may refuse so.
-- Ruled out: a client that takes the count 4294967294 for the refusal -2, one that takes the kernel's fault -2 for it, and one that lets
-- itself be refused the time.
abbrev pub RefusalsApart : Type 0
RefusalsApart =
    (q : Asked) (o : Outcome) (bytes : List ℕ) (n : ℕ)
    → (meaning q o bytes ≡ Meant.Refused n)
    ↔ (is_answer o ≡ true) × (2 ≤ n) × (n ≤ 4)
    × (number_in bytes 0 4 ≡ negated n) × (number_in bytes 4 4 ≡ 0) × (refusal_fits q n ≡ true)
