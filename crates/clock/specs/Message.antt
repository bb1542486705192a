-- The bytes of a message to the clock and of its answer, two words each, the lowest byte first; and what a client makes of an answer.
use Rattle.std.specs.Prelude.{ℕ, Bool, true, false, not, ◌||◌, List, ◌++◌, ◌==◌, nat_lt}
use Rattle.queue.specs.Choose.{choose}
use Rattle.task.specs.declared.task.Outcome.{Outcome}
use Rattle.task.specs.declared.task.Outcome.TheVariants as Told
use Rattle.task.specs.Task.{first_negative, is_negative}
use Rattle.task.specs.Result.{negated}
use Rattle.image.specs.Bytes.{bytes_of, number_in}
use Rattle.clock.specs.declared.clock.Asked.{Asked}
use Rattle.clock.specs.declared.clock.Asked.TheVariants.{Tick, Time, Delay, Until, Unknown}
use Rattle.clock.specs.declared.clock.Said.{Said}
use Rattle.clock.specs.declared.clock.Said.TheVariants.{Count, Refused}
use Rattle.clock.specs.declared.message.Meaning.{Meaning}
use Rattle.clock.specs.declared.message.Meaning.TheVariants as Meant
use Rattle.clock.specs.Clock.{is_due}

-- how many bytes a message has; an answer has as many
abbrev pub size : ℕ
size = 8

-- what an op and an argument ask: 1 a tick and 2 the time, each with the argument 0; 3 a delay; 4 a delay until a count. All else has no
-- fixed form, and is Unknown
unfoldable pub asked_by : ℕ → ℕ → Asked
asked_by op argument =
    choose (op == 3) (Delay argument)
    (choose (op == 4) (Until argument)
    (choose (not (argument == 0)) Unknown
    (choose (op == 1) Tick
    (choose (op == 2) Time
    Unknown))))

-- what a message of a length asks, by the bytes of it that are at hand: one of another length has no fixed form
unfoldable pub asked_in : ℕ → List ℕ → Asked
asked_in length bytes = choose (not (length == size)) Unknown (asked_by (number_in bytes 0 4) (number_in bytes 4 4))

-- the op by which a client asks this; 0, which is none, for what has no fixed form
abbrev pub op_of : Asked → ℕ
op_of Tick = 1
op_of Time = 2
op_of (Delay d) = 3
op_of (Until u) = 4
op_of Unknown = 0

-- the argument beside it
abbrev pub argument_of : Asked → ℕ
argument_of Tick = 0
argument_of Time = 0
argument_of (Delay d) = d
argument_of (Until u) = u
argument_of Unknown = 0

-- the message by which a client asks this
abbrev pub request_bytes : Asked → List ℕ
request_bytes q = bytes_of 4 (op_of q) ++ bytes_of 4 (argument_of q)

-- the status of an answer: 0 with a count, or the refusal as a negative word
abbrev pub status_of : Said → ℕ
status_of (Count count) = 0
status_of (Refused n) = negated n

-- the count of an answer: 0 beside a refusal
abbrev pub count_of : Said → ℕ
count_of (Count count) = count
count_of (Refused n) = 0

-- the answer by which the clock says this
abbrev pub answer_bytes : Said → List ℕ
answer_bytes said = bytes_of 4 (status_of said) ++ bytes_of 4 (count_of said)

-- what a status and a count mean together: a count, a refusal with no count beside it, or nothing that the clock says
unfoldable pub words_mean : ℕ → ℕ → Meaning
words_mean status count =
    choose (status == 0) (Meant.Count count)
    (choose (not (count == 0)) Meant.Garbled
    (choose (status == negated 2) (Meant.Refused 2)
    (choose (status == negated 3) (Meant.Refused 3)
    (choose (status == negated 4) (Meant.Refused 4)
    Meant.Garbled))))

-- whether the clock may answer what was asked by this count: a delay that is not negative by any, a delay until a target by one at which
-- the target is due, and what has no fixed form by none
abbrev pub count_fits : Asked → ℕ → Bool
count_fits Tick count = true
count_fits Time count = true
count_fits (Delay d) count = nat_lt d first_negative
count_fits (Until due) count = is_due count due
count_fits Unknown count = false

-- by what a delay may be refused but by -4: one below 0 by -2, one above 0 by -3; one of 0, which is due at once, by nothing else
abbrev pub delay_refusal : ℕ → ℕ
delay_refusal d = choose (is_negative d) 2 (choose (d == 0) 4 3)

-- whether the clock may refuse what was asked by -n: it never refuses the time, nor a delay until a target by -2
abbrev pub refusal_fits : Asked → ℕ → Bool
refusal_fits Tick n = n == 4
refusal_fits Time n = false
refusal_fits (Delay d) n = n == delay_refusal d || n == 4
refusal_fits (Until due) n = n == 3 || n == 4
refusal_fits Unknown n = n == 4

-- what the words of an answer mean to the one who asked q: what the clock never answers to q is garbled
abbrev pub fitting : Asked → Meaning → Meaning
fitting q (Meant.Count count) = choose (count_fits q count) (Meant.Count count) Meant.Garbled
fitting q (Meant.Refused n) = choose (refusal_fits q n) (Meant.Refused n) Meant.Garbled
fitting q (Meant.Fault f) = Meant.Fault f
fitting q Meant.Garbled = Meant.Garbled

-- What came of a Send to the clock that asked q, by what the kernel tells the sender and its reply buffer: a fault is the kernel's own; a
-- value is the length of the answer, and an answer of another length is garbled.
abbrev pub meaning : Asked → Outcome → List ℕ → Meaning
meaning q Told.Nothing bytes = Meant.Garbled
meaning q (Told.Fault f) bytes = Meant.Fault f
meaning q (Told.Value from cut v) bytes =
    choose (not (v == size)) Meant.Garbled (fitting q (words_mean (number_in bytes 0 4) (number_in bytes 4 4)))

-- what the client is to make of what the clock says
abbrev pub meant_by : Said → Meaning
meant_by (Count count) = Meant.Count count
meant_by (Refused n) = Meant.Refused n
