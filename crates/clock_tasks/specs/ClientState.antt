-- A call of the clock as the eight words that a host keeps: its stage and the byte that it has come to, the clock's tid, the op and the
-- argument that it asks, the offset of its message, and what came of it, as a kind and a value.
use Rattle.std.specs.Prelude.{ℕ, min, Bool, ◌&&◌, List, [], ◌∷◌, ◌==◌, nat_le, slice_index}
use Rattle.queue.specs.Choose.{choose}
use Rattle.task.specs.Result.{negated}
use Rattle.image.specs.Bytes.{same}
use Rattle.clock.specs.declared.message.Meaning.{Meaning}
use Rattle.clock.specs.declared.message.Meaning.TheVariants.{Count, Refused, Fault, Garbled}
use Rattle.clock.specs.Message.{op_of, argument_of, asked_by}
use Rattle.clock_tasks.specs.declared.client.Stage.{Stage}
use Rattle.clock_tasks.specs.declared.client.Stage.TheVariants.{Writing, Sending, Sent, Ended}
use Rattle.clock_tasks.specs.declared.client.Client.{Client}

abbrev pub words : ℕ
words = 8

-- the last offset from which a message and its answer end within the area
abbrev pub last_offset : ℕ
last_offset = 240

abbrev pub stage_code : Stage → ℕ
stage_code (Writing k) = 0
stage_code Sending = 1
stage_code Sent = 2
stage_code Ended = 3

abbrev pub place : Stage → ℕ
place (Writing k) = k
place Sending = 0
place Sent = 0
place Ended = 0

-- what came of a call: a kind, 1 a count, 2 a refusal of the clock, 3 a fault of the kernel, 4 an answer that is garbled; and the count, or
-- the refusal or fault as a negative word
abbrev pub outcome_words : Meaning → List ℕ
outcome_words (Count count) = 1 ∷ count ∷ []
outcome_words (Refused n) = 2 ∷ negated n ∷ []
outcome_words (Fault f) = 3 ∷ negated f ∷ []
outcome_words Garbled = 4 ∷ 0 ∷ []

-- kind 0 while it is not over
abbrev pub shown_in : Stage → Meaning → List ℕ
shown_in (Writing k) outcome = 0 ∷ 0 ∷ []
shown_in Sending outcome = 0 ∷ 0 ∷ []
shown_in Sent outcome = 0 ∷ 0 ∷ []
shown_in Ended outcome = outcome_words outcome

abbrev pub client_words : Client → List ℕ
client_words s =
    stage_code s.stage ∷ place s.stage ∷ s.clock ∷ op_of s.asked ∷ argument_of s.asked ∷ s.offset ∷ shown_in s.stage s.outcome

abbrev pub stage_of : ℕ → ℕ → Stage
stage_of code k =
    choose (code == 0) (Writing (min k 7))
    (choose (code == 1) Sending
    (choose (code == 2) Sent
    Ended))

-- a refusal is -2, -3 or -4, a fault -1, -2 or -3; anything else is read as garbled
abbrev pub outcome_of : ℕ → ℕ → Meaning
outcome_of kind value =
    let n = negated value in
    choose (kind == 1) (Count value)
    (choose (kind == 2 && nat_le 2 n && nat_le n 4) (Refused n)
    (choose (kind == 3 && nat_le 1 n && nat_le n 3) (Fault n)
    Garbled))

-- what came of it is kept only once it is over
abbrev pub kept_in : Stage → Meaning → Meaning
kept_in (Writing k) outcome = Garbled
kept_in Sending outcome = Garbled
kept_in Sent outcome = Garbled
kept_in Ended outcome = outcome

abbrev pub client_from : List ℕ → Client
client_from ws =
    let stage = stage_of (slice_index ws 0) (slice_index ws 1) in
    record {
      clock = slice_index ws 2;
      asked = asked_by (slice_index ws 3) (slice_index ws 4);
      offset = min (slice_index ws 5) last_offset;
      stage = stage;
      outcome = kept_in stage (outcome_of (slice_index ws 6) (slice_index ws 7));
    }

-- whether words are those of a call of Time, Delay or DelayUntil
abbrev pub is_client : List ℕ → Bool
is_client ws = nat_le 2 (slice_index ws 3) && same (client_words (client_from ws)) ws
