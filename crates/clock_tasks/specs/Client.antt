-- A call of the clock as its client makes it: eight own writes of the message, a Send, and what is made of the answer.
use Rattle.std.specs.Prelude.{ℕ, ◌+◌, List, drop, nat_lt, slice_index}
use Rattle.queue.specs.Choose.{choose}
use Rattle.task.specs.declared.task.Outcome.{Outcome}
use Rattle.task.specs.declared.task.Outcome.TheVariants.{Nothing, Value, Fault}
use Rattle.kernel.specs.declared.table.Request.{Request}
use Rattle.kernel.specs.Numbers.{send_kind, own_write_kind}
use Rattle.clock.specs.declared.clock.Asked as Question
use Rattle.clock.specs.declared.message.Meaning.TheVariants.{Garbled}
use Rattle.clock.specs.Message.{size, request_bytes, meaning}
use Rattle.server.specs.Phase.{ask}
use Rattle.clock_tasks.specs.declared.client.Stage.{Stage}
use Rattle.clock_tasks.specs.declared.client.Stage.TheVariants.{Writing, Sending, Sent, Ended}
use Rattle.clock_tasks.specs.declared.client.Client.{Client}

-- a call of the clock with this tid, whose message is to stand at an offset of the client's own area
abbrev pub new_client : ℕ → Question.Asked → ℕ → Client
new_client clock q offset = record { clock = clock; asked = q; offset = offset; stage = Writing 0; outcome = Garbled }

-- the message at the offset, and room for the answer behind it
abbrev pub sends : ℕ → ℕ → Request
sends clock at = record { kind = send_kind; arg0 = clock; arg1 = at; arg2 = size; arg3 = at + size; arg4 = size }

abbrev pub request_in : Stage → Client → Request
request_in (Writing k) s = ask own_write_kind (s.offset + k) (slice_index (request_bytes s.asked) k) 0
request_in Sending s = sends s.clock s.offset
request_in Sent s = sends s.clock s.offset
request_in Ended s = sends s.clock s.offset

abbrev pub request : Client → Request
request s = request_in s.stage s

-- what comes after a stage, once that is asked
abbrev pub after : Stage → Stage
after (Writing k) = choose (nat_lt k 7) (Writing (k + 1)) Sending
after Sending = Sent
after Sent = Sent
after Ended = Ended

abbrev pub asked : Client → Client
asked s = record { clock = s.clock; asked = s.asked; offset = s.offset; stage = after s.stage; outcome = s.outcome }

-- the call is over: what came of it is what the result, and the bytes behind the message, mean to one who asked this
abbrev pub ended : Client → Outcome → List ℕ → Client
ended s o area =
    record {
      clock = s.clock;
      asked = s.asked;
      offset = s.offset;
      stage = Ended;
      outcome = meaning s.asked o (drop (s.offset + size) area);
    }

-- only what it is told once it has sent ends it
abbrev pub answered_in : Client → Outcome → List ℕ → Client
answered_in s Nothing area = s
answered_in s (Value from cut v) area = ended s (Value from cut v) area
answered_in s (Fault f) area = ended s (Fault f) area

abbrev pub told_in : Stage → Client → Outcome → List ℕ → Client
told_in (Writing k) s o area = s
told_in Sending s o area = s
told_in Sent s o area = answered_in s o area
told_in Ended s o area = s

abbrev pub told : Client → Outcome → List ℕ → Client
told s o area = told_in s.stage s o area
