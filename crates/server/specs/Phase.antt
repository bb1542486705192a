-- What a server asks next, by the phase that it is in. Its own area has two parts: a message is received into the first `size` bytes, and the
-- answer is written into the next `size`.
use Rattle.std.specs.Prelude.{ℕ, ◌+◌, ltb}
use Rattle.queue.specs.Choose.{choose}
use Rattle.kernel.specs.declared.table.Request.{Request}
use Rattle.kernel.specs.Numbers.{create_kind, receive_kind, reply_kind, own_write_kind}
use Rattle.server.specs.declared.phase.Phase.{Phase}
use Rattle.server.specs.declared.phase.Phase.TheVariants.{Making, Made, Writing, Replying, Listening}

abbrev pub ask : ℕ → ℕ → ℕ → ℕ → Request
ask kind a b c = record { kind = kind; arg0 = a; arg1 = b; arg2 = c; arg3 = 0; arg4 = 0 }

-- a Receive into the first `size` bytes
abbrev pub receives : ℕ → Request
receives size = ask receive_kind 0 size 0

-- which byte, or which of those who are answered, a phase has come to
abbrev pub place : Phase → ℕ
place Making = 0
place Made = 0
place (Writing k) = k
place (Replying k) = k
place Listening = 0

-- what is asked in a phase: a task of a priority is made; one byte of the answer is written; the answer is replied to one of the `len` who
-- are answered, and after the last of them a message is waited for. `byte` and `tid` are those at the phase's place
abbrev pub request_in : Phase → ℕ → ℕ → ℕ → ℕ → ℕ → Request
request_in Making priority size len byte tid = ask create_kind priority 0 0
request_in Made priority size len byte tid = receives size
request_in (Writing k) priority size len byte tid = ask own_write_kind (size + k) byte 0
request_in (Replying k) priority size len byte tid = choose (ltb k len) (ask reply_kind tid size size) (receives size)
request_in Listening priority size len byte tid = receives size

-- what comes after a phase, once that is asked
abbrev pub after : Phase → ℕ → ℕ → Phase
after Making size len = Made
after Made size len = Made
after (Writing k) size len = choose (ltb (k + 1) size) (Writing (k + 1)) (Replying 0)
after (Replying k) size len = choose (ltb k len) (Replying (k + 1)) Listening
after Listening size len = Listening
