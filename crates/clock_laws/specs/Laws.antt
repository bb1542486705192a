-- The clock over the kernel: what holds in any run of a kernel in which one task is the clock, its notifier or a client, as they ship, and
-- all others ask what they like. Each is a statement; proofs/Laws.antt proves it under the same name in small letters.
use Rattle.std.specs.Prelude.{ℕ, ◌≤◌, ◌<◌, ◌≡◌, ◌⊎◌, true, false}
use mathlib.Core.List.{List, [], ◌++◌, map, flatten}
use Rattle.tid.specs.Tid.{slot_named}
use Rattle.task.specs.declared.task.Buffer.{Buffer}
use Rattle.task.specs.declared.task.Outcome.TheVariants.{Nothing, Value}
use Rattle.task.specs.declared.task.State.TheVariants.{Active, Ready, ReplyBlocked}
use Rattle.kernel.specs.declared.table.Request.{Request}
use Rattle.kernel.specs.Numbers.{send_kind, reply_kind}
use Rattle.kernel.specs.Table.{task_at, used_slots}
use Rattle.step.specs.Run as Run
use Rattle.laws.specs.View.{Steps, Gets, NoReplyTo}
use Rattle.server.specs.Service.{Serving}
use Rattle.served.specs.World.{World, bytes_in, areas_after, decided, asks_now, ended, Obeys}
use Rattle.served.specs.Letters.{Letter, letters_to, read, unread, Sent, replies, unsent}
use Rattle.clock.specs.declared.clock.Clock.{Clock}
use Rattle.clock.specs.declared.clock.Asked.{Asked}
use Rattle.clock.specs.declared.clock.Asked.TheVariants.{Tick}
use Rattle.clock.specs.Plan.{Arrival, Answer, plan}
use Rattle.clock.specs.Message.{size, asked_in, request_bytes, answer_bytes, meaning, meant_by}
use Rattle.clock.specs.Laws.{said_fits}
use Rattle.clock_tasks.specs.declared.serving.Server.{Server}
use Rattle.clock_tasks.specs.declared.notifier.Notifier.{Notifier}
use Rattle.clock_tasks.specs.declared.client.Client.{Client}
use Rattle.clock_tasks.specs.Server.{new_server, clock_service, as_serving}
use Rattle.clock_tasks.specs.Notifier.{new_notifier}
use Rattle.clock_tasks.specs.Client.{new_client}
use Rattle.clock_tasks.specs.ClientState.{last_offset}
use Rattle.clock_tasks.specs.Laws.{clock_machine, notifier_machine, client_machine}

-- the task with tid g is there, and is ready or active with nothing to be told
pub record Begins {S : Type 0} (n g : ℕ) (w : World S) : Type 0 where
  pub steps : Steps n w.table w.areas
  pub least : 1 ≤ g
  pub used : slot_named g < used_slots w.table
  pub waits : ((task_at w.table (slot_named g)).state ≡ Ready) ⊎ ((task_at w.table (slot_named g)).state ≡ Active)
  pub nothing : (task_at w.table (slot_named g)).result ≡ Nothing

-- a world of the clock's own machine, as one of a task that serves
abbrev pub served : World Server → World (Serving Clock)
served w = record { table = w.table; areas = w.areas; state = as_serving w.state }

-- what a letter asks, and an answer as the Reply that brings it
abbrev pub arrival : Letter → Arrival
arrival l = record { from = l.from; asked = asked_in l.length l.bytes }

abbrev pub sent : Answer → Sent
sent a = record { to = a.to; bytes = answer_bytes a.said }

-- what the clock's task has read of the letters that the kernel brought it, and what it has answered: as planned for them, from a count of 0,
-- with the task that it made as its notifier
pub record Keeps (g : ℕ) (w : World Server) (rs : List Request) : Type 0 where
  pub letters : let end = ended clock_machine g w rs in
      letters_to g w.areas (Run.run w.table w.areas rs) ≡ read clock_service g (served w) rs ++ unread clock_service g (served end)
  pub answers : let end = ended clock_machine g w rs in
      replies clock_service g (served w) rs ++ unsent (served end).state
      ≡ map sent (flatten (plan end.state.clock.notifier 0 [] 0 (map arrival (read clock_service g (served w) rs))))

-- The clock keeps time: along any run in which its task does as the machine says, its Replies, whom they go to and the bytes that they bring,
-- are those of the plan for the messages that the kernel brought it; those that it has not sent yet are the last.
-- Ruled out: a clock that answers a sleeper twice, late or never, that answers before the bytes are written, that loses a message, or that is
-- led astray by an interrupt between two requests.
abbrev pub ClockKeepsTime : Type 0
ClockKeepsTime =
    (n g priority : ℕ) (w : World Server) (rs : List Request) → Begins n g w → w.state ≡ new_server priority
    → Obeys clock_machine g w rs → Keeps g w rs

-- The answer reaches the sleeper: x waits for a reply since the run `rs`, with room for an answer, and no Reply named it in the run `rs'`
-- after that. As the clock replies to it, it gets the value 8, and what it takes the bytes in its buffer to mean is what the clock said.
-- Ruled out: a count that a refusal is taken for, and an answer to one who has given up waiting.
abbrev pub AnswerReaches : Type 0
AnswerReaches =
    (n g priority : ℕ) (w : World Server) (rs rs' : List Request) (r : Request) (b : Buffer) (q : Asked)
    → Begins n g w → w.state ≡ new_server priority → Obeys clock_machine g w rs
    → let asleep = ended clock_machine g w rs in
    let now = ended clock_machine g asleep rs' in
    let x = slot_named r.arg0 in
    Obeys clock_machine g asleep rs'
    → 1 ≤ r.arg0 → (task_at asleep.table x).state ≡ ReplyBlocked b → size ≤ b.len → NoReplyTo r.arg0 (Run.run asleep.table asleep.areas rs')
    → asks_now g now r ≡ true → r ≡ clock_machine.request now.state → r.kind ≡ reply_kind → said_fits q now.state.said ≡ true
    → Gets x (Value 0 false size) (decided now r)
    × (meaning q (Value 0 false size) (bytes_in r.arg0 b.start size (areas_after now r)) ≡ meant_by now.state.said)

-- A call is sent as it was asked: whenever what the client is to ask is its Send, that goes to the clock that it was told of, and the message's bytes
-- stand in its own area, whatever others do meanwhile.
-- Ruled out: a message that is sent before its last byte is written.
abbrev pub CallIsSent : Type 0
CallIsSent =
    (n g clock offset : ℕ) (q : Asked) (w : World Client) (rs : List Request) (r : Request) → offset ≤ last_offset
    → Begins n g w → w.state ≡ new_client clock q offset → Obeys client_machine g w rs
    → let now = ended client_machine g w rs in
    r ≡ client_machine.request now.state → r.kind ≡ send_kind
    → (r.arg0 ≡ clock) × (r.arg1 ≡ offset) × (r.arg2 ≡ size) × (bytes_in g offset size now.areas ≡ request_bytes q)

-- So is a tick: the notifier sends nothing else, and to nobody but the task that it was told made it.
abbrev pub TickIsSent : Type 0
TickIsSent =
    (n g event : ℕ) (w : World Notifier) (rs : List Request) (r : Request)
    → Begins n g w → w.state ≡ new_notifier event → Obeys notifier_machine g w rs
    → let now = ended notifier_machine g w rs in
    r ≡ notifier_machine.request now.state → r.kind ≡ send_kind
    → (r.arg0 ≡ now.state.clock) × (r.arg2 ≡ size) × (bytes_in g 0 size now.areas ≡ request_bytes Tick)
