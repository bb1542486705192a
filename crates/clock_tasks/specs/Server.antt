-- The clock as a task of the kernel: a server (crates/server) whose service is the clock, and which first makes its notifier.
use Rattle.std.specs.Prelude.{ℕ, min, List, [], ◌==◌, slice_index}
use Rattle.queue.specs.Choose.{choose}
use Rattle.task.specs.declared.task.Outcome.{Outcome}
use Rattle.task.specs.declared.task.Outcome.TheVariants.{Nothing, Value, Fault}
use Rattle.kernel.specs.declared.table.Request.{Request}
use Rattle.clock.specs.declared.row.Hearers.{Hearers}
use Rattle.clock.specs.declared.clock.Clock.{Clock}
use Rattle.clock.specs.declared.clock.Said.TheVariants.{Count}
use Rattle.clock.specs.Row.{hearers, answered_tids, hearers_of}
use Rattle.clock.specs.Clock.{new_clock, hear}
use Rattle.clock.specs.Message.{size, asked_in, answer_bytes}
use Rattle.server.specs.declared.phase.Phase.{Phase}
use Rattle.server.specs.declared.phase.Phase.TheVariants.{Making, Made, Writing, Replying, Listening}
use Rattle.server.specs.Phase.{place, request_in, after}
use Rattle.server.specs.Service.{Service, Serving}
use Rattle.clock_tasks.specs.declared.serving.Server.{Server}

-- how many are answered: no more than there are places for
abbrev pub answered : Hearers → ℕ
answered to = min to.len hearers

-- as it starts: it makes a notifier of a priority
abbrev pub new_server : ℕ → Server
new_server priority = record { priority = priority; clock = new_clock 0 0; said = Count 0; to = hearers_of []; phase = Making }

abbrev pub request : Server → Request
request s =
    let k = place s.phase in
    request_in s.phase s.priority size (answered s.to) (slice_index (answer_bytes s.said) k) (slice_index s.to.tids k)

abbrev pub asked : Server → Server
asked s =
    record { priority = s.priority; clock = s.clock; said = s.said; to = s.to; phase = after s.phase size (answered s.to) }

-- it knows its notifier's tid, 0 where none was made, and counts from 0
abbrev pub opened : Server → ℕ → Server
opened s notifier =
    record { priority = s.priority; clock = new_clock notifier 0; said = s.said; to = hearers_of []; phase = Replying 0 }

-- a message: an answer to nobody is not written
abbrev pub heard : Server → ℕ → ℕ → List ℕ → Server
heard s from length area =
    let h = hear s.clock from (asked_in length area) in
    record {
      priority = s.priority;
      clock = h.clock;
      said = h.said;
      to = h.to;
      phase = choose (h.to.len == 0) (Replying 0) (Writing 0);
    }

-- a value is a message only while it listens, and names the notifier only once that was asked for; nothing else that it is told matters
abbrev pub value_in : Phase → Server → ℕ → ℕ → List ℕ → Server
value_in Making s from v area = s
value_in Made s from v area = opened s v
value_in (Writing k) s from v area = s
value_in (Replying k) s from v area = s
value_in Listening s from v area = heard s from v area

abbrev pub fault_in : Phase → Server → Server
fault_in Making s = s
fault_in Made s = opened s 0
fault_in (Writing k) s = s
fault_in (Replying k) s = s
fault_in Listening s = s

abbrev pub told : Server → Outcome → List ℕ → Server
told s Nothing area = s
told s (Value from cut v) area = value_in s.phase s from v area
told s (Fault f) area = fault_in s.phase s

-- THE SAME AS A SERVICE, of which crates/served proves what holds of every one in a run of the kernel

-- the notifier's tid, by what Create told
abbrev pub made_tid : Outcome → ℕ
made_tid Nothing = 0
made_tid (Value from cut v) = v
made_tid (Fault f) = 0

abbrev pub clock_service : Service Clock
clock_service =
    record {
      size = size;
      made = λ c o. new_clock (made_tid o) 0;
      hear =
          λ c from v area. let h = hear c from (asked_in v area) in
          record { mind = h.clock; answer = answer_bytes h.said; to = answered_tids h.to };
    }

-- what the clock's task keeps, as the task of that service
abbrev pub as_serving : Server → Serving Clock
as_serving s =
    record { priority = s.priority; mind = s.clock; answer = answer_bytes s.said; to = answered_tids s.to; phase = s.phase }
