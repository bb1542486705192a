-- A service, and the task that serves it: a machine from what it is told, and from its own area, to what it asks next. The kernel is not named
-- here but by its requests and results.
use Rattle.std.specs.Prelude.{ℕ, Bool, List, [], length, get_or, eqb}
use Rattle.queue.specs.Choose.{choose}
use Rattle.task.specs.declared.task.Outcome.{Outcome}
use Rattle.task.specs.declared.task.Outcome.TheVariants.{Nothing, Value, Fault}
use Rattle.kernel.specs.declared.table.Request.{Request}
use Rattle.server.specs.declared.phase.Phase.{Phase}
use Rattle.server.specs.declared.phase.Phase.TheVariants.{Making, Made, Writing, Replying, Listening}
use Rattle.server.specs.Phase.{place, request_in, after}

-- A task as a machine over what it keeps: what it asks, what it keeps once it has asked, and what it keeps when it runs again, is told a
-- result and finds these bytes in its own area.
pub record Machine (S : Type 0) : Type 0 where
  pub request : S → Request
  pub asked : S → S
  pub told : S → Outcome → List ℕ → S

-- what a message comes to: what the service keeps from then on, the one answer, as bytes, and who gets it, in this order
pub record Heard (M : Type 0) : Type 0 where
  pub mind : M
  pub answer : List ℕ
  pub to : List ℕ

-- how many bytes a message has, and an answer; what is kept once the task that it makes was made, by what Create told; and what a message
-- comes to, by its sender, its length and the area that it stands at the front of
pub record Service (M : Type 0) : Type 0 where
  pub size : ℕ
  pub made : M → Outcome → M
  pub hear : M → ℕ → ℕ → List ℕ → Heard M

-- what the task of a service keeps: of which priority the task is that it makes; what the service keeps; the last answer, and to whom; its phase
pub record Serving (M : Type 0) : Type 0 where
  pub priority : ℕ
  pub mind : M
  pub answer : List ℕ
  pub to : List ℕ
  pub phase : Phase

module _ {M : Type 0} (sv : Service M) where
  -- nobody is answered yet, so that a Receive is asked
  abbrev pub opened : Serving M → Outcome → Serving M
  opened q o = record { priority = q.priority; mind = sv.made q.mind o; answer = q.answer; to = []; phase = Replying 0 }

  -- an answer to nobody is not written
  abbrev pub answering : ℕ → Heard M → Serving M
  answering priority h =
      record {
        priority = priority;
        mind = h.mind;
        answer = h.answer;
        to = h.to;
        phase = choose (eqb (length h.to) 0) (Replying 0) (Writing 0);
      }

  abbrev pub request : Serving M → Request
  request q =
      let k = place q.phase in
      request_in q.phase q.priority sv.size (length q.to) (get_or q.answer k 0) (get_or q.to k 0)

  abbrev pub asked : Serving M → Serving M
  asked q =
      record { priority = q.priority; mind = q.mind; answer = q.answer; to = q.to; phase = after q.phase sv.size (length q.to) }

  -- a value is a message while it listens, and names the task that was made where it waits for that; nothing else matters to it
  abbrev pub value_in : Phase → Serving M → ℕ → Bool → ℕ → List ℕ → Serving M
  value_in Making q from cut v area = q
  value_in Made q from cut v area = opened q (Value from cut v)
  value_in (Writing k) q from cut v area = q
  value_in (Replying k) q from cut v area = q
  value_in Listening q from cut v area = answering q.priority (sv.hear q.mind from v area)

  abbrev pub fault_in : Phase → Serving M → ℕ → Serving M
  fault_in Making q f = q
  fault_in Made q f = opened q (Fault f)
  fault_in (Writing k) q f = q
  fault_in (Replying k) q f = q
  fault_in Listening q f = q

  abbrev pub told : Serving M → Outcome → List ℕ → Serving M
  told q Nothing area = q
  told q (Value from cut v) area = value_in q.phase q from cut v area
  told q (Fault f) area = fault_in q.phase q f

  -- the task that serves
  abbrev pub serving : Machine (Serving M)
  serving = record { request = request; asked = asked; told = told }
