-- Those who stand in a queue are woken, one after the other.
use Rattle.std.specs.Prelude.{ℕ, zero, suc, List}
use Rattle.task.specs.declared.task.Outcome.{Outcome}
use Rattle.image.specs.Record.{at_awaited}
use Rattle.records.specs.Records.{closed_up, head_of}
use Rattle.records.specs.Stage.{joined_bytes, joined_count}

-- an image, and how many stand in each of its queues
pub record Held : Type 0 where
  pub bytes : List ℕ
  pub counts : List ℕ

-- the head of a queue leaves it, and joins the ready queue of its priority; the queue is told by a state and by what is awaited there
abbrev pub head_woken : ℕ → ℕ → ℕ → ℕ → Outcome → Held → Held
head_woken n used code key o h =
    let b = closed_up code at_awaited key h.bytes used in
    let s = head_of code at_awaited key n h.bytes used in
    record { bytes = joined_bytes b h.counts s o; counts = joined_count b h.counts s }

-- the same as often as i says
unfoldable pub woken_in : ℕ → ℕ → ℕ → ℕ → Outcome → List ℕ → List ℕ → ℕ → Held
woken_in n used code key o b count zero = record { bytes = b; counts = count }
woken_in n used code key o b count (suc i) = head_woken n used code key o (woken_in n used code key o b count i)
