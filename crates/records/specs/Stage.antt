-- What the kernel in place knows between two moves of an entry: which table the bytes stand for, and how many stand in each queue.
use Rattle.std.specs.Prelude.{ℕ, ◌+◌, ◌≤◌, ◌<◌, ◌≡◌, Bool, List, length, get_or, set}
use Rattle.tid.specs.Sizes.{priorities}
use Rattle.queue.specs.Numbering.{ready_queue, queues_for}
use Rattle.task.specs.declared.task.Outcome.{Outcome}
use Rattle.task.specs.declared.task.State.{State}
use Rattle.task.specs.declared.task.State.TheVariants.{Ready}
use Rattle.task.specs.declared.task.Task.{Task}
use Rattle.kernel.specs.declared.table.Table.{Table}
use Rattle.kernel.specs.Table.{queue_at}
use Rattle.rules.specs.Facts.{Waking}
use Rattle.image.specs.Record.{at_priority, at_parent, fields, record_of, byte_at, entry_at}
use Rattle.records.specs.Records.{Records, with_record}

-- how many stand in each queue of a table of n slots
abbrev pub Counted : ℕ → Table → List ℕ → Type 0
Counted n t count = (k : ℕ) → k < queues_for n → get_or count k 0 ≡ (queue_at t k).len

-- the same of the ready queues
abbrev pub ReadyCounted : Table → List ℕ → Type 0
ReadyCounted t count = (p : ℕ) → p < priorities → get_or count (ready_queue p) 0 ≡ (queue_at t (ready_queue p)).len

-- the bytes are the records of a table that keeps the rules while some are being woken; a is its active slot, n where none is
pub record Stage (n used a : ℕ) (waking : ℕ → Bool) (t : Table) (b count : List ℕ) : Type 0 where
  pub rules : Waking n used a waking t
  pub records : Records n (record_of t) b
  pub counts : ReadyCounted t count
  pub long : priorities ≤ length count

-- the task that a record has, in another state
abbrev pub task_left : List ℕ → ℕ → State → Outcome → Task
task_left b s st o =
    record { state = st; priority = byte_at b s at_priority; parent = byte_at b s at_parent; entry = entry_at b s; result = o }

-- a record written anew, but for its priority, its parent and its entry number
abbrev pub left_bytes : List ℕ → ℕ → State → Outcome → ℕ → List ℕ
left_bytes b s st o place = with_record b s (fields (task_left b s st o) place)

-- a task becomes ready at the tail of the queue of its priority: its place is how many stand there
unfoldable pub joined_bytes : List ℕ → List ℕ → ℕ → Outcome → List ℕ
joined_bytes b count s o = left_bytes b s Ready o (get_or count (byte_at b s at_priority) 0)

-- and then they are one more
unfoldable pub joined_count : List ℕ → List ℕ → ℕ → List ℕ
joined_count b count s = let p = byte_at b s at_priority in set count p (get_or count p 0 + 1)
