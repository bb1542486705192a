-- What the parts of an entry in place promise: a kind leaves a turn, and the end of every entry makes a decision of it.
use Rattle.std.specs.Prelude.{ℕ, ◌*◌, ◌≤◌, ◌<◌, ◌≡◌, true, ◌&&◌, List, length, get_or, ltb, leb}
use Rattle.queue.specs.Choose.{choose}
use Rattle.tid.specs.Sizes.{priorities}
use Rattle.tid.specs.Tid.{tid_of, slot_named}
use Rattle.task.specs.declared.task.Buffer.{Buffer}
use Rattle.task.specs.declared.task.Outcome.{Outcome}
use Rattle.task.specs.declared.task.Outcome.TheVariants.{Nothing, Value}
use Rattle.task.specs.declared.task.State.{State}
use Rattle.task.specs.declared.task.State.TheVariants.{Ready, ReplyBlocked}
use Rattle.task.specs.Task.{state_code, is_ready}
use Rattle.kernel.specs.declared.table.Turn as Kernel
use Rattle.kernel.specs.declared.table.Effect.TheVariants.{Keep}
use Rattle.kernel.specs.declared.table.Answer.{Answer}
use Rattle.kernel.specs.declared.table.Decision.{Decision}
use Rattle.kernel.specs.Table.{task_at}
use Rattle.kernel.specs.Moves.{woken_row, rejoined}
use Rattle.kernel.specs.Kinds.{delivery, is_cut}
use Rattle.rules.specs.Facts.{nobody}
use Rattle.image.specs.Record.{record_length, at_state, at_priority, at_awaited, byte_at}
use Rattle.image.specs.Image.{image_of, table_of}
use Rattle.records.specs.Records.{up_at, closed_up, leads_at, head_of}
use Rattle.records.specs.Stage.{Counted, Stage, left_bytes, joined_bytes, joined_count}
use Rattle.records.specs.Woken.{woken_in}
use Rattle.inplace.specs.declared.turn.Turn.{Turn}
use Rattle.inplace.specs.declared.Shown.{Shown}

-- one slot moves up, and is answered where it leads
pub record Up (code at key s head : ℕ) (before : List ℕ) (r : ℕ) (after : List ℕ) : Type 0 where
  pub image : after ≡ up_at code at key before s
  pub found : r ≡ choose (leads_at code at key before s) s head

-- a queue is closed up, and its head answered
pub record Closes (code at key none used : ℕ) (before : List ℕ) (r : ℕ) (after : List ℕ) : Type 0 where
  pub image : after ≡ closed_up code at key before used
  pub head : r ≡ head_of code at key none before used

-- the slot of a tid that names a task that exists; n where none does
unfoldable pub alive_at : ℕ → List ℕ → ℕ → ℕ
alive_at n b g =
    let code = byte_at b (slot_named g) at_state in
    choose (ltb 0 g && leb g n && (ltb 0 code && ltb code 7)) (slot_named g) n

-- a slot may join the tail of its queue: there is such a queue, and the number of those who stand there is a byte that can grow
pub record Joinable (b count : List ℕ) (s : ℕ) : Type 0 where
  pub priority : byte_at b s at_priority < priorities
  pub room : get_or count (byte_at b s at_priority) 0 < 255

-- what waking the first m of a queue needs: whoever leaves it is a slot that may join its own
pub record Wakes (n used code key m : ℕ) (o : Outcome) (b count : List ℕ) : Type 0 where
  pub fits : used ≤ n
  pub size : length b ≡ n * record_length
  pub joins : (i : ℕ) → i < m → let h = woken_in n used code key o b count i in
      let s = head_of code at_awaited key n h.bytes used in
      (s < n) × Joinable (closed_up code at_awaited key h.bytes used) h.counts s

-- what an entry begins with: the image of a table that keeps the rules, and how many stand in each of its queues
pub record Begins (n ed used a : ℕ) (b count : List ℕ) : Type 0 where
  pub stage : Stage n used a nobody (table_of n ed b) b count
  pub near : a ≤ n
  pub runs : a < n → state_code (task_at (table_of n ed b) a).state ≡ 1
  pub counted : Counted n (table_of n ed b) count

-- The bytes and the counts once whoever was woken has joined its queue, and then the caller.

abbrev pub woken_bytes : ℕ → List ℕ → List ℕ → Turn → List ℕ
woken_bytes n b count r = choose (ltb r.woken n) (joined_bytes b count r.woken r.told) b

abbrev pub woken_count : ℕ → List ℕ → List ℕ → Turn → List ℕ
woken_count n b count r = choose (ltb r.woken n) (joined_count b count r.woken) count

abbrev pub caller_bytes : ℕ → List ℕ → List ℕ → ℕ → Turn → List ℕ
caller_bytes n b count c r =
    choose (ltb c n)
    (choose (is_ready r.state) (joined_bytes b count c r.result) (left_bytes b c r.state Nothing r.place))
    b

abbrev pub caller_count : ℕ → List ℕ → List ℕ → ℕ → Turn → List ℕ
caller_count n b count c r = choose (ltb c n) (choose (is_ready r.state) (joined_count b count c) count) count

unfoldable pub end_bytes : ℕ → List ℕ → List ℕ → ℕ → Turn → List ℕ
end_bytes n b count c r = caller_bytes n (woken_bytes n b count r) (woken_count n b count r) c r

unfoldable pub end_count : ℕ → List ℕ → List ℕ → ℕ → Turn → List ℕ
end_count n b count c r = caller_count n (woken_bytes n b count r) (woken_count n b count r) c r

-- The turns where nobody is woken: the caller goes on with a result, or it stops, at a place of a queue or in none.

abbrev pub resumes_at : ℕ → ℕ → Outcome → Turn
resumes_at n used o =
    record { used = used; woken = n; told = Nothing; state = Ready; place = 0; result = o; effect = Keep }

abbrev pub stops_at : ℕ → ℕ → State → ℕ → Turn
stops_at n used st place =
    record { used = used; woken = n; told = Nothing; state = st; place = place; result = Nothing; effect = Keep }

-- the turn of a Send that delivers at once: slot s is told of the message, and the caller waits for a reply
abbrev pub delivers_at : ℕ → ℕ → Buffer → Buffer → ℕ → Buffer → Turn
delivers_at used c m r s into =
    let copy = delivery c m s into in
    record {
      used = used;
      woken = s;
      told = Value (tid_of c) (is_cut copy) m.len;
      state = ReplyBlocked r;
      place = 0;
      result = Nothing;
      effect = copy;
    }

-- what the end of an entry needs: then the bytes are those of a table where none is active
pub record Settles (n ed c : ℕ) (r : Turn) (b count : List ℕ) : Type 0 where
  pub size : length b ≡ n * record_length
  pub near : c ≤ n
  pub woken : r.woken < n → Joinable b count r.woken
  pub caller : c < n → is_ready r.state ≡ true → Joinable (woken_bytes n b count r) (woken_count n b count r) c
  pub stage : Stage n r.used n nobody (table_of n ed (end_bytes n b count c r)) (end_bytes n b count c r) (end_count n b count c r)

-- a turn in place that stands for a turn of the table: once it is settled, the bytes are those of the table that is dispatched
pub record Ends (n ed c : ℕ) (u : Kernel.Turn) (r : Turn) (b count : List ℕ) : Type 0 where
  pub settles : Settles n ed c r b count
  pub effect : r.effect ≡ u.effect
  pub table : table_of n ed (end_bytes n b count c r) ≡ rejoined (woken_row u.table u.woken u.told) c u.state u.result

-- what a decision shows, and the image of its table
pub record Decides (d : Decision) (answer : Answer) (b : List ℕ) : Type 0 where
  pub shown : answer ≡ d.answer
  pub image : b ≡ image_of d.table

-- the same with what is done to the areas
pub record Does (d : Decision) (r : Shown) (b : List ℕ) : Type 0 where
  pub shown : r.answer ≡ d.answer
  pub effect : r.effect ≡ d.effect
  pub image : b ≡ image_of d.table
