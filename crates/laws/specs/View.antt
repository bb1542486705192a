-- A step as one task sees it: what a request makes of the task's record, whether the task runs next, and what it is then told. Each law is a
-- statement; proofs/Laws.antt proves it under the same name in small letters. They hold of every good table, and so along every run.
use Rattle.std.specs.Prelude.{ℕ, ◌*◌, ◌<◌, min, ◌≡◌, ◌≢◌, Bool, true, false, not, ◌&&◌, List, length, take, drop, ltb, eqb}
use Rattle.queue.specs.Choose.{choose}
use Rattle.queue.specs.Numbering.{send_queue}
use Rattle.queue.specs.Row.{place_at}
use Rattle.tid.specs.Sizes.{area_bytes}
use Rattle.tid.specs.Tid.{mark_of, tid_of}
use Rattle.task.specs.declared.task.Buffer.{Buffer}
use Rattle.task.specs.declared.task.Outcome.{Outcome}
use Rattle.task.specs.declared.task.Outcome.TheVariants.{Nothing, Value, Fault}
use Rattle.task.specs.declared.task.State.TheVariants.{Active, Ready, SendBlocked, ReplyBlocked}
use Rattle.task.specs.declared.task.Task.{Task}
use Rattle.task.specs.Task.{first_negative, good_buffer, message_of, reply_of, awaited, is_send_blocked, is_receive_blocked, is_reply_blocked, is_event_blocked, task_as}
use Rattle.kernel.specs.declared.table.Table.{Table}
use Rattle.kernel.specs.declared.table.Request.{Request}
use Rattle.kernel.specs.declared.table.Decision.{Decision}
use Rattle.kernel.specs.Numbers.{accepted, exit_kind, send_kind, receive_kind, reply_kind, event_kind, own_write_kind}
use Rattle.kernel.specs.Table.{slots, task_at, queue_at, active_slot, used_slots}
use Rattle.kernel.specs.Kinds.{place_in, signal}
use Rattle.kernel.specs.Refusal.{refusal_of}
use Rattle.kernel.specs.Decide.{active_tid, buffer, turn_of}
use Rattle.kernel.specs.Shape.{Shaped}
use Rattle.rules.specs.Good.{good_table}
use Rattle.step.specs.Step.{step, after}
use Rattle.step.specs.Run.{Done, run, table_after}
use Rattle.step.specs.Every.{Every}

-- whether a request is an entry: neither refused nor an own write
abbrev pub is_entry : Table → Request → Bool
is_entry t r = eqb (refusal_of (slots t) (active_slot t) r) accepted && not (eqb r.kind own_write_kind)

-- WHAT AN ENTRY MAKES OF THE RECORD OF SLOT s, before the next task is chosen.

-- a Send names it, while it waits for one
abbrev pub is_sent_to : Table → Request → ℕ → Bool
is_sent_to t r s =
    eqb r.kind send_kind && eqb r.arg0 (tid_of s) && is_send_blocked (task_at t s).state
    && good_buffer (buffer r.arg1 r.arg2) && good_buffer (buffer r.arg3 r.arg4)

-- a Receive takes its message: it stands first in the caller's send queue
abbrev pub is_received_from : Table → Request → ℕ → Bool
is_received_from t r s =
    let q = queue_at t (send_queue (active_slot t)) in
    eqb r.kind receive_kind && good_buffer (buffer r.arg0 r.arg1) && ltb 0 q.len && eqb (place_at q 0) (mark_of s)

-- a Reply names it, while it waits for one
abbrev pub is_replied_to : Table → Request → ℕ → Bool
is_replied_to t r s =
    eqb r.kind reply_kind && eqb r.arg0 (tid_of s) && is_reply_blocked (task_at t s).state && good_buffer (buffer r.arg1 r.arg2)

-- whether it waits for an event
abbrev pub waits_for : Table → ℕ → ℕ → Bool
waits_for t e s = is_event_blocked (task_at t s).state && eqb (awaited (task_at t s).state) e

-- its event happens
abbrev pub is_signalled : Table → Request → ℕ → Bool
is_signalled t r s = eqb r.kind event_kind && waits_for t r.arg0 s

-- whether it sends to a tid, and its message is not yet received
abbrev pub waits_at : Table → ℕ → ℕ → Bool
waits_at t g s = is_receive_blocked (task_at t s).state && eqb (awaited (task_at t s).state) g

-- the task that it sends to exits
abbrev pub is_turned_away : Table → Request → ℕ → Bool
is_turned_away t r s = eqb r.kind exit_kind && waits_at t (active_tid t) s

-- of another task than the caller: it is woken with what it waited for, whole or cut, or its message is received and it waits for the reply, or its
-- message will not be received any more, or it is not concerned
unfoldable pub others_left : Table → Request → ℕ → Task
others_left t r s =
    let x = task_at t s in
    choose (is_sent_to t r s) (task_as Ready (Value (active_tid t) (ltb (message_of x.state).len r.arg2) r.arg2) x)
    (choose (is_received_from t r s) (task_as (ReplyBlocked (reply_of x.state)) Nothing x)
    (choose (is_replied_to t r s) (task_as Ready (Value 0 (ltb (reply_of x.state).len r.arg2) r.arg2) x)
    (choose (is_signalled t r s) (task_as Ready (signal r.arg1) x)
    (choose (is_turned_away t r s) (task_as Ready (Fault 2) x)
    x))))

-- the caller, or the one who is interrupted, is left as its turn says
unfoldable pub left : Table → Request → ℕ → Task
left t r s =
    let u = turn_of t s r in
    choose (eqb s (active_slot t)) (task_as u.state u.result (task_at t s)) (others_left t r s)

-- HOW A STEP ENDS FOR A TASK whose record was left as x: it was ready, runs next and is told its result; or it does not run.
pub data Ends (s : ℕ) (x : Task) (d : Decision) : Type 0 where
  runs : x.state ≡ Ready → d.answer.next ≡ tid_of s → d.answer.result ≡ x.result → task_at d.table s ≡ task_as Active Nothing x → Ends s x d
  waits : d.answer.next ≢ tid_of s → task_at d.table s ≡ x → Ends s x d

-- what a step that is no entry does: nothing, and it shows who is active
pub record Stays (t : Table) (d : Decision) : Type 0 where
  pub table : d.table ≡ t
  pub next : d.answer.next ≡ active_tid t
  pub result : d.answer.result ≡ Nothing

-- a step of a good table of n slots, with areas of the right size
pub record Steps (n : ℕ) (t : Table) (xs : List ℕ) : Type 0 where
  pub small : n < first_negative
  pub shaped : Shaped n t
  pub good : good_table t ≡ true
  pub size : length xs ≡ n * area_bytes

-- Every used task sees every step so.
-- Ruled out: a kernel that wakes a task for somebody else's message, that loses a result between its delivery and the task's next turn, or
-- that runs a task which still waits.
abbrev pub OneTaskSees : Type 0
OneTaskSees =
    (n : ℕ) (t : Table) (r : Request) (xs : List ℕ) (s : ℕ) → Steps n t xs → s < used_slots t → let d = step t r (length xs) in
    (is_entry t r ≡ true → Ends s (left t r s) d) × (is_entry t r ≡ false → Stays t d)

-- n bytes of the area of a slot, from an offset on
abbrev pub bytes_at : ℕ → ℕ → ℕ → List ℕ → List ℕ
bytes_at s offset n xs = take n (drop (place_in s offset) xs)

-- a task is ready and holds a result, or it runs next and is shown it
pub data Gets (s : ℕ) (o : Outcome) (d : Decision) : Type 0 where
  holds : (task_at d.table s).state ≡ Ready → (task_at d.table s).result ≡ o → Gets s o d
  shown : d.answer.next ≡ tid_of s → d.answer.result ≡ o → Gets s o d

-- what is delivered to a task by a step, from a giver's buffer to the task's: it gets the value, from whom, how long, and cut if its own buffer is
-- shorter; and the bytes stand there
pub record Reaches (giver : ℕ) (given : Buffer) (s : ℕ) (taken : Buffer) (from : ℕ) (xs : List ℕ) (d : Decision) : Type 0 where
  pub gets : Gets s (Value from (ltb taken.len given.len) given.len) d
  pub bytes : let n = min given.len taken.len in
      bytes_at s taken.start n (after d.effect xs) ≡ bytes_at giver given.start n xs

-- A Send reaches the task that waits for one. Ruled out: a delivery that tells another sender than the one whose bytes it brings.
abbrev pub SendReaches : Type 0
SendReaches =
    (n : ℕ) (t : Table) (r : Request) (xs : List ℕ) (s : ℕ) (b : Buffer) → Steps n t xs → is_entry t r ≡ true → is_sent_to t r s ≡ true
    → (task_at t s).state ≡ SendBlocked b
    → Reaches (active_slot t) (buffer r.arg1 r.arg2) s b (active_tid t) xs (step t r (length xs))

-- A Receive takes the message of whoever stands first in the caller's queue.
abbrev pub ReceiveReaches : Type 0
ReceiveReaches =
    (n : ℕ) (t : Table) (r : Request) (xs : List ℕ) (s : ℕ) → Steps n t xs → is_entry t r ≡ true → is_received_from t r s ≡ true
    → Reaches s (message_of (task_at t s).state) (active_slot t) (buffer r.arg0 r.arg1) (tid_of s) xs (step t r (length xs))

-- A Reply reaches the task that waits for one. Ruled out: a Reply that is told and not copied.
abbrev pub ReplyReaches : Type 0
ReplyReaches =
    (n : ℕ) (t : Table) (r : Request) (xs : List ℕ) (s : ℕ) (b : Buffer) → Steps n t xs → is_entry t r ≡ true → is_replied_to t r s ≡ true
    → (task_at t s).state ≡ ReplyBlocked b
    → Reaches (active_slot t) (buffer r.arg1 r.arg2) s b 0 xs (step t r (length xs))

-- What a task was told stays until it runs: while it is ready, no step changes its result or a byte of its area.
-- Ruled out: a second delivery over the first, before the task has read it.
abbrev pub ResultIsKept : Type 0
ResultIsKept =
    (n : ℕ) (t : Table) (r : Request) (xs : List ℕ) (s : ℕ) → Steps n t xs → (task_at t s).state ≡ Ready
    → let d = step t r (length xs) in
    Gets s (task_at t s).result d × (bytes_at s 0 area_bytes (after d.effect xs) ≡ bytes_at s 0 area_bytes xs)

-- no Reply of a run names a tid
abbrev pub NoReplyTo : ℕ → List Done → Type 0
NoReplyTo g u = Every (λ d. (d.request.kind ≡ reply_kind) → (d.request.arg0 ≡ g) → ⊥) u

-- Who waits for a reply waits until a Reply names it: along any run in which none does, its record stays as it is.
-- Ruled out: a sender that an event, an exit or another's Send lets go on with no answer.
abbrev pub StaysReplyBlocked : Type 0
StaysReplyBlocked =
    (n : ℕ) (t : Table) (xs : List ℕ) (rs : List Request) (s : ℕ) (b : Buffer) → Steps n t xs → (task_at t s).state ≡ ReplyBlocked b
    → let u = run t xs rs in NoReplyTo (tid_of s) u → task_at (table_after t u) s ≡ task_at t s
