-- What holds of a task that serves, whatever its service, in any run of a kernel. Each is a statement; proofs/Laws.antt proves it under the
-- same name in small letters, of every service that fits.
use Rattle.std.specs.Prelude.{ℕ, ◌+◌, ◌≤◌, ◌<◌, min, ◌≡◌, ◌⊎◌, Bool, true, false, length, get_or, take}
use mathlib.Core.List.{List, [], ◌∷◌, ◌++◌, flatten}
use Rattle.queue.specs.Choose.{choose}
use Rattle.tid.specs.Sizes.{area_bytes}
use Rattle.tid.specs.Tid.{slot_named}
use Rattle.task.specs.declared.task.Buffer.{Buffer}
use Rattle.task.specs.declared.task.Outcome.TheVariants.{Nothing, Value}
use Rattle.task.specs.declared.task.State.TheVariants.{Active, Ready, ReplyBlocked}
use Rattle.kernel.specs.declared.table.Request.{Request}
use Rattle.kernel.specs.Numbers.{reply_kind}
use Rattle.kernel.specs.Table.{task_at, used_slots}
use Rattle.step.specs.Run as Run
use Rattle.laws.specs.View.{Steps, Gets, NoReplyTo}
use Rattle.server.specs.declared.phase.Phase.{Phase}
use Rattle.server.specs.declared.phase.Phase.TheVariants.{Making, Made, Writing, Replying, Listening}
use Rattle.server.specs.Service.{Machine, Service, Serving, request, serving}
use Rattle.served.specs.World.{World, bytes_in, areas_after, decided, asks_now, advanced, ended, Obeys}
use Rattle.served.specs.Letters.{letters_to, read, unread, replies, unsent, answers, mind_after}

-- a service whose message and answer fit its area, whose answers have their size and are bytes, and that reads of its area the message alone
pub record Fits {M : Type 0} (sv : Service M) : Type 0 where
  pub some : 1 ≤ sv.size
  pub room : sv.size + sv.size ≤ area_bytes
  pub sized : (m : M) (from v : ℕ) (area : List ℕ) → length (sv.hear m from v area).answer ≡ sv.size
  pub bytes : (m : M) (from v : ℕ) (area : List ℕ) (k : ℕ) → get_or (sv.hear m from v area).answer k 0 < 256
  pub front : (m : M) (from v : ℕ) (area : List ℕ) → sv.hear m from v area ≡ sv.hear m from v (take (min v sv.size) area)

-- whether the task that a server makes is still to be made, or to be named
abbrev pub is_opening : Phase → Bool
is_opening Making = true
is_opening Made = true
is_opening (Writing k) = false
is_opening (Replying k) = false
is_opening Listening = false

-- the task with tid g has not run yet: it was made, and is ready or active with nothing to be told. It begins by making a task, or by a Receive
pub record Begins {M : Type 0} (sv : Service M) (n g : ℕ) (w : World (Serving M)) : Type 0 where
  pub steps : Steps n w.table w.areas
  pub least : 1 ≤ g
  pub used : slot_named g < used_slots w.table
  pub waits : ((task_at w.table (slot_named g)).state ≡ Ready) ⊎ ((task_at w.table (slot_named g)).state ≡ Active)
  pub nothing : (task_at w.table (slot_named g)).result ≡ Nothing
  pub first : (w.state.phase ≡ Making) ⊎ ((w.state.phase ≡ Replying 0) × (w.state.to ≡ []))

-- A world is a run: its table and its areas are those that the kernel's run of the same requests ends with.
abbrev pub AWorldIsARun : {S : Type 0} → Machine S → Type 0
AWorldIsARun {S} m =
    (g : ℕ) (w : World S) (rs : List Request) → let u = Run.run w.table w.areas rs in
    ((ended m g w rs).table ≡ Run.table_after w.table u) × ((ended m g w rs).areas ≡ Run.areas_after w.areas u)

module _ {M : Type 0} (sv : Service M) where
  -- what the service keeps as it first listens: once the task that it makes is named
  unfoldable pub first_mind : ℕ → World (Serving M) → List Request → M
  first_mind g w [] = w.state.mind
  first_mind g w (r ∷ rs) = choose (is_opening w.state.phase) (first_mind g (advanced (serving sv) g w r) rs) w.state.mind

  -- P holds at the end of any run in which the server's task, from its beginning, asks what its machine says
  abbrev pub AlwaysServed : (ℕ → World (Serving M) → List Request → Type 0) → Type 0
  AlwaysServed P =
      (n g : ℕ) (w : World (Serving M)) (rs : List Request) → Begins sv n g w → Obeys (serving sv) g w rs → P g w rs

  -- What the kernel brings is what the server reads: every letter, in order, with its sender and its bytes, but for one that has come and waits
  -- for the server's turn.
  -- Ruled out: a message lost or read twice, one that is overwritten by the next, one that is taken for another sender's.
  abbrev pub LettersAreRead : Type 0
  LettersAreRead =
      AlwaysServed (λ g w rs. letters_to g w.areas (Run.run w.table w.areas rs) ≡ read sv g w rs ++ unread sv g (ended (serving sv) g w rs))

  -- Its Replies, whom they go to and the bytes that they bring, are its service's answers to those letters, in order; those that it has not
  -- sent yet are the last, and there are none while it listens.
  -- Ruled out: a server that replies before the bytes are written, and one that is led astray by an interrupt between two requests.
  abbrev pub RepliesAreAnswers : Type 0
  RepliesAreAnswers =
      AlwaysServed (λ g w rs. replies sv g w rs ++ unsent (ended (serving sv) g w rs).state ≡ flatten (answers sv (first_mind g w rs) (read sv g w rs)))

  -- And it keeps what those letters leave.
  abbrev pub MindIsKept : Type 0
  MindIsKept = AlwaysServed (λ g w rs. (ended (serving sv) g w rs).state.mind ≡ mind_after sv (first_mind g w rs) (read sv g w rs))

  -- A Reply of the server reaches the one who waits for it, with room for the answer: since the run `rs` it waits, and no Reply named it in the
  -- run `rs'` after that. It gets the answer's length as a value, and the answer's bytes stand in its buffer.
  -- Ruled out: an answer to one who has given up waiting, a Reply that is refused, and one that brings what was said before.
  abbrev pub AnswerReaches : Type 0
  AnswerReaches =
      (n g : ℕ) (w : World (Serving M)) (rs rs' : List Request) (r : Request) (b : Buffer) → Begins sv n g w → Obeys (serving sv) g w rs
      → let asleep = ended (serving sv) g w rs in
      let now = ended (serving sv) g asleep rs' in
      let x = slot_named r.arg0 in
      Obeys (serving sv) g asleep rs'
      → 1 ≤ r.arg0 → (task_at asleep.table x).state ≡ ReplyBlocked b → sv.size ≤ b.len → NoReplyTo r.arg0 (Run.run asleep.table asleep.areas rs')
      → asks_now g now r ≡ true → r ≡ request sv now.state → r.kind ≡ reply_kind
      → Gets x (Value 0 false sv.size) (decided now r) × (bytes_in r.arg0 b.start sv.size (areas_after now r) ≡ now.state.answer)
