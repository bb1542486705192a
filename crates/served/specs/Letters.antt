-- The messages that the kernel brings to a task, those that its server reads, and what the server sends.
use Rattle.std.specs.Prelude.{ℕ, min, Bool, true, false, not, ◌&&◌, List, [], ◌∷◌, ◌++◌, map, take, drop, eqb}
use Rattle.queue.specs.Choose.{choose}
use Rattle.tid.specs.Tid.{slot_named}
use Rattle.task.specs.declared.task.Outcome.{Outcome}
use Rattle.task.specs.declared.task.Outcome.TheVariants.{Nothing, Value, Fault}
use Rattle.task.specs.Task.{is_ready}
use Rattle.kernel.specs.declared.table.Request.{Request}
use Rattle.kernel.specs.declared.table.Effect.{Effect}
use Rattle.kernel.specs.declared.table.Effect.TheVariants.{Keep, Copy, Put}
use Rattle.kernel.specs.Numbers.{reply_kind}
use Rattle.kernel.specs.Table.{task_at}
use Rattle.step.specs.Run.{Done}
use Rattle.laws.specs.Parties.{parties}
use Rattle.server.specs.declared.phase.Phase.{Phase}
use Rattle.server.specs.declared.phase.Phase.TheVariants.{Making, Made, Writing, Replying, Listening}
use Rattle.server.specs.Service.{Service, Serving, serving}
use Rattle.served.specs.World.{World, bytes_in, area_of, decided, areas_after, asks_now, runs_next, state_asked, advanced}

-- a message: from whom, how long it was sent, and the bytes of it that there was room for
pub record Letter : Type 0 where
  pub from : ℕ
  pub length : ℕ
  pub bytes : List ℕ

-- WHAT THE KERNEL BRINGS

abbrev pub copies : Effect → Bool
copies Keep = false
copies (Copy source dest n cut) = true
copies (Put at byte) = false

-- the letter that a step brings to tid g, out of areas xs: a delivery to g that is no reply
abbrev pub letter_in : ℕ → List ℕ → Done → List Letter
letter_in g xs d =
    let p = parties d.before d.request in
    choose (copies d.decision.effect && not (eqb d.request.kind reply_kind) && eqb p.taker g)
    (record {
      from = p.giver;
      length = p.given.len;
      bytes = bytes_in p.giver p.given.start (min p.given.len p.taken.len) xs;
    } ∷ [])
    []

-- the letters that a run from areas xs brings to tid g
unfoldable pub letters_to : ℕ → List ℕ → List Done → List Letter
letters_to g xs [] = []
letters_to g xs (d ∷ ds) = letter_in g xs d ++ letters_to g d.areas ds

-- WHAT THE SERVER READS

-- the letter that a value is to a server that listens: its bytes stand at the front of the area
abbrev pub letter_of : ℕ → Outcome → List ℕ → List Letter
letter_of size Nothing area = []
letter_of size (Value from cut v) area = record { from = from; length = v; bytes = take (min v size) area } ∷ []
letter_of size (Fault f) area = []

abbrev pub read_in : Phase → ℕ → Outcome → List ℕ → List Letter
read_in Making size o area = []
read_in Made size o area = []
read_in (Writing k) size o area = []
read_in (Replying k) size o area = []
read_in Listening size o area = letter_of size o area

module _ {M : Type 0} (sv : Service M) (g : ℕ) where
  -- the letter that a step has the server read
  abbrev pub read_now : World (Serving M) → Request → List Letter
  read_now w r =
      choose (runs_next g w r)
      (read_in (state_asked (serving sv) g w r).phase sv.size (decided w r).answer.result (area_of g (areas_after w r)))
      []

  unfoldable pub read : World (Serving M) → List Request → List Letter
  read w [] = []
  read w (r ∷ rs) = read_now w r ++ read (advanced (serving sv) g w r) rs

  -- the letter that was brought and is not read yet: it is kept until the task runs
  abbrev pub unread : World (Serving M) → List Letter
  unread w =
      let x = task_at w.table (slot_named g) in
      choose (is_ready x.state) (read_in w.state.phase sv.size x.result (area_of g w.areas)) []

-- WHAT IT SENDS

-- a Reply: to whom, and the bytes that stand in the replier's buffer
pub record Sent : Type 0 where
  pub to : ℕ
  pub bytes : List ℕ

module _ {M : Type 0} (sv : Service M) (g : ℕ) where
  abbrev pub reply_now : World (Serving M) → Request → List Sent
  reply_now w r =
      choose (asks_now g w r && eqb r.kind reply_kind)
      (record { to = r.arg0; bytes = bytes_in g r.arg1 r.arg2 w.areas } ∷ [])
      []

  -- the Replies that its task asks for, in order
  unfoldable pub replies : World (Serving M) → List Request → List Sent
  replies w [] = []
  replies w (r ∷ rs) = reply_now w r ++ replies (advanced (serving sv) g w r) rs

-- an answer to each of a row
abbrev pub sent_to : List ℕ → List ℕ → List Sent
sent_to answer to = map (λ x. record { to = x; bytes = answer }) to

-- what a server has yet to send
abbrev pub left_in : Phase → List Sent → List Sent
left_in Making all = []
left_in Made all = []
left_in (Writing k) all = all
left_in (Replying k) all = drop k all
left_in Listening all = []

abbrev pub unsent : {M : Type 0} → Serving M → List Sent
unsent q = left_in q.phase (sent_to q.answer q.to)

-- WHAT IT IS TO SEND: what its service makes of the letters, one after another

module _ {M : Type 0} (sv : Service M) where
  unfoldable pub answers : M → List Letter → List (List Sent)
  answers m [] = []
  answers m (l ∷ ls) =
      let h = sv.hear m l.from l.length l.bytes in
      sent_to h.answer h.to ∷ answers h.mind ls

  -- what the service keeps at the end of them
  unfoldable pub mind_after : M → List Letter → M
  mind_after m [] = m
  mind_after m (l ∷ ls) = mind_after (sv.hear m l.from l.length l.bytes).mind ls
