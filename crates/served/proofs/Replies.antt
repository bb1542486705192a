-- The server's Replies are its service's answers to the letters that it reads, and it keeps what those leave.
use Prim.Native.Nat.{ℕ, suc, ◌+◌, ◌≤◌, ◌<◌, min}
use mathlib.Core.Path.{◌≡◌, refl, sym, ap, ap₂, ◌∙◌}
use mathlib.Core.Bool.{true, false, true≢false}
use mathlib.Core.List.{List, [], ◌∷◌, ◌++◌, flatten, append-nil, append_assoc}
use native.Mathlib.Omega.{arith}
use native.Mathlib.Numerals.{add-one}
use lib.ListN.{length, get_or, take, drop, length-map, drop_of_length-le, get_or-map}
use lib.Seq.{drop-cons}
use lib.Dec.{ltb, eqb}
use borrow.Author.Tests.{ltb-true, ltb-false}
use Rattle.queue.specs.Choose.{choose}
use Rattle.queue.proofs.Below.{by_test}
use Rattle.task.specs.declared.task.Outcome.{Outcome}
use Rattle.task.specs.declared.task.Outcome.TheVariants.{Nothing, Value, Fault}
use Rattle.task.proofs.Tests.{chosen}
use Rattle.kernel.specs.declared.table.Request.{Request}
use Rattle.kernel.specs.Numbers.{create_kind, receive_kind, reply_kind, own_write_kind}
use Rattle.server.specs.declared.phase.Phase.{Phase}
use Rattle.server.specs.declared.phase.Phase.TheVariants.{Making, Made, Writing, Replying, Listening}
use Rattle.server.specs.Phase.{ask, request_in, after}
use Rattle.server.specs.Service.{Service, Serving, answering, request, told, serving}
use Rattle.served.specs.World.{World, bytes_in, area_of, decided, areas_after, asks_now, runs_next, state_asked, advanced, ended, Obeys}
use Rattle.served.specs.Letters.{Letter, read_in, read_now, read, Sent, reply_now, replies, sent_to, left_in, unsent, answers, mind_after}
use Rattle.served.specs.Laws.{Fits, is_opening, first_mind, RepliesAreAnswers, MindIsKept}
use Rattle.served.proofs.Opening.{opening_unsent, asked_opening, stays_past, reads_none, sends_none, has_none, past_mind}
use Rattle.served.proofs.Serves.{Serves, answer_stands, serves_on, begins_serves, begins_unsent}

-- WHAT A STEP BRINGS TO A SERVER that is past its opening: nothing, or a letter

data Told {M : Type 0} (sv : Service M) (q : Serving M) : Serving M → List Letter → Type 0 where
  none : Told sv q q []
  one : (l : Letter) → q.phase ≡ Listening
      → Told sv q (answering sv q.priority (sv.hear q.mind l.from l.length l.bytes)) (l ∷ [])

module _ {M : Type 0} (sv : Service M) (fits : Fits sv) where
  told_is : (q : Serving M) (o : Outcome) (area : List ℕ) → is_opening q.phase ≡ false
      → Told sv q (told sv q o area) (read_in q.phase sv.size o area)
  told_is q o area past = go o q.phase refl past
    where
      go : (o : Outcome) (p : Phase) → q.phase ≡ p → is_opening p ≡ false → Told sv q (told sv q o area) (read_in p sv.size o area)
      go o Making e past = absurd (true≢false past)
      go o Made e past = absurd (true≢false past)
      go Nothing (Writing k) e past = none
      go (Value from cut v) (Writing k) e past = rw e none
      go (Fault f) (Writing k) e past = rw e none
      go Nothing (Replying k) e past = none
      go (Value from cut v) (Replying k) e past = rw e none
      go (Fault f) (Replying k) e past = rw e none
      go Nothing Listening e past = none
      go (Fault f) Listening e past = rw e none
      go (Value from cut v) Listening e past =
          let l : Letter = record { from = from; length = v; bytes = take (min v sv.size) area } in
          rw (e, fits.front q.mind from v area) (one l refl)

-- of a letter, all answers are yet to be sent
told_unsent : {M : Type 0} {sv : Service M} {q q' : Serving M} {ls : List Letter} → Told sv q q' ls → (ms : List Letter)
    → unsent q' ++ flatten (answers sv q'.mind ms) ≡ unsent q ++ flatten (answers sv q.mind (ls ++ ms))
unfolding answers flatten
told_unsent none ms = refl
told_unsent {sv = sv} {q = q} (one l e) ms =
    let h = sv.hear q.mind l.from l.length l.bytes in
    let all = sent_to h.answer h.to in
    let whole : left_in (choose (eqb (length h.to) 0) (Replying 0) (Writing 0)) all ≡ all =
    chosen (λ (p : Phase). left_in p all ≡ all) (eqb (length h.to) 0) (λ _. refl) (λ _. refl) in
    rw (e, whole)

told_mind : {M : Type 0} {sv : Service M} {q q' : Serving M} {ls : List Letter} → Told sv q q' ls → (ms : List Letter)
    → mind_after sv q'.mind ms ≡ mind_after sv q.mind (ls ++ ms)
unfolding mind_after
told_mind none ms = refl
told_mind (one l e) ms = refl

module _ {M : Type 0} (sv : Service M) (fits : Fits sv) (g : ℕ) (w : World (Serving M)) (r : Request) where
  step_told : is_opening w.state.phase ≡ false
      → Told sv (state_asked (serving sv) g w r) (advanced (serving sv) g w r).state (read_now sv g w r)
  unfolding advanced
  step_told past =
      by_test (runs_next g w r)
      (λ runs. rw runs
      (told_is sv fits (state_asked (serving sv) g w r) (decided w r).answer.result (area_of g (areas_after w r)) (asked_opening sv g w r ∙ past)))
      (λ still. rw still none)

  -- what is asked changes nothing of what the service keeps
  asked_mind : (state_asked (serving sv) g w r).mind ≡ w.state.mind
  asked_mind = by_test (asks_now g w r) (λ asks. rw asks) (λ still. rw still)

  one_mind : is_opening w.state.phase ≡ false → (ms : List Letter)
      → mind_after sv (advanced (serving sv) g w r).state.mind ms ≡ mind_after sv w.state.mind (read_now sv g w r ++ ms)
  one_mind past ms = told_mind (step_told past) ms ∙ ap (λ m. mind_after sv m (read_now sv g w r ++ ms)) asked_mind

module _ {M : Type 0} (sv : Service M) (fits : Fits sv) {n g : ℕ} (w : World (Serving M)) (r : Request) (serves : Serves sv n g w)
    (obeys : asks_now g w r ≡ true → r ≡ request sv w.state) where
  abbrev srv : Serving M
  srv = w.state

  abbrev all : List Sent
  all = sent_to srv.answer srv.to

  abbrev len : ℕ
  len = length srv.to

  -- a Reply, as it is asked for, of the answer that stands in the area
  sends : (k : ℕ) → srv.phase ≡ Replying k → k < len → r ≡ ask reply_kind (get_or srv.to k 0) sv.size sv.size
      → ◌≡◌ {A = Sent} (record { to = r.arg0; bytes = bytes_in g r.arg1 r.arg2 w.areas })
      (record { to = get_or srv.to k 0; bytes = srv.answer })
  sends k e low same =
      let bytes = ap₂ (λ (off m : ℕ). bytes_in g off m w.areas) (ap (λ (q : Request). q.arg1) same) (ap (λ (q : Request). q.arg2) same)
      ∙ answer_stands sv fits w serves k e low in
      λ i. record { to = ap (λ (q : Request). q.arg0) same i; bytes = bytes i }

  asked_unsent : asks_now g w r ≡ true → (p : Phase) → srv.phase ≡ p
      → choose (eqb r.kind reply_kind) (record { to = r.arg0; bytes = bytes_in g r.arg1 r.arg2 w.areas } ∷ []) []
      ++ left_in (after p sv.size len) all
      ≡ left_in p all
  asked_unsent asks Making e = let kind : r.kind ≡ create_kind = ap (λ (q : Request). q.kind) (rw e at (obeys asks)) in rw kind
  asked_unsent asks Made e = let kind : r.kind ≡ receive_kind = ap (λ (q : Request). q.kind) (rw e at (obeys asks)) in rw kind
  asked_unsent asks (Writing k) e =
      let kind : r.kind ≡ own_write_kind = ap (λ (q : Request). q.kind) (rw e at (obeys asks)) in
      rw kind (by_test (ltb (k + 1) sv.size) (λ more. rw more) (λ last. rw last))
  asked_unsent asks (Replying k) e =
      let same : r ≡ request_in (Replying k) srv.priority sv.size len (get_or srv.answer k 0) (get_or srv.to k 0) = rw e at (obeys asks) in
      let many : length all ≡ len = simp length-map in
      by_test (ltb k len)
      (λ more.
      let here : r ≡ ask reply_kind (get_or srv.to k 0) sv.size sv.size = rw more at same in
      let low = ltb-true k len more in
      let kind : r.kind ≡ reply_kind = ap (λ (q : Request). q.kind) here in
      let nobody : Sent = record { to = 0; bytes = srv.answer } in
      let first : ◌≡◌ {A = Sent} (record { to = r.arg0; bytes = bytes_in g r.arg1 r.arg2 w.areas }) (get_or all k nobody) =
      sends k e low here ∙ sym (get_or-map (λ x. record { to = x; bytes = srv.answer }) srv.to k 0) in
      rw (kind, more, add-one k, drop-cons all k nobody (omega arith)) (ap (λ x. x ∷ drop (suc k) all) first))
      (λ done.
      let here = rw done at same in
      let past = ltb-false k len done in
      let kind : r.kind ≡ receive_kind = ap (λ (q : Request). q.kind) here in
      let rest : length all ≤ k = omega arith in
      rw (kind, done, drop_of_length-le all rest))
  asked_unsent asks Listening e = let kind : r.kind ≡ receive_kind = ap (λ (q : Request). q.kind) (rw e at (obeys asks)) in rw kind

  -- one step: what it sends, and what is left to be sent, is what was to be sent and what its letter brings
  one_step : is_opening srv.phase ≡ false → (ms : List Letter) → let q = (advanced (serving sv) g w r).state in
      reply_now sv g w r ++ (unsent q ++ flatten (answers sv q.mind ms))
      ≡ unsent srv ++ flatten (answers sv srv.mind (read_now sv g w r ++ ms))
  one_step past ms =
      let q = state_asked (serving sv) g w r in
      let heard = told_unsent (step_told sv fits g w r past) ms in
      let sent : reply_now sv g w r ++ unsent q ≡ unsent srv =
      by_test (asks_now g w r) (λ asks. rw asks (asked_unsent asks srv.phase refl)) (λ still. rw still) in
      let F = flatten (answers sv q.mind (read_now sv g w r ++ ms)) in
      ap (λ l. reply_now sv g w r ++ l) heard
      ∙ sym (append_assoc (reply_now sv g w r) (unsent q) F)
      ∙ ap (λ l. l ++ F) sent
      ∙ ap (λ m. unsent srv ++ flatten (answers sv m (read_now sv g w r ++ ms))) (asked_mind sv fits g w r)

-- A RUN

module _ {M : Type 0} (sv : Service M) (fits : Fits sv) {n g : ℕ} where
  all_steps : (rs : List Request) (w : World (Serving M)) → Serves sv n g w → Obeys (serving sv) g w rs
      → replies sv g w rs ++ unsent (ended (serving sv) g w rs).state
      ≡ unsent w.state ++ flatten (answers sv (first_mind sv g w rs) (read sv g w rs))
  unfolding replies ended read Obeys answers flatten first_mind
  all_steps [] w serves obeys = sym (append-nil (unsent w.state))
  all_steps (r ∷ rs) w serves obeys =
      let w' = advanced (serving sv) g w r in
      let rest = all_steps rs w' (serves_on sv fits w r serves obeys.0) obeys.1 in
      let front = append_assoc (reply_now sv g w r) (replies sv g w' rs) (unsent (ended (serving sv) g w' rs).state) ∙ ap (λ l. reply_now sv g w r ++ l) rest in
      by_test (is_opening w.state.phase)
      (λ yet.
      let none = opening_unsent sv w.state.phase (sent_to w.state.answer w.state.to) yet in
      front ∙ rw (sends_none sv g w r yet obeys.0, reads_none sv g w r yet, has_none sv g w r yet, none, yet))
      (λ past.
      let later = past_mind sv g w' rs (stays_past sv g w r past) in
      front ∙ rw (later, past) (one_step sv fits w r serves obeys.0 past (read sv g w' rs)))

all_minds : {M : Type 0} (sv : Service M) (fits : Fits sv) (g : ℕ) (rs : List Request) (w : World (Serving M))
    → (ended (serving sv) g w rs).state.mind ≡ mind_after sv (first_mind sv g w rs) (read sv g w rs)
unfolding ended read mind_after first_mind
all_minds sv fits g [] w = refl
all_minds sv fits g (r ∷ rs) w =
    let w' = advanced (serving sv) g w r in
    let rest = all_minds sv fits g rs w' in
    by_test (is_opening w.state.phase)
    (λ yet. rest ∙ rw (reads_none sv g w r yet, yet))
    (λ past. rest ∙ rw (past_mind sv g w' rs (stays_past sv g w r past), past) (one_mind sv fits g w r past (read sv g w' rs)))

pub replies_are_answers_lem : {M : Type 0} (sv : Service M) → Fits sv → RepliesAreAnswers sv
replies_are_answers_lem sv fits n g w rs b obeys =
    all_steps sv fits rs w (begins_serves sv fits b) obeys ∙ rw (begins_unsent b)

pub mind_is_kept_lem : {M : Type 0} (sv : Service M) → Fits sv → MindIsKept sv
mind_is_kept_lem sv fits n g w rs b obeys = all_minds sv fits g rs w
