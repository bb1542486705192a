-- What the kernel brings is what the server reads, but for a letter that waits for its turn.
use Prim.Native.Nat.{ℕ, ◌≤◌, ◌<◌, min}
use mathlib.Core.Path.{◌≡◌, refl, sym, ap, ◌∙◌}
use mathlib.Core.Bool.{true}
use mathlib.Core.List.{List, [], ◌∷◌, ◌++◌, append-nil, append_assoc}
use native.Mathlib.Omega.{arith}
use lib.ListN.{take, drop}
use lib.Seq.{take-take}
use borrow.Author.Tests.{eq-eqb, ne_eqb, lt-ltb}
use Rattle.queue.specs.Choose.{choose}
use Rattle.tid.specs.Sizes.{area_bytes}
use Rattle.tid.specs.Tid.{tid_of, slot_named}
use Rattle.tid.proofs.Trips.{slot_of_mark, tid_named}
use Rattle.task.specs.declared.task.Outcome.TheVariants.{Nothing}
use Rattle.task.specs.declared.task.Task.{Task}
use Rattle.task.specs.Task.{state_code, is_ready, message_of}
use Rattle.kernel.specs.declared.table.Table.{Table}
use Rattle.kernel.specs.declared.table.Request.{Request}
use Rattle.kernel.specs.Kinds.{place_in}
use Rattle.kernel.specs.Table.{slots, task_at, active_slot}
use Rattle.kernel.specs.Decide.{active_tid, buffer}
use Rattle.kernel.proofs.Refusals.{fine}
use Rattle.kept.proofs.Moves.{slot_used}
use Rattle.step.specs.Run as Run
use Rattle.laws.specs.View.{is_entry, left, Ends, runs, waits, Steps, bytes_at}
use Rattle.kept.proofs.Choices.{choose_same}
use Rattle.laws.proofs.Concerns.{sent_facts}
use Rattle.laws.proofs.Sees as Sees
use Rattle.laws.proofs.Sees.{not_caller, steps_good}
use Rattle.laws.proofs.Laws.{send_reaches, receive_reaches, result_is_kept}
use Rattle.server.specs.declared.phase.Phase.{Phase}
use Rattle.server.specs.declared.phase.Phase.TheVariants.{Making, Made, Writing, Replying, Listening}
use Rattle.server.specs.Service.{Service, Serving, serving}
use Rattle.served.specs.World.{World, bytes_in, area_of, decided, areas_after, state_asked, advanced, ended, Obeys}
use Rattle.served.specs.Letters.{Letter, letter_in, letters_to, read_in, read_now, read, unread}
use Rattle.served.specs.Laws.{Fits, Begins, LettersAreRead}
use Rattle.served.proofs.Stands.{Waits, ready, listening}
use Rattle.served.proofs.Meets.{Meets, turns, takes, listens, hears, aside}
use Rattle.served.proofs.Moves.{active_is, Moves, enters, stays, passes, step_moves}
use Rattle.served.proofs.Serves.{Serves, serves_on, begins_serves}
use Rattle.served.proofs.Brought.{stays_none, kind_none, unsent_none, queue_none, sent_one, received_one}

-- where nothing is told nothing is read
nothing_none : (p : Phase) (size : ℕ) (area : List ℕ) → read_in p size Nothing area ≡ []
nothing_none Making size area = refl
nothing_none Made size area = refl
nothing_none (Writing k) size area = refl
nothing_none (Replying k) size area = refl
nothing_none Listening size area = refl

-- the letter that waits for a task whose record is x
abbrev pending : ℕ → Task → Phase → List ℕ → List Letter
pending size x p area = choose (is_ready x.state) (read_in p size x.result area) []

module _ {M : Type 0} (sv : Service M) (room : sv.size ≤ area_bytes) {n g : ℕ} (least : 1 ≤ g) (w : World (Serving M)) (r : Request)
    (steps : Steps n w.table w.areas) where
  abbrev t : Table
  t = w.table

  abbrev s : ℕ
  s = slot_named g

  abbrev size : ℕ
  size = sv.size

  abbrev p : Phase
  p = w.state.phase

  abbrev p' : Phase
  p' = (state_asked (serving sv) g w r).phase

  abbrev ys : List ℕ
  ys = areas_after w r

  abbrev brought : List Letter
  brought = letter_in g w.areas (record { before = t; request = r; decision = decided w r; areas = ys })

  -- what an entry leaves to be read is read now, or waits
  left_read : {x : Task} → Ends s x (decided w r) → read_now sv g w r ++ unread sv g (advanced (serving sv) g w r) ≡ pending size x p' (area_of g ys)
  unfolding advanced
  left_read {x} (runs now next result task) =
      rw (eq-eqb _ g (next ∙ tid_named g least), task, result, now) (append-nil (read_in p' size x.result (area_of g ys)))
  left_read (waits next task) = rw (ne_eqb _ g (λ e. next (e ∙ sym (tid_named g least))), task)

  -- a letter that waits is kept
  waits_kept : Waits size (task_at t s) p → pending size (task_at t s) p (area_of g ys) ≡ pending size (task_at t s) p (area_of g w.areas)
  waits_kept (ready e b) = ap (pending size (task_at t s) p) (result_is_kept n t r w.areas s steps e).1
  waits_kept (listening e l) = rw e

  -- the front of the area is where messages are received
  front : (m : ℕ) → m ≤ area_bytes → take m (area_of g ys) ≡ bytes_in g 0 m ys
  front m low = take-take m area_bytes (drop (place_in s 0) ys) low

  meets_read : is_entry t r ≡ true → Meets size t r s p p' → unread sv g w ++ brought ≡ pending size (left t r s) p' (area_of g ys)
  meets_read entry (turns active six seven l idle) =
      rw (active, kind_none steps least r entry six seven, l size (left t r s).result (area_of g ys)) (sym (choose_same (is_ready (left t r s).state) []))
  meets_read entry (takes h active same i l e o) =
      let (mine, tid) = active_is (steps_good steps) g least active in
      let m = message_of (task_at t h).state in
      let k = min m.len r.arg1 in
      let there : bytes_in (tid_of h) m.start k w.areas ≡ bytes_at h m.start k w.areas = rw slot_of_mark in
      let here : bytes_at (active_slot t) r.arg0 k ys ≡ bytes_in g 0 (min m.len size) ys =
      rw (← mine, ap (λ (q : Request). q.arg0) same, ap (λ (q : Request). q.arg1) same) in
      let bytes : bytes_in (tid_of h) m.start k w.areas ≡ take (min m.len size) (area_of g ys) =
      there ∙ sym (receive_reaches n t r w.areas h steps entry i).bytes ∙ here ∙ sym (front (min m.len size) (omega arith)) in
      rw (active, received_one steps least r entry h tid i, e, o, l) (ap (λ b. record { from = tid_of h; length = m.len; bytes = b } ∷ []) bytes)
  meets_read entry (listens active same none l e) =
      let (mine, tid) = active_is (steps_good steps) g least active in
      rw (active, queue_none steps least r entry size same (rw mine at none), e)
  meets_read entry (hears blocked i l same e o) =
      let good = steps_good steps in
      let other = not_caller good s (slot_used good.rules (rw blocked)) (λ one. omega (arith, ap state_code blocked)) in
      let k = min r.arg2 size in
      let known = fine (slots t) (active_slot t) r (Sees.enters t r entry).0 in
      let runs : active_slot t < slots t = known.caller (λ ten. omega (arith, (sent_facts t r s i).kind)) in
      let there : bytes_in (active_tid t) r.arg1 k w.areas ≡ bytes_at (active_slot t) r.arg1 k w.areas =
      rw (lt-ltb (active_slot t) (slots t) runs, slot_of_mark) in
      let bytes : bytes_in (active_tid t) r.arg1 k w.areas ≡ take k (area_of g ys) =
      there ∙ sym (send_reaches n t r w.areas s (buffer 0 size) steps entry i blocked).bytes ∙ sym (front k (omega arith)) in
      rw (blocked, sent_one steps least r entry (buffer 0 size) other i blocked, e, o, same, l) (ap (λ b. record { from = active_tid t; length = r.arg2; bytes = b } ∷ []) bytes)
  meets_read entry (aside other idle unsent same e) =
      rw (unsent_none steps least r entry other unsent, e, same) (append-nil (unread sv g w) ∙ sym (waits_kept idle))

  -- one step: what waited and what is brought is what is read and what waits
  moves_read : Moves sv g w r → unread sv g w ++ brought ≡ read_now sv g w r ++ unread sv g (advanced (serving sv) g w r)
  unfolding advanced
  moves_read (enters entry meets ends) = meets_read entry meets ∙ sym (left_read ends)
  moves_read (stays none same tid active b) =
      rw (stays_none steps least r none, active, eq-eqb _ g (same.next ∙ tid), same.table, same.result, active, nothing_none p' size (area_of g ys))
  moves_read (passes none same tid idle after) =
      rw (stays_none steps least r none, ne_eqb _ g (λ e. tid (sym same.next ∙ e)), same.table, after)
      (append-nil (unread sv g w) ∙ sym (waits_kept idle))

module _ {M : Type 0} (sv : Service M) (fits : Fits sv) {n g : ℕ} where
  all_letters : (rs : List Request) (w : World (Serving M)) → Serves sv n g w → Obeys (serving sv) g w rs
      → unread sv g w ++ letters_to g w.areas (Run.run w.table w.areas rs) ≡ read sv g w rs ++ unread sv g (ended (serving sv) g w rs)
  unfolding letters_to Run.run read ended advanced Obeys
  all_letters [] w serves obeys = append-nil (unread sv g w)
  all_letters (r ∷ rs) w serves obeys =
      let w' = advanced (serving sv) g w r in
      let room : sv.size ≤ area_bytes = omega (arith, fits.room) in
      let one = moves_read sv room serves.least w r serves.steps (step_moves sv room serves.least w r serves.steps obeys.0 serves.stands) in
      let rest = all_letters rs w' (serves_on sv fits w r serves obeys.0) obeys.1 in
      let later = letters_to g w'.areas (Run.run w'.table w'.areas rs) in
      let now = read_now sv g w r in
      sym (append_assoc (unread sv g w) (brought sv room serves.least w r serves.steps) later)
      ∙ ap (λ l. l ++ later) one
      ∙ append_assoc now (unread sv g w') later
      ∙ ap (λ l. now ++ l) rest
      ∙ sym (append_assoc now (read sv g w' rs) (unread sv g (ended (serving sv) g w' rs)))

-- nothing waits as it begins
begins_unread : {M : Type 0} {sv : Service M} {n g : ℕ} {w : World (Serving M)} → Begins sv n g w → unread sv g w ≡ []
begins_unread {sv = sv} {g = g} {w = w} b =
    rw (b.nothing, nothing_none w.state.phase sv.size (area_of g w.areas)) (choose_same (is_ready (task_at w.table (slot_named g)).state) [])

pub letters_are_read_lem : {M : Type 0} (sv : Service M) → Fits sv → LettersAreRead sv
letters_are_read_lem sv fits n g w rs b obeys =
    let run = all_letters sv fits rs w (begins_serves sv fits b) obeys in
    rw (begins_unread b) at run
