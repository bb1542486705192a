-- The server's task and its machine stay in step, whatever the others do.
use Prim.Native.Nat.{ℕ, ◌+◌, ◌*◌, ◌≤◌, ◌<◌}
use mathlib.Core.Path.{◌≡◌, refl, sym, ap, ◌∙◌}
use mathlib.Core.Logic.{◌≢◌, ⊎_elim}
use mathlib.Core.Bool.{true, true≢false}
use mathlib.Core.List.{List, [], ◌∷◌}
use native.Mathlib.Omega.{arith}
use lib.ListN.{length, get_or}
use lib.Dec.{ltb, eqb}
use borrow.Author.Tests.{eqb-true, eq-eqb, ne_eqb, ltb-true, lt-ltb}
use Rattle.queue.proofs.Below.{by_test, both_true}
use Rattle.tid.specs.Sizes.{area_bytes}
use Rattle.tid.specs.Tid.{slot_named}
use Rattle.task.specs.declared.task.Outcome.{Outcome}
use Rattle.task.specs.declared.task.Outcome.TheVariants.{Nothing, Value, Fault}
use Rattle.task.proofs.Tests.{chosen}
use Rattle.kernel.specs.declared.table.Table.{Table}
use Rattle.kernel.specs.declared.table.Request.{Request}
use Rattle.kernel.specs.declared.table.Effect.TheVariants.{Put}
use Rattle.kernel.specs.Numbers.{reply_kind, event_kind, own_write_kind}
use Rattle.kernel.specs.Table.{slots, task_at, active_slot, used_slots}
use Rattle.kernel.specs.Kinds.{place_in}
use Rattle.kernel.specs.Refusal.{refusal_of}
use Rattle.kernel.specs.Decide.{active_tid, own_write, decide_at, decide}
use Rattle.rules.specs.Facts.{Good}
use Rattle.kept.proofs.Tasks.{code_at}
use Rattle.kept.proofs.Moves.{slot_used}
use Rattle.step.specs.Step.{step}
use Rattle.step.proofs.Steps.{step_decides}
use Rattle.laws.specs.View.{Steps}
use Rattle.laws.proofs.Landing.{step_lands}
use Rattle.laws.proofs.Sees.{steps_good, steps_next}
use Rattle.server.specs.declared.phase.Phase.{Phase}
use Rattle.server.specs.declared.phase.Phase.TheVariants.{Making, Made, Writing, Replying, Listening}
use Rattle.server.specs.Phase.{place, ask, request_in, after}
use Rattle.server.specs.Service.{Service, Serving, opened, answering, request, value_in, fault_in, told, serving}
use Rattle.served.specs.World.{World, bytes_in, area_of, decided, areas_after, asks_now, runs_next, state_asked, advanced, ended, Obeys}
use Rattle.served.specs.Letters.{unsent}
use Rattle.served.specs.Laws.{Fits, Begins}
use Rattle.served.proofs.Stands.{busy, busy_goes, stand_code, Stands, works, rests, ready}
use Rattle.served.proofs.Moves.{slot_of_lem, step_moves, moves_stand}
use Rattle.served.proofs.Areas.{cell, request_ends, cell_kept, Written, written_kept, written_more, begun_whole}

-- the task with tid g serves: it stands where its machine's phase says, and what its machine has written of the answer stands in its area
pub record Serves {M : Type 0} (sv : Service M) (n g : ℕ) (w : World (Serving M)) : Type 0 where
  pub least : 1 ≤ g
  pub steps : Steps n w.table w.areas
  pub stands : Stands sv.size (task_at w.table (slot_named g)) w.state.phase
  pub written : Written w.state.phase sv.size w.state.answer (length w.state.to) w.areas (slot_named g)

-- while it replies its whole answer stands in its area
pub answer_stands : {M : Type 0} (sv : Service M) (fits : Fits sv) {n g : ℕ} (w : World (Serving M)) → Serves sv n g w
    → (k : ℕ) → w.state.phase ≡ Replying k → k < length w.state.to → bytes_in g sv.size sv.size w.areas ≡ w.state.answer
answer_stands sv fits {n} {g} w serves k e low =
    let size = sv.size in
    let s = slot_named g in
    let good = steps_good serves.steps in
    let used : s < used_slots w.table = slot_used good.rules (lt-ltb 0 (code_at w.table s) (stand_code serves.stands)) in
    let inside : place_in s size + size ≤ length w.areas = omega (arith, fits.room, serves.steps.size, good.rules.tasks.fits) in
    let old : Written (Replying k) size w.state.answer (length w.state.to) w.areas s = rw e at serves.written in
    begun_whole (old low) inside (omega arith)

-- what is told leaves a server as it is, or names the task that it made, or brings a message to one that listens
pub told_keeps : {M : Type 0} (sv : Service M) (P : Serving M → Type 0) (q : Serving M) (o : Outcome) (area : List ℕ) → P q
    → ((o : Outcome) → P (opened sv q o))
    → ((from v : ℕ) → q.phase ≡ Listening → P (answering sv q.priority (sv.hear q.mind from v area)))
    → P (told sv q o area)
told_keeps sv P q Nothing area old named new = old
told_keeps sv P q (Value from cut v) area old named new = go q.phase refl
  where
    go : (p : Phase) → q.phase ≡ p → P (value_in sv p q from cut v area)
    go Making e = old
    go Made e = named (Value from cut v)
    go (Writing k) e = old
    go (Replying k) e = old
    go Listening e = new from v e
told_keeps sv P q (Fault f) area old named new = go q.phase
  where
    go : (p : Phase) → P (fault_in sv p q f)
    go Making = old
    go Made = named (Fault f)
    go (Writing k) = old
    go (Replying k) = old
    go Listening = old

-- an own write of the active task is carried out
pub writes : {n : ℕ} {t : Table} (offset v len : ℕ) → Good n t → len ≡ n * area_bytes → active_slot t < slots t → offset < area_bytes → v < 256
    → (step t (ask own_write_kind offset v 0) len).effect ≡ Put (place_in (active_slot t) offset) v
unfolding decide decide_at refusal_of own_write
writes {n} {t} offset v len good size here low byte =
    rw (
      step_decides t (ask own_write_kind offset v 0) len good size,
      lt-ltb (active_slot t) (slots t) here,
      lt-ltb offset area_bytes low,
      lt-ltb v 256 byte,
    )

module _ {M : Type 0} (sv : Service M) (fits : Fits sv) {n g : ℕ} (w : World (Serving M)) (r : Request) (serves : Serves sv n g w)
    (obeys : asks_now g w r ≡ true → r ≡ request sv w.state) where
  abbrev t : Table
  t = w.table

  abbrev s : ℕ
  s = slot_named g

  abbrev q : Serving M
  q = w.state

  abbrev size : ℕ
  size = sv.size

  good : Good n t
  good = steps_good serves.steps

  asks_if : active_tid t ≡ g → r.kind ≢ event_kind → asks_now g w r ≡ true
  asks_if tid kind = rw (eq-eqb (active_tid t) g tid, ne_eqb r.kind event_kind kind)

  -- the bytes of the answer stay, but for an own write of the server's
  cells : (r.kind ≡ own_write_kind → active_tid t ≢ g) → (i : ℕ) → i < size → cell size (areas_after w r) s i ≡ cell size w.areas s i
  cells other i low =
      let k = place q.phase in
      cell_kept fits.room t r g serves.least serves.stands
      (λ tid kind. request_ends q.phase q.priority size (length q.to) (get_or q.answer k 0) (get_or q.to k 0) r
      (obeys (asks_if tid (λ ten. omega arith))) kind)
      (decided w r).effect w.areas i low (step_lands good r (length w.areas)) other

  abbrev W : Phase → Type 0
  W p = Written p size q.answer (length q.to) (areas_after w r) s

  asked_written : asks_now g w r ≡ true → (p : Phase) → q.phase ≡ p → W (after p size (length q.to))
  asked_written asks Making e = tt
  asked_written asks Made e = tt
  asked_written asks (Writing k) e =
      let v = get_or q.answer k 0 in
      let same : r ≡ ask own_write_kind (size + k) v 0 = rw e at (obeys asks) in
      let old : Written (Writing k) size q.answer (length q.to) w.areas s = rw e at serves.written in
      let tid = eqb-true (active_tid t) g (both_true _ _ asks).0 in
      let mine : (active_slot t < slots t) × (s ≡ active_slot t) = slot_of_lem t g serves.least tid in
      let effect : (decided w r).effect ≡ Put (place_in s (size + k)) v =
      ap (λ (q : Request). (step t q (length w.areas)).effect) same
      ∙ writes (size + k) v (length w.areas) good serves.steps.size mine.0 (omega (arith, fits.room, old.0)) (old.1.sized.small k)
      ∙ ap (λ (a : ℕ). Put (place_in a (size + k)) v) (sym mine.1) in
      rw effect (written_more k size q.answer (length q.to) w.areas s
      (omega (arith, fits.room, serves.steps.size, good.rules.size, mine.0, mine.1, old.0)) old)
  asked_written asks (Replying k) e =
      let same : r ≡ request_in (Replying k) q.priority size (length q.to) (get_or q.answer k 0) (get_or q.to k 0) = rw e at (obeys asks) in
      let old : Written (Replying k) size q.answer (length q.to) w.areas s = rw e at serves.written in
      by_test (ltb k (length q.to))
      (λ more.
      let kind : r.kind ≡ reply_kind = ap (λ (q : Request). q.kind) (rw more at same) in
      let kept = written_kept (Replying k) size q.answer (length q.to) w.areas (areas_after w r) s (cells (λ own. absurd (omega arith))) old in
      rw more (λ _. kept (ltb-true _ _ more)))
      (λ done. rw done tt)
  asked_written asks Listening e = tt

  abbrev Kept : Serving M → Type 0
  Kept q = Written q.phase size q.answer (length q.to) (areas_after w r) s

  asked_kept : Kept (state_asked (serving sv) g w r)
  asked_kept =
      by_test (asks_now g w r)
      (λ asks. rw asks (asked_written asks q.phase refl))
      (λ still. rw still (written_kept q.phase size q.answer (length q.to) w.areas (areas_after w r) s
      (cells (λ own tid. true≢false (sym (asks_if tid (λ ten. omega arith)) ∙ still)))
      serves.written))

  -- a new answer is to be written, unless it is for nobody
  new_kept : (priority from v : ℕ) (m : M) (area : List ℕ) → Kept (answering sv priority (sv.hear m from v area))
  new_kept priority from v m area =
      let h = sv.hear m from v area in
      chosen (λ (p : Phase). Written p size h.answer (length h.to) (areas_after w r) s) (eqb (length h.to) 0)
      (λ none more. absurd (omega (arith, eqb-true (length h.to) 0 none)))
      (λ _. (
        fits.some,
        record {
          sized = record { long = fits.sized m from v area; small = fits.bytes m from v area };
          each = λ i h. absurd (omega arith);
        },
      ))

  pub serves_on : Serves sv n g (advanced (serving sv) g w r)
  unfolding advanced
  serves_on =
      let q' = state_asked (serving sv) g w r in
      let o = (decided w r).answer.result in
      let area = area_of g (areas_after w r) in
      record {
        least = serves.least;
        steps = steps_next serves.steps r;
        stands = moves_stand sv serves.least w r (step_moves sv (omega (arith, fits.room)) serves.least w r serves.steps obeys serves.stands);
        written = chosen Kept (runs_next g w r)
            (λ _. told_keeps sv Kept q' o area asked_kept (λ _ more. absurd (omega arith)) (λ from v _. new_kept q'.priority from v q'.mind area))
            (λ _. asked_kept);
      }

module _ {M : Type 0} (sv : Service M) (fits : Fits sv) where
  -- it serves to the end of a run
  pub serves_ended : {n g : ℕ} (rs : List Request) (w : World (Serving M)) → Serves sv n g w → Obeys (serving sv) g w rs
      → Serves sv n g (ended (serving sv) g w rs)
  unfolding ended Obeys
  serves_ended [] w serves obeys = serves
  serves_ended (r ∷ rs) w serves obeys = serves_ended rs _ (serves_on sv fits w r serves obeys.0) obeys.1

  pub begins_serves : {n g : ℕ} {w : World (Serving M)} → Begins sv n g w → Serves sv n g w
  begins_serves {n} {g} {w} b =
      let x = task_at w.table (slot_named g) in
      let q = w.state in
      let is-busy : busy q.phase ≡ true = ⊎_elim (λ e. ap busy e) (λ e. ap busy e.0) b.first in
      record {
        least = b.least;
        steps = b.steps;
        stands = ⊎_elim (λ e. rests (ready e (busy_goes q.phase x.result is-busy))) (λ e. works e is-busy) b.waits;
        written = ⊎_elim (λ e. rw e tt) (λ e. rw (e.0, e.1) (λ more. absurd (omega arith))) b.first;
      }

-- nothing is to be sent as it begins
pub begins_unsent : {M : Type 0} {sv : Service M} {n g : ℕ} {w : World (Serving M)} → Begins sv n g w → unsent w.state ≡ []
begins_unsent b = ⊎_elim (λ e. rw e) (λ e. rw (e.0, e.1)) b.first
