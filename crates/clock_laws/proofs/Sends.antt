-- A task that writes a message by own writes and then sends it: what it has written stands in its area until the end of any run, whatever the
-- others do.
use Prim.Native.Nat.{ℕ, ◌+◌, ◌≤◌, ◌<◌}
use mathlib.Core.Path.{◌≡◌, refl, sym, ap, subst⁻¹, ◌∙◌}
use mathlib.Core.Logic.{◌≢◌, ⊎_elim}
use mathlib.Core.Bool.{true, true≢false}
use mathlib.Core.List.{List, [], ◌∷◌}
use native.Mathlib.Omega.{arith}
use native.Mathlib.Decide.{ℕ_discrete}
use lib.ListN.{length, get_or}
use lib.Dec.{eqb}
use borrow.Author.Tests.{eqb-true, eq-eqb, ne_eqb, lt-ltb}
use Rattle.queue.proofs.Below.{by_test, both_true}
use Rattle.tid.specs.Sizes.{area_bytes}
use Rattle.tid.specs.Tid.{slot_named}
use Rattle.tid.proofs.Trips.{tid_named}
use Rattle.task.specs.declared.task.Outcome.{Outcome}
use Rattle.task.specs.declared.task.Task.{Task}
use Rattle.task.proofs.Tests.{chosen}
use Rattle.kernel.specs.declared.table.Table.{Table}
use Rattle.kernel.specs.declared.table.Request.{Request}
use Rattle.kernel.specs.declared.table.Decision.{Decision}
use Rattle.kernel.specs.declared.table.Effect.TheVariants.{Put}
use Rattle.kernel.specs.Numbers.{send_kind, event_kind, own_write_kind}
use Rattle.kernel.specs.Table.{slots, task_at, active_slot, used_slots}
use Rattle.kernel.specs.Kinds.{place_in}
use Rattle.kernel.specs.Decide.{active_tid, turn_of}
use Rattle.rules.specs.Facts.{Good}
use Rattle.kept.proofs.Tasks.{code_at}
use Rattle.kept.proofs.Moves.{slot_used}
use Rattle.step.specs.Step.{step}
use Rattle.laws.specs.View.{is_entry, left, Ends, runs, waits, Steps}
use Rattle.laws.proofs.Landing.{step_lands}
use Rattle.laws.proofs.Laws.{one_task_sees}
use Rattle.laws.proofs.Sees.{left_own, left_other, steps_good, steps_next}
use Rattle.clock.specs.Message.{size}
use Rattle.server.specs.Phase.{ask}
use Rattle.server.specs.Service.{Machine}
use Rattle.served.specs.World.{World, bytes_in, area_of, decided, areas_after, asks_now, runs_next, state_asked, advanced, ended, Obeys}
use Rattle.served.proofs.Moves.{slot_of_lem}
use Rattle.served.proofs.Areas.{cell, cell_spared, Sized, Begun, begun_kept, begun_more, begun_whole}
use Rattle.served.proofs.Serves as Serves
use Rattle.clock_tasks.specs.Client.{sends}
use Rattle.clock_laws.specs.Laws.{Begins}
use Rattle.clock_laws.proofs.Lends.{Asks, own_kind, own_write_lem, send_whole, Lends, active_lends, ready_lends, own_lends, event_lends, others_lend, lent_none}

-- a machine that writes a message at an offset and then sends it to the one that `to` says; of what it keeps, Kept stays true, and `written`
-- says how many bytes of the message it has written
pub record Writes {S : Type 0} (m : Machine S) (to : S → ℕ) (offset : ℕ) (message : List ℕ) (Kept : S → Type 0) (written : S → ℕ) : Type 0 where
  pub room : offset + size + size ≤ area_bytes
  pub sized : Sized size message
  pub most : (s : S) → Kept s → written s ≤ size
  pub asks : (s : S) → Kept s → Asks (to s) offset message (written s) (m.request s) (written (m.asked s))
  pub asked : (s : S) → Kept s → Kept (m.asked s)
  pub told : (s : S) (o : Outcome) (area : List ℕ) → Kept s → Kept (m.told s o area) × (written (m.told s o area) ≤ written s)

-- its task lends nothing of the message, and what it has written stands in its area
pub record Holds {S : Type 0} (offset : ℕ) (message : List ℕ) (Kept : S → Type 0) (written : S → ℕ) (n g : ℕ) (w : World S) : Type 0 where
  pub least : 1 ≤ g
  pub steps : Steps n w.table w.areas
  pub kept : Kept w.state
  pub lends : Lends offset (task_at w.table (slot_named g)).state
  pub begun : Begun (written w.state) offset size message w.areas (slot_named g)

module _ {S : Type 0} {m : Machine S} {to : S → ℕ} {offset : ℕ} {message : List ℕ} {Kept : S → Type 0} {written : S → ℕ}
    (does : Writes m to offset message Kept written) {n g : ℕ} (w : World S) (r : Request)
    (old : Holds offset message Kept written n g w) (obeys : asks_now g w r ≡ true → r ≡ m.request w.state) where
  abbrev t : Table
  t = w.table

  abbrev s : ℕ
  s = slot_named g

  good : Good n t
  good = steps_good old.steps

  used : s < used_slots t
  used = slot_used good.rules (lt-ltb 0 (code_at t s) old.lends.used)

  -- what it asks, if it is the one that asks
  abbrev Own : Request → Type 0
  Own q = Asks (to w.state) offset message (written w.state) q (written (m.asked w.state))

  own : asks_now g w r ≡ true → Own r
  own asks = subst⁻¹ Own (obeys asks) (does.asks w.state old.kept)

  asks_if : active_tid t ≡ g → r.kind ≢ event_kind → asks_now g w r ≡ true
  asks_if tid kind = rw (eq-eqb (active_tid t) g tid, ne_eqb r.kind event_kind kind)

  active_tid_lem : s ≡ active_slot t → active_tid t ≡ g
  active_tid_lem mine =
      let here : active_slot t < slots t = omega (arith, used, good.rules.tasks.fits, good.rules.size) in
      rw (lt-ltb (active_slot t) (slots t) here, ← mine) (tid_named g old.least)

  left_lends : is_entry t r ≡ true → Lends offset (left t r s).state
  left_lends entry =
      elim (ℕ_discrete s (active_slot t)) [
        | yes mine ↦
            let turn : (left t r s).state ≡ (turn_of t s r).state = rw mine (ap (λ (x : Task). x.state) (left_own t r)) in
            rw turn
            (by_test (eqb r.kind event_kind)
            (λ event. event_lends t s r (eqb-true r.kind event_kind event))
            (λ other. own_lends t s (own (rw (eq-eqb (active_tid t) g (active_tid_lem mine), other))) entry))
        | no other ↦ rw (left_other t r s other) (others_lend t r s old.lends)
      ]

  ends_lends : {x : Task} {d : Decision} → Lends offset x.state → Ends s x d → Lends offset (task_at d.table s).state
  ends_lends lends (runs ready next result task) = rw task active_lends
  ends_lends lends (waits next task) = rw task lends

  lends_on : Lends offset (task_at (decided w r).table s).state
  lends_on =
      let sees = one_task_sees n t r w.areas s old.steps used in
      by_test (is_entry t r)
      (λ entry. ends_lends (left_lends entry) (sees.0 entry))
      (λ none. rw (sees.1 none).table old.lends)

  -- a byte of the message stays, but for an own write
  cells : (r.kind ≡ own_write_kind → active_tid t ≢ g) → (i : ℕ) → i < size → cell offset (areas_after w r) s i ≡ cell offset w.areas s i
  cells other i low =
      cell_spared t r g old.least offset i (omega (arith, does.room)) (decided w r).effect w.areas (step_lands good r (length w.areas))
      (lent_none t r s (length w.areas) offset i old.lends low
      (λ tid kind. own_kind (own (asks_if (tid ∙ tid_named g old.least) (λ ten. omega arith))) kind))
      other

  abbrev After : ℕ → Type 0
  After k = Begun k offset size message (areas_after w r) s

  kept_begun : (r.kind ≡ own_write_kind → active_tid t ≢ g) → After (written w.state)
  kept_begun other =
      begun_kept old.begun (areas_after w r) (written w.state) (omega arith) (λ i h. cells other i (omega (arith, does.most w.state old.kept)))

  -- one more byte is written
  more_begun : asks_now g w r ≡ true → let k = written w.state in r ≡ ask own_write_kind (offset + k) (get_or message k 0) 0 → k < size → After (k + 1)
  more_begun asks same low =
      let k = written w.state in
      let v = get_or message k 0 in
      let tid = eqb-true (active_tid t) g (both_true _ _ asks).0 in
      let mine : (active_slot t < slots t) × (s ≡ active_slot t) = slot_of_lem t g old.least tid in
      let effect : (decided w r).effect ≡ Put (place_in s (offset + k)) v =
      ap (λ (q : Request). (step t q (length w.areas)).effect) same
      ∙ Serves.writes (offset + k) v (length w.areas) good old.steps.size mine.0 (omega (arith, does.room)) (does.sized.small k)
      ∙ ap (λ (a : ℕ). Put (place_in a (offset + k)) v) (sym mine.1) in
      rw effect (begun_more old.begun (omega (arith, does.room, old.steps.size, good.rules.size, mine.0, mine.1)))

  now_begun : After (written (state_asked m g w r))
  now_begun =
      by_test (asks_now g w r)
      (λ asks. rw asks
      (⊎_elim
      (λ (same, low, next). rw next (more_begun asks same low))
      (λ (other, next). rw next (kept_begun (λ own. absurd (other own))))
      (own_write_lem (own asks))))
      (λ still. rw still (kept_begun (λ own tid. true≢false (sym (asks_if tid (λ ten. omega arith)) ∙ still))))

  now_kept : Kept (state_asked m g w r)
  now_kept = chosen Kept (asks_now g w r) (λ _. does.asked w.state old.kept) (λ _. old.kept)

  pub holds_on : Holds offset message Kept written n g (advanced m g w r)
  unfolding advanced
  holds_on =
      let q = state_asked m g w r in
      let told = does.told q (decided w r).answer.result (area_of g (areas_after w r)) now_kept in
      record {
        least = old.least;
        steps = steps_next old.steps r;
        kept = chosen Kept (runs_next g w r) (λ _. told.0) (λ _. now_kept);
        lends = lends_on;
        begun = chosen (λ (q : S). After (written q)) (runs_next g w r)
            (λ _. begun_kept now_begun (areas_after w r) _ told.1 (λ _ _. refl)) (λ _. now_begun);
      }

module _ {S : Type 0} {m : Machine S} {to : S → ℕ} {offset : ℕ} {message : List ℕ} {Kept : S → Type 0} {written : S → ℕ}
    (does : Writes m to offset message Kept written) {n g : ℕ} where
  pub holds_ended : (rs : List Request) (w : World S) → Holds offset message Kept written n g w → Obeys m g w rs
      → Holds offset message Kept written n g (ended m g w rs)
  unfolding ended Obeys
  holds_ended [] w old obeys = old
  holds_ended (r ∷ rs) w old obeys = holds_ended rs (advanced m g w r) (holds_on does w r old obeys.0) obeys.1

  -- from its beginning, with nothing written
  pub holds_first : {w : World S} → Begins n g w → Kept w.state → written w.state ≡ 0 → Holds offset message Kept written n g w
  holds_first begins kept none =
      record {
        least = begins.least;
        steps = begins.steps;
        kept = kept;
        lends = ⊎_elim (λ e. rw e ready_lends) (λ e. rw e active_lends) begins.waits;
        begun = record { sized = does.sized; each = λ i h. absurd (omega arith) };
      }

  -- whenever it asks a Send, that is of the message, and the whole message stands in its area
  pub message_stands : {w : World S} → Holds offset message Kept written n g w → (r : Request) → r ≡ m.request w.state → r.kind ≡ send_kind
      → (r ≡ sends (to w.state) offset) × (bytes_in g offset size w.areas ≡ message)
  message_stands {w} holds r same kind =
      let s = slot_named g in
      let good = steps_good holds.steps in
      let used : s < used_slots w.table = slot_used good.rules (lt-ltb 0 (code_at w.table s) holds.lends.used) in
      let sent = send_whole (does.asks w.state holds.kept) (sym (ap (λ (q : Request). q.kind) same) ∙ kind) in
      (same ∙ sent.0, begun_whole holds.begun (omega (arith, does.room, holds.steps.size, good.rules.tasks.fits)) sent.1)
