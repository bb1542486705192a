-- The ways that an entry ends. First whoever is woken joins its queue, if anybody is; then the caller goes on, stops, or there is none.
use Prim.Native.Nat.{ℕ, ◌+◌, ◌*◌, ◌≤◌, ◌<◌}
use mathlib.Core.Path.{◌≡◌, refl, sym, ap, ◌∙◌}
use mathlib.Core.Logic.{◌≢◌}
use mathlib.Core.Bool.{Bool, true, false}
use mathlib.Core.List.{List}
use native.Mathlib.Nat.{le_refl}
use native.Mathlib.Omega.{arith}
use lib.ListN.{length}
use lib.Dec.{ltb, eqb}
use borrow.Author.Tests.{eq-eqb, ne_eqb, lt-ltb, le-ltb}
use Rattle.tid.specs.Sizes.{priorities, events}
use Rattle.tid.specs.Tid.{mark_of}
use Rattle.tid.proofs.Trips.{slot_of_mark}
use Rattle.queue.specs.declared.Queue.{Queue}
use Rattle.queue.specs.Choose.{choose}
use Rattle.queue.specs.Numbering.{event_queue, send_queue, queues_for}
use Rattle.queue.specs.Row.{alone_row, pushed_row}
use Rattle.task.specs.declared.task.Outcome.{Outcome}
use Rattle.task.specs.declared.task.Outcome.TheVariants.{Nothing}
use Rattle.task.specs.declared.task.State.{State}
use Rattle.task.specs.declared.task.State.TheVariants.{Ready}
use Rattle.task.specs.Task.{is_used, is_active, is_ready, is_quiet, task_as}
use Rattle.task.proofs.Tests.{clash}
use Rattle.kernel.specs.declared.table.Table.{Table}
use Rattle.kernel.specs.declared.table.Turn as Kernel
use Rattle.kernel.specs.declared.table.Effect.{Effect}
use Rattle.kernel.specs.Edition.{may_wait}
use Rattle.kernel.specs.Table.{slots, task_at, queue_at}
use Rattle.kernel.specs.Moves.{left_as, queued, woken, woken_up_to, woken_row, rejoined}
use Rattle.kernel.specs.Turn.{stops}
use Rattle.rules.specs.Good.{good_result, good_state}
use Rattle.rules.specs.Facts.{standing, nobody}
use Rattle.kept.proofs.Tasks.{code_at, same_code, is_free, free}
use Rattle.kept.proofs.Moves.{slot_used, woken_other}
use Rattle.kept.proofs.Woken.{wakes_none}
use Rattle.kept.proofs.Entries.{queued_slots, rejoined_ready, rejoined_stops, rejoined_none}
use Rattle.image.specs.Record.{record_length}
use Rattle.image.specs.Image.{table_of}
use Rattle.image.proofs.Restored.{table_back}
use Rattle.records.specs.Stage.{Stage, joined_bytes, joined_count}
use Rattle.records.proofs.Images.{records_image}
use Rattle.records.proofs.Tasks.{byte_priority}
use Rattle.records.proofs.Joins.{joins_stage, queues_stage}
use Rattle.records.proofs.Replaces.{halts_stage}
use Rattle.records.proofs.Wakes.{woken_edition}
use Rattle.inplace.specs.declared.turn.Turn.{Turn}
use Rattle.inplace.specs.Ends.{Joinable, end_bytes, end_count, stops_at, Ends}

-- the table of a stage is the one that its bytes give in its edition
stage_back : {n ed used a : ℕ} {t : Table} {b count : List ℕ} → Stage n used a nobody t b count → t.edition ≡ ed
    → (table_of n ed b ≡ t) × Stage n used a nobody (table_of n ed b) b count
stage_back {n} {ed} {used} {a} {t} {b} g edition =
    let back : table_of n ed b ≡ t = rw (← edition, records_image n t b g.rules.size g.records) (table_back n used a t g.rules) in
    (back, rw back g)

queued_edition : (t : Table) (k mark : ℕ) → (queued t k mark).edition ≡ t.edition
unfolding queued
queued_edition t k mark = refl

-- a used slot has a queue to join, where fewer stand than a byte can count
pub joinable : {n used a : ℕ} {w : ℕ → Bool} {t : Table} {b count : List ℕ} → Stage n used a w t b count → n < 255
    → (s : ℕ) → s < used → Joinable b count s
joinable {n} {used} {a} {w} {t} g small s l =
    let f = g.rules in
    let p = (task_at t s).priority in
    let own = byte_priority g s (omega (arith, f.tasks.fits)) in
    let low : p < priorities = (f.tasks.each s l).priority in
    let row = f.lined.holds.row p (omega (arith, f.lined.shaped.count)) in
    record {
      priority = rw own low;
      room = rw (own, g.counts p low) (omega (arith, row.fits, f.lined.shaped.places p (omega arith)));
    }

-- Slot s is left to be woken, or nobody, where s is n: the turn's table is t, it wakes a row that is told `said`, and the caller's own move
-- starts from t'.
pub record Woke (n ed used c s : ℕ) (told : Outcome) (row : Queue) (said : Outcome) (t : Table) (b count : List ℕ) (t' : Table) (b' count' : List ℕ) : Type 0 where
  pub small : n < 255
  pub size : length b ≡ n * record_length
  pub near : c ≤ n
  pub joins : s < n → Joinable b count s
  pub bytes : choose (ltb s n) (joined_bytes b count s told) b ≡ b'
  pub counts : choose (ltb s n) (joined_count b count s) count ≡ count'
  pub stage : Stage n used c nobody t' b' count'
  pub runs : c < n → code_at t' c ≡ 1
  pub table : woken_row t row said ≡ t'
  pub edition : t'.edition ≡ ed

-- the one slot that is being woken, not the caller's, joins the tail of its queue
pub slot_woke : {n ed used c s : ℕ} {t : Table} {b count : List ℕ} → Stage n used c (λ j. eqb j s) t b count → t.edition ≡ ed → n < 255 → c ≤ n
    → (c < n → code_at t c ≡ 1) → (told : Outcome) → s < used → c ≢ s → good_result used told ≡ true
    → Woke n ed used c s told (alone_row (mark_of s)) told t b count (woken t (mark_of s) told) (joined_bytes b count s told) (joined_count b count s)
unfolding woken_up_to pushed_row
slot_woke {n} {ed} {used} {c} {s} {t} g edition small near runs told l apart good =
    let inside : s < n = omega (arith, g.rules.tasks.fits) in
    record {
      small = small;
      size = g.records.size;
      near = near;
      joins = λ _. joinable g small s l;
      bytes = rw (lt-ltb s n inside);
      counts = rw (lt-ltb s n inside);
      stage = joins_stage g s c told l (rw (eq-eqb s s refl)) (λ _. refl) good (λ j _ ne. ne_eqb j s ne);
      runs = λ h. same_code (woken_other t (mark_of s) told (λ e. apart (e ∙ slot_of_mark s))) (runs h);
      table = refl;
      edition = woken_edition t (mark_of s) told ∙ edition;
    }

-- nobody is left to be woken
pub nobody_woke : {n ed used c : ℕ} {row : Queue} {said : Outcome} {t t' : Table} {b count : List ℕ} → Stage n used c nobody t' b count
    → n < 255 → c ≤ n → (c < n → code_at t' c ≡ 1) → woken_row t row said ≡ t' → t'.edition ≡ ed
    → Woke n ed used c n Nothing row said t b count t' b count
nobody_woke {n} g small near runs table edition =
    record {
      small = small;
      size = g.records.size;
      near = near;
      joins = λ l. absurd (omega arith);
      bytes = rw (le-ltb n n (le_refl n));
      counts = rw (le-ltb n n (le_refl n));
      stage = g;
      runs = runs;
      table = table;
      edition = edition;
    }

-- How the caller is left.
module _ {n ed used c s : ℕ} {told said : Outcome} {row : Queue} {t t' : Table} {b b' count count' : List ℕ}
    (w : Woke n ed used c s told row said t b count t' b' count') (effect : Effect) where
  abbrev turn : State → Outcome → Kernel.Turn
  turn st o = record { table = t; woken = row; told = said; state = st; result = o; effect = effect }

  abbrev turn_at : State → ℕ → Outcome → Turn
  turn_at st place o = record { used = used; woken = s; told = told; state = st; place = place; result = o; effect = effect }

  -- from the stage that the caller's move leaves
  ends : (st : State) (place : ℕ) (o : Outcome) (after : Table)
      → (c < n → is_ready st ≡ true → Joinable b' count' c)
      → Stage n used n nobody after (end_bytes n b count c (turn_at st place o)) (end_count n b count c (turn_at st place o))
      → rejoined t' c st o ≡ after
      → after.edition ≡ ed
      → Ends n ed c (turn st o) (turn_at st place o) b count
  ends st place o after caller g same edition =
      let (back, stage) = stage_back g edition in
      record {
        settles = record {
          size = w.size;
          near = w.near;
          woken = w.joins;
          caller = rw (w.bytes, w.counts) caller;
          stage = stage;
        };
        effect = refl;
        table = rw w.table (back ∙ sym same);
      }

  -- there is no caller
  pub nobody_ends : (o : Outcome) → n ≤ c → Ends n ed c (turn Ready o) (turn_at Ready 0 o) b count
  unfolding end_bytes end_count
  nobody_ends o none =
      let same : c ≡ n = omega (arith, w.near) in
      let g : Stage n used n nobody t' b' count' = rw same at w.stage in
      ends Ready 0 o t' (λ l. absurd (omega arith)) (rw (le-ltb c n none, w.bytes, w.counts) g)
      (rejoined_none t' c Ready o (omega (arith, w.stage.rules.size))) w.edition

  module _ (running : c < n) where
    caller_used : c < used
    caller_used = slot_used w.stage.rules (rw (w.runs running))

    within : c < length t'.tasks
    within = omega (arith, w.stage.rules.size, running)

    -- it goes on, behind whoever was woken
    pub goes_on_ends : (o : Outcome) → good_result used o ≡ true → Ends n ed c (turn Ready o) (turn_at Ready 0 o) b count
    unfolding end_bytes end_count
    goes_on_ends o good =
        let g = w.stage in
        ends Ready 0 o (woken t' (mark_of c) o) (λ _ _. joinable g w.small c caller_used)
        (rw (lt-ltb c n running, w.bytes, w.counts)
        (joins_stage g c n o caller_used (free n (task_at t' c) (rw (w.runs running))).nowhere (λ ne. absurd (ne refl)) good (λ _ _ _. refl)))
        (rejoined_ready t' c o within) (woken_edition t' (mark_of c) o ∙ w.edition)

    -- it stops, and stands in no queue
    pub halts_ends : (st : State) → is_ready st ≡ false → is_free st ≡ true → is_active st ≡ false → good_state used c st ≡ true
        → (is_quiet st ≡ true → (queue_at t' (send_queue c)).len ≡ 0)
        → Ends n ed c (turn st Nothing) (turn_at st 0 Nothing) b count
    unfolding end_bytes end_count
    halts_ends st unready stays still good quiet =
        ends st 0 Nothing (left_as t' c st Nothing) (λ _ e. clash e unready)
        (rw (lt-ltb c n running, unready, w.bytes, w.counts) (halts_stage w.stage (w.runs running) st stays still good quiet))
        (rejoined_stops t' c st Nothing within unready) w.edition

-- nobody is woken, and the caller stops to stand in a queue, at its tail
pub queues_ends : {n ed used c : ℕ} {t : Table} {b count : List ℕ} → Stage n used c nobody t b count → t.edition ≡ ed → c < n → code_at t c ≡ 1
    → (k : ℕ) (st : State) (place : ℕ) → is_used st ≡ true → is_active st ≡ false → is_ready st ≡ false → is_quiet st ≡ false → good_state used c st ≡ true
    → priorities ≤ k → k < queues_for n → standing n (task_as st Nothing (task_at t c)) ≡ k
    → ((j : ℕ) → send_queue j ≡ k → is_quiet (task_at t j).state ≡ false)
    → ((e : ℕ) → e < events → event_queue e ≡ k → may_wait t.edition ((queue_at t k).len + 1) ≡ true)
    → place ≡ (queue_at t k).len
    → Ends n ed c (stops (queued t k (mark_of c)) st) (stops_at n used st place) b count
unfolding end_bytes end_count
queues_ends {n} {ed} {used} {c} {t} g edition running runs k st place in_use still unready unblocked good past h stands quiet fits tail =
    let after = queues_stage g runs k st in_use still unready unblocked good past h stands quiet fits in
    let (back, stage) = stage_back after (queued_edition t k (mark_of c) ∙ edition) in
    let within : c < slots (queued t k (mark_of c)) = rw (queued_slots t k (mark_of c)) (omega (arith, g.rules.size)) in
    record {
      settles = record {
        size = g.records.size;
        near = omega arith;
        woken = λ l. absurd (omega arith);
        caller = λ _ e. clash e unready;
        stage = rw (lt-ltb c n running, le-ltb n n (le_refl n), unready, tail) stage;
      };
      effect = refl;
      table = rw (lt-ltb c n running, le-ltb n n (le_refl n), unready, tail)
          (back ∙ sym (ap (λ (x : Table). rejoined x c st Nothing) (wakes_none (queued t k (mark_of c)) Nothing) ∙ rejoined_stops (queued t k (mark_of c)) c st Nothing within unready));
    }
