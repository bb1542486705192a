-- What the passes ask is whether the bytes are the image of a good table, and then they found its parts.
use Prim.Native.Nat.{ℕ, ◌+◌, ◌-◌, ◌*◌, ◌≤◌, ◌<◌}
use mathlib.Core.Path.{◌≡◌, sym, ap, ◌∙◌, subst}
use mathlib.Core.Logic.{◌≢◌, ⊎_elim}
use mathlib.Core.Bool.{true, ◌&&◌, false≢true, or-true}
use mathlib.Core.List.{List}
use native.Mathlib.Omega.{arith}
use native.Mathlib.Decide.{dec_lt}
use lib.ListN.{length, get_or}
use lib.Dec.{eqb}
use borrow.Author.Tests.{eqb-true, eqb-false, eq-eqb, ne_eqb, ltb-true, lt-ltb, le-leb}
use Rattle.queue.specs.Numbering.{event_queue, send_queue, queues_for}
use Rattle.queue.specs.Row.{place_at}
use Rattle.queue.specs.Facts.{RowsFacts}
use Rattle.queue.proofs.Below.{both_true, true_both, same_test, all_below_lem, below_all, First, first_below_lem, first_same}
use Rattle.tid.specs.Sizes.{events}
use Rattle.tid.specs.Tid.{slot_of}
use Rattle.task.specs.declared.task.Task.{Task}
use Rattle.task.specs.Task.{state_code, awaited}
use Rattle.task.specs.Standing.{queue_of}
use Rattle.task.proofs.Stands.{stands_in}
use Rattle.task.proofs.Tests.{implied, implies}
use Rattle.kernel.specs.declared.table.Table.{Table}
use Rattle.kernel.specs.Edition.{many_wait, may_wait}
use Rattle.kernel.specs.Table.{task_at, queue_at, active_slot, used_slots}
use Rattle.kernel.proofs.Editions.{fewer_wait}
use Rattle.rules.specs.Good.{good_used, good_table}
use Rattle.rules.specs.Facts.{TasksFacts, Waiters, Rules, Good}
use Rattle.rules.proofs.Good.{used_facts, facts_used, first_active, good_facts, facts_good, rules_good}
use Rattle.rules.proofs.States.{state_facts}
use Rattle.image.specs.Bytes.{record_at}
use Rattle.image.specs.Record.{record_length, at_state, at_place, byte_at}
use Rattle.image.specs.Image.{table_of, is_image}
use Rattle.image.specs.Exact.{exact_record, exact_up_to}
use Rattle.image.proofs.Bytes.{byte_in_lem}
use Rattle.image.proofs.Exact.{image_exact}
use Rattle.image.proofs.Laws.{edition_read}
use Rattle.image.proofs.Rebuilt.{Bytes}
use Rattle.image.proofs.Shape.{table_shaped}
use Rattle.audit.specs.Survey.{queue_in, used_in, active_up_to, count_up_to}
use Rattle.audit.specs.Sound.{record_sound}
use Rattle.audit.specs.Audit.{quiet_code, asked}
use Rattle.audit.proofs.SoundRecord.{place_fits, sound_record}
use Rattle.audit.proofs.Counts.{Last, active_last}
use Rattle.audit.proofs.Ranks.{Filled, row_many, rows_fit, fit_rows}
use Rattle.audit.proofs.Exact.{blank_exact, exact_blank, queue_none, task_none, task_past, task_is, keys_are, rows_filled, record_small, code_is}
use Rattle.audit.proofs.Fine.{Fine, asked_fine, fine_asked}

module _ (n ed : ℕ) (b : List ℕ) (whole : length b ≡ n * record_length) (small : Bytes b) where
  abbrev t : Table
  t = table_of n ed b

  abbrev rec : ℕ → List ℕ
  rec s = record_at record_length b s

  abbrev used : ℕ
  used = used_in n b

  abbrev active : ℕ
  active = active_up_to n b used

  first : First 0 n (λ s. eqb (byte_at b s at_state) 0) used
  first = first_below_lem n (λ s. eqb (byte_at b s at_state) 0)

  last : Last n b used active
  last = active_last n b used first.most

  -- a used record has a code
  some_code : (s : ℕ) → s < used → byte_at b s at_state ≢ 0
  some_code s l = eqb-false (byte_at b s at_state) 0 (first.before s (omega arith) l)

  -- a record is sound exactly where it is exact, its task keeps the rules of one slot, and its place fits
  sound_is : (s : ℕ) → s < used
      → record_sound ed used s (rec s) ≡ (exact_record (rec s) && good_used used s (task_at t s) && place_fits ed (byte_at b s at_state) (byte_at b s at_place))
  sound_is s l =
      let h : s < n = omega (arith, first.most) in
      rw (task_is n ed b whole s, ← byte_in_lem b s at_state (omega arith), ← byte_in_lem b s at_place (omega arith))
      (sound_record ed used s (rec s) (record_small n ed b whole small s h)
      (λ e. some_code s l (sym (byte_in_lem b s at_state (omega arith)) ∙ e)))

  -- The records from the used ones on are unused: a record that has a code is used, and the rows are filled as was counted.

  module _ (rest : (s : ℕ) → used ≤ s → s < n → byte_at b s at_state ≡ 0) where
    within : (s : ℕ) → s < n → byte_at b s at_state ≢ 0 → s < used
    within s h some = elim (dec_lt s used) [ yes l ↦ l | no g ↦ absurd (some (rest s (omega arith) h)) ]

    filled : Filled (queues_for n) n (λ k. get_or (count_up_to n b used) k 0) (queue_in n b) (λ s. byte_at b s at_place) t.queues
    filled = rows_filled n ed b whole used first.most rest

  -- The records are fine, so the table is good.

  module _ (f : Fine n ed b used active (count_up_to n b used)) where
    fine_rest : (s : ℕ) → used ≤ s → s < n → byte_at b s at_state ≡ 0
    fine_rest s g h = f.blank s g h at_state (omega arith)

    fine_within : (s : ℕ) → s < n → byte_at b s at_state ≢ 0 → s < used
    fine_within = within fine_rest

    fine_both : (s : ℕ) → s < used
        → ((exact_record (rec s) && good_used used s (task_at t s)) ≡ true) × (place_fits ed (byte_at b s at_state) (byte_at b s at_place) ≡ true)
    fine_both s l = both_true (exact_record (rec s) && good_used used s (task_at t s)) _ (sym (sound_is s l) ∙ (f.each s l).sound)

    fine_sound : (s : ℕ) → s < used → (exact_record (rec s) ≡ true) × (good_used used s (task_at t s) ≡ true)
    fine_sound s l = both_true (exact_record (rec s)) _ (fine_both s l).0

    fine_exact : (s : ℕ) → s < n → exact_record (rec s) ≡ true
    fine_exact s h = elim (dec_lt s used) [
      | yes l ↦ (fine_sound s l).0
      | no g ↦ blank_exact b s (fine_rest s (omega arith) h) (f.blank s (omega arith) h)
    ]

    fine_code : (s : ℕ) → s < n → state_code (task_at t s).state ≡ byte_at b s at_state
    fine_code s h = code_is n ed b whole small s h (fine_exact s h)

    tasks : TasksFacts n used active (task_at t)
    tasks =
        record {
          some = f.some;
          fits = first.most;
          each = λ s l.
              let some : 0 < state_code (task_at t s).state = omega (arith, some_code s l, fine_code s (omega (arith, first.most))) in
              used_facts used s (task_at t s) (lt-ltb 0 (state_code (task_at t s).state) some) (fine_sound s l).1;
          unused = λ s g. elim (dec_lt s n) [
            | yes h ↦ task_is n ed b whole s ∙ task_none b s (fine_rest s g h)
            | no past ↦ task_past n ed b s (omega arith)
          ];
          only_active = λ s h e.
              let one : byte_at b s at_state ≡ 1 = sym (fine_code s h) ∙ eqb-true _ 1 e in
              (f.each s (fine_within s h (λ z. omega arith))).alone one;
        }

    rows : RowsFacts n t.queues (queue_in n b)
    rows =
        fit_rows (filled fine_rest)
        (λ s h l. (f.each s (fine_within s h (λ z. omega (arith, queue_none b s z n)))).fit l)

    -- a place of an event's queue is one that whoever stands there may have
    waits : (e : ℕ) → e < events → (p : ℕ) → p < (queue_at t (event_queue e)).len → may_wait ed (p + 1) ≡ true
    waits e h p inside =
        let k = event_queue e in
        let made = (filled fine_rest).made in
        let s = slot_of (place_at (queue_at t k) p) in
        let mark = (rows.row k (omega (arith, made.count))).mark p inside in
        let (l, own, at) = (made.row k (omega arith)).filled p s (omega arith) in
        let used_slot : state_code (task_at t s).state ≢ 0 → s < used = λ some. fine_within s l (λ z. some (fine_code s l ∙ z)) in
        ⊎_elim
        (λ ready. absurd (omega (arith, (tasks.each s (used_slot (λ z. omega arith))).priority)))
        (⊎_elim
        (λ sends. absurd (omega arith))
        (λ waits.
        let six : byte_at b s at_state ≡ 6 = sym (fine_code s l) ∙ waits.0 in
        let fits = (fine_both s (used_slot (λ z. omega arith))).1 in
        rw at at (implied (eqb (byte_at b s at_state) 6) (may_wait ed (byte_at b s at_place + 1)) fits (eq-eqb _ 6 six))))
        (stands_in (queues_for n) (task_at t s) {k = k} (ap (λ (key : ℕ → ℕ). key s) (keys_are n ed b whole) ∙ own) (omega arith))

    -- so that the last place tells that as many may wait as do
    waiters : Waiters t.edition t.queues
    waiters e h =
        let len = (queue_at t (event_queue e)).len in
        rw (edition_read n ed b n)
        (elim (dec_lt 0 len) [
          | yes some ↦ fewer_wait ed (len - 1 + 1) len (omega arith) (waits e h (len - 1) (omega arith))
          | no none ↦ rw (le-leb len 1 (omega arith)) (or-true (eqb ed many_wait))
        ])

    fine_good : Good n t
    fine_good =
        rules_good
        (rw (edition_read n ed b n) f.edition)
        (record {
          size = (table_shaped n ed b n).tasks;
          tasks = tasks;
          lined = record {
            shaped = (table_shaped n ed b n).queues;
            holds = subst (λ (key : ℕ → ℕ). RowsFacts n t.queues key) (sym (keys_are n ed b whole)) rows;
          };
          quiet = λ s h e.
              let quiet : quiet_code (byte_at b s at_state) ≡ true = rw (fine_code s h) at e in
              let some : byte_at b s at_state ≢ 0 = λ z. false≢true (rw z at quiet) in
              row_many (filled fine_rest) rows (send_queue s) (omega arith) ∙ (f.each s (fine_within s h some)).quiet quiet;
          waiters = waiters;
        })
        last.most
        (λ l. eq-eqb _ 1 (fine_code active l ∙ (last.some l).1))
        (λ none p l. row_many (filled fine_rest) rows p (omega arith) ∙ f.ready none p l)

    fine_image : is_image n ed b ≡ true
    fine_image =
        image_exact n ed b whole small
        ∙ true_both (facts_good n t fine_good) (below_all n (λ s. exact_record (rec s)) fine_exact)

  -- The bytes are an image, so the records are fine.

  module _ (e : is_image n ed b ≡ true) where
    image_both : (good_table t ≡ true) × (exact_up_to b n ≡ true)
    image_both = both_true (good_table t) _ (sym (image_exact n ed b whole small) ∙ e)

    good : Good n t
    good = good_facts n t (table_shaped n ed b n) image_both.0

    exact : (s : ℕ) → s < n → exact_record (rec s) ≡ true
    exact = all_below_lem n (λ s. exact_record (rec s)) image_both.1

    code : (s : ℕ) → s < n → state_code (task_at t s).state ≡ byte_at b s at_state
    code s h = code_is n ed b whole small s h (exact s h)

    -- the task of an unused slot has no code
    unused : (s : ℕ) → used_slots t ≤ s → s < n → byte_at b s at_state ≡ 0
    unused s g h = sym (code s h) ∙ ap (λ (x : Task). state_code x.state) (good.rules.tasks.unused s g)

    pub image_used : used_in n b ≡ used_slots t
    image_used =
        first_same first
        (record {
          least = omega arith;
          most = good.rules.tasks.fits;
          before = λ s _ l.
              let some = ltb-true 0 (state_code (task_at t s).state) (good.rules.tasks.each s l).in_use in
              ne_eqb (byte_at b s at_state) 0 (λ z. omega (arith, code s (omega (arith, good.rules.tasks.fits))));
          passes = λ l. eq-eqb _ 0 (unused (used_slots t) (omega arith) l);
        })

    rest : (s : ℕ) → used ≤ s → s < n → byte_at b s at_state ≡ 0
    rest s g h = unused s (omega (arith, image_used)) h

    -- every active record is the table's active slot, so that the last is
    pub image_active : active_up_to n b (used_in n b) ≡ active_slot t
    image_active = elim (dec_lt active n) [
      | yes l ↦ good.rules.tasks.only_active active l (eq-eqb _ 1 (code active l ∙ (last.some l).1))
      | no g ↦ elim (dec_lt (active_slot t) n) [
        | yes l ↦
            let one : byte_at b (active_slot t) at_state ≡ 1 =
            sym (code (active_slot t) l) ∙ eqb-true _ 1 ((first_active t).passes (omega (arith, good.rules.size))) in
            absurd (last.none (omega arith) (active_slot t) (within rest (active_slot t) l (λ z. omega arith)) one)
        | no past ↦ omega (arith, last.most, (first_active t).most, good.rules.size)
      ]
    ]

    holds : RowsFacts n t.queues (queue_in n b)
    holds = subst (λ (key : ℕ → ℕ). RowsFacts n t.queues key) (keys_are n ed b whole) good.rules.lined.holds

    pub image_counted : (k : ℕ) → k < queues_for n → get_or (count_up_to n b (used_in n b)) k 0 ≡ (queue_at t k).len
    image_counted k h = sym (row_many (filled rest) holds k h)

    rules : Rules n used active t
    rules = rw (image_active, image_used) good.rules

    -- a waiter's place is below the number of those who may wait
    place_fits_lem : (s : ℕ) → s < used → place_fits ed (byte_at b s at_state) (byte_at b s at_place) ≡ true
    unfolding queue_of
    place_fits_lem s l =
        let h : s < n = omega (arith, first.most) in
        implies (eqb (byte_at b s at_state) 6) (may_wait ed (byte_at b s at_place + 1))
        (λ is.
        let x = task_at t s in
        let six : state_code x.state ≡ 6 = code s h ∙ eqb-true (byte_at b s at_state) 6 is in
        let e = awaited x.state in
        let event = ltb-true e events ((state_facts used s x.state (rules.tasks.each s l).state).event (eq-eqb _ 6 six)) in
        let key : queue_in n b s ≡ event_queue e = ap (λ (key : ℕ → ℕ). key s) (sym (keys_are n ed b whole)) ∙ rw six in
        let low = rw key at (rows_fit (filled rest) holds s h (omega arith)).low in
        fewer_wait ed (queue_at t (event_queue e)).len (byte_at b s at_place + 1) (omega (arith, image_counted (event_queue e) (omega arith)))
        (rw (edition_read n ed b n) at (rules.waiters e event)))

    image_fine : Fine n ed b used active (count_up_to n b used)
    image_fine =
        record {
          edition = rw (edition_read n ed b n) at good.edition;
          some = rules.tasks.some;
          blank = λ s g h. exact_blank b s (rest s g h) (exact s h);
          each = λ s l.
              let h : s < n = omega (arith, first.most) in
              record {
                alone = λ one. rules.tasks.only_active s h (eq-eqb _ 1 (code s h ∙ one));
                quiet = λ is. image_counted (send_queue s) (omega arith) ∙ rules.quiet s h (rw (code s h) is);
                sound = sound_is s l ∙ true_both (true_both (exact s h) (facts_used used s (task_at t s) (rules.tasks.each s l))) (place_fits_lem s l);
                fit = rows_fit (filled rest) holds s h;
              };
          ready = λ none p l. image_counted p (omega arith) ∙ good.active_if_ready (omega (arith, image_active)) p l;
        }

  pub asked_image : let used = used_in n b in asked n ed b used (active_up_to n b used) (count_up_to n b used) ≡ is_image n ed b
  asked_image =
      same_test
      (λ e. fine_image (asked_fine n ed b used active (count_up_to n b used) e))
      (λ e. fine_asked n ed b used active (count_up_to n b used) (image_fine e))
