-- What is decided of a request, by what the passes over the records found.
use Prim.Native.Nat.{ℕ, ◌*◌, ◌≤◌, ◌<◌}
use mathlib.Core.Path.{◌≡◌, refl, sym, ap, subst, ◌∙◌}
use mathlib.Core.Logic.{◌≢◌}
use mathlib.Core.Bool.{true, false}
use mathlib.Core.List.{List}
use native.Mathlib.Omega.{arith}
use lib.ListN.{length}
use borrow.Author.Tests.{eq-eqb, ne_eqb, eqb-true, lt-ltb}
use Rattle.tid.specs.Tid.{tid_of}
use Rattle.task.specs.declared.task.Outcome.TheVariants.{Nothing}
use Rattle.kernel.specs.declared.table.Table.{Table}
use Rattle.kernel.specs.declared.table.Effect.{Effect}
use Rattle.kernel.specs.declared.table.Effect.TheVariants.{Keep, Put}
use Rattle.kernel.specs.declared.table.Request.{Request}
use Rattle.std.proofs.Common.{Ok}
use Rattle.kernel.specs.Numbers.{accepted, bad_table, bad_image}
use Rattle.kernel.specs.Table.{slots, used_slots, active_slot}
use Rattle.kernel.specs.Moves.{dispatched}
use Rattle.kernel.specs.Turn.{settled}
use Rattle.kernel.specs.Kinds.{place_in}
use Rattle.kernel.specs.Refusal.{refusal_of}
use Rattle.kernel.specs.declared.call.Entry.{Entry}
use Rattle.kernel.specs.declared.call.Call.TheVariants as Call
use Rattle.kernel.specs.declared.call.Call.TheVariants.{OwnWrite}
use Rattle.kernel.specs.Call.{call_of, entry_turn}
use Rattle.kernel.specs.Decide.{shown_tid, refused, own_write, decide_at, decide}
use Rattle.kernel.proofs.Calls.{turned_by, entry_kind}
use Rattle.kernel.proofs.Refusals.{dispatched_accepted}
use Rattle.rules.specs.Facts.{Good}
use Rattle.rules.proofs.Good.{first_active}
use Rattle.image.specs.Record.{record_length, record_of}
use Rattle.image.specs.Image.{table_of, is_image}
use Rattle.image.proofs.Laws.{write_back}
use Rattle.image.proofs.Rebuilt.{Bytes}
use Rattle.records.specs.Records.{Records}
use Rattle.records.proofs.Images.{image_records}
use Rattle.audit.specs.declared.Found.{Found}
use Rattle.audit.specs.Survey.{used_in, count_up_to}
use Rattle.audit.specs.Audit.{found_in}
use Rattle.audit.proofs.Counts.{count_length}
use Rattle.audit.proofs.Asked.{image_used, image_active, image_counted}
use Rattle.inplace.proofs.Own.{own_by}
use Rattle.inplace.specs.declared.turn.Turn.{Turn}
use Rattle.inplace.specs.declared.Shown.{Shown}
use Rattle.inplace.specs.Ends.{Begins, Ends, Does, end_bytes}
use Rattle.inplace.specs.Decided.{decided_in, Decided}

-- Which of its three forms a decision has.
module _ (t : Table) (r : Request) (n a v : ℕ) (size : slots t ≡ n) (act : a ≡ active_slot t) (is : v ≡ refusal_of n a r) where
  decide_refused : accepted < v → decide t r ≡ refused t v (shown_tid n a)
  unfolding decide decide_at
  decide_refused some = rw (size, ← act, ← is, lt-ltb accepted v some)

  decide_write : v ≡ accepted → (o b : ℕ) → call_of r ≡ Ok (OwnWrite o b) → decide t r ≡ own_write t a o b
  unfolding decide decide_at
  decide_write none o b asks = rw (size, ← act, ← is, none) (own_by (own_write t a) _ r o b asks)

  decide_enters : v ≡ accepted → (e : Entry) → call_of r ≡ Ok (Call.Entry e) → decide t r ≡ settled a (entry_turn t a e)
  unfolding decide decide_at
  decide_enters none e asks = rw (size, ← act, ← is, none, entry_kind r e asks, turned_by t a r e asks)

-- an answer that tells nothing
abbrev pub shown_by : ℕ → ℕ → Effect → Shown
shown_by verdict next e = record { answer = record { verdict = verdict; next = next; result = Nothing }; effect = e }

module _ (n ed : ℕ) (b : List ℕ) where
  pub wrong_length : (r : Request) → length b ≢ n * record_length → Decided (decided_in n ed b r) b (shown_by bad_image 0 Keep) b
  unfolding decided_in
  wrong_length r other = rw (ne_eqb (length b) (n * record_length) other) (record { shown = refl; effect = refl; image = refl })

  module _ (sized : length b ≡ n * record_length) (small : Bytes b) where
    pub wrong_image : (r : Request) → is_image n ed b ≡ false → Decided (decided_in n ed b r) b (shown_by bad_table 0 Keep) b
    unfolding decided_in
    wrong_image r bad = rw (eq-eqb (length b) (n * record_length) sized, bad) (record { shown = refl; effect = refl; image = refl })

    decided_good : (r : Request) → is_image n ed b ≡ true → decided_in n ed b r ≡ decide (table_of n ed b) r
    unfolding decided_in
    decided_good r good = rw (eq-eqb (length b) (n * record_length) sized, good)

    -- what was found, where the bytes are an image
    module _ (f : Found) (found : f ≡ found_in n ed b) where
      pub found_good : f.good ≡ is_image n ed b
      unfolding found_in
      found_good = ap (λ (x : Found). x.good) found ∙ rw (eq-eqb (length b) (n * record_length) sized)

      module _ (good : is_image n ed b ≡ true) where
        abbrev t : Table
        t = table_of n ed b

        rules : Good n t
        rules = (write_back n ed good).0

        used : f.used ≡ used_slots t
        unfolding found_in
        used = ap (λ (x : Found). x.used) found ∙ rw (eq-eqb (length b) (n * record_length) sized) (image_used n ed b sized small good)

        pub active : f.active ≡ active_slot t
        unfolding found_in
        active = ap (λ (x : Found). x.active) found ∙ rw (eq-eqb (length b) (n * record_length) sized) (image_active n ed b sized small good)

        count : f.count ≡ count_up_to n b (used_in n b)
        unfolding found_in
        count = ap (λ (x : Found). x.count) found ∙ rw (eq-eqb (length b) (n * record_length) sized)

        pub size : slots t ≡ n
        size = rules.rules.size

        records : Records n (record_of t) b
        records = subst (λ (x : List ℕ). Records n (record_of t) x) (write_back n ed good).1 (image_records n t size)

        pub begins : Begins n ed f.used f.active b f.count
        begins =
            let near : active_slot t ≤ n = omega (arith, (first_active t).most, size) in
            record {
              stage = record {
                rules = rw (used, active) rules.rules;
                records = records;
                counts = λ p h. rw count (image_counted n ed b sized small good p (omega arith));
                long = rw (count, count_length n b (used_in n b)) (omega arith);
              };
              near = rw active near;
              runs = λ h. rw active (eqb-true _ 1 ((first_active t).passes (omega (arith, active, size))));
              counted = λ k h. rw count (image_counted n ed b sized small good k h);
            }

        -- the three forms that a decision has
        module _ (r : Request) (v : ℕ) (is : v ≡ refusal_of n f.active r) where
          pub decided_refused : accepted < v → Decided (decided_in n ed b r) b (shown_by v (shown_tid n f.active) Keep) b
          decided_refused some =
              rw (decided_good r good, decide_refused t r n f.active v size active is some)
              (record { shown = refl; effect = refl; image = rw (lt-ltb accepted v some) })

          pub decided_write : v ≡ accepted → (o w : ℕ) → call_of r ≡ Ok (OwnWrite o w)
              → Decided (decided_in n ed b r) b (shown_by accepted (tid_of f.active) (Put (place_in f.active o) w)) b
          unfolding own_write
          decided_write none o w asks =
              rw (decided_good r good, decide_write t r n f.active v size active is none o w asks)
              (record { shown = refl; effect = refl; image = sym (write_back n ed good).1 })

          pub decided_enters : v ≡ accepted → (e : Entry) → call_of r ≡ Ok (Call.Entry e) → (u : Turn) {b' count after : List ℕ} {shown : Shown}
              → Ends n ed f.active (entry_turn t f.active e) u b' count
              → Does (dispatched u.effect (table_of n ed (end_bytes n b' count f.active u))) shown after
              → Decided (decided_in n ed b r) b shown after
          unfolding settled
          decided_enters none e asks u ends d =
              rw (decided_good r good, decide_enters t r n f.active v size active is none e asks, ← ends.effect, ← ends.table)
              (record { shown = d.shown; effect = d.effect; image = d.image ∙ rw (dispatched_accepted u.effect _) })
