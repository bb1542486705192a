-- What a start comes to on each of its ways.
use Prim.Native.Nat.{ℕ, ◌*◌, ◌^◌, ◌≤◌, ◌<◌}
use mathlib.Core.Path.{◌≡◌, refl, sym, ap, ◌∙◌}
use mathlib.Core.Logic.{◌≢◌}
use mathlib.Core.Bool.{true, false, not}
use mathlib.Core.List.{List}
use native.Mathlib.Omega.{arith}
use lib.ListN.{length, set, replicate}
use lib.Seq.{paste}
use lib.Dec.{ltb, eqb}
use borrow.Author.Tests.{eq-eqb, ne_eqb, lt-ltb, le-ltb, ltb-true}
use Rattle.queue.proofs.Below.{by_test}
use Rattle.tid.specs.Sizes.{slot_count, priorities}
use Rattle.task.specs.declared.task.Outcome.TheVariants.{Nothing}
use Rattle.task.specs.declared.task.State.TheVariants.{Active}
use Rattle.task.specs.Task.{entry_of}
use Rattle.task.proofs.Tests.{chosen}
use Rattle.kernel.specs.Edition.{is_edition}
use Rattle.kernel.specs.Numbers.{accepted, bad_image, bad_priority, bad_edition}
use Rattle.rules.specs.Fresh.{fresh, started}
use Rattle.image.specs.Bytes.{bytes_of}
use Rattle.image.specs.Record.{record_length, at_state, at_priority, at_entry, fields}
use Rattle.image.specs.Image.{image_of}
use Rattle.records.specs.Records.{with_record}
use Rattle.records.proofs.Fresh.{fresh_image}
use Rattle.entry.specs.Entry.{StartCall, start_call, start_called}

module _ (n ed priority entry : ℕ) (image : List ℕ) where
  pub start_unknown : is_edition ed ≡ false → start_call bad_edition image ≡ start_called n ed priority entry image
  unfolding start_called
  start_unknown unknown = rw unknown

  module _ (known : is_edition ed ≡ true) where
    pub start_refused : priorities ≤ priority → start_call bad_priority image ≡ start_called n ed priority entry image
    unfolding start_called
    start_refused none = rw (known, le-ltb priority priorities none)

    module _ (some : priority < priorities) where
      pub start_wrong : length image ≢ n * record_length → start_call bad_image image ≡ start_called n ed priority entry image
      unfolding start_called
      start_wrong other = rw (known, lt-ltb priority priorities some, ne_eqb (length image) (n * record_length) other)

      pub start_made : length image ≡ n * record_length → {image' : List ℕ} → image' ≡ image_of (fresh n ed priority entry)
          → start_call accepted image' ≡ start_called n ed priority entry image
      unfolding start_called
      start_made sized i = rw (i, known, lt-ltb priority priorities some, eq-eqb (length image) (n * record_length) sized)

  -- an accepted start has an edition that there is
  pub start_known : (start_called n ed priority entry image).verdict ≡ accepted → is_edition ed ≡ true
  unfolding start_called
  start_known = by_test (is_edition ed) (λ known _. known) (λ unknown. rw unknown (λ e. absurd (omega arith)))

  -- and a priority, and leaves the image of a fresh table
  pub start_fresh : let c = start_called n ed priority entry image in
      c.verdict ≡ accepted → (priority < priorities) × (c.image ≡ image_of (fresh n ed priority entry))
  unfolding start_called
  start_fresh =
      let P : StartCall → Type 0 = λ c. c.verdict ≡ accepted → (priority < priorities) × (c.image ≡ image_of (fresh n ed priority entry)) in
      by_test (is_edition ed)
      (λ known. by_test (ltb priority priorities)
      (λ low. rw (known, low)
      (chosen P (not (eqb (length image) (n * record_length))) (λ _ e. absurd (omega arith)) (λ _ _. (ltb-true priority priorities low, refl))))
      (λ high. rw (known, high) (λ e. absurd (omega arith))))
      (λ unknown. rw unknown (λ e. absurd (omega arith)))

  pub start_keeps : let c = start_called n ed priority entry image in c.verdict ≢ accepted → c.image ≡ image
  unfolding start_called
  start_keeps =
      let P : StartCall → Type 0 = λ c. c.verdict ≢ accepted → c.image ≡ image in
      chosen P (ltb accepted (started n ed priority entry).verdict) (λ _ _. refl)
      (λ _. chosen P (not (eqb (length image) (n * record_length))) (λ _ _. refl) (λ _ no. absurd (no refl)))

-- the first task's record differs from zeros in its state, its priority and its entry number
pub first_stored : (ed priority entry m : ℕ) → entry < 2 ^ 32 → m ≡ slot_count * record_length
    → set (set (paste (replicate m 0) at_entry (bytes_of 4 entry) 4) at_state 1) at_priority priority ≡ image_of (fresh slot_count ed priority entry)
first_stored ed priority entry m word e =
    let low : entry_of entry ≡ entry = omega arith in
    let zeros : List ℕ = replicate (slot_count * record_length) 0 in
    rw e
    (ap (λ (x : ℕ). set (set (paste zeros at_entry (bytes_of 4 x) 4) at_state 1) at_priority priority) (sym low)
    ∙ three_stored priority (entry_of entry) ∙ fresh_image slot_count ed priority entry (omega arith))
  where
    three_stored : (priority entry : ℕ) → let zeros : List ℕ = replicate (slot_count * record_length) 0 in
        set (set (paste zeros at_entry (bytes_of 4 entry) 4) at_state 1) at_priority priority
        ≡ with_record zeros 0 (fields (record { state = Active; priority = priority; parent = 0; entry = entry; result = Nothing }) 0)
    three_stored priority entry = refl
