-- The end of every entry, on the bytes: whoever stands at the head of the first ready queue runs next.
use Prim.Native.Nat.{ℕ, ◌≤◌, ◌<◌}
use mathlib.Core.Path.{◌≡◌, refl, sym, ap, ◌∙◌}
use mathlib.Core.List.{List}
use native.Mathlib.Omega.{arith}
use lib.ListN.{get_or}
use lib.Dec.{ltb}
use borrow.Author.Tests.{lt-ltb, le-ltb, ltb-true}
use Rattle.tid.specs.Sizes.{priorities}
use Rattle.tid.specs.Tid.{slot_of, tid_of}
use Rattle.queue.specs.Choose.{first_below}
use Rattle.queue.specs.Numbering.{ready_queue}
use Rattle.queue.specs.Row.{place_at}
use Rattle.queue.proofs.Below.{by_test, first_below_lem, first_equal}
use Rattle.task.specs.declared.task.Outcome.{Outcome}
use Rattle.task.specs.declared.task.Outcome.TheVariants.{Nothing}
use Rattle.task.specs.declared.task.State.TheVariants.{Active}
use Rattle.kernel.specs.declared.table.Answer.{Answer}
use Rattle.kernel.specs.declared.table.Effect.{Effect}
use Rattle.kernel.specs.declared.table.Effect.TheVariants.{Keep}
use Rattle.kernel.specs.declared.table.Table.{Table}
use Rattle.kernel.specs.Numbers.{accepted}
use Rattle.kernel.specs.Table.{task_at, queue_at}
use Rattle.kernel.specs.Moves.{first_ready, dispatched}
use Rattle.rules.specs.Facts.{nobody}
use Rattle.kept.proofs.Moves.{slot_used, ready_head}
use Rattle.image.specs.Bytes.{record_at}
use Rattle.image.specs.Record.{record_length, at_priority, byte_in, result_parts_in, result_of}
use Rattle.records.specs.Records.{closed_up, head_of}
use Rattle.records.specs.Stage.{Stage, left_bytes}
use Rattle.image.proofs.Bytes.{byte_in_lem}
use Rattle.records.proofs.Images.{records_image}
use Rattle.records.proofs.Tasks.{result_read}
use Rattle.records.proofs.Heads.{closed_byte, ready_headed}
use Rattle.records.proofs.Leaves.{activated_image}
use Rattle.inplace.specs.Ends.{Decides, Does}

-- the first queue in which the counts tell of somebody
abbrev counted_first : List ℕ → ℕ
counted_first count = first_below priorities (λ p. ltb 0 (get_or count p 0))

module _ {n used : ℕ} {t : Table} {b count : List ℕ} (g : Stage n used n nobody t b count) where
  counted_first_lem : counted_first count ≡ first_ready t
  unfolding first_ready
  counted_first_lem = first_equal priorities _ _ (λ p low. ap (ltb 0) (g.counts p low))

  -- nobody is ready
  pub dispatch_none : (p : ℕ) → p ≡ counted_first count → priorities ≤ p
      → Decides (dispatched Keep t) (record { verdict = accepted; next = 0; result = Nothing }) b
  unfolding dispatched
  dispatch_none p e past =
      rw (le-ltb (first_ready t) priorities (omega (arith, e ∙ counted_first_lem)))
      (record { shown = refl; image = records_image n t b g.rules.size g.records })

  -- somebody is: p is the first ready queue, and s the slot at its head
  module _ (p s : ℕ) (first : p ≡ counted_first count) (low : p < priorities) (head : s ≡ head_of 2 at_priority p n b used) where
    some : 0 < (queue_at t (ready_queue p)).len
    some =
        let passes = (first_below_lem priorities (λ p. ltb 0 (get_or count p 0))).passes (omega arith) in
        omega (arith, ltb-true 0 (get_or count (counted_first count) 0) passes, ap (λ (p : ℕ). get_or count p 0) first, g.counts p low)

    found : s ≡ slot_of (place_at (queue_at t (ready_queue p)) 0)
    found = head ∙ ready_headed g p low some n

    pub head_below : s < n
    head_below =
        let l : slot_of (place_at (queue_at t (ready_queue p)) 0) < used = slot_used g.rules (rw (ready_head g.rules p low some)) in
        omega (arith, found, g.rules.tasks.fits)

    -- closing up leaves the result as it was
    closed_result : result_of (result_parts_in (record_at record_length (closed_up 2 at_priority p b used) s)) ≡ (task_at t s).result
    closed_result =
        let c = closed_up 2 at_priority p b used in
        let byte : (j : ℕ) → j < record_length → 3 < j → byte_in (record_at record_length c s) j ≡ byte_in (record_at record_length b s) j =
        λ j l m. byte_in_lem c s j l ∙ closed_byte g 2 at_priority p used s j l (λ e. omega arith) ∙ sym (byte_in_lem b s j l) in
        rw (
          byte 5 (omega arith) (omega arith),
          byte 14 (omega arith) (omega arith),
          byte 15 (omega arith) (omega arith),
          byte 16 (omega arith) (omega arith),
          byte 17 (omega arith) (omega arith),
          byte 18 (omega arith) (omega arith),
          byte 19 (omega arith) (omega arith),
        )
        (result_read g s head_below)

    -- what is written is the image of the table in which the head runs
    pub dispatch_some : (told : Outcome) (b' b'' : List ℕ) → b' ≡ closed_up 2 at_priority p b used
        → told ≡ result_of (result_parts_in (record_at record_length b' s)) → b'' ≡ left_bytes b' s Active Nothing 0
        → Decides (dispatched Keep t) (record { verdict = accepted; next = tid_of s; result = told }) b''
    unfolding dispatched
    dispatch_some told b' b'' closes read writes =
        let same : first_ready t ≡ p = sym counted_first_lem ∙ sym first in
        rw (same, lt-ltb p priorities low, ← found)
        (record {
          shown = λ i. record { verdict = accepted; next = tid_of s; result = (rw closes at read ∙ closed_result) i };
          image = writes ∙ ap (λ (x : List ℕ). left_bytes x s Active Nothing 0) closes ∙ (rw (← found) at (activated_image g p low some));
        })

-- what is done to the areas is only carried
pub dispatched_does : (t : Table) {a : Answer} {b : List ℕ} (e : Effect) → Decides (dispatched Keep t) a b
    → Does (dispatched e t) (record { answer = a; effect = e }) b
unfolding dispatched
dispatched_does t {a} {b} e d =
    by_test (ltb (first_ready t) priorities)
    (λ y. rw y (let d' = rw y at d in record { shown = d'.shown; effect = refl; image = d'.image }))
    (λ y. rw y (let d' = rw y at d in record { shown = d'.shown; effect = refl; image = d'.image }))
