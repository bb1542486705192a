-- Bytes are the image of a good table exactly where the table that they give is good and each record is exact.
use Rattle.std.proofs.Common.{◌≡◌, ℕ, ◌+◌, ◌*◌, ◌<◌, ◌≤◌, true, ◌&&◌, List, length, take, drop, sym, ap, ◌∙◌, ap₂, le_refl, arith, length-take, get_or-drop, take_all, get_or-take, ltb-true, eq-eqb, eqb-true}
use mathlib.Core.Bool.{and_comm, false≢true}
use native.Mathlib.Decide.{dec_lt}
use lib.ListN.{get_or-eq_default}
use Rattle.queue.specs.Choose.{choose}
use Rattle.tid.specs.Sizes.{events}
use Rattle.queue.specs.Numbering.{event_queue, send_queue, queues_for}
use Rattle.tid.specs.Tid.{mark_of, slot_named}
use Rattle.queue.specs.Row.{place_at, place_of}
use Rattle.queue.proofs.Below.{by_test, same_test, all_below_lem, below_all}
use Rattle.queue.proofs.Facts.{slot_place}
use Rattle.task.specs.Task.{state_code, awaited, is_used, is_ready, is_receive_blocked, is_event_blocked}
use Rattle.task.specs.Standing.{queue_of}
use Rattle.task.proofs.Stands.{stands_nowhere}
use Rattle.kernel.specs.declared.table.Table.{Table}
use Rattle.kernel.specs.Numbers.{accepted, bad_table}
use Rattle.kernel.specs.Table.{task_at, queue_at, slots, used_slots}
use Rattle.rules.specs.declared.Checked.{Checked}
use Rattle.rules.specs.Good.{good_table}
use Rattle.rules.specs.Facts.{UsedFacts, standing, Good}
use Rattle.rules.proofs.States.{state_facts}
use Rattle.rules.proofs.Good.{good_facts}
use Rattle.rules.proofs.Made.{placed_good}
use Rattle.image.specs.declared.stored.Decoded.{Decoded}
use Rattle.image.specs.Bytes.{in_order, record_at, same}
use Rattle.image.specs.Record.{record_length, stored_place, task_record, record_of, place_read}
use Rattle.image.specs.Image.{image_of, table_of, is_image, judged_image}
use Rattle.image.specs.Exact.{exact_record, exact_up_to, decoded_of, checked_placed}
use Rattle.image.proofs.Bytes.{record_at_in_order, same_true, same_refl}
use Rattle.image.proofs.Fitted.{records_all, in_order_same, length_record}
use Rattle.image.proofs.Stands.{stored_in, stored_none}
use Rattle.image.proofs.Record.{length_record_of}
use Rattle.image.proofs.Rebuilt.{Bytes, place_kept, kept_place, exact_record_lem}
use Rattle.image.proofs.Shape.{table_shaped}
use Rattle.image.proofs.Placed.{task_read, table_made, place_found}

pub part_small : (bytes : List ℕ) → Bytes bytes → (at k : ℕ) → Bytes (take k (drop at bytes))
part_small bytes small at k i = elim (dec_lt i k) [
  | yes l ↦ rw (get_or-take, get_or-drop) (small (at + i))
  | no g ↦
      let past : length (take k (drop at bytes)) ≤ i = rw length-take (omega arith) in
      omega (arith, get_or-eq_default (take k (drop at bytes)) 0 {n = i} past)
]

pub image_is : (t : Table) (n : ℕ) → slots t ≡ n → image_of t ≡ in_order (record_of t) n
unfolding image_of
image_is t n e = rw e

pub record_found : (t : Table) (s : ℕ) → s < slots t → record_at record_length (image_of t) s ≡ record_of t s
unfolding image_of
record_found t s l = record_at_in_order record_length (record_of t) (length_record_of t) (slots t) s l

module _ (n ed : ℕ) (bytes : List ℕ) where
  module _ (g : Good n (table_of n ed bytes)) (s : ℕ) (l : s < n) where
    used : is_used (task_at (table_of n ed bytes) s).state ≡ true → UsedFacts (used_slots (table_of n ed bytes)) s (task_at (table_of n ed bytes) s)
    used e = elim (dec_lt s (used_slots (table_of n ed bytes))) [
      | yes h ↦ g.rules.tasks.each s h
      | no h ↦ absurd (false≢true (rw (g.rules.tasks.unused s (omega arith)) at e))
    ]

    -- the slot's own place in its queue, by the rules
    own : (k : ℕ) → standing n (task_at (table_of n ed bytes) s) ≡ k → k < queues_for n
        → let q = queue_at (table_of n ed bytes) k in
        (stored_place (table_of n ed bytes) s ≡ place_of q (mark_of s)) × (place_of q (mark_of s) < q.len) × (place_at q (place_of q (mark_of s)) ≡ mark_of s)
    own k e h =
        let lined = g.rules.lined in
        let inside : k < length (table_of n ed bytes).queues = omega (arith, lined.shaped.count) in
        let at = slot_place (lined.holds.row k inside) s l (eq-eqb _ k e) in
        (stored_in n (table_of n ed bytes) s g.rules.size e h, at.0, at.1)

    queue_place : (k : ℕ) → standing n (task_at (table_of n ed bytes) s) ≡ k → k < queues_for n → stored_place (table_of n ed bytes) s ≡ place_read bytes s
    queue_place k e h =
        let (at, _, here) = own k e h in
        at ∙ sym (place_found n ed bytes k _ s h here)

    place_is_read : stored_place (table_of n ed bytes) s ≡ kept_place (record_at record_length bytes s)
    unfolding queue_of
    place_is_read =
        let t = table_of n ed bytes in
        let x = task_at t s in
        let kept = ap (place_kept (record_at record_length bytes s)) (task_read n ed bytes n s (omega arith) l) in
        let stands : stored_place t s ≡ place_kept (record_at record_length bytes s) x =
        by_test (is_ready x.state)
        (λ r.
        let two = eqb-true (state_code x.state) 2 r in
        rw two (queue_place x.priority (rw two) (omega (arith, (used (rw two)).priority))))
        (λ r. by_test (is_receive_blocked x.state)
        (λ q.
        let four = eqb-true (state_code x.state) 4 q in
        let target = (state_facts _ s x.state (used (rw four)).state).target q in
        rw four (queue_place (send_queue (slot_named (awaited x.state))) (rw four) (omega (arith, target, g.rules.tasks.fits))))
        (λ q. by_test (is_event_blocked x.state)
        (λ v.
        let six = eqb-true (state_code x.state) 6 v in
        let event = (state_facts _ s x.state (used (rw six)).state).event v in
        rw six (queue_place (event_queue (awaited x.state)) (rw six) (omega (arith, ltb-true (awaited x.state) events event))))
        (λ v. rw (r, q, v) (stored_none n t s g.rules.size (stands_nowhere (queues_for n) x r q v) (le_refl (queues_for n)))))) in
        stands ∙ kept

    -- so a slot is written as the record that it was read from, exactly where that is exact
    record_again : length bytes ≡ n * record_length → Bytes bytes
        → exact_record (record_at record_length bytes s) ≡ same (record_of (table_of n ed bytes) s) (record_at record_length bytes s)
    record_again whole small =
        let r = record_at record_length bytes s in
        let size = length_record n record_length bytes s l whole in
        let again = ap₂ task_record (task_read n ed bytes n s (omega arith) l) place_is_read in
        exact_record_lem r size (part_small bytes small (s * record_length) record_length) ∙ ap (λ (x : List ℕ). same x r) (sym again)

-- every record is exact, or the image is another
pub image_exact : (n ed : ℕ) (bytes : List ℕ) → length bytes ≡ n * record_length → Bytes bytes
    → is_image n ed bytes ≡ (good_table (table_of n ed bytes) && exact_up_to bytes n)
unfolding is_image
image_exact n ed bytes whole small =
    let t = table_of n ed bytes in
    let count = (table_shaped n ed bytes n).tasks in
    by_test (good_table t)
    (λ good.
    let g = good_facts n t (table_shaped n ed bytes n) good in
    rw good
    (same_test
    (λ h.
    let image = same_true (image_of t) bytes h in
    below_all n (λ s. exact_record (record_at record_length bytes s))
    (λ s l. record_again n ed bytes g s l whole small
    ∙ ap (λ (x : List ℕ). same (record_of t s) x) (ap (λ (b : List ℕ). record_at record_length b s) (sym image) ∙ record_found t s (omega arith))
    ∙ same_refl (record_of t s)))
    (λ h.
    let each = all_below_lem n (λ s. exact_record (record_at record_length bytes s)) h in
    let all = in_order_same (record_of t) (record_at record_length bytes) n (λ s l. same_true _ _ (sym (record_again n ed bytes g s l whole small) ∙ each s l)) in
    rw (image_is t n count, all, records_all record_length bytes n, take_all (n * record_length) bytes (omega arith)) (same_refl bytes))))
    (λ bad. rw bad)

-- what is given, by what is asked of the decoded table, whose rows were made from the records
pub given_placed : (n ed : ℕ) (bytes : List ℕ) → length bytes ≡ n * record_length → Bytes bytes → {d : Decoded} {k : Checked} {verdict : ℕ}
    → d ≡ decoded_of n ed bytes
    → k ≡ checked_placed d.table bytes
    → verdict ≡ choose (d.exact && k.good) accepted bad_table
    → record { table = d.table; active = k.active; verdict = verdict } ≡ judged_image n ed bytes
given_placed n ed bytes whole small decoded checked verdict =
    let t = table_of n ed bytes in
    rw (
      verdict,
      checked,
      decoded,
      image_exact n ed bytes whole small,
      placed_good n t (place_read bytes) (table_made n ed bytes),
    )
    (rw (and_comm (good_table t) (exact_up_to bytes n)))
