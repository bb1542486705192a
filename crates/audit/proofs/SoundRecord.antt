-- The record of a used slot is sound exactly where it is what its task is written as, and its task keeps the rules of one slot; and
-- the queue that a record's bytes tell is its task's.
use Prim.Native.Nat.{ℕ, suc, ◌+◌, ◌^◌, ◌<◌}
use mathlib.Core.Path.{◌≡◌, refl, sym, ◌∙◌}
use mathlib.Core.Logic.{◌≢◌}
use mathlib.Core.Bool.{Bool, true, false, not, ◌&&◌, ◌||◌, and-true, and-false, and_comm, and_assoc}
use mathlib.Core.List.{List}
use native.Mathlib.Numerals.{add-two}
use native.Mathlib.Omega.{arith}
use lib.Dec.{eqb, ltb, leb}
use borrow.Author.Tests.{eqb-true, eq-eqb, ne_eqb, ltb-true, lt-ltb, le-leb}
use Rattle.queue.specs.Choose.{choose}
use Rattle.queue.specs.Numbering.{ready_queue, event_queue, send_queue, queues_for}
use Rattle.queue.proofs.Below.{both_true, true_both, by_test, same_test}
use Rattle.tid.specs.Sizes.{priorities, events}
use Rattle.tid.specs.Tid.{slot_named}
use Rattle.task.specs.declared.task.Buffer.{Buffer}
use Rattle.task.specs.declared.task.Outcome.{Outcome}
use Rattle.task.specs.declared.task.State.{State}
use Rattle.task.specs.Task.{first_negative, no_task, is_word, good_buffer, is_ready}
use Rattle.task.specs.Result.{negated}
use Rattle.task.specs.Standing.{queue_of}
use Rattle.task.proofs.Tests.{chosen, clash}
use Rattle.kernel.specs.Edition.{may_wait}
use Rattle.rules.specs.Good.{good_result, is_nothing, good_parent, good_state, good_used}
use Rattle.image.specs.declared.fields.ResultParts.{ResultParts}
use Rattle.image.specs.Bytes.{number_in, record_at}
use Rattle.image.specs.ResultParts.{result_parts_of}
use Rattle.image.specs.Record.{record_length, at_state, at_priority, at_parent, at_place, at_awaited, at_message, at_reply, at_word, at_entry, byte_in, buffer_in, parts_of, parts_in, result_parts_in, state_from, result_of, used_from, task_from}
use Rattle.image.specs.Exact.{same_parts, same_result_parts, exact_place, exact_record}
use Rattle.image.proofs.Bytes.{byte_in_lem}
use Rattle.image.proofs.Made.{tests, eqb_same, cut_exact}
use Rattle.image.proofs.Rebuilt.{Bytes, number_small}
use Rattle.audit.specs.Survey.{queue_in}
use Rattle.audit.specs.Sound.{blank_word, result_sound, no_result, target_sound, waiter_sound, unplaced_sound, fields_sound, record_sound}

-- Tests that all pass, in another order.

and_left : (a b c : Bool) → (a && (b && c)) ≡ (b && (a && c))
and_left true b c = refl
and_left false b c = sym (and-false b)

ruleset sorted = (and_assoc, and_comm, and_left)

unplaced_order : (e x i p g : Bool) → (x && i && (p && (e && g))) ≡ (e && x && p && (g && i) && true)
unplaced_order e x i p g = simp (and-true, sorted)

receiver_order : (x i t m r : Bool) → (x && i && (t && m && r)) ≡ (x && true && (m && r && t && true && i) && true)
receiver_order x i t m r = simp (and-true, sorted)

waiter_order : (x i l w ms ml rs rl : Bool)
    → (x && (i && (l && (ms && (ml && (rs && (rl && w))))))) ≡ (ms && (ml && (rs && (rl && (x && (l && (i && w)))))))
waiter_order x i l w ms ml rs rl = simp sorted

-- n tells whether the entry number fits its word: it always does
record_order : (p z e x k g i w : Bool) {n : Bool} → n ≡ true
    → (p && z && (e && x && k && (g && i) && w)) ≡ (e && x && k && (p && z && g && i && n) && w)
record_order p z e x k g i w fits = rw fits (simp (and-true, sorted))

-- three tests that fail
skipped : (a b c n z : Bool) {two four six : Bool} → two ≡ false → four ≡ false → six ≡ false
    → choose two a (n && choose four b (choose six c z)) ≡ (n && z)
skipped a b c n z e f g = rw (e, f, g)

-- the four bytes of a buffer are 0 exactly where its two numbers are
blank_buffer : (r : List ℕ) (at : ℕ) → blank_word r at ≡ (eqb (buffer_in r at).start 0 && eqb (buffer_in r at).len 0)
blank_buffer r at =
    let word = number_in r at 4 in
    let start = number_in r at 2 in
    let len = number_in r (suc (suc at)) 2 in
    rw add-two
    (same_test
    (λ h. let z = eqb-true word 0 h in true_both (eq-eqb start 0 (omega arith)) (eq-eqb len 0 (omega arith)))
    (λ h. let (e₁, e₂) = both_true (eqb start 0) (eqb len 0) h in eq-eqb word 0 (omega (arith, eqb-true start 0 e₁, eqb-true len 0 e₂))))

-- A result that is exact and good, and one that is exact and nothing, by its kind.

result_sound_lem : (used : ℕ) (o : ResultParts) → o.word < 2 ^ 32
    → choose (eqb o.kind 0) (eqb o.from 0 && eqb o.cut 0 && eqb o.word 0)
    (choose (eqb o.kind 1) (leb o.cut 1 && ltb o.word first_negative && leb o.from used)
    (eqb o.kind 2 && eqb o.from 0 && eqb o.cut 0 && ltb (negated 4) o.word))
    ≡ (same_result_parts (result_parts_of (result_of o)) o && good_result used (result_of o))
result_sound_lem used o small =
    let kind = o.kind in
    let word = o.word in
    by_test (eqb kind 1) (λ e. rw (eqb-true kind 1 e) (simp (cut_exact, tests)))
    (λ n₁. by_test (eqb kind 2)
    (λ e. rw (eqb-true kind 2 e)
    (by_test (ltb (negated 4) word)
    (λ l.
    let above = ltb-true (negated 4) word l in
    let again = eq-eqb (negated (negated word)) word (omega arith) in
    rw (l, again, le-leb 1 (negated word) (omega arith), le-leb (negated word) 3 (omega arith)) (simp tests))
    (λ l. rw l (simp tests))))
    (λ n₂. rw (n₁, n₂) (by_test (eqb kind 0) (λ z. simp (tests, z)) (λ z. simp (tests, z)))))

no_result_lem : (o : ResultParts)
    → (eqb o.kind 0 && eqb o.from 0 && eqb o.cut 0 && eqb o.word 0)
    ≡ (same_result_parts (result_parts_of (result_of o)) o && is_nothing (result_of o))
no_result_lem o =
    let kind = o.kind in
    by_test (eqb kind 1) (λ e. rw (eqb-true kind 1 e) (simp tests))
    (λ n₁. by_test (eqb kind 2)
    (λ e. rw (eqb-true kind 2 e) (by_test (ltb (negated 4) o.word) (λ l. rw l (simp tests)) (λ l. rw l (simp tests))))
    (λ n₂. rw (n₁, n₂) (simp tests)))

-- A state and what it holds, by its code.

-- the state that the numbers of a record give
abbrev state_of : ℕ → ℕ → Buffer → Buffer → State
state_of code awaited message reply = state_from (record { code = code; awaited = awaited; message = message; reply = reply })

-- whether it has the same numbers
abbrev exact_state : ℕ → ℕ → Buffer → Buffer → Bool
exact_state code awaited message reply =
    same_parts (parts_of (state_of code awaited message reply)) (record { code = code; awaited = awaited; message = message; reply = reply })

-- what is asked of a state in which a task stands in no queue, beside its number; m and r tell whether its buffers are 0
abbrev unplaced_held : ℕ → Buffer → Buffer → Bool → Bool → Bool
unplaced_held code message reply m r =
    choose (eqb code 3) (good_buffer message && r)
    (choose (eqb code 5) (m && good_buffer reply)
    ((eqb code 1 || eqb code 7) && (m && r)))

-- a task that waits for an event has a place that the edition lets it have
abbrev pub place_fits : ℕ → ℕ → ℕ → Bool
place_fits ed code place = not (eqb code 6) || may_wait ed (place + 1)

module _ (code awaited : ℕ) (message reply : Buffer) where
  -- only code 2 is ready
  not_ready : eqb code 2 ≡ false → is_ready (state_of code awaited message reply) ≡ false
  not_ready n₂ =
      let P : State → Type 0 = λ x. is_ready x ≡ false in
      chosen P (eqb code 1) (λ _. refl)
      (λ _. chosen P (eqb code 2) (λ e. clash e n₂)
      (λ _. chosen P (eqb code 3) (λ _. refl)
      (λ _. chosen P (eqb code 4) (λ _. refl)
      (λ _. chosen P (eqb code 5) (λ _. refl)
      (λ _. chosen P (eqb code 6) (λ _. refl)
      (λ _. chosen P (eqb code 7) (λ _. refl)
      (λ _. refl)))))))

  module _ (used s : ℕ) {m r : Bool} (some : eqb code 0 ≡ false)
      (em : m ≡ (eqb message.start 0 && eqb message.len 0)) (er : r ≡ (eqb reply.start 0 && eqb reply.len 0)) where
    -- a state in which a task stands in no queue is exact and good
    unplaced_sound_lem : eqb code 2 ≡ false → eqb code 4 ≡ false → eqb code 6 ≡ false
        → (eqb awaited 0 && unplaced_held code message reply m r)
        ≡ (exact_state code awaited message reply && good_state used s (state_of code awaited message reply))
    unplaced_sound_lem n₂ n₄ n₆ =
        by_test (eqb code 1) (λ e. rw (eqb-true code 1 e) (simp (em, er, tests)))
        (λ n₁. by_test (eqb code 3) (λ e. rw (eqb-true code 3 e, and_comm (good_buffer message) r) (simp (er, tests)))
        (λ n₃. by_test (eqb code 5) (λ e. rw (eqb-true code 5 e) (simp (em, tests)))
        (λ n₅. by_test (eqb code 7) (λ e. rw (eqb-true code 7 e) (simp (em, er, tests)))
        (λ n₇. rw (n₁, n₂, n₃, n₄, n₅, n₆, n₇) (simp (some, tests))))))

    -- and any state with its place and its result: x tells whether the result is exact, g whether it is good, i whether it is nothing
    state_sound : (ed place : ℕ) (x g i n t : Bool) → n ≡ (x && i) → t ≡ (x && g)
        → choose (eqb code 2) (eqb awaited 0 && (m && r) && t)
        (n
        && choose (eqb code 4) (target_sound used s awaited && good_buffer message && good_buffer reply)
        (choose (eqb code 6) (ltb awaited events && (m && r) && may_wait ed (place + 1))
        (eqb place 0 && eqb awaited 0 && unplaced_held code message reply m r)))
        ≡ (exact_state code awaited message reply && x && exact_place code place
        && (good_state used s (state_of code awaited message reply) && choose (is_ready (state_of code awaited message reply)) g i)
        && place_fits ed code place)
    state_sound ed place x g i n t en et =
        by_test (eqb code 2) (λ e. rw (eqb-true code 2 e) (simp (em, er, et, tests)))
        (λ n₂. by_test (eqb code 4)
        (λ e. rw (eqb-true code 4 e, en) (simp eqb_same (receiver_order x i (target_sound used s awaited) (good_buffer message) (good_buffer reply))))
        (λ n₄. by_test (eqb code 6)
        (λ e. rw (eqb-true code 6 e, en) (simp (em, er, tests)
        (waiter_order x i (ltb awaited events) (may_wait ed (place + 1))
        (eqb message.start 0) (eqb message.len 0) (eqb reply.start 0) (eqb reply.len 0))))
        (λ n₆.
        let exact = exact_state code awaited message reply in
        let st = state_of code awaited message reply in
        let placed : exact_place code place ≡ eqb place 0 = rw (n₂, n₄, n₆) in
        let fits : place_fits ed code place ≡ true = rw n₆ in
        let sending = target_sound used s awaited && good_buffer message && good_buffer reply in
        let waiting = ltb awaited events && (m && r) && may_wait ed (place + 1) in
        let held = unplaced_held code message reply m r in
        skipped (eqb awaited 0 && (m && r) && t) sending waiting n (eqb place 0 && eqb awaited 0 && held) n₂ n₄ n₆
        ∙ rw (en, and_assoc (eqb place 0) (eqb awaited 0) held, unplaced_sound_lem n₂ n₄ n₆, not_ready n₂, placed, fits)
        (unplaced_order exact x i (eqb place 0) (good_state used s st)))))

-- so what the fields are asked is what the record and its task are asked beside the priority, the parent and the entry number
module _ (ed used s : ℕ) (r : List ℕ) (small : Bytes r) (none : eqb (byte_in r at_state) 0 ≡ false) where
  fields_sound_lem : let o = result_parts_in r in
      let st = state_from (parts_in r) in
      fields_sound ed used s r
      ≡ (same_parts (parts_of st) (parts_in r) && same_result_parts (result_parts_of (result_of o)) o && exact_place (byte_in r at_state) (byte_in r at_place)
      && (good_state used s st && choose (is_ready st) (good_result used (result_of o)) (is_nothing (result_of o)))
      && place_fits ed (byte_in r at_state) (byte_in r at_place))
  unfolding fields_sound waiter_sound unplaced_sound result_sound
  fields_sound_lem =
      let o = result_parts_in r in
      let result = result_of o in
      state_sound (byte_in r at_state) (byte_in r at_awaited) (buffer_in r at_message) (buffer_in r at_reply) used s none
      (blank_buffer r at_message) (blank_buffer r at_reply)
      ed (byte_in r at_place) (same_result_parts (result_parts_of result) o) (good_result used result) (is_nothing result) (no_result r) (result_sound used r)
      (no_result_lem o) (result_sound_lem used o (number_small 4 at_word r small))

-- the test of the bytes is that of the record and its task, and of its place if it waits for an event
pub sound_record : (ed used s : ℕ) (r : List ℕ) → Bytes r → byte_in r at_state ≢ 0
    → record_sound ed used s r ≡ (exact_record r && good_used used s (task_from r) && place_fits ed (byte_in r at_state) (byte_in r at_place))
unfolding record_sound exact_record task_from used_from
sound_record ed used s r small some =
    let none = ne_eqb (byte_in r at_state) 0 some in
    let o = result_parts_in r in
    let st = state_from (parts_in r) in
    let entry : is_word (number_in r at_entry 4) ≡ true = lt-ltb (number_in r at_entry 4) (2 ^ 32) (number_small 4 at_entry r small) in
    rw (none, fields_sound_lem ed used s r small none)
    (record_order (ltb (byte_in r at_priority) priorities) (good_parent s (byte_in r at_parent))
    (same_parts (parts_of st) (parts_in r)) (same_result_parts (result_parts_of (result_of o)) o) (exact_place (byte_in r at_state) (byte_in r at_place))
    (good_state used s st) (choose (is_ready st) (good_result used (result_of o)) (is_nothing (result_of o)))
    (place_fits ed (byte_in r at_state) (byte_in r at_place)) entry)

-- the queue that a task stands in, by the code of its state
queue_told : (none code priority parent awaited entry : ℕ) (message reply : Buffer) (result : Outcome)
    → choose (eqb code 2) (ready_queue priority)
    (choose (eqb code 4) (send_queue (slot_named awaited)) (choose (eqb code 6) (event_queue awaited) none))
    ≡ queue_of none (choose (eqb code 0) no_task (record { state = state_of code awaited message reply; priority = priority; parent = parent; entry = entry; result = result }))
unfolding queue_of
queue_told none code priority parent awaited entry message reply result =
    by_test (eqb code 1) (λ e. rw (eqb-true code 1 e))
    (λ n₁. by_test (eqb code 2) (λ e. rw (eqb-true code 2 e))
    (λ n₂. by_test (eqb code 3) (λ e. rw (eqb-true code 3 e))
    (λ n₃. by_test (eqb code 4) (λ e. rw (eqb-true code 4 e))
    (λ n₄. by_test (eqb code 5) (λ e. rw (eqb-true code 5 e))
    (λ n₅. by_test (eqb code 6) (λ e. rw (eqb-true code 6 e))
    (λ n₆. by_test (eqb code 7) (λ e. rw (eqb-true code 7 e))
    (λ n₇. by_test (eqb code 0) (λ e. rw (eqb-true code 0 e))
    (λ n₀. rw (n₀, n₁, n₂, n₃, n₄, n₅, n₆, n₇)))))))))

-- the queue that the bytes tell is that of the task
pub queue_read : (n : ℕ) (b : List ℕ) (s : ℕ) → queue_in n b s ≡ queue_of (queues_for n) (task_from (record_at record_length b s))
unfolding queue_in task_from used_from
queue_read n b s =
    let r = record_at record_length b s in
    rw (← byte_in_lem b s at_state (omega arith), ← byte_in_lem b s at_priority (omega arith), ← byte_in_lem b s at_awaited (omega arith))
    (queue_told (queues_for n) (byte_in r at_state) (byte_in r at_priority) (byte_in r at_parent) (byte_in r at_awaited) (number_in r at_entry 4) (buffer_in r at_message) (buffer_in r at_reply) (result_of (result_parts_in r)))
