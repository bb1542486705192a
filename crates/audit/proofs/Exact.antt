-- What records tell of the table that is read from them, and what they tell of it where they are exact.
use Prim.Native.Nat.{ℕ, ◌*◌, ◌≤◌, ◌<◌}
use mathlib.Core.Path.{◌≡◌, sym, ap, ◌∙◌}
use mathlib.Core.Bool.{true}
use mathlib.Core.List.{List}
use native.Mathlib.Omega.{arith}
use native.Mathlib.Decide.{dec_lt}
use lib.ListN.{length, get_or, length-take, length-drop, get_or-eq_default}
use lib.Dec.{eqb}
use borrow.Author.Tests.{ne_eqb, eq-eqb, eqb-true, ltb-false}
use Rattle.queue.specs.Numbering.{queues_for}
use Rattle.queue.specs.Placed.{made_rows}
use Rattle.queue.proofs.Below.{by_test, all_below_lem, below_all}
use Rattle.queue.proofs.Made.{RowsMade, rows_made}
use Rattle.task.specs.Task.{no_task, state_code, is_used}
use Rattle.kernel.specs.Table.{task_at}
use Rattle.rules.specs.Facts.{standing}
use Rattle.image.specs.Bytes.{record_at}
use Rattle.image.specs.Record.{record_length, at_state, at_place, byte_in, byte_at, task_record, task_from}
use Rattle.image.specs.Image.{table_of}
use Rattle.image.specs.Exact.{exact_record}
use Rattle.image.proofs.Bytes.{byte_in_lem, same_true}
use Rattle.image.proofs.Exact.{part_small}
use Rattle.image.proofs.Placed.{task_read, queues_made, place_byte}
use Rattle.image.proofs.Rebuilt.{Bytes, kept_place, exact_record_lem}
use Rattle.image.proofs.Shape.{table_shaped}
use Rattle.audit.specs.Survey.{queue_in, count_up_to}
use Rattle.audit.proofs.SoundRecord.{queue_read}
use Rattle.audit.proofs.Below.{below_rest}
use Rattle.audit.proofs.Counts.{count_is}
use Rattle.audit.proofs.Ranks.{Filled}

-- an exact record is what its task is written as, so that it has the code of that
module _ (r : List ℕ) (size : length r ≡ record_length) (small : Bytes r) (e : exact_record r ≡ true) where
  again : task_record (task_from r) (kept_place r) ≡ r
  again = same_true _ r (sym (exact_record_lem r size small) ∙ e)

  exact_code : state_code (task_from r).state ≡ byte_in r at_state
  unfolding task_record
  exact_code =
      let code = state_code (task_from r).state in
      by_test (is_used (task_from r).state)
      (λ u. ap (λ (l : List ℕ). get_or l at_state 0) (rw u at again))
      (λ u.
      let none : 0 ≡ byte_in r at_state = ap (λ (l : List ℕ). get_or l at_state 0) (rw u at again) in
      omega (arith, ltb-false 0 code u))

-- a record whose code is 0 is exact exactly where it is blank, and it gives no task and stands in no queue
module _ (b : List ℕ) (s : ℕ) (none : byte_at b s at_state ≡ 0) where
  code_none : byte_in (record_at record_length b s) at_state ≡ 0
  code_none = byte_in_lem b s at_state (omega arith) ∙ none

  pub blank_exact : ((j : ℕ) → j < record_length → byte_at b s j ≡ 0) → exact_record (record_at record_length b s) ≡ true
  unfolding exact_record
  blank_exact blank =
      rw code_none
      (below_all record_length (λ i. eqb (get_or (record_at record_length b s) i 0) 0)
      (λ j h. eq-eqb _ 0 (byte_in_lem b s j h ∙ blank j h)))

  pub exact_blank : exact_record (record_at record_length b s) ≡ true → (j : ℕ) → j < record_length → byte_at b s j ≡ 0
  unfolding exact_record
  exact_blank e j h =
      let all : _ ≡ true = rw code_none at e in
      sym (byte_in_lem b s j h)
      ∙ eqb-true _ 0 (all_below_lem record_length (λ i. eqb (get_or (record_at record_length b s) i 0) 0) all j h)

  pub task_none : task_from (record_at record_length b s) ≡ no_task
  unfolding task_from
  task_none = rw code_none

  pub queue_none : (n : ℕ) → queue_in n b s ≡ queues_for n
  unfolding queue_in
  queue_none n = rw none

-- past the last slot there is no task
pub task_past : (n ed : ℕ) (b : List ℕ) (s : ℕ) → n ≤ s → task_at (table_of n ed b) s ≡ no_task
task_past n ed b s g = get_or-eq_default (table_of n ed b).tasks no_task (omega (arith, (table_shaped n ed b n).tasks))

module _ (n ed : ℕ) (b : List ℕ) (whole : length b ≡ n * record_length) where
  -- the task of any slot is its record's, and its queue too
  pub task_is : (s : ℕ) → task_at (table_of n ed b) s ≡ task_from (record_at record_length b s)
  task_is s = elim (dec_lt s n) [
    | yes l ↦ task_read n ed b n s (omega arith) l
    | no g ↦ task_past n ed b s (omega arith) ∙ sym (task_none b s (get_or-eq_default b 0 (omega arith)))
  ]

  pub keys_are : (λ s. standing n (task_at (table_of n ed b) s)) ≡ queue_in n b
  keys_are = λ i s. (ap (standing n) (task_is s) ∙ sym (queue_read n b s)) i

  rows_are : RowsMade (queues_for n) n (queue_in n b) (λ s. byte_at b s at_place) (table_of n ed b).queues
  rows_are =
      let made : (table_of n ed b).queues ≡ made_rows (queues_for n) n (queue_in n b) (λ s. byte_at b s at_place) n =
      queues_made n ed b n ∙ (λ i. made_rows (queues_for n) n (λ s. sym (queue_read n b s) i) (λ s. place_byte b s i) n) in
      rw made (rows_made (queues_for n) n (queue_in n b) (λ s. byte_at b s at_place) n)

  -- the rows are made from the records; where those from u on are unused, the first pass counts who stands in them
  pub rows_filled : (u : ℕ) → u ≤ n → ((s : ℕ) → u ≤ s → s < n → byte_at b s at_state ≡ 0)
      → Filled (queues_for n) n (λ k. get_or (count_up_to n b u) k 0) (queue_in n b) (λ s. byte_at b s at_place) (table_of n ed b).queues
  rows_filled u h rest =
      record {
        made = rows_are;
        shaped = (table_shaped n ed b n).queues;
        counted = λ k l.
            count_is n b u k l
            ∙ below_rest (λ s. eqb (queue_in n b s) k) u n h
            (λ s g m. ne_eqb (queue_in n b s) k (λ e. omega (arith, queue_none b s (rest s g m) n)));
      }

  module _ (small : Bytes b) (s : ℕ) (h : s < n) where
    record_size : length (record_at record_length b s) ≡ record_length
    record_size = rw (length-take, length-drop) (omega arith)

    pub record_small : Bytes (record_at record_length b s)
    record_small = part_small b small (s * record_length) record_length

    pub code_is : exact_record (record_at record_length b s) ≡ true → state_code (task_at (table_of n ed b) s).state ≡ byte_at b s at_state
    code_is e = rw (task_is s) (exact_code _ record_size record_small e ∙ byte_in_lem b s at_state (omega arith))
