-- What each way of a request leaves: the turn in place stands for the turn of the table that the bytes give. Here what all share, the
-- kinds that only tell a number, Exit and Create.
use Prim.Native.Nat.{ℕ, ◌+◌, ◌≤◌, ◌<◌}
use mathlib.Core.Path.{◌≡◌, refl, sym}
use mathlib.Core.Logic.{◌≢◌}
use mathlib.Core.Bool.{true, false}
use mathlib.Core.List.{List}
use native.Mathlib.Omega.{arith}
use lib.ListN.{get_or}
use lib.Seq.{get_or-set_other}
use borrow.Author.Tests.{le-leb, lt-leb}
use Rattle.tid.specs.Sizes.{priorities}
use Rattle.tid.specs.Tid.{mark_of, tid_of}
use Rattle.queue.specs.Numbering.{places, send_queue}
use Rattle.queue.specs.Row.{empty_row, alone_row}
use Rattle.task.specs.declared.task.Outcome.{Outcome}
use Rattle.task.specs.declared.task.Outcome.TheVariants.{Nothing, Fault}
use Rattle.task.specs.declared.task.State.{State}
use Rattle.task.specs.declared.task.State.TheVariants.{Ready, Exited}
use Rattle.task.specs.Task.{first_negative, no_task, is_active, is_ready, is_quiet}
use Rattle.kernel.specs.declared.table.Effect.TheVariants.{Keep}
use Rattle.kernel.specs.Table.{slots, task_at, queue_at, used_slots}
use Rattle.kernel.specs.Moves.{woken}
use Rattle.kernel.specs.Turn.{resumes, stops}
use Rattle.kernel.specs.Kinds.{number, new_task, create, my_tid, my_parent_tid, yield, exit}
use Rattle.rules.specs.Good.{good_result, good_state}
use Rattle.rules.proofs.Good.{used_slots_lem}
use Rattle.kept.proofs.Tasks.{code_at, same_code, is_free, free, apart, parent_before, value_good}
use Rattle.kept.proofs.Moves.{slot_used, waking_one}
use Rattle.kept.proofs.Woken.{wakes_none}
use Rattle.image.specs.Record.{at_parent, fields, byte_at}
use Rattle.image.specs.Image.{table_of}
use Rattle.image.proofs.Laws.{edition_read}
use Rattle.records.specs.Records.{with_record}
use Rattle.records.specs.Stage.{joined_bytes, joined_count}
use Rattle.records.specs.Woken.{woken_in}
use Rattle.records.proofs.Tasks.{byte_parent}
use Rattle.records.proofs.Replaces.{adds_stage}
use Rattle.records.proofs.Told.{sender_told}
use Rattle.inplace.specs.Ends.{Wakes, Begins, resumes_at, stops_at, Ends}
use Rattle.inplace.proofs.Ways.{Woke, nobody_woke, slot_woke, goes_on_ends, halts_ends}
use Rattle.inplace.proofs.Queues.{queue_wakes, queue_woke}

module _ {n ed used c : ℕ} {b count : List ℕ} (g : Begins n ed used c b count) (small : n < 255) (running : c < n) where
  pub caller_used : c < used
  caller_used = slot_used g.stage.rules (rw (g.runs running))

  nobody_wakes : Woke n ed used c n Nothing (empty_row places) Nothing (table_of n ed b) b count (table_of n ed b) b count
  nobody_wakes = nobody_woke g.stage small g.near g.runs (wakes_none (table_of n ed b) Nothing) (edition_read n ed b n)

  -- the caller goes on with a result
  pub resumes_ends : (o : Outcome) → good_result used o ≡ true → Ends n ed c (resumes (table_of n ed b) o) (resumes_at n used o) b count
  resumes_ends o good = goes_on_ends nobody_wakes Keep running o good

  number_ends : (v : ℕ) → v < first_negative → Ends n ed c (resumes (table_of n ed b) (number v)) (resumes_at n used (number v)) b count
  number_ends v low = resumes_ends (number v) (value_good used v 0 low (omega arith))

  pub my_tid_ends : Ends n ed c (my_tid (table_of n ed b) c) (resumes_at n used (number (tid_of c))) b count
  unfolding my_tid
  my_tid_ends = number_ends (tid_of c) (omega arith)

  pub my_parent_tid_ends : Ends n ed c (my_parent_tid (table_of n ed b) c) (resumes_at n used (number (byte_at b c at_parent))) b count
  unfolding my_parent_tid
  my_parent_tid_ends =
      let parent = (task_at (table_of n ed b) c).parent in
      let before : parent ≤ c = parent_before c parent (g.stage.rules.tasks.each c caller_used).parent in
      rw (byte_parent g.stage c running) (number_ends parent (omega arith))

  pub yield_ends : Ends n ed c (yield (table_of n ed b)) (resumes_at n used (number 0)) b count
  unfolding yield
  yield_ends = number_ends 0 (omega arith)

  -- the caller stops, and stands in no queue
  pub stops_ends : (st : State) → is_ready st ≡ false → is_free st ≡ true → is_active st ≡ false → good_state used c st ≡ true
      → (is_quiet st ≡ true → (queue_at (table_of n ed b) (send_queue c)).len ≡ 0)
      → Ends n ed c (stops (table_of n ed b) st) (stops_at n used st 0) b count
  stops_ends = halts_ends nobody_wakes Keep running

  -- Exit: whoever is queued at the caller is woken, and then nobody is
  senders : get_or count (send_queue c) 0 ≡ (queue_at (table_of n ed b) (send_queue c)).len
  senders = g.counted (send_queue c) (omega arith)

  pub exit_wakes : Wakes n used 4 (tid_of c) (get_or count (send_queue c) 0) (Fault 2) b count
  exit_wakes = rw senders (queue_wakes g small 4 (tid_of c) (send_queue c) (λ x f. sender_told f c running) (omega arith) (Fault 2) refl)

  pub exit_ends : let h = woken_in n used 4 (tid_of c) (Fault 2) b count (get_or count (send_queue c) 0) in
      Ends n ed c (exit (table_of n ed b) c) (stops_at n used Exited 0) h.bytes h.counts
  unfolding exit
  exit_ends =
      let (woke, none) = queue_woke g small 4 (tid_of c) (send_queue c) (λ x f. sender_told f c running) (omega arith) (Fault 2) refl in
      rw senders (halts_ends woke Keep running Exited refl refl refl refl (λ _. none))

  -- a free task is woken alone
  pub one_wakes : (s code : ℕ) (told : Outcome) → code_at (table_of n ed b) s ≡ code → is_free (task_at (table_of n ed b) s).state ≡ true → code ≢ 1 → good_result used told ≡ true
      → Woke n ed used c s told (alone_row (mark_of s)) told (table_of n ed b) b count (woken (table_of n ed b) (mark_of s) told) (joined_bytes b count s told) (joined_count b count s)
  one_wakes s code told is free_one other good =
      let old = g.stage in
      let l : s < used = slot_used old.rules (free n (task_at (table_of n ed b) s) free_one).in_use in
      slot_woke (record { rules = waking_one old.rules s free_one; records = old.records; counts = old.counts; long = old.long }) (edition_read n ed b n)
      small g.near g.runs told l (apart (table_of n ed b) 1 code (g.runs running) is (λ e. other (sym e))) good

  -- Create.
  module _ (p entry : ℕ) where
    pub create_unknown : priorities ≤ p → Ends n ed c (create (table_of n ed b) c p entry) (resumes_at n used (Fault 1)) b count
    unfolding create
    create_unknown past = rw (le-leb priorities p past) (resumes_ends (Fault 1) refl)

    module _ (low : p < priorities) where
      first_free : used_slots (table_of n ed b) ≡ used
      first_free = used_slots_lem g.stage.rules

      pub create_full : n ≤ used → Ends n ed c (create (table_of n ed b) c p entry) (resumes_at n used (Fault 2)) b count
      unfolding create
      create_full full =
          rw (lt-leb priorities p low, first_free, le-leb (slots (table_of n ed b)) used (omega (arith, g.stage.rules.size))) (resumes_ends (Fault 2) refl)

      -- the new task is woken, and the caller goes on behind it
      pub create_adds : used < n → Ends n ed c (create (table_of n ed b) c p entry)
          (record { used = used + 1; woken = used; told = Nothing; state = Ready; place = 0; result = number (tid_of used); effect = Keep })
          (with_record b used (fields (new_task p entry c) (get_or count p 0))) count
      unfolding create
      create_adds room =
          let x = new_task p entry c in
          let other : c ≢ used = λ e. omega (arith, caller_used) in
          let added = rw first_free at (adds_stage g.stage p entry c room low caller_used) in
          rw (lt-leb priorities p low, first_free, lt-leb (slots (table_of n ed b)) used (omega (arith, g.stage.rules.size)))
          (goes_on_ends
          (slot_woke added (edition_read n ed b n) small g.near (λ _. same_code (get_or-set_other (table_of n ed b).tasks used c x no_task other) (g.runs running)) Nothing (omega arith) other refl)
          Keep running (number (tid_of used)) (value_good (used + 1) (tid_of used) 0 (omega arith) (omega arith)))
