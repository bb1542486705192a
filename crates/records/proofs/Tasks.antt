-- What the bytes tell of a task.
use Prim.Native.Nat.{ℕ, ◌<◌}
use mathlib.Core.Path.{◌≡◌, refl, sym, ap, ◌∙◌}
use mathlib.Core.Bool.{Bool}
use mathlib.Core.List.{List}
use native.Mathlib.Omega.{arith}
use Rattle.queue.proofs.Below.{by_test}
use Rattle.task.specs.declared.task.Task.{Task}
use Rattle.task.specs.Result.{result_kind, result_cut}
use Rattle.task.specs.Task.{no_task, state_code, awaited, is_used, message_of, reply_of}
use Rattle.kernel.specs.declared.table.Table.{Table}
use Rattle.kernel.specs.Table.{task_at}
use Rattle.kept.proofs.Tasks.{code_at}
use Rattle.image.specs.Bytes.{number_in, record_at}
use Rattle.image.specs.Record.{record_length, at_state, at_priority, at_parent, at_awaited, at_result, at_message, at_reply, at_cut, at_entry, stored_place, fields, task_record, record_of, byte_in, buffer_in, result_parts_in, result_of, used_from, byte_at, entry_at}
use Rattle.image.proofs.Record.{Storable, buffer_back, used_back}
use Rattle.image.proofs.Restored.{storable}
use Rattle.rules.specs.Facts.{Waking}
use Rattle.records.specs.Records.{Records}
use Rattle.records.specs.Stage.{Stage}
use Rattle.image.proofs.Bytes.{number_back, byte_in_lem}
use Rattle.records.proofs.Numbers.{number_in_lem}

-- The records of a table that keeps the rules.
module _ {n used a : ℕ} {w : ℕ → Bool} {t : Table} {b : List ℕ} (f : Waking n used a w t) (records : Records n (record_of t) b) where
  -- what is so of the fields of a task that fits, and of the zeroes of no task, is so of a slot's record
  told : (P : List ℕ → Task → Type 0) → ((x : Task) (place : ℕ) → Storable used x → P (fields x place) x) → P (task_record no_task 0) no_task
      → (s : ℕ) → s < n → P (record_at record_length b s) (task_at t s)
  unfolding task_record
  told P some none s h =
      let x = task_at t s in
      let fits = storable f.tasks s in
      rw (records.each s h)
      (by_test (is_used x.state) (λ e. rw e (some x (stored_place t s) fits)) (λ e. rw (e, fits.blank e) none))

  -- a byte of the fields
  byte_told : (at : ℕ) → at < record_length → (part : Task → ℕ) → ((x : Task) (place : ℕ) → byte_in (fields x place) at ≡ part x)
      → byte_in (task_record no_task 0) at ≡ part no_task
      → (s : ℕ) → s < n → byte_at b s at ≡ part (task_at t s)
  byte_told at near part some none s h =
      sym (byte_in_lem b s at near) ∙ told (λ r x. byte_in r at ≡ part x) (λ x place _. some x place) none s h

  pub code_told : (s : ℕ) → s < n → byte_at b s at_state ≡ code_at t s
  unfolding task_record
  code_told = byte_told at_state (omega arith) (λ x. state_code x.state) (λ _ _. refl) refl

  pub awaited_told : (s : ℕ) → s < n → byte_at b s at_awaited ≡ awaited (task_at t s).state
  unfolding task_record
  awaited_told = byte_told at_awaited (omega arith) (λ x. awaited x.state) (λ _ _. refl) refl

  pub kind_told : (s : ℕ) → s < n → byte_at b s at_result ≡ result_kind (task_at t s).result
  unfolding task_record
  kind_told = byte_told at_result (omega arith) (λ x. result_kind x.result) (λ _ _. refl) refl

  pub cut_told : (s : ℕ) → s < n → byte_at b s at_cut ≡ result_cut (task_at t s).result
  unfolding task_record
  cut_told = byte_told at_cut (omega arith) (λ x. result_cut x.result) (λ _ _. refl) refl

  pub entry_told : (s : ℕ) → s < n → entry_at b s ≡ (task_at t s).entry
  unfolding task_record
  entry_told s h =
      number_in_lem b s at_entry 4 (omega arith)
      ∙ told (λ r x. number_in r at_entry 4 ≡ x.entry) (λ x place f. number_back 4 x.entry f.entry) refl s h

  pub result_told : (s : ℕ) → s < n → result_of (result_parts_in (record_at record_length b s)) ≡ (task_at t s).result
  unfolding task_record used_from
  result_told = told (λ r x. result_of (result_parts_in r) ≡ x.result) (λ x place f. ap (λ (y : Task). y.result) (used_back used x place f)) refl

-- The same of a stage.
module _ {n used a : ℕ} {w : ℕ → Bool} {t : Table} {b count : List ℕ} (g : Stage n used a w t b count) where
  pub byte_code : (s : ℕ) → s < n → byte_at b s at_state ≡ code_at t s
  byte_code = code_told g.rules g.records

  pub byte_priority : (s : ℕ) → s < n → byte_at b s at_priority ≡ (task_at t s).priority
  unfolding task_record
  byte_priority = byte_told g.rules g.records at_priority (omega arith) (λ x. x.priority) (λ _ _. refl) refl

  pub byte_parent : (s : ℕ) → s < n → byte_at b s at_parent ≡ (task_at t s).parent
  unfolding task_record
  byte_parent = byte_told g.rules g.records at_parent (omega arith) (λ x. x.parent) (λ _ _. refl) refl

  pub entry_at_lem : (s : ℕ) → s < n → entry_at b s ≡ (task_at t s).entry
  entry_at_lem = entry_told g.rules g.records

  pub message_read : (s : ℕ) → s < n → buffer_in (record_at record_length b s) at_message ≡ message_of (task_at t s).state
  unfolding task_record
  message_read = told g.rules g.records (λ r x. buffer_in r at_message ≡ message_of x.state) (λ x place f. buffer_back (message_of x.state) f.message) refl

  pub reply_read : (s : ℕ) → s < n → buffer_in (record_at record_length b s) at_reply ≡ reply_of (task_at t s).state
  unfolding task_record
  reply_read = told g.rules g.records (λ r x. buffer_in r at_reply ≡ reply_of x.state) (λ x place f. buffer_back (reply_of x.state) f.reply) refl

  pub result_read : (s : ℕ) → s < n → result_of (result_parts_in (record_at record_length b s)) ≡ (task_at t s).result
  result_read = result_told g.rules g.records
