-- A buffer of a slot, read from the image.
use Prim.Native.Nat.{ℕ, ◌+◌, ◌*◌, ◌≤◌, ◌<◌}
use mathlib.Core.Path.{◌≡◌, sym, ◌∙◌}
use mathlib.Core.Bool.{Bool}
use mathlib.Core.List.{List}
use native.Mathlib.Nat.{add_assoc}
use native.Mathlib.Omega.{arith}
use lib.ListN.{get_or}
use Rattle.task.specs.Task.{message_of, reply_of}
use Rattle.kernel.specs.declared.table.Table.{Table}
use Rattle.kernel.specs.Table.{task_at}
use Rattle.rules.specs.Facts.{nobody}
use Rattle.image.specs.Bytes.{record_at}
use Rattle.image.specs.Record.{record_length, at_awaited, at_message, at_reply, buffer_in}
use Rattle.records.specs.Records.{closed_up}
use Rattle.records.specs.Stage.{Stage}
use Rattle.image.proofs.Bytes.{byte_in_lem}
use Rattle.records.proofs.Numbers.{number_same}
use Rattle.records.proofs.Tasks.{message_read, reply_read}
use Rattle.records.proofs.Heads.{closed_byte}

-- where the bytes are the same, a buffer is
buffer_same : (b b' : List ℕ) (i j : ℕ) → ((d : ℕ) → d < 4 → get_or b (i + d) 0 ≡ get_or b' (j + d) 0) → buffer_in b i ≡ buffer_in b' j
buffer_same b b' i j same =
    let start = number_same b b' i j 2 (λ d h. same d (omega arith)) in
    let len = number_same b b' (i + 2) (j + 2) 2 (λ d h. rw (add_assoc i 2 d, add_assoc j 2 d) (same (2 + d) (omega arith))) in
    λ x. record { start = start x; len = len x }

module _ {n used a : ℕ} {w : ℕ → Bool} {t : Table} {b count : List ℕ} (g : Stage n used a w t b count) (s : ℕ) (l : s < n) where
  in_record : (at : ℕ) → at + 4 ≤ record_length → buffer_in b (s * record_length + at) ≡ buffer_in (record_at record_length b s) at
  in_record at fits =
      buffer_same b (record_at record_length b s) (s * record_length + at) at
      (λ d h. rw (add_assoc (s * record_length) at d) (sym (byte_in_lem b s (at + d) (omega arith))))

  pub message_at : buffer_in b (s * record_length + at_message) ≡ message_of (task_at t s).state
  message_at = in_record at_message (omega arith) ∙ message_read g s l

  pub reply_at : buffer_in b (s * record_length + at_reply) ≡ reply_of (task_at t s).state
  reply_at = in_record at_reply (omega arith) ∙ reply_read g s l

-- closing up leaves both buffers
module _ {n used a : ℕ} {t : Table} {b count : List ℕ} (g : Stage n used a nobody t b count) (code key k s : ℕ) where
  pub closed_buffer : (at : ℕ) → 4 ≤ at → at + 4 ≤ record_length
      → buffer_in (closed_up code at_awaited key b k) (s * record_length + at) ≡ buffer_in b (s * record_length + at)
  closed_buffer at past fits =
      buffer_same (closed_up code at_awaited key b k) b (s * record_length + at) (s * record_length + at)
      (λ d h. rw (add_assoc (s * record_length) at d) (closed_byte g code at_awaited key k s (at + d) (omega arith) (λ e. omega arith)))
