-- The image that a kernel starts from.
use Prim.Native.Nat.{ℕ, ◌+◌, ◌*◌, ◌≤◌, ◌<◌}
use mathlib.Core.Path.{◌≡◌, refl, sym, ◌∙◌}
use native.Mathlib.Omega.{arith}
use lib.ListN.{length, replicate, length-set, length-replicate, length-take, length-drop}
use lib.Seq.{ext_get_or, get_or-take, get_or-drop, get_or-set_same, get_or-set_other}
use Rattle.queue.specs.Numbering.{queues_for}
use Rattle.task.specs.Task.{no_task}
use Rattle.task.specs.Standing.{queue_of}
use Rattle.kernel.specs.Table.{task_at}
use Rattle.rules.specs.Fresh.{blank_table, first_task, fresh}
use Rattle.rules.proofs.Fresh.{all_same}
use Rattle.image.specs.Bytes.{record_at}
use Rattle.image.specs.Record.{record_length, fields, task_record, record_of}
use Rattle.image.specs.Image.{image_of}
use Rattle.image.proofs.Stands.{stored_none}
use Rattle.records.specs.Records.{Records, with_record}
use Rattle.records.proofs.Images.{records_image}
use Rattle.records.proofs.Changes.{same_record, one_written}

-- a record of zeros
blank_record : (n s : ℕ) → s < n → record_at record_length (replicate (n * record_length) 0) s ≡ replicate record_length 0
blank_record n s h =
    let zero : ℕ = 0 in
    let r = record_at record_length (replicate (n * record_length) zero) s in
    let size : length r ≡ record_length = rw (length-take, length-drop, length-replicate) (omega arith) in
    ext_get_or zero r (replicate record_length zero) (size ∙ sym (length-replicate record_length zero))
    (λ i l. let near : i < record_length = omega arith in
    rw (get_or-take, get_or-drop) (all_same (n * record_length) (s * record_length + i) zero ∙ sym (all_same record_length i zero)))

blank_records : (n ed : ℕ) → Records n (record_of (blank_table n ed)) (replicate (n * record_length) 0)
unfolding task_record
blank_records n ed =
    record {
      size = length-replicate (n * record_length) 0;
      each = λ s h. blank_record n s h ∙ rw (all_same n s no_task);
    }

pub fresh_image : (n ed p e : ℕ) → 1 ≤ n → with_record (replicate (n * record_length) 0) 0 (fields (first_task p e) 0) ≡ image_of (fresh n ed p e)
unfolding queue_of
fresh_image n ed p e h =
    let t = blank_table n ed in
    let t' = fresh n ed p e in
    let size = length-replicate n no_task in
    let size' = length-set t.tasks 0 (first_task p e) ∙ size in
    let here : task_at t' 0 ≡ first_task p e = get_or-set_same t.tasks 0 (first_task p e) no_task (omega arith) in
    records_image n t' _ size'
    (one_written (blank_records n ed) t' 0 (first_task p e) 0 (omega arith) refl here
    (stored_none n t' 0 {k = queues_for n} size' (rw here) (omega arith))
    (λ i l ne. same_record n t t' size size' i (get_or-set_other t.tasks 0 i (first_task p e) no_task ne) (λ k _ _. refl)))
