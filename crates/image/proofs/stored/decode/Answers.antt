use Rattle.std.proofs.Common.{◌≡◌, ℕ, ◌-◌, ◌*◌, List, length, length-drop, take, take_all, drop, refl, ap, ◌∙◌, arith}
use Rattle.queue.specs.Choose.{all_below}
use Rattle.tid.specs.Sizes.{slot_count}
use Rattle.tid.proofs.Byte.{in_byte}
use Rattle.tid.specs.Tid.{mark_of}
use Rattle.queue.specs.Placed.{placed_row}
use Rattle.queue.proofs.Below.{all_more}
use Rattle.kernel.specs.declared.table.Table.{Table}
use Rattle.kernel.specs.Table.{queue_at, with_task, with_queue}
use Rattle.kernel.specs.Shape.{Shaped}
use Rattle.image.specs.declared.fields.TaskRead.{TaskRead}
use Rattle.image.specs.Bytes.{record_at}
use Rattle.image.specs.Record.{record_length, place_from}
use Rattle.image.specs.Image.{table_up_to}
use Rattle.image.specs.Exact.{exact_up_to}
use Rattle.image.proofs.Shape.{table_shaped}
use Rattle.image.proofs.Loops.{none_queued, table_more}
use Rattle.image.proofs.stored.decode.Goals as goal
use Rattle.image.proofs.stored.decode.Goals.{then-k-lt-QUEUES, else-k-lt-QUEUES}

-- what is read is the record
part : (bytes r : List ℕ) (s : ℕ) → r ≡ take record_length (take (length bytes - s * record_length) (drop (s * record_length) bytes))
    → r ≡ record_at record_length bytes s
part bytes r s e =
    e ∙ ap (λ (l : List ℕ). take record_length l) (take_all (length bytes - s * record_length) (drop (s * record_length) bytes) (omega (arith, length-drop (s * record_length) bytes)))

pub loop-s-init : goal.loop-s-init
unfolding table_up_to all_below
loop-s-init c = (c.blank_table-table.ensures, refl)

pub loop-s-preserved : goal.loop-s-preserved
loop-s-preserved c =
    let bytes : List ℕ = c.args.bytes.now in
    let ed : ℕ = c.args.edition in
    let s : ℕ = c.loop-s.s in
    let t : Table = c.loop-s.table in
    let shape : Shaped slot_count t = rw c.loop-s.invariant.0 (table_shaped slot_count ed bytes s) in
    let x = c.task_read-entry.result.task in
    let k : ℕ = c.queue_of-k.result in
    let r : List ℕ = c.unwrap-r.result.now in
    let own : r ≡ record_at record_length bytes s = part bytes r s (rw c.unwrap-r.ensures at c.first_chunk.ensures.cases).same in
    let put : c.if-k-lt-QUEUES.table ≡ with_queue (with_task t s x) k (placed_row (queue_at t k) (place_from r) (mark_of s)) =
    elim c.if-k-lt-QUEUES.branch [
      | then-k-lt-QUEUES w ↦ w.table-is ∙ ap (with_queue (with_task t s x) k) (w.placed_row.ensures ∙ ap (placed_row (queue_at t k) (place_from r)) (w.mark_of.ensures ∙ ap mark_of (in_byte s (omega arith))))
      | else-k-lt-QUEUES w ↦ none_queued (with_task t s x) c.if-k-lt-QUEUES.table k _ (omega (arith, shape.queues.count)) w.table-is
    ] in (
      table_more slot_count ed bytes r s t c.if-k-lt-QUEUES.table x k own c.loop-s.invariant.0 shape.tasks (ap (λ (y : TaskRead). y.task) c.task_read-entry.ensures) c.queue_of-k.ensures put,
      rw (all_more, c.loop-s.invariant.1, ap (λ (e : TaskRead). e.exact) c.task_read-entry.ensures, own),
    )

pub returns : goal.returns
returns c = let bytes : List ℕ = c.args.bytes.now in
    let end : c.loop-s.s ≡ slot_count = omega arith in
    let table = c.loop-s.invariant.0 ∙ ap (table_up_to slot_count c.args.edition bytes) end in
    let exact = c.loop-s.invariant.1 ∙ ap (exact_up_to bytes) end in
    λ i. record { table = table i; exact = exact i }
