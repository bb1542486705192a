use Rattle.std.proofs.Common.{◌≡◌, ℕ, ◌*◌, List, sym, refl, ap, ◌∙◌, arith, rules}
use lib.Seq.{paste}
use Rattle.tid.specs.Sizes.{slot_count}
use Rattle.tid.specs.Tid.{mark_of}
use Rattle.tid.proofs.Byte.{in_byte}
use Rattle.queue.specs.Row.{place_of}
use Rattle.kernel.specs.Table.{slots, task_at, queue_at}
use Rattle.kernel.proofs.Owned.{owned_shaped}
use Rattle.image.specs.Bytes.{in_order}
use Rattle.image.specs.Record.{record_length, stored_place, task_record, record_of}
use Rattle.image.proofs.Record.{length_record_of}
use Rattle.image.proofs.Stands.{stored_in, stored_none, stored_most}
use Rattle.image.proofs.Loops.{image_more, image_all}
use Rattle.image.proofs.stored.store.Goals as goal
use Rattle.image.proofs.stored.store.Goals.{Joined-k-lt-QUEUES, then-k-lt-QUEUES, else-k-lt-QUEUES}

-- the place that was found is the task's
found : (c : Joined-k-lt-QUEUES) → c.if-k-lt-QUEUES.place ≡ stored_place c.args.table c.loop-s.s
found c =
    let t = c.args.table in
    let s : ℕ = c.loop-s.s in
    let size = (owned_shaped t _ c.well_formed.0).tasks in
    let own = sym c.queue_of-k.ensures in
    let k : ℕ = c.queue_of-k.result in
    elim c.if-k-lt-QUEUES.branch [
      | then-k-lt-QUEUES w ↦ w.place-is ∙ w.place_of-place.ensures ∙ ap (place_of (queue_at t k)) (w.mark_of.ensures ∙ ap mark_of (in_byte s (omega arith))) ∙ sym (stored_in slot_count t s size own w.if-k-lt-QUEUES.true)
      | else-k-lt-QUEUES w ↦ w.place-is ∙ sym (stored_none slot_count t s size own w.if-k-lt-QUEUES.false)
    ]

pub loop-s-init : goal.loop-s-init
unfolding in_order
loop-s-init c = (refl, refl)

pub overflow_cast-place : goal.overflow_cast-place
overflow_cast-place c = omega (arith, found (goal.at.overflow_cast-place c).Joined-k-lt-QUEUES, stored_most (owned_shaped c.args.table _ c.well_formed.0) c.loop-s.s)

pub loop-s-preserved : goal.loop-s-preserved
loop-s-preserved c = let t = c.args.table in
    let s : ℕ = c.loop-s.s in
    let out : List ℕ = c.loop-s.out in
    let made = c.record_of.ensures ∙ ap (task_record (task_at t s)) (found (goal.at.loop-s-preserved c).Joined-k-lt-QUEUES) in (
      search rules,
      c.put_record.ensures
          ∙ ap (λ (r : List ℕ). paste out (s * record_length) r record_length) made
          ∙ image_more record_length (record_of t) (length_record_of t) s c.args.out.now out c.loop-s.invariant.1,
    )

pub returns : goal.returns
returns c = let t = c.args.table in
    let count : slots t ≡ slot_count = (owned_shaped t _ c.well_formed.0).tasks in
    c.loop-s.invariant.1 ∙ image_all t c.args.out.now c.loop-s.s (omega arith) (omega arith)
