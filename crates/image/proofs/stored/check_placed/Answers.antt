use Rattle.std.proofs.Common.{◌≡◌, ℕ, Bool, ◌&&◌, leb, ap, sym, ◌∙◌, arith, le-leb}
use mathlib.Core.Bool.{and-true, and_assoc}
use borrow.Author.Tests.{lt-leb}
use Rattle.queue.specs.Choose.{all_below}
use Rattle.tid.specs.Sizes.{slot_count}
use Rattle.queue.specs.Numbering.{queue_count}
use Rattle.tid.proofs.Byte.{in_byte}
use Rattle.task.specs.Standing.{queue_of}
use Rattle.kernel.specs.Table.{task_at}
use Rattle.kernel.proofs.Owned.{owned_shaped}
use Rattle.rules.specs.Check.{slot_good, good_placed}
use Rattle.rules.proofs.Walk as Walk
use Rattle.rules.proofs.Walk.{asked_more, asked_all, all_two, used_found, active_found}
use Rattle.image.specs.Record.{place_read}
use Rattle.image.proofs.Placed.{place_byte}
use Rattle.image.proofs.stored.check_placed.Invariants.{stands, asks}
use Rattle.image.proofs.stored.check_placed.Goals as goal
use Rattle.image.proofs.stored.check_placed.Goals.{then-k-lt-QUEUES, else-k-lt-QUEUES}

pub loop-s-init : goal.loop-s-init
unfolding all_below
loop-s-init c = sym (and-true _)

pub loop-s-preserved : goal.loop-s-preserved
loop-s-preserved c =
    let t = c.args.table in
    let bytes = c.args.bytes.now in
    let s = c.loop-s.s in
    let k = c.queue_of-k.result in
    let used = c.used_slots-used.result in
    let stood : c.if-k-lt-QUEUES.good ≡ (c.loop-s.good && c.good_slot-good.result && stands t bytes k s) =
    elim c.if-k-lt-QUEUES.branch [
      | then-k-lt-QUEUES w ↦ w.good-is ∙ rw (w.stands-good.ensures, w.mark_of.ensures, in_byte s (omega arith), ← place_byte bytes s, lt-leb queue_count k w.if-k-lt-QUEUES.true)
      | else-k-lt-QUEUES w ↦ w.good-is ∙ rw (le-leb queue_count k w.if-k-lt-QUEUES.false) (sym (and-true _))
    ] in
    stood
    ∙ and_assoc c.loop-s.good c.good_slot-good.result _
    ∙ asked_more s (asks t bytes used c.first_active-active.result) (c.is_edition.result && leb 1 used && c.active_if_ready.result && c.waiters_fit.result) c.loop-s.invariant (rw (c.good_slot-good.ensures, c.queue_of-k.ensures))

pub returns : goal.returns
unfolding good_placed
returns c = let t = c.args.table in
    let bytes = c.args.bytes.now in
    let size = (owned_shaped t _ c.well_formed.0).tasks in
    let used = c.used_slots-used.ensures ∙ used_found slot_count t size in
    let active = c.first_active-active.ensures in
    let end : c.loop-s.s ≡ slot_count = omega arith in
    let stood : ℕ → Bool = λ j. stands t bytes (queue_of queue_count (task_at t j)) j in
    let each =
    all_two slot_count (Walk.asks t c.used_slots-used.result c.first_active-active.result) stood
    ∙ ap (λ (b : Bool). b && all_below slot_count stood) (asked_all slot_count t size used active)
    ∙ sym (all_two slot_count (slot_good t) stood) in
    let good : c.loop-s.good ≡ good_placed t (place_read bytes) =
    c.loop-s.invariant ∙ rw (end, each, c.waiters_fit.ensures, c.active_if_ready.ensures, c.is_edition.ensures, used, active, active_found slot_count t size, size) in
    λ i. record { good = good i; active = active i }
