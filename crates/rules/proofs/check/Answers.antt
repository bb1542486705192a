use Rattle.std.proofs.Common.{leb, ltb, eqb, rules, ◌&&◌, ◌||◌, ◌≡◌, sym, ◌∙◌, arith}
use mathlib.Core.Bool.{and-true}
use Rattle.kernel.proofs.Owned.{owned_shaped}
use Rattle.queue.proofs.Rules.{kept_same}
use Rattle.queue.specs.Choose.{all_below}
use Rattle.tid.specs.Sizes.{slot_count, priorities}
use Rattle.queue.specs.Numbering.{ready_queue}
use Rattle.kernel.specs.Table.{queue_at, active_slot}
use Rattle.rules.proofs.Walk.{asks, asked_all, keys_more, asked_more, used_found, active_found, check_good}
use Rattle.rules.specs.Good.{good_table}
use Rattle.rules.proofs.check.Goals as goal

pub loop-s-init : goal.loop-s-init
unfolding all_below
loop-s-init c = (sym (and-true _), record { size = search rules; known = λ j h. absurd (omega arith) })

pub loop-s-preserved : goal.loop-s-preserved
loop-s-preserved c = let inv = c.loop-s.invariant in
    let used = c.used_slots-used.result in (
      asked_more c.loop-s.s (asks c.args.table used c.first_active-active.result)
          (c.is_edition.result && leb 1 used && c.active_if_ready.result && c.waiters_fit.result) inv.0 c.good_slot-good.ensures,
      keys_more inv.1 (omega arith) c.queue_of.ensures,
    )

pub returns : goal.returns
returns c = let t = c.args.table in
    let shaped = owned_shaped t _ c.well_formed.0 in
    let size = shaped.tasks in
    let used = c.used_slots-used.ensures ∙ used_found slot_count t size in
    let active = c.first_active-active.ensures in
    let end : c.loop-s.s ≡ slot_count = omega arith in
    let kept = c.rows_kept.ensures ∙ kept_same slot_count t.queues _ _ (λ j h. c.loop-s.invariant.1.known j (omega arith)) in
    let idle : c.active_if_ready.result ≡ (ltb (active_slot t) slot_count || all_below priorities (λ p. eqb (queue_at t (ready_queue p)).len 0)) =
    rw (← active_found slot_count t size, ← active) c.active_if_ready.ensures in
    let asked = asked_all slot_count t size used active in
    let good : (c.loop-s.good && c.rows_kept.result) ≡ good_table t =
    rw (c.loop-s.invariant.0, end, asked, kept, c.waiters_fit.ensures, idle, c.is_edition.ensures, used)
    (check_good slot_count t size shaped.queues.count) in
    λ i. record { good = good i; active = active i }
