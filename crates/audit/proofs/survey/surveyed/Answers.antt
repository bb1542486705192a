use Rattle.std.proofs.Common.{ℕ, ◌≡◌, refl, sym, ap, ◌∙◌, List, arith, length, get_or, eq-eqb, ne_eqb}
use lib.Seq.{set_out}
use Rattle.tid.specs.Sizes.{slot_count}
use Rattle.queue.specs.Numbering.{queues_for}
use Rattle.audit.proofs.Counts.{count_length, count_most}
use Rattle.audit.proofs.Seen.{passed_none, passed_more, passed_all}
use Rattle.audit.proofs.survey.surveyed.Goals as goal
use Rattle.audit.proofs.survey.surveyed.Goals.{else-code-eq-ACTIVE, else-k-lt-QUEUES, then-code-eq-ACTIVE, then-k-lt-QUEUES}

pub loop-s-init : goal.loop-s-init
loop-s-init c = (refl, passed_none slot_count c.args.image.now)

pub overflow_add-count : goal.overflow_add-count
overflow_add-count c = let k = c.queue_at-k.result in
    let many = count_most slot_count c.args.image.now c.loop-s.s k in
    omega (arith, many, ap (λ (l : List ℕ). get_or l k 0) c.loop-s.invariant.1.counted, c.loop-s.invariant.1.most)

pub loop-s-preserved : goal.loop-s-preserved
loop-s-preserved c = let b = c.args.image.now in
    let size : length c.loop-s.count ≡ queues_for slot_count =
    ap length c.loop-s.invariant.1.counted ∙ count_length slot_count b c.loop-s.s in (
      c.loop-s.invariant.0,
      passed_more c.loop-s.invariant.1 (omega arith) (ne_eqb _ 0 c.if-code-eq-UNUSED.false)
          (elim c.if-code-eq-ACTIVE.branch [
            | then-code-eq-ACTIVE w ↦ w.active-is ∙ rw w.if-code-eq-ACTIVE.true
            | else-code-eq-ACTIVE w ↦ w.active-is ∙ rw (ne_eqb _ 1 w.if-code-eq-ACTIVE.false)
          ])
          (rw (← c.queue_at-k.ensures)
          (elim c.if-k-lt-QUEUES.branch [
            | then-k-lt-QUEUES w ↦ w.count-is
            | else-k-lt-QUEUES w ↦ w.count-is ∙ sym (set_out _ _ _ (omega (arith, w.if-k-lt-QUEUES.false)))
          ])),
    )

pub returns-after-loop-s : goal.returns-after-loop-s
returns-after-loop-s c = let end : c.loop-s.s ≡ slot_count = omega arith in
    rw c.loop-s.invariant.0 (rw end at (passed_all c.loop-s.invariant.1 (λ h. absurd (omega arith))))

pub returns-then-code-eq-UNUSED : goal.returns-then-code-eq-UNUSED
returns-then-code-eq-UNUSED c = passed_all c.loop-s.invariant.1 (λ h. eq-eqb _ _ c.if-code-eq-UNUSED.true)
