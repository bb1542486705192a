use Rattle.std.proofs.Common.{◌≡◌, ◌<◌, ◌∙◌, sym, ◌==◌, get_or, eqb, false, arith, rules}
use Rattle.tid.specs.Sizes.{slot_count}
use Rattle.queue.specs.Numbering.{queue_count}
use Rattle.queue.specs.Rows.{row_at, row_stands}
use Rattle.queue.proofs.Owned.{owned_rows}
use Rattle.queue.proofs.Chains.{list_all_below}
use Rattle.queue.proofs.Reading.{reading_more, reading_ends, passed_more, passed_all, breaks, no_mark, past_marks, other_key, too_long}
use Rattle.queue.proofs.rows_kept.Goals as goal
use Rattle.queue.proofs.rows_kept.Goals.{then-mark-eq0-via-then-mark-eq0, then-mark-eq0-via-else-mark-eq0+then-s-ge-SLOTS, then-mark-eq0-via-else-mark-eq0+else-s-ge-SLOTS+then-keys-s}

pub loop-p-preserved : goal.loop-p-preserved
loop-p-preserved c =
    let l = (owned_rows c.args.rows _ c.well_formed.0).places c.loop-k.k (omega arith) in (
      c.loop-p.invariant.0,
      c.loop-p.invariant.1,
      reading_more c.loop-p.invariant.2 (omega arith) (omega arith) c.slot_of-s.result c.slot_of-s.ensures.0 c.if-mark-eq0.false (omega arith)
          (omega arith) (omega arith),
    )

pub loop-k-preserved : goal.loop-k-preserved
loop-k-preserved c =
    let row : c.loop-k.k < queue_count = omega arith in
    passed_more c.loop-k.invariant row c.loop-p.invariant.2 (omega arith) (omega arith) ((owned_rows c.args.rows _ c.well_formed.0).places _ row)
    (sym (list_all_below (λ m. m == 0) c.loop-p.row.marks 0 (search rules)) ∙ sym c.all_zero.ensures ∙ c.if-not-all_zero.false)

pub returns-then-len-gt-PLACES : goal.returns-then-len-gt-PLACES
returns-then-len-gt-PLACES c =
    let o = owned_rows c.args.rows _ c.well_formed.0 in
    sym (breaks c.loop-k.invariant (omega arith) o.count (too_long slot_count _ (row_at c.args.rows c.loop-k.k) c.loop-k.keys (omega arith)))

pub returns-then-mark-eq0 : goal.returns-then-mark-eq0
returns-then-mark-eq0 c =
    let row : c.loop-k.k < queue_count = omega arith in
    let read = c.loop-p.invariant.2 in
    let slot = c.slot_of-s.ensures.0 in
    let broken : row_stands slot_count (λ s. eqb (get_or c.loop-k.keys s 0) c.loop-k.k) (row_at c.args.rows c.loop-k.k) ≡ false =
    elim c.then-mark-eq0.branch [
      | then-mark-eq0-via-then-mark-eq0 v ↦ no_mark read row (omega arith) v.if-mark-eq0.true
      | then-mark-eq0-via-else-mark-eq0+then-s-ge-SLOTS v ↦ past_marks read row (omega arith) (omega arith) v.if-mark-eq0.false
      | then-mark-eq0-via-else-mark-eq0+else-s-ge-SLOTS+then-keys-s v ↦ other_key read row (omega arith) c.slot_of-s.result slot v.if-mark-eq0.false (omega arith) v.if-keys-s.true
    ]
    in
    sym (breaks c.loop-k.invariant row (owned_rows c.args.rows _ c.well_formed.0).count broken)

pub returns-then-not-all_zero : goal.returns-then-not-all_zero
returns-then-not-all_zero c =
    let row : c.loop-k.k < queue_count = omega arith in
    let o = owned_rows c.args.rows _ c.well_formed.0 in
    sym (breaks c.loop-k.invariant row o.count
    (reading_ends c.loop-p.invariant.2 (omega arith) (omega arith) (o.places _ row)
    ∙ sym (list_all_below (λ m. m == 0) c.loop-p.row.marks 0 (search rules)) ∙ sym c.all_zero.ensures ∙ c.if-not-all_zero.true))

pub returns-after-loop-k : goal.returns-after-loop-k
returns-after-loop-k c =
    let end : c.loop-k.k ≡ queue_count = omega arith in
    c.spent.ensures ∙ passed_all (rw end at c.loop-k.invariant) (owned_rows c.args.rows _ c.well_formed.0).count
