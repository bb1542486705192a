use Rattle.std.proofs.Common.{◌≡◌, ℕ, ◌+◌, ◌-◌, ◌*◌, ◌<◌, ◌≤◌, List, take, drop, refl, ap, ◌∙◌, append-nil, zero-mul, arith, drop_of_length-le, rules}
use lib.Seq.{paste}
use Rattle.tid.specs.Sizes.{slot_count}
use Rattle.image.specs.Bytes.{record_at, in_order}
use Rattle.image.specs.Form.{fitted, reformed}
use Rattle.image.proofs.Loops.{image_more}
use Rattle.image.proofs.Fitted.{record_ends, length_fitted}
use Rattle.image.proofs.form.put_each.Invariants.{put}
use Rattle.image.proofs.form.put_each.Goals as goal

-- the record of a slot ends within either image
ends : (from to s : ℕ) → s < slot_count → (s * from + from ≤ slot_count * from) × (s * to + to ≤ slot_count * to)
ends from to s l = (record_ends slot_count from s l, record_ends slot_count to s l)

pub loop-s-init : goal.loop-s-init
unfolding in_order
loop-s-init c = (refl, rw zero-mul)

pub overflow_mul-at : goal.overflow_mul-at
overflow_mul-at c = search (rules, ends c.args.from c.args.to c.loop-s.s (omega arith))

pub overflow_mul-s : goal.overflow_mul-s
overflow_mul-s c = search (rules, ends c.args.from c.args.to c.loop-s.s (omega arith))

pub overflow_add-at : goal.overflow_add-at
overflow_add-at c = search (rules, ends c.args.from c.args.to c.loop-s.s (omega arith))

pub slice_bounds-put_fitted-count : goal.slice_bounds-put_fitted-count
slice_bounds-put_fitted-count c = search (rules, ends c.args.from c.args.to c.loop-s.s (omega arith))

pub slice_bounds-put_fitted-start : goal.slice_bounds-put_fitted-start
slice_bounds-put_fitted-start c = search (rules, ends c.args.from c.args.to c.loop-s.s (omega arith))

pub slice_bounds-put_fitted-end : goal.slice_bounds-put_fitted-end
slice_bounds-put_fitted-end c = search (rules, ends c.args.from c.args.to c.loop-s.s (omega arith))

pub put_fitted-requires : goal.put_fitted-requires
put_fitted-requires c = search (rules, ends c.args.from c.args.to c.loop-s.s (omega arith))

pub loop-s-preserved : goal.loop-s-preserved
loop-s-preserved c = let from : ℕ = c.args.from in
    let to : ℕ = c.args.to in
    let image : List ℕ = c.args.image.now in
    let s : ℕ = c.loop-s.s in
    let lent : s * from + from - s * from ≡ from = omega arith in
    let whole : fitted to (take (s * from + from - s * from) (drop (s * from) image)) ≡ put from to image s =
    ap (λ (k : ℕ). fitted to (take k (drop (s * from) image))) lent in (
      search rules,
      c.put_fitted.ensures
          ∙ ap (λ (r : List ℕ). paste c.loop-s.out (s * to) r to) whole
          ∙ image_more to (put from to image) (λ s. length_fitted to (record_at from image s)) s c.args.out.now c.loop-s.out c.loop-s.invariant.1,
    )

pub returns : goal.returns
unfolding reformed
returns c = let to : ℕ = c.args.to in
    let before : List ℕ = c.args.out.now in
    let end : c.loop-s.s ≡ slot_count = omega arith in
    c.loop-s.invariant.1
    ∙ rw (end, drop_of_length-le before {i = slot_count * to} (omega arith), append-nil)
