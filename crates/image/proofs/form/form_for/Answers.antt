use Rattle.std.proofs.Common.{ℕ, ◌≡◌, ◌≤◌, eqb, arith, below_more, eq-eqb, ne_eqb, lt-ltb}
use Rattle.tid.specs.Sizes.{slot_count}
use Rattle.queue.proofs.Below.{first_ends}
use Rattle.task.proofs.Tests.{chosen}
use Rattle.image.specs.declared.form.Form.{Form}
use Rattle.image.specs.Form.{form_count, form_at, image_length, form_for}
use Rattle.image.proofs.form.form_for.Goals as goal

-- no image is so long that its length is no number of the machine's
short : (k : ℕ) → image_length (form_at slot_count k) ≤ 1024
short k = chosen (λ (f : Form). image_length f ≤ 1024) (eqb k 0) (λ _. omega arith) (λ _. omega arith)

pub loop-k-init : goal.loop-k-init
loop-k-init c = λ j h. absurd (omega arith)

pub overflow_mul-form : goal.overflow_mul-form
overflow_mul-form c = rw c.form_at-form.ensures (omega (arith, short c.loop-k.k))

pub loop-k-preserved : goal.loop-k-preserved
loop-k-preserved c = below_more _ _ c.loop-k.invariant (rw (← c.form_at-form.ensures) (ne_eqb _ _ c.if-len-form.false))

pub returns-then-len-form : goal.returns-then-len-form
returns-then-len-form c =
    let k = c.loop-k.k in
    let found : k ≡ form_for slot_count c.args.len =
    first_ends form_count _ k (omega arith) c.loop-k.invariant (λ h. rw (← c.form_at-form.ensures) (eq-eqb _ _ c.if-len-form.true))
    in
    rw (← found, lt-ltb k form_count (omega arith), c.form_at-form.ensures)

pub returns : goal.returns
returns c =
    let none : form_count ≡ form_for slot_count c.args.len =
    first_ends form_count _ form_count (omega arith) (λ j h. c.loop-k.invariant j (omega arith)) (λ h. absurd (omega arith))
    in
    rw (← none)
