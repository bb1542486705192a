use Rattle.std.proofs.Common.{ℕ, ◌*◌, ◌≡◌, sym, ◌&&◌, arith, eqb, bit_or, rules, eq-eqb, eqb-true, lt-ltb, le-ltb}
use lib.Bits.{or_add_and, and_le_l, and_le_r}
use Rattle.tid.specs.Sizes.{slot_count}
use Rattle.queue.proofs.Below.{both_true, true_both, same_test, all_more, below_all}
use Rattle.image.specs.Record.{record_length}
use Rattle.audit.proofs.rest_blank.Goals as goal

-- two numbers have no bit together exactly where both are 0
no_bits : (a b : ℕ) → eqb (bit_or a b) 0 ≡ (eqb a 0 && eqb b 0)
no_bits a b = same_test
    (λ e. let none = eqb-true (bit_or a b) 0 e in
    true_both (eq-eqb a 0 (omega (arith, or_add_and a b, and_le_r a b))) (eq-eqb b 0 (omega (arith, or_add_and a b, and_le_l a b))))
    (λ e. let both = both_true (eqb a 0) (eqb b 0) e in
    eq-eqb (bit_or a b) 0 (omega (arith, or_add_and a b, eqb-true a 0 both.0, eqb-true b 0 both.1)))

pub loop-i-init : goal.loop-i-init
loop-i-init c = let first = c.args.used * record_length in
    (search rules, omega arith, sym (below_all first _ (λ j h. rw (lt-ltb j first h))))

pub loop-i-preserved : goal.loop-i-preserved
loop-i-preserved c = (omega arith, omega arith, rw (no_bits, all_more, c.loop-i.invariant.2, le-ltb c.loop-i.i (c.args.used * record_length) (omega arith)))

pub returns : goal.returns
returns c = let end : c.loop-i.i ≡ slot_count * record_length = omega arith in
    rw end at c.loop-i.invariant.2
