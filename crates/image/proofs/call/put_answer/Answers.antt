-- `image::call::put_answer` meets its contract, word by word.
use Rattle.std.proofs.Common.{◌≡◌, length, eq-eqb, ne_eqb}
use Rattle.image.specs.Call.{answer_length}
use Rattle.image.proofs.Made.{answer_made}
use Rattle.image.proofs.call.put_answer.Goals as goal

pub returns-then-out-eq-ANSWER : goal.returns-then-out-eq-ANSWER
returns-then-out-eq-ANSWER c = let whole : length c.args.out.now ≡ answer_length = c.if-out-eq-ANSWER.true in
    rw (eq-eqb _ answer_length whole)
    (answer_made c.args.answer c.args.out.now _ _ _ _ _ _ _ whole c.result_parts_of-numbers.ensures
    c.put_word.ensures c.put_word-then-out-eq-ANSWER.ensures c.put_word-then-out-eq-ANSWER-2.ensures c.put_word-then-out-eq-ANSWER-3.ensures c.put_word-then-out-eq-ANSWER-4.ensures c.put_word-then-out-eq-ANSWER-5.ensures)

pub returns-else-out-eq-ANSWER : goal.returns-else-out-eq-ANSWER
returns-else-out-eq-ANSWER c = rw (ne_eqb (length c.args.out.now) answer_length c.if-out-eq-ANSWER.false)
