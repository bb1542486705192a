-- `kernel_step`: a wrong answer, a refusal before the step, and the step itself.
use Rattle.std.proofs.Common.{arith, ltb-true}
use Rattle.tid.specs.Sizes.{slot_count}
use Rattle.kernel.specs.Numbers.{accepted}
use Rattle.kernel.specs.Verdict.{refusal_number}
use Rattle.kernel.proofs.Verdicts.{number_positive}
use Rattle.entry.proofs.Calls.{wrong_answer, refused_call}
use Rattle.entry.proofs.Fits.{fit_step}
use Rattle.entry.proofs.kernel_step.Goals as goal

pub returns-then-answer-ne-ANSWER : goal.returns-then-answer-ne-ANSWER
returns-then-answer-ne-ANSWER c =
    let a = c.args in
    rw (c.from.ensures, c.number.ensures) (wrong_answer slot_count a.edition a.image.now a.areas.now a.request.now a.answer.now (λ e. omega arith))

pub returns-in-Err : goal.returns-in-Err
returns-in-Err c =
    let a = c.args in
    let v = refusal_number c.in-Err.refusal in
    refused_call slot_count a.edition a.image.now a.areas.now a.request.now a.answer.now (omega arith) v (ltb-true accepted v (number_positive c.in-Err.refusal))
    c.in-Err.ensures c.refuse.ensures

pub returns-in-Ok : goal.returns-in-Ok
returns-in-Ok c =
    let a = c.args in
    let (known, asked, sized, lent) = c.in-Ok.ensures {u = tt {0}} in
    rw c.from-in-Ok.ensures
    (fit_step slot_count a.edition a.image.now a.areas.now a.request.now a.answer.now (omega arith) known asked
    sized lent c.request_from.result c.request_from.ensures
    c.decide-done.ensures c.apply.ensures c.put_answer.ensures)
