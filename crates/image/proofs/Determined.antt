-- Each public function's own promise leaves no choice: see `Determines` in tid/specs/Determined.antt. The bytes that are lent
-- to be written are part of the result: of the parameters at exit, s.0, s.1.0 and so on, the last.
use Rattle.std.proofs.Common.{◌≡◌, Ok, Err, ap, sym, refl}
use Rattle.std.specs.Prelude.{Result}
use mathlib.Core.Path.{◌∙⁻¹◌}
use Rattle.kernel.specs.declared.refusal.Refusal.{Refusal}
use Rattle.kernel.specs.Verdict.{verdict_of}
use Rattle.kernel.proofs.Verdicts.{number_none, number_apart}
use Rattle.tid.specs.Determined.{Determines, DeterminesResult}
use Rattle.image.proofs.stored.read.Reads as read
use Rattle.image.proofs.stored.write.Reads as write
use Rattle.image.proofs.stored.convert.Reads as convert
use Rattle.image.proofs.form.form_at.Reads as form_at
use Rattle.image.proofs.form.form_for.Reads as form_for
use Rattle.image.proofs.form.reform.Reads as reform
use Rattle.image.proofs.call.request_from.Reads as request_from
use Rattle.image.proofs.call.put_answer.Reads as put_answer
use Rattle.image.proofs.words.word.Reads as word
use Rattle.image.proofs.words.short.Reads as short
use Rattle.image.proofs.fields.result_of.Reads as result_of
use Rattle.image.proofs.fields.fields_of.Reads as fields_of

-- a verdict tells the refusal, or that there is none
verdict_apart : (done done' : Result (Unit {0}) Refusal) → verdict_of done ≡ verdict_of done' → done ≡ done'
verdict_apart (Ok u) (Ok u') e = refl
verdict_apart (Ok u) (Err e') e = absurd (number_none e' e)
verdict_apart (Err f) (Ok u) e = absurd (number_none f (sym e))
verdict_apart (Err f) (Err f') e = ap Err (number_apart e)

read_determined : (κs : _) (a : _) → DeterminesResult (read.Post κs a)
read_determined κs a r r' s s' p p' = (p ∙⁻¹ p', refl)

write_determined : (κs : _) (a : _) → Determines (write.Post κs a) (λ s. s.1.0.now)
write_determined κs a r r' s s' p p' = (verdict_apart r r' (p.0 ∙⁻¹ p'.0), p.1 ∙⁻¹ p'.1)

convert_determined : (κs : _) (a : _) → Determines (convert.Post κs a) (λ s. s.1.1.0.now)
convert_determined κs a r r' s s' p p' = (verdict_apart r r' (p.0 ∙⁻¹ p'.0), p.1 ∙⁻¹ p'.1)

form_at_determined : (κs : _) (a : _) → DeterminesResult (form_at.Post κs a)
form_at_determined κs a r r' s s' p p' = (p ∙⁻¹ p', refl)

form_for_determined : (κs : _) (a : _) → DeterminesResult (form_for.Post κs a)
form_for_determined κs a r r' s s' p p' = (p ∙⁻¹ p', refl)

reform_determined : (κs : _) (a : _) → Determines (reform.Post κs a) (λ s. s.1.0.now)
reform_determined κs a r r' s s' p p' = (refl, p ∙⁻¹ p')

request_from_determined : (κs : _) (a : _) → DeterminesResult (request_from.Post κs a)
request_from_determined κs a r r' s s' p p' = (p ∙⁻¹ p', refl)

-- what answers nothing is seen by its bytes alone
put_answer_determined : (κs : _) (a : _) → Determines (put_answer.Post κs a) (λ s. s.1.0.now)
put_answer_determined κs a r r' s s' p p' = (refl, p ∙⁻¹ p')

fields_of_determined : (κs : _) (a : _) → DeterminesResult (fields_of.Post κs a)
fields_of_determined κs a r r' s s' p p' = (p ∙⁻¹ p', refl)

result_of_determined : (κs : _) (a : _) → DeterminesResult (result_of.Post κs a)
result_of_determined κs a r r' s s' p p' = (p ∙⁻¹ p', refl)

short_determined : (κs : _) (a : _) → DeterminesResult (short.Post κs a)
short_determined κs a r r' s s' p p' = (p ∙⁻¹ p', refl)

word_determined : (κs : _) (a : _) → DeterminesResult (word.Post κs a)
word_determined κs a r r' s s' p p' = (p ∙⁻¹ p', refl)
