-- Each public function's own promise leaves no choice: see `Determines` in tid/specs/Determined.antt. The bytes that are lent
-- to be written are part of the result: of the parameters at exit, s.0, s.1.0 and so on, the one that is lent.
use mathlib.Core.Path.{refl, ◌∙⁻¹◌}
use Rattle.tid.specs.Determined.{Determines, DeterminesResult}
use Rattle.server.proofs.words.word_at.Reads as word_at
use Rattle.server.proofs.words.byte_of.Reads as byte_of
use Rattle.server.proofs.words.put_word.Reads as put_word
use Rattle.server.proofs.records.put_request.Reads as put_request
use Rattle.server.proofs.records.result_in.Reads as result_in
use Rattle.server.proofs.phase.ask.Reads as ask
use Rattle.server.proofs.phase.place.Reads as place
use Rattle.server.proofs.phase.request_in.Reads as request_in
use Rattle.server.proofs.phase.after.Reads as after

word_at_determined : (κs : _) (a : _) → DeterminesResult (word_at.Post κs a)
word_at_determined κs a r r' s s' p p' = (p ∙⁻¹ p', refl)

byte_of_determined : (κs : _) (a : _) → DeterminesResult (byte_of.Post κs a)
byte_of_determined κs a r r' s s' p p' = (p ∙⁻¹ p', refl)

-- what answers nothing is seen by its bytes alone
put_word_determined : (κs : _) (a : _) → Determines (put_word.Post κs a) (λ s. s.0.now)
put_word_determined κs a r r' s s' p p' = (refl, p ∙⁻¹ p')

put_request_determined : (κs : _) (a : _) → Determines (put_request.Post κs a) (λ s. s.1.0.now)
put_request_determined κs a r r' s s' p p' = (refl, p ∙⁻¹ p')

result_in_determined : (κs : _) (a : _) → DeterminesResult (result_in.Post κs a)
result_in_determined κs a r r' s s' p p' = (p ∙⁻¹ p', refl)

ask_determined : (κs : _) (a : _) → DeterminesResult (ask.Post κs a)
ask_determined κs a r r' s s' p p' = (p ∙⁻¹ p', refl)

place_determined : (κs : _) (a : _) → DeterminesResult (place.Post κs a)
place_determined κs a r r' s s' p p' = (p ∙⁻¹ p', refl)

request_in_determined : (κs : _) (a : _) → DeterminesResult (request_in.Post κs a)
request_in_determined κs a r r' s s' p p' = (p ∙⁻¹ p', refl)

after_determined : (κs : _) (a : _) → DeterminesResult (after.Post κs a)
after_determined κs a r r' s s' p p' = (p ∙⁻¹ p', refl)
