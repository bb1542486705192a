-- Each public function's own promise leaves no choice.
use Rattle.std.proofs.Common.{ap, refl}
use mathlib.Core.Path.{◌∙⁻¹◌}
use Rattle.clock.specs.Clock.{Heard}
use Rattle.clock.specs.declared.clock.Answer.{Answer}
use Rattle.tid.specs.Determined.{Determines, DeterminesResult}
use Rattle.clock.proofs.clock.Clock.new.Reads as clock_clock_new
use Rattle.clock.proofs.clock.Clock.hear.Reads as clock_clock_hear
use Rattle.clock.proofs.message.asked_in.Reads as message_asked_in
use Rattle.clock.proofs.message.answer_byte.Reads as message_answer_byte
use Rattle.clock.proofs.message.request_byte.Reads as message_request_byte
use Rattle.clock.proofs.message.meant.Reads as message_meant
use Rattle.clock.proofs.message.asked_by.Reads as message_asked_by
use Rattle.clock.proofs.message.op_of.Reads as message_op_of
use Rattle.clock.proofs.message.argument_of.Reads as message_argument_of
use Rattle.clock.proofs.message.status_of.Reads as message_status_of
use Rattle.clock.proofs.message.count_of.Reads as message_count_of

clock_clock_new_determined : (κs : _) (a : _) → DeterminesResult (clock_clock_new.Post κs a)
clock_clock_new_determined κs a r r' s s' p p' = (p ∙⁻¹ p', refl)

clock_clock_hear_determined : (κs : _) (a : _) → Determines (clock_clock_hear.Post κs a) (λ s. s.0.now)
clock_clock_hear_determined κs a r r' s s' p p' =
    let same = p ∙⁻¹ p' in
    (ap {B = Answer} (λ (h : Heard). record { said = h.said; to = h.to }) same, ap (λ (h : Heard). h.clock) same)

message_asked_in_determined : (κs : _) (a : _) → DeterminesResult (message_asked_in.Post κs a)
message_asked_in_determined κs a r r' s s' p p' = (p ∙⁻¹ p', refl)

message_answer_byte_determined : (κs : _) (a : _) → DeterminesResult (message_answer_byte.Post κs a)
message_answer_byte_determined κs a r r' s s' p p' = (p ∙⁻¹ p', refl)

message_meant_determined : (κs : _) (a : _) → DeterminesResult (message_meant.Post κs a)
message_meant_determined κs a r r' s s' p p' = (p ∙⁻¹ p', refl)

message_request_byte_determined : (κs : _) (a : _) → DeterminesResult (message_request_byte.Post κs a)
message_request_byte_determined κs a r r' s s' p p' = (p ∙⁻¹ p', refl)

message_asked_by_determined : (κs : _) (a : _) → DeterminesResult (message_asked_by.Post κs a)
message_asked_by_determined κs a r r' s s' p p' = (p ∙⁻¹ p', refl)

message_op_of_determined : (κs : _) (a : _) → DeterminesResult (message_op_of.Post κs a)
message_op_of_determined κs a r r' s s' p p' = (p ∙⁻¹ p', refl)

message_argument_of_determined : (κs : _) (a : _) → DeterminesResult (message_argument_of.Post κs a)
message_argument_of_determined κs a r r' s s' p p' = (p ∙⁻¹ p', refl)

message_status_of_determined : (κs : _) (a : _) → DeterminesResult (message_status_of.Post κs a)
message_status_of_determined κs a r r' s s' p p' = (p ∙⁻¹ p', refl)

message_count_of_determined : (κs : _) (a : _) → DeterminesResult (message_count_of.Post κs a)
message_count_of_determined κs a r r' s s' p p' = (p ∙⁻¹ p', refl)
