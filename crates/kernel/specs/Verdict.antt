-- The number of a refusal, and of what was done or refused.
use Rattle.std.specs.Prelude.{ℕ, Result}
use Rattle.std.proofs.Common.{Ok, Err}
use Rattle.kernel.specs.declared.refusal.Refusal.{Refusal}
use Rattle.kernel.specs.declared.refusal.Refusal.TheVariants.{BadAreas, BadTable, BadKind, NoneActive, BadRecord, BadPriority, BadImage, BadEvent, BadWrite, BadAnswer, EntryLost, BadEdition}
use Rattle.kernel.specs.Numbers.{accepted, bad_areas, bad_table, bad_kind, none_active, bad_record, bad_priority, bad_image, bad_event, bad_write, bad_answer, entry_lost, bad_edition}

abbrev pub refusal_number : Refusal → ℕ
refusal_number BadAreas = bad_areas
refusal_number BadTable = bad_table
refusal_number BadKind = bad_kind
refusal_number NoneActive = none_active
refusal_number BadRecord = bad_record
refusal_number BadPriority = bad_priority
refusal_number BadImage = bad_image
refusal_number BadEvent = bad_event
refusal_number BadWrite = bad_write
refusal_number BadAnswer = bad_answer
refusal_number EntryLost = entry_lost
refusal_number BadEdition = bad_edition

-- the verdict on what gives an X, or is refused: 0 is no refusal
abbrev pub verdict_of : {X : Type 0} → Result X Refusal → ℕ
verdict_of (Ok x) = accepted
verdict_of (Err e) = refusal_number e
