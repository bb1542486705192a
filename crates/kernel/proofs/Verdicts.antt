-- Refusals and their numbers are one to one, and no refusal has the number of none.
use mathlib.Core.Path.{◌≡◌, refl, sym, ◌∙◌, ap}
use mathlib.Core.Bool.{true, true≢false}
use Prim.Native.Nat.{ℕ}
use lib.Dec.{eqb, ltb}
use Rattle.queue.specs.Choose.{choose}
use Rattle.kernel.specs.declared.refusal.Refusal.{Refusal}
use Rattle.kernel.specs.declared.refusal.Refusal.TheVariants.{BadAreas, BadTable, BadKind, NoneActive, BadRecord, BadPriority, BadImage, BadEvent, BadWrite, BadAnswer, EntryLost, BadEdition}
use Rattle.kernel.specs.Numbers.{accepted}
use Rattle.kernel.specs.Verdict.{refusal_number}

pub number_positive : (e : Refusal) → ltb accepted (refusal_number e) ≡ true
number_positive BadAreas = refl
number_positive BadTable = refl
number_positive BadKind = refl
number_positive NoneActive = refl
number_positive BadRecord = refl
number_positive BadPriority = refl
number_positive BadImage = refl
number_positive BadEvent = refl
number_positive BadWrite = refl
number_positive BadAnswer = refl
number_positive EntryLost = refl
number_positive BadEdition = refl

pub number_none : (e : Refusal) → accepted ≡ refusal_number e → ⊥
number_none e h = true≢false (sym (number_positive e) ∙ ap (ltb accepted) (sym h))

-- the refusal of a number
abbrev refusal_at : ℕ → Refusal
refusal_at v =
    choose (eqb v 1) BadAreas
    (choose (eqb v 2) BadTable
    (choose (eqb v 3) BadKind
    (choose (eqb v 4) NoneActive
    (choose (eqb v 5) BadRecord
    (choose (eqb v 6) BadPriority
    (choose (eqb v 7) BadImage
    (choose (eqb v 8) BadEvent
    (choose (eqb v 9) BadWrite
    (choose (eqb v 10) BadAnswer
    (choose (eqb v 11) EntryLost
    BadEdition))))))))))

number_back : (e : Refusal) → refusal_at (refusal_number e) ≡ e
number_back BadAreas = refl
number_back BadTable = refl
number_back BadKind = refl
number_back NoneActive = refl
number_back BadRecord = refl
number_back BadPriority = refl
number_back BadImage = refl
number_back BadEvent = refl
number_back BadWrite = refl
number_back BadAnswer = refl
number_back EntryLost = refl
number_back BadEdition = refl

pub number_apart : {e e' : Refusal} → refusal_number e ≡ refusal_number e' → e ≡ e'
number_apart {e = e} {e' = e'} h = sym (number_back e) ∙ ap refusal_at h ∙ number_back e'
