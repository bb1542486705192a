-- What the check finds, from what each of its parts answers.
use Prim.Native.Nat.{ℕ, ◌*◌}
use mathlib.Core.Path.{◌≡◌, ap}
use mathlib.Core.Bool.{Bool, ◌&&◌, ◌||◌}
use mathlib.Core.List.{List}
use lib.ListN.{length, get_or}
use lib.Dec.{eqb, ltb, leb}
use borrow.Author.Tests.{eq-eqb}
use Rattle.tid.specs.Sizes.{priorities}
use Rattle.queue.specs.Choose.{all_below}
use Rattle.kernel.specs.Edition.{is_edition}
use Rattle.image.specs.Record.{record_length}
use Rattle.image.proofs.Rebuilt.{Bytes}
use Rattle.audit.specs.declared.survey.Seen.{Seen}
use Rattle.audit.specs.declared.Found.{Found}
use Rattle.audit.specs.Survey.{used_in, active_up_to, count_up_to, seen_in}
use Rattle.audit.specs.Audit.{rest_blank, slot_asked, asked, found_in}
use Rattle.audit.proofs.Asked.{asked_image}

pub finds : (n ed : ℕ) (b : List ℕ) (seen : Seen) {one blank judged ready : Bool}
    → length b ≡ n * record_length
    → Bytes b
    → seen ≡ seen_in n b
    → one ≡ is_edition ed
    → blank ≡ rest_blank n b seen.used
    → judged ≡ all_below seen.used (slot_asked n ed b seen.used seen.active seen.count)
    → ready ≡ (ltb seen.active n || all_below priorities (λ p. eqb (get_or seen.count p 0) 0))
    → ◌≡◌ {A = Found}
    (record { good = one && leb 1 seen.used && blank && judged && ready; used = seen.used; active = seen.active; count = seen.count })
    (found_in n ed b)
unfolding found_in asked
finds n ed b seen whole small e w x y z =
    let used = used_in n b in
    rw (w, x, y, z, ap (λ (s : Seen). s.used) e, ap (λ (s : Seen). s.active) e, ap (λ (s : Seen). s.count) e, eq-eqb (length b) (n * record_length) whole)
    (ap (λ (good : Bool). record { good = good; used = used; active = active_up_to n b used; count = count_up_to n b used }) (asked_image n ed b whole small))
