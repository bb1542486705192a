-- The notifier's words are read back as the notifier, whatever it is told.
use Rattle.std.proofs.Common.{◌≡◌, ℕ, ◌<◌, min, eqb, ltb, refl, ap, ◌∙◌, arith, ltb-true}
use Rattle.tid.specs.Sizes.{events}
use Rattle.task.specs.declared.task.Outcome.{Outcome}
use Rattle.task.specs.declared.task.Outcome.TheVariants.{Nothing, Value, Fault}
use Rattle.task.proofs.Tests.{chosen}
use Rattle.step.specs.Every.{Every, none, more}
use Rattle.image.specs.Bytes.{same}
use Rattle.image.proofs.Bytes.{same_refl}
use Rattle.clock_tasks.specs.declared.notifier.Duty.{Duty}
use Rattle.clock_tasks.specs.declared.notifier.Duty.TheVariants.{Asking, Asked, Writing, Awaiting, Waiting, Sending, Sent}
use Rattle.clock_tasks.specs.declared.notifier.Notifier.{Notifier}
use Rattle.clock_tasks.specs.Notifier as Spec
use Rattle.clock_tasks.specs.NotifierState.{words, duty_code, place, duty_of, notifier_words, notifier_from, is_notifier}
use Rattle.clock_tasks.specs.Laws.{notifier_machine}
use Rattle.clock_tasks.proofs.Kept.{Word, Told, Keeps}

-- within its bounds: there are eight bytes to write
abbrev Within : Duty → Type 0
Within d = place d < 8

-- what every notifier keeps
pub record Rule (s : Notifier) : Type 0 where
  pub event : s.event < events
  pub clock : Word s.clock
  pub within : Within s.duty

code_small : (d : Duty) → Word (duty_code d)
code_small Asking = omega arith
code_small Asked = omega arith
code_small (Writing k) = omega arith
code_small Awaiting = omega arith
code_small Waiting = omega arith
code_small Sending = omega arith
code_small Sent = omega arith

small : {s : Notifier} → Rule s → Every Word (notifier_words s)
small {s} h =
    let at : Word (place s.duty) = omega arith in
    let event : Word s.event = omega arith in
    more (code_small s.duty) (more at (more event (more h.clock none)))

duty_back : (d : Duty) → Within d → duty_of (duty_code d) (place d) ≡ d
duty_back Asking h = refl
duty_back Asked h = refl
duty_back (Writing k) h = let e : min k 7 ≡ k = omega arith in ap Writing e
duty_back Awaiting h = refl
duty_back Waiting h = refl
duty_back Sending h = refl
duty_back Sent h = refl

back : {s : Notifier} → Rule s → notifier_from (notifier_words s) ≡ s
back {s} h =
    let event : min s.event 63 ≡ s.event = omega arith in
    λ i. record { event = event i; clock = s.clock; duty = duty_back s.duty h.within i }

after_within : (d : Duty) → Within d → Within (Spec.after d)
after_within Asking h = h
after_within Asked h = h
after_within (Writing k) h = chosen Within (ltb k 7) (λ e. omega (arith, ltb-true k 7 e)) (λ e. omega arith)
after_within Awaiting h = h
after_within Waiting h = h
after_within Sending h = h
after_within Sent h = h

with_duty_lem : {s : Notifier} → Rule s → (d : Duty) → Within d → Rule (Spec.with_duty s d)
with_duty_lem h d w = record { event = h.event; clock = h.clock; within = w }

hears_rule : {s : Notifier} → Rule s → (d : Duty) {v : ℕ} → Word v → Rule (Spec.hears s d v)
hears_rule h Asking small = h
hears_rule h Asked small = record { event = h.event; clock = small; within = omega arith }
hears_rule h (Writing k) small = h
hears_rule h Awaiting small = h
hears_rule h Waiting small = with_duty_lem h Sending (omega arith)
hears_rule h Sending small = h
hears_rule h Sent small = with_duty_lem h Awaiting (omega arith)

fails_rule : {s : Notifier} → Rule s → (d : Duty) (f : ℕ) → Rule (Spec.fails s d f)
fails_rule h Asking f = h
fails_rule h Asked f = h
fails_rule h (Writing k) f = h
fails_rule h Awaiting f = h
fails_rule h Waiting f = with_duty_lem h _ (chosen Within (eqb f 2) (λ e. omega arith) (λ e. omega arith))
fails_rule h Sending f = h
fails_rule h Sent f = with_duty_lem h Awaiting (omega arith)

told_rule : {s : Notifier} → Rule s → (o : Outcome) → Told o → Rule (Spec.told s o)
told_rule h Nothing t = h
told_rule {s} h (Value from cut v) t = hears_rule h s.duty t.1
told_rule {s} h (Fault f) t = fails_rule h s.duty f

pub notifier_keeps : Keeps notifier_machine words notifier_words notifier_from is_notifier Rule
notifier_keeps =
    record {
      sized = λ h. refl;
      small = small;
      back = back;
      taken = λ {s} h. ap (λ (t : Notifier). same (notifier_words t) (notifier_words s)) (back h) ∙ same_refl (notifier_words s);
      asked = λ {s} h. with_duty_lem h (Spec.after s.duty) (after_within s.duty h.within);
      told = λ h o area t found. told_rule h o t;
    }
