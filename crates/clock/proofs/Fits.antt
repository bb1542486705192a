-- What the plan answers to a message is what the clock may answer to it.
use Rattle.std.proofs.Common.{◌≡◌, ℕ, ◌+◌, ◌-◌, ◌^◌, true, eqb, leb, List, length, sym, refl, ◌∙◌, subst, true≢false, arith, lt-ltb, ne_eqb, leb-false}
use mathlib.Core.Bool.{or-true}
use Rattle.task.specs.Task.{first_negative, is_negative}
use Rattle.task.proofs.Tests.{chosen}
use Rattle.clock.specs.declared.clock.Asked.{Asked}
use Rattle.clock.specs.declared.clock.Asked.TheVariants.{Tick, Time, Delay, Until, Unknown}
use Rattle.clock.specs.Row.{room}
use Rattle.clock.specs.Clock.{wrapped, is_due}
use Rattle.clock.specs.Message.{count_fits, delay_refusal}
use Rattle.clock.specs.Plan.{Entry, is_asleep, Verdict, answered, sleeps, verdict}
use Rattle.clock.specs.Laws.{said_fits, AnswersFit}

abbrev Fits : Asked → Verdict → Type 0
Fits q (answered said) = said_fits q said ≡ true
Fits q (sleeps due) = (later : ℕ) → is_due later due ≡ true → count_fits q later ≡ true

-- a delay of nothing is due at once
due_at_once : (count d : ℕ) → d ≡ 0 → is_due count (wrapped (count + d)) ≡ true
unfolding is_due
due_at_once count d none = lt-ltb (wrapped (count + (2 ^ 32 - wrapped (count + d)))) first_negative (omega arith)

verdict_fits : (n count : ℕ) (sleeping : List Entry) (from : ℕ) (q : Asked) → Fits q (verdict n count sleeping from q)
verdict_fits n count sleeping from Tick =
    chosen (λ said. said_fits Tick said ≡ true) (eqb from n) (λ _. refl) (λ _. refl)
verdict_fits n count sleeping from Time = refl
verdict_fits n count sleeping from (Delay d) =
    chosen (Fits (Delay d)) (is_asleep sleeping from) (λ _. or-true (eqb 4 (delay_refusal d)))
    (λ _. chosen (Fits (Delay d)) (is_negative d) (λ negative. rw negative)
    (λ small. let fits = lt-ltb d first_negative (leb-false first_negative d small) in
    chosen (Fits (Delay d)) (is_due count (wrapped (count + d))) (λ _. fits)
    (λ far. chosen (Fits (Delay d)) (leb room (length sleeping))
    (λ _. rw (small, ne_eqb d 0 (λ none. true≢false (sym (due_at_once count d none) ∙ far))))
    (λ _ later _. fits))))
verdict_fits n count sleeping from (Until due) =
    chosen (Fits (Until due)) (is_asleep sleeping from) (λ _. refl)
    (λ _. chosen (Fits (Until due)) (is_due count due) (λ now. now)
    (λ _. chosen (Fits (Until due)) (leb room (length sleeping)) (λ _. refl) (λ _ later met. met)))
verdict_fits n count sleeping from Unknown = refl

pub answers_fit_lem : AnswersFit
answers_fit_lem n count sleeping from q =
    let fits = verdict_fits n count sleeping from q in
    (λ said e. subst (Fits q) e fits, λ due later e met. subst (Fits q) e fits later met)
