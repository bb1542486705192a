-- What is told along a run is cut exactly if the step that gave it was a delivery that copied fewer bytes than were sent.
use Prim.Native.Nat.{ℕ}
use mathlib.Core.Path.{◌≡◌, refl, sym, ap, subst, ◌∙◌}
use mathlib.Core.Logic.{◌≢◌}
use mathlib.Core.Bool.{Bool, true, false, not}
use mathlib.Core.List.{List, [], ◌∷◌, map}
use native.Mathlib.Decide.{ℕ_discrete}
use lib.ListN.{length}
use lib.Dec.{eqb}
use borrow.Author.Tests.{eq-eqb, ne_eqb, not-true}
use Rattle.queue.specs.Choose.{choose}
use Rattle.queue.proofs.Below.{by_test}
use Rattle.tid.specs.Tid.{slot_named}
use Rattle.task.specs.declared.task.Outcome.{Outcome}
use Rattle.task.specs.declared.task.Outcome.TheVariants.{Nothing, Value, Fault}
use Rattle.task.specs.declared.task.Task.{Task}
use Rattle.task.specs.Result.{result_cut}
use Rattle.task.specs.Task.{is_negative}
use Rattle.task.proofs.Tests.{chosen}
use Rattle.kernel.specs.declared.table.Table.{Table}
use Rattle.kernel.specs.declared.table.Request.{Request}
use Rattle.kernel.specs.declared.table.Answer.{Answer}
use Rattle.kernel.specs.declared.table.Effect.{Effect}
use Rattle.kernel.specs.declared.table.Effect.TheVariants.{Keep, Copy, Put}
use Rattle.kernel.specs.declared.table.Turn.{Turn}
use Rattle.kernel.specs.declared.table.Decision.{Decision}
use Rattle.kernel.specs.Numbers.{event_kind}
use Rattle.kernel.specs.Table.{task_at, active_slot}
use Rattle.kernel.specs.Kinds.{is_cut, event}
use Rattle.kernel.specs.Decide.{turn_of}
use Rattle.kernel.proofs.Every.{every_kind}
use Rattle.step.specs.Step.{step, after}
use Rattle.step.specs.Run.{Done, run, answers, last_of}
use Rattle.laws.specs.Parties.{parties, Lands}
use Rattle.laws.specs.View.{is_entry, is_sent_to, is_received_from, is_replied_to, is_signalled, is_turned_away, others_left, left, Steps}
use Rattle.laws.specs.Cut.{is_given, givings, copies_less, is_short, last_is_short, last_shown}
use Rattle.kept.proofs.Choices.{through, choose_same}
use Rattle.laws.proofs.Landing.{step_lands}
use Rattle.laws.proofs.View.{AllTold}
use Rattle.laws.proofs.Concerns.{sent_facts, replied_facts, signalled_facts}
use Rattle.laws.proofs.Sees.{left_other, left_own, enters, entry_tells, steps_good, step_entry, step_stays, steps_next}
use Rattle.laws.proofs.Reach.{step_effect, sent_effect, replied_effect}

-- a result is no value, or one that is cut as a mark says
abbrev agrees : Bool → Outcome → Bool
agrees mark Nothing = true
agrees mark (Value from cut v) = choose cut mark (not mark)
agrees mark (Fault f) = true

itself : (b : Bool) → choose b b (not b) ≡ true
itself true = refl
itself false = refl

told : (cut mark : Bool) → choose cut mark (not mark) ≡ true → cut ≡ mark
told true mark e = sym e
told false mark e = sym (not-true mark e)

-- the caller is told of its own delivery, if it is told a value
turn_agrees : (t : Table) (c : ℕ) (r : Request) → let u = turn_of t c r in agrees (is_cut u.effect) u.result ≡ true
unfolding turn_of every_kind
turn_agrees t c r = simp (through (λ (u : Turn). agrees (is_cut u.effect) u.result), itself, choose_same)

event_effect : (t : Table) (c : ℕ) (r : Request) → r.kind ≡ event_kind → (turn_of t c r).effect ≡ Keep
unfolding turn_of event
event_effect t c r kind = rw kind

-- a delivery's own word is right
short_cut : (t : Table) (r : Request) (e : Effect) → Lands t r e → copies_less (parties t r).given.len e ≡ is_cut e
short_cut t r Keep lands = refl
short_cut t r (Copy source dest n cut) lands = sym lands.short
short_cut t r (Put at byte) lands = refl

-- ONE STEP

-- b says of each slot whether the last step that gave its task a result was short, and what the task holds agrees
module _ {n : ℕ} {t : Table} {xs : List ℕ} (steps : Steps n t xs) (r : Request) (b : ℕ → Bool)
    (held : (s : ℕ) → agrees (b s) (task_at t s).result ≡ true) where
  abbrev a : ℕ
  a = active_slot t

  abbrev d : Decision
  d = step t r (length xs)

  abbrev short : Bool
  short = copies_less (parties t r).given.len d.effect

  -- what b says after this step, and that a result of slot s agrees
  abbrev mark : ℕ → Bool
  mark s = choose (is_given t r s) short (b s)

  abbrev Agrees : ℕ → Outcome → Type 0
  Agrees s o = agrees (mark s) o ≡ true

  module _ (e : is_entry t r ≡ true) where
    effect_short : is_cut (turn_of t a r).effect ≡ short
    effect_short = sym (short_cut t r d.effect (step_lands (steps_good steps) r (length xs)) ∙ ap is_cut (step_effect steps r e))

    own_agrees : Agrees a (left t r a).result
    own_agrees = rw (left_own t r, e, eq-eqb a a refl, ← effect_short) (turn_agrees t a r)

    others_agree : (s : ℕ) → s ≢ a → Agrees s (others_left t r s).result
    unfolding others_left
    others_agree s other =
        let Is : Task → Type 0 = λ x. Agrees s x.result in
        let apart = ne_eqb s a other in
        chosen Is (is_sent_to t r s)
        (λ sent.
        let cut = ap is_cut (sent_effect steps r e s (sent_facts t r s sent) other) in
        rw (e, apart, sent, ← effect_short, cut, itself))
        (λ n₁. chosen Is (is_received_from t r s) (λ _. refl)
        (λ _. chosen Is (is_replied_to t r s)
        (λ replied.
        let cut = ap is_cut (replied_effect steps r e s (replied_facts t r s replied)) in
        rw (e, apart, n₁, replied, ← effect_short, cut, itself))
        (λ n₂. chosen Is (is_signalled t r s)
        (λ happens.
        let cut = ap is_cut (event_effect t a r (signalled_facts t r s happens).kind) in
        rw (e, apart, n₁, n₂, happens, ← effect_short, cut)
        (chosen (λ (o : Outcome). agrees false o ≡ true) (is_negative r.arg1) (λ _. refl) (λ _. refl)))
        (λ n₃. chosen Is (is_turned_away t r s) (λ _. refl)
        (λ n₄. rw (e, apart, n₁, n₂, n₃, n₄) (held s))))))

    left_agrees : (s : ℕ) → Agrees s (left t r s).result
    left_agrees s =
        elim (ℕ_discrete s a) [
          | yes own ↦ rw own own_agrees
          | no other ↦ rw (left_other t r s other) (others_agree s other)
        ]

  step_agrees : AllTold Agrees d
  step_agrees =
      by_test (is_entry t r)
      (λ e.
      subst (AllTold Agrees) (sym (step_entry steps r e))
      (entry_tells (steps_good steps) r (enters t r e) Agrees (λ _. refl) (λ s _. left_agrees e s)))
      (λ e.
      let same = step_stays steps r e in
      record { held = λ s. rw (e, same.table) (held s); shown = rw same.result })

-- ALONG A RUN

last_given : (g : Bool) (mark : Bool) (d : Done) (u : List Done)
    → last_of mark (map is_short (choose g (d ∷ u) u)) ≡ last_of (choose g (is_short d) mark) (map is_short u)
unfolding last_of
last_given true mark d u = refl
last_given false mark d u = refl

run_agrees : {n : ℕ} (rs : List Request) (t : Table) (xs : List ℕ) (b : ℕ → Bool) (first : Answer) → Steps n t xs
    → ((s : ℕ) → agrees (b s) (task_at t s).result ≡ true) → agrees (b (slot_named first.next)) first.result ≡ true
    → let u = run t xs rs in let last = last_of first (answers u) in let s = slot_named last.next in
    agrees (last_of (b s) (map is_short (givings s u))) last.result ≡ true
unfolding run last_of givings
run_agrees [] t xs b first steps held shown = shown
run_agrees (r ∷ rs) t xs b first steps held shown =
    let d = step t r (length xs) in
    let tells = step_agrees steps r b held in
    rw last_given
    (run_agrees rs d.table (after d.effect xs) (mark steps r b held) d.answer (steps_next steps r) tells.held tells.shown)

-- before the first step that gives a task a result the table says what it holds
first_agrees : (o : Outcome) → agrees (eqb (result_cut o) 1) o ≡ true
first_agrees Nothing = refl
first_agrees (Value from true v) = refl
first_agrees (Value from false v) = refl
first_agrees (Fault f) = refl

pub cut_told : {n : ℕ} (rs : List Request) (t : Table) (xs : List ℕ) (from v : ℕ) (cut : Bool) → Steps n t xs
    → let u = run t xs rs in (last_shown u).result ≡ Value from cut v → cut ≡ last_is_short t (slot_named (last_shown u).next) u
cut_told rs t xs from v cut steps shown =
    let none : Answer = record { verdict = 0; next = 0; result = Nothing } in
    let first : ℕ → Bool = λ s. eqb (result_cut (task_at t s).result) 1 in
    told cut _ (rw shown at (run_agrees rs t xs first none steps (λ s. first_agrees (task_at t s).result) refl))
