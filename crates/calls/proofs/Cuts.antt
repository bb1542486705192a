-- The words of the last answer of a run: where they tell a value, the last one tells whether its delivery was cut.
use Prim.Native.Nat.{ℕ, ◌*◌, ◌^◌, ◌<◌}
use mathlib.Core.Path.{◌≡◌, refl, sym, ap, ◌∙◌}
use mathlib.Core.Bool.{Bool}
use mathlib.Core.List.{List, [], map}
use native.Mathlib.Omega.{arith}
use lib.ListN.{length}
use Rattle.tid.specs.Sizes.{area_bytes}
use Rattle.tid.specs.Tid.{slot_named}
use Rattle.task.specs.declared.task.Outcome.{Outcome}
use Rattle.task.specs.declared.task.Outcome.TheVariants.{Nothing, Value, Fault}
use Rattle.task.specs.Result.{result_kind, result_cut, bit}
use Rattle.task.specs.Task.{first_negative}
use Rattle.kernel.specs.declared.table.Table.{Table}
use Rattle.kernel.specs.declared.table.Request.{Request}
use Rattle.kernel.specs.declared.table.Answer.{Answer}
use Rattle.kernel.specs.declared.table.Decision.{Decision}
use Rattle.kernel.specs.Decide.{own_write}
use Rattle.rules.specs.Facts.{Good}
use Rattle.rules.proofs.Good.{facts_good, good_shaped}
use Rattle.step.specs.Step.{step}
use Rattle.step.specs.Run.{Done, run, answers, last_of}
use Rattle.step.specs.Every.{Every, none, more}
use Rattle.step.proofs.Steps.{step_is, decide_is}
use Rattle.image.specs.Bytes.{number_in}
use Rattle.image.specs.Call.{answer_bytes, at_next, at_kind, at_cut_word}
use Rattle.image.proofs.Bytes.{number_back}
use Rattle.image.proofs.Laws.{kind_fits, cut_fits}
use Rattle.laws.specs.View.{Steps}
use Rattle.laws.specs.Cut.{last_is_short, last_shown}
use Rattle.laws.proofs.Steps.{every_step}
use Rattle.laws.proofs.Sees.{entry_tells}
use Rattle.laws.proofs.Laws.{cut_is_told}

-- who is told a value has a tid that fits a word
abbrev Fits : Answer → Type 0
Fits a = result_kind a.result ≡ 1 → a.next < 2 ^ 32

-- only a used task is told a value
step_fits : {n : ℕ} → n < first_negative → (t : Table) (r : Request) (len : ℕ) → Good n t → Fits (step t r len).answer
unfolding own_write
step_fits {n} small t r len good =
    let P : Decision → Type 0 = λ d. Fits d.answer in
    step_is t r len P (λ e. absurd (omega arith)) (λ e. absurd (omega arith)) (λ _ e. absurd (omega arith))
    (λ _. decide_is t r P (λ _ e. absurd (omega arith)) (λ _ _ e. absurd (omega arith))
    (λ enters e.
    let told = (entry_tells good r enters (λ s o. result_kind o ≡ 1 → s < n) (λ s e. absurd (omega arith))
    (λ s used _. omega (arith, good.rules.tasks.fits))).shown e in
    omega arith))

-- bytes whose words tell an answer's kind and mark, and of a value who gets it
record Shows (bytes : List ℕ) (a : Answer) : Type 0 where
  kind : number_in bytes at_kind 4 ≡ result_kind a.result
  cut : number_in bytes at_cut_word 4 ≡ result_cut a.result
  next : result_kind a.result ≡ 1 → number_in bytes at_next 4 ≡ a.next

answer_shows : (a : Answer) → Fits a → Shows (answer_bytes a) a
unfolding answer_bytes
answer_shows a fits =
    record {
      kind = number_back 4 (result_kind a.result) (kind_fits a.result);
      cut = number_back 4 (result_cut a.result) (cut_fits a.result);
      next = λ e. number_back 4 a.next (omega (arith, fits e));
    }

last_shows : {u : List Done} {bytes : List ℕ} {a : Answer} → Every (λ s. Fits s.decision.answer) u → Shows bytes a
    → Shows (last_of bytes (map (λ s. answer_bytes s.decision.answer) u)) (last_of a (answers u))
unfolding last_of
last_shows none shows = shows
last_shows (more fits each) shows = last_shows each (answer_shows _ fits)

value_cut : (o : Outcome) (mark : Bool) → result_kind o ≡ 1 → ((from v : ℕ) (cut : Bool) → o ≡ Value from cut v → cut ≡ mark)
    → result_cut o ≡ bit mark
value_cut Nothing mark e told = absurd (omega arith)
value_cut (Value from cut v) mark e told = ap bit (told from v cut refl)
value_cut (Fault f) mark e told = absurd (omega arith)

pub run_cuts : {n : ℕ} {t : Table} → n < first_negative → Good n t → (xs : List ℕ) (rs : List Request) → length xs ≡ n * area_bytes
    → let u = run t xs rs in
    let answer = last_of [] (map (λ s. answer_bytes s.decision.answer) u) in
    number_in answer at_kind 4 ≡ 1 → number_in answer at_cut_word 4 ≡ bit (last_is_short t (slot_named (number_in answer at_next 4)) u)
run_cuts {n} {t} small good xs rs size one =
    let steps : Steps n t xs = record { small = small; shaped = good_shaped good; good = facts_good n t good; size = size } in
    let first : Shows [] (record { verdict = 0; next = 0; result = Nothing }) = record { kind = refl; cut = refl; next = λ _. refl } in
    let shows = last_shows (every_step small (λ _ _ d. Fits d.answer) (step_fits small) rs t xs good) first in
    let value = sym shows.kind ∙ one in
    rw (shows.cut, shows.next value)
    (value_cut (last_shown (run t xs rs)).result _ value (λ from v cut. cut_is_told n t xs rs from v cut steps))
