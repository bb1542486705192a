-- What a step comes to: a refusal, which changes nothing, or what is decided of a table that keeps the rules.
use Prim.Native.Nat.{ℕ, ◌*◌}
use Rattle.std.specs.Prelude.{Option, Result, unwrap_or}
use Rattle.std.proofs.Common.{Ok, Err}
use mathlib.Core.Path.{◌≡◌, refl, sym, ap}
use mathlib.Core.Logic.{◌≢◌}
use mathlib.Core.Bool.{true, false, not, ◌&&◌}
use native.Mathlib.Omega.{arith}
use lib.Dec.{ltb, leb, eqb}
use borrow.Author.Tests.{eqb-true, eqb-false, eq-eqb, ne_eqb, ltb-false, not-true, not-false}
use Rattle.tid.specs.Sizes.{events, area_bytes}
use Rattle.queue.proofs.Below.{by_test}
use Rattle.task.specs.declared.task.Outcome.TheVariants.{Nothing}
use Rattle.task.proofs.Tests.{chosen}
use Rattle.kernel.specs.declared.table.Table.{Table}
use Rattle.kernel.specs.declared.table.Request.{Request}
use Rattle.kernel.specs.declared.table.Effect.TheVariants.{Keep}
use Rattle.kernel.specs.declared.table.Decision.{Decision}
use Rattle.kernel.specs.Numbers.{create_kind, event_kind, own_write_kind, accepted, bad_areas, bad_table, bad_kind, none_active, bad_event, bad_write, bad_edition}
use Rattle.kernel.specs.declared.refusal.Refusal.{Refusal}
use Rattle.kernel.specs.Verdict.{refusal_number}
use Rattle.kernel.specs.Edition.{is_edition}
use Rattle.kernel.specs.Table.{slots, active_slot}
use Rattle.kernel.specs.Turn.{settled}
use Rattle.kernel.specs.Refusal.{refusal_of, Enters}
use Rattle.kernel.specs.Decide.{refused, turn_of, own_write, decide_at, decide}
use Rattle.kernel.proofs.Refusals.{dispatched_accepted}
use Rattle.rules.specs.Good.{good_table}
use Rattle.rules.specs.Facts.{Good}
use Rattle.rules.proofs.Good.{facts_good}
use Rattle.rules.proofs.Walk.{active_found}
use Rattle.step.specs.Step.{checked_active, step}

-- the table and the areas as they were, and no result
pub record Unchanged (t : Table) (d : Decision) : Type 0 where
  pub table : d.table ≡ t
  pub effect : d.effect ≡ Keep
  pub result : d.answer.result ≡ Nothing

same : (t : Table) (v next : ℕ) → Unchanged t (refused t v next)
same t v next = record { table = refl; effect = refl; result = refl }

-- what is so of the numbers that a request is refused by, and of 0, is so of the one that it gets
pub refusal_is : (P : ℕ → Type 0) (n a : ℕ) (r : Request) → P accepted → P bad_kind → P none_active → P bad_event → P bad_write → P (refusal_of n a r)
unfolding refusal_of
refusal_is P n a r zero three four eight nine =
    let k = r.kind in
    chosen P (not (leb create_kind k && leb k own_write_kind)) (λ _. three)
    (λ _. chosen P (not (ltb a n) && not (eqb k event_kind)) (λ _. four)
    (λ _. chosen P (eqb k event_kind && not (ltb r.arg0 events)) (λ _. eight)
    (λ _. chosen P (eqb k own_write_kind && not (ltb r.arg0 area_bytes && ltb r.arg1 256)) (λ _. nine) (λ _. zero))))

module _ (t : Table) (r : Request) where
  -- a decision is a refusal, or an own write, or the end of an entry
  pub decide_is : (P : Decision → Type 0) → let a = active_slot t in
      let v = refusal_of (slots t) a r in
      ((next : ℕ) → P (refused t v next))
      → (v ≡ accepted → r.kind ≡ own_write_kind → P (own_write t a r.arg0 r.arg1))
      → (Enters (slots t) a r → P (settled a (turn_of t a r)))
      → P (decide t r)
  unfolding decide decide_at
  decide_is P stopped wrote entered =
      let v = refusal_of (slots t) (active_slot t) r in
      chosen P (ltb accepted v) (λ _. stopped _)
      (λ none.
      let clear : v ≡ accepted = omega (arith, ltb-false accepted v none) in
      chosen P (eqb r.kind own_write_kind) (λ own. wrote clear (eqb-true r.kind own_write_kind own))
      (λ other. entered (clear, eqb-false r.kind own_write_kind other)))

  -- what a step does by what the check answers
  abbrev pub step_by : ℕ → Result (Option ℕ) Refusal → Decision
  step_by n (Err e) = refused t (refusal_number e) 0
  step_by n (Ok a) = decide_at t (unwrap_or a n) r

  module _ (len : ℕ) where
    -- what is so of the three refusals of a step, and of what is decided of a table that keeps the rules, is so of the step
    pub step_is : (P : Decision → Type 0) → P (refused t bad_edition 0) → P (refused t bad_areas 0) → (good_table t ≡ false → P (refused t bad_table 0))
        → (good_table t ≡ true → P (decide t r)) → P (step t r len)
    unfolding step
    step_is P twelve one two decided =
        chosen P (not (is_edition t.edition)) (λ _. twelve)
        (λ _. chosen P (not (eqb len (slots t * area_bytes))) (λ _. one)
        (λ _. chosen P (not (good_table t)) (λ bad. two (not-true (good_table t) bad)) (λ good. decided (not-false (good_table t) good))))

    -- the numbers that a step is refused by, and 0
    pub step_verdict : (P : ℕ → Type 0) → P accepted → P bad_edition → P bad_areas → P bad_table → P bad_kind → P none_active → P bad_event
        → P bad_write → P (step t r len).answer.verdict
    unfolding settled own_write
    step_verdict P zero twelve one two three four eight nine =
        let Q : Decision → Type 0 = λ d. P d.answer.verdict in
        step_is Q twelve one (λ _. two)
        (λ _. decide_is Q (λ _. refusal_is P _ _ r zero three four eight nine) (λ _ _. zero) (λ _. rw dispatched_accepted zero))

    -- a refused step changes nothing
    pub refused_step : let d = step t r len in d.answer.verdict ≢ accepted → Unchanged t d
    unfolding settled own_write
    refused_step =
        let Q : Decision → Type 0 = λ d. d.answer.verdict ≢ accepted → Unchanged t d in
        step_is Q (λ _. same t _ _) (λ _. same t _ _) (λ _ _. same t _ _)
        (λ _. decide_is Q (λ _ _. same t _ _) (λ _ _ no. absurd (no refl)) (λ _ no. absurd (no (dispatched_accepted _ _))))

    -- A step by the names of its refusals.

    by_refusals : step t r len ≡ step_by (slots t) (checked_active (slots t) t len)
    unfolding step decide
    by_refusals =
        by_test (is_edition t.edition)
        (λ known. by_test (eqb len (slots t * area_bytes))
        (λ whole. by_test (good_table t)
        (λ good. rw (known, whole, good) (ap (λ (a : ℕ). decide_at t a r) (sym (active_found (slots t) t refl))))
        (λ bad. rw (known, whole, bad)))
        (λ other. rw (known, other)))
        (λ none. rw none)

    pub step_checked : (n : ℕ) → slots t ≡ n → {x : Result (Option ℕ) Refusal} → x ≡ checked_active n t len → step t r len ≡ step_by n x
    step_checked n size e = rw (e, ← size) by_refusals

    -- Which of its four forms a step has.

    pub step_edition : is_edition t.edition ≡ false → step t r len ≡ refused t bad_edition 0
    unfolding step
    step_edition none = rw none

    pub step_areas : is_edition t.edition ≡ true → len ≢ slots t * area_bytes → step t r len ≡ refused t bad_areas 0
    unfolding step
    step_areas known other = rw (known, ne_eqb len (slots t * area_bytes) other)

    pub step_broken : is_edition t.edition ≡ true → len ≡ slots t * area_bytes → good_table t ≡ false → step t r len ≡ refused t bad_table 0
    unfolding step
    step_broken known size bad = rw (known, eq-eqb len (slots t * area_bytes) size, bad)

    pub step_decides : {n : ℕ} → Good n t → len ≡ n * area_bytes → step t r len ≡ decide t r
    unfolding step
    step_decides {n} good size = rw (good.edition, good.rules.size, eq-eqb len (n * area_bytes) size, facts_good n t good)
