-- What the passes ask of the records passes exactly where its facts hold.
use Prim.Native.Nat.{ℕ, ◌+◌, ◌*◌, ◌/◌, ◌%◌, ◌≤◌, ◌<◌}
use mathlib.Core.Path.{◌≡◌}
use mathlib.Core.Bool.{Bool, true, not, ◌&&◌, ◌||◌, or-true}
use mathlib.Core.List.{List}
use native.Mathlib.Omega.{arith}
use native.Mathlib.Decide.{dec_lt}
use lib.ListN.{get_or}
use lib.Dec.{eqb, ltb, leb}
use borrow.Author.Tests.{eqb-true, eq-eqb, lt-ltb, le-ltb, leb-true, le-leb}
use Rattle.tid.specs.Sizes.{priorities}
use Rattle.queue.specs.Choose.{all_below}
use Rattle.queue.specs.Numbering.{send_queue, queues_for}
use Rattle.queue.proofs.Below.{both_true, true_both, all_below_lem, below_all}
use Rattle.task.proofs.Tests.{implied, implies}
use Rattle.kernel.specs.Edition.{is_edition}
use Rattle.image.specs.Bytes.{record_at}
use Rattle.image.specs.Record.{record_length, at_state, at_place, byte_at}
use Rattle.audit.specs.Survey.{queue_in}
use Rattle.audit.specs.Sound.{record_sound}
use Rattle.audit.specs.Audit.{rest_blank, quiet_code, judged_at, slot_asked, asked}
use Rattle.audit.proofs.Ranks.{Fit, ranked_fit, fit_ranked}

module _ (n ed : ℕ) (b : List ℕ) (used active : ℕ) (count : List ℕ) where
  -- what is asked of the record of a used slot
  pub record Judged (s : ℕ) : Type 0 where
    pub alone : byte_at b s at_state ≡ 1 → s ≡ active
    pub quiet : quiet_code (byte_at b s at_state) ≡ true → get_or count (send_queue s) 0 ≡ 0
    pub sound : record_sound ed used s (record_at record_length b s) ≡ true
    pub fit : queue_in n b s < queues_for n → Fit (λ k. get_or count k 0) (queue_in n b) (λ i. byte_at b i at_place) s

  -- and of all records
  pub record Fine : Type 0 where
    pub edition : is_edition ed ≡ true
    pub some : 1 ≤ used
    pub blank : (s : ℕ) → used ≤ s → s < n → (j : ℕ) → j < record_length → byte_at b s j ≡ 0
    pub each : (s : ℕ) → s < used → Judged s
    pub ready : n ≤ active → (p : ℕ) → p < priorities → get_or count p 0 ≡ 0

  blank_facts : rest_blank n b used ≡ true → (s : ℕ) → used ≤ s → s < n → (j : ℕ) → j < record_length → byte_at b s j ≡ 0
  blank_facts e s g h j l =
      let at = s * record_length + j in
      let rest = all_below_lem (n * record_length) (λ i. ltb i (used * record_length) || eqb (get_or b i 0) 0) e at (omega arith) in
      eqb-true (get_or b at 0) 0 (rw (le-ltb at (used * record_length) (omega arith)) at rest)

  facts_blank : ((s : ℕ) → used ≤ s → s < n → (j : ℕ) → j < record_length → byte_at b s j ≡ 0) → rest_blank n b used ≡ true
  facts_blank blank =
      below_all (n * record_length) (λ i. ltb i (used * record_length) || eqb (get_or b i 0) 0)
      (λ i h. elim (dec_lt i (used * record_length)) [
        | yes l ↦ rw (lt-ltb i (used * record_length) l)
        | no g ↦
            let at : i / record_length * record_length + i % record_length ≡ i = omega arith in
            let none = blank (i / record_length) (omega arith) (omega arith) (i % record_length) (omega arith) in
            rw (eq-eqb (get_or b i 0) 0 (rw at at none)) (or-true (ltb i (used * record_length)))
      ])

  module _ (s : ℕ) where
    -- the tests by their names
    abbrev code : ℕ
    code = byte_at b s at_state

    abbrev alone_test : Bool
    alone_test = not (eqb code 1) || eqb s active

    abbrev quiet_test : Bool
    quiet_test = not (quiet_code code) || eqb (get_or count (send_queue s) 0) 0

    abbrev many : ℕ → ℕ
    many k = get_or count k 0

    judged_facts : slot_asked n ed b used active count s ≡ true → Judged s
    judged_facts e =
        let (judged, rank) = both_true (judged_at ed b used active (get_or count (send_queue s) 0) s) _ e in
        let (two, sound) = both_true (alone_test && quiet_test) _ judged in
        let (alone, quiet) = both_true alone_test quiet_test two in
        record {
          alone = λ one. eqb-true s active (implied (eqb code 1) _ alone (eq-eqb code 1 one));
          quiet = λ is. eqb-true _ 0 (implied (quiet_code code) _ quiet is);
          sound = sound;
          fit = ranked_fit (queues_for n) many (queue_in n b) (λ i. byte_at b i at_place) s rank;
        }

    facts_judged : Judged s → slot_asked n ed b used active count s ≡ true
    facts_judged f =
        true_both
        (true_both
        (true_both
        (implies (eqb code 1) _ (λ one. eq-eqb s active (f.alone (eqb-true code 1 one))))
        (implies (quiet_code code) _ (λ is. eq-eqb (get_or count (send_queue s) 0) 0 (f.quiet is))))
        f.sound)
        (fit_ranked (queues_for n) many (queue_in n b) (λ i. byte_at b i at_place) s f.fit)

  pub asked_fine : asked n ed b used active count ≡ true → Fine
  unfolding asked
  asked_fine e =
      let judged = all_below used (slot_asked n ed b used active count) in
      let (four, last) = both_true (is_edition ed && leb 1 used && rest_blank n b used && judged) _ e in
      let (three, each) = both_true (is_edition ed && leb 1 used && rest_blank n b used) judged four in
      let (two, rest) = both_true (is_edition ed && leb 1 used) (rest_blank n b used) three in
      let (edition, some) = both_true (is_edition ed) (leb 1 used) two in
      record {
        edition = edition;
        some = leb-true 1 used some;
        blank = blank_facts rest;
        each = λ s l. judged_facts s (all_below_lem used (slot_asked n ed b used active count) each s l);
        ready = λ none p l. eqb-true _ 0 (all_below_lem priorities (λ p. eqb (get_or count p 0) 0) (rw (le-ltb active n none) at last) p l);
      }

  pub fine_asked : Fine → asked n ed b used active count ≡ true
  unfolding asked
  fine_asked f =
      true_both
      (true_both
      (true_both (true_both f.edition (le-leb 1 used f.some)) (facts_blank f.blank))
      (below_all used (slot_asked n ed b used active count) (λ s l. facts_judged s (f.each s l))))
      (elim (dec_lt active n) [
        | yes l ↦ rw (lt-ltb active n l)
        | no g ↦
            rw (below_all priorities (λ p. eqb (get_or count p 0) 0) (λ p l. eq-eqb (get_or count p 0) 0 (f.ready (omega arith) p l)))
            (or-true (ltb active n))
      ])
