-- What a call comes to on each of its ways.
use Rattle.std.proofs.Common.{◌≡◌, ℕ, ◌*◌, ◌<◌, Bool, true, false, eqb, ltb, ◌≢◌, List, length, arith, lt-ltb, eq-eqb, ne_eqb, eqb-true}
use Rattle.queue.proofs.Below.{by_test}
use Rattle.queue.specs.Choose.{choose}
use Rattle.tid.specs.Sizes.{area_bytes}
use Rattle.kernel.specs.declared.table.Request.{Request}
use Rattle.kernel.specs.Numbers.{accepted, bad_areas, bad_table, none_active, bad_record, bad_image, bad_answer}
use Rattle.image.specs.Call.{request_length, answer_length}
use Rattle.server.specs.Records.{request_bytes}
use Rattle.clock_tasks.specs.Words.{word_bytes, words_in}
use Rattle.clock_tasks.specs.Calls.{kept, written, state_refusal, started_with, asks_with, told_with}

module _ (n : ℕ) (good : List ℕ → Bool) (state : List ℕ) where
  pub state_wrong : length state ≢ 4 * n → bad_image ≡ state_refusal n good state
  state_wrong other = rw (ne_eqb (length state) (4 * n) other)

  module _ (sized : length state ≡ 4 * n) where
    pub state_bad : good (words_in n state) ≡ false → bad_table ≡ state_refusal n good state
    state_bad bad = rw (eq-eqb (length state) (4 * n) sized, bad)

    pub state_good : good (words_in n state) ≡ true → accepted ≡ state_refusal n good state
    state_good fine = rw (eq-eqb (length state) (4 * n) sized, fine)

  -- a state that is not refused has its length
  pub state_sized : state_refusal n good state ≡ accepted → length state ≡ 4 * n
  state_sized none =
      by_test (eqb (length state) (4 * n))
      (λ whole. eqb-true (length state) (4 * n) whole)
      (λ other. absurd (let z : bad_image ≡ accepted = rw other at none in omega arith))

-- a call that asks is refused by its state, or because it is over
abbrev pub either : ℕ → Bool → ℕ
either refusal over = choose (ltb accepted refusal) refusal (choose over none_active accepted)

module _ (refusal : ℕ) (over : Bool) where
  pub asking_refused : (r : ℕ) → r ≡ refusal → accepted < r → r ≡ either refusal over
  asking_refused r e some = rw (← e, lt-ltb accepted r some)

  pub asking_passes : refusal ≡ accepted → either refusal over ≡ choose over none_active accepted
  asking_passes none = rw none

module _ (refusal n : ℕ) (words state : List ℕ) where
  pub start_refused : (r : ℕ) → r ≡ refusal → accepted < r → kept r state ≡ started_with refusal n words state
  start_refused r e some = rw (← e, lt-ltb accepted r some)

  module _ (none : refusal ≡ accepted) where
    pub start_wrong : length state ≢ 4 * n → kept bad_image state ≡ started_with refusal n words state
    start_wrong other = rw (none, ne_eqb (length state) (4 * n) other)

    pub start_made : {state' : List ℕ} → length state ≡ 4 * n → state' ≡ word_bytes words → kept accepted state' ≡ started_with refusal n words state
    start_made sized e = rw (none, eq-eqb (length state) (4 * n) sized, e)

module _ (refusal : ℕ) (words : List ℕ) (q : Request) (state out : List ℕ) where
  pub asks_wrong : length out ≢ request_length → written bad_record state out ≡ asks_with refusal words q state out
  asks_wrong other = rw (ne_eqb (length out) request_length other)

  module _ (room : length out ≡ request_length) where
    pub asks_refused : (r : ℕ) → r ≡ refusal → accepted < r → written r state out ≡ asks_with refusal words q state out
    asks_refused r e some = rw (eq-eqb (length out) request_length room, ← e, lt-ltb accepted r some)

    pub asks_made : {state' out' : List ℕ} → refusal ≡ accepted → state' ≡ word_bytes words → out' ≡ request_bytes q
        → written accepted state' out' ≡ asks_with refusal words q state out
    asks_made none e o = rw (eq-eqb (length out) request_length room, none, e, o)

module _ (refusal : ℕ) (words state answer area : List ℕ) where
  pub told_answer : length answer ≢ answer_length → kept bad_answer state ≡ told_with refusal words state answer area
  told_answer other = rw (ne_eqb (length answer) answer_length other)

  module _ (whole : length answer ≡ answer_length) where
    pub told_area : length area ≢ area_bytes → kept bad_areas state ≡ told_with refusal words state answer area
    told_area other = rw (eq-eqb (length answer) answer_length whole, ne_eqb (length area) area_bytes other)

    module _ (lent : length area ≡ area_bytes) where
      pub told_refused : (r : ℕ) → r ≡ refusal → accepted < r → kept r state ≡ told_with refusal words state answer area
      told_refused r e some = rw (eq-eqb (length answer) answer_length whole, eq-eqb (length area) area_bytes lent, ← e, lt-ltb accepted r some)

      pub told_made : {state' : List ℕ} → refusal ≡ accepted → state' ≡ word_bytes words → kept accepted state' ≡ told_with refusal words state answer area
      told_made none e = rw (eq-eqb (length answer) answer_length whole, eq-eqb (length area) area_bytes lent, none, e)
