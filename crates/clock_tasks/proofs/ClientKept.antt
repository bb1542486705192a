-- A call's words are read back as the call, whatever it is told.
use Rattle.std.proofs.Common.{◌≡◌, ℕ, ◌+◌, ◌<◌, ◌≤◌, min, true, not, eqb, ltb, leb, List, [], ◌∷◌, length, get_or, drop, sym, refl, ap, ◌∙◌, arith, get_or-drop, ltb-true, le-leb}
use mathlib.Core.Bool.{false≢true}
use Rattle.queue.specs.Choose.{choose}
use Rattle.queue.proofs.Below.{true_both}
use Rattle.task.specs.declared.task.Outcome.{Outcome}
use Rattle.task.specs.declared.task.Outcome.TheVariants as Told
use Rattle.task.specs.Result.{negated}
use Rattle.task.proofs.Tests.{chosen}
use Rattle.kernel.specs.Numbers.{accepted, none_active}
use Rattle.step.specs.Every.{Every, none, more}
use Rattle.image.specs.Bytes.{number_in, same}
use Rattle.image.proofs.Bytes.{same_refl}
use Rattle.image.proofs.Rebuilt.{number_small}
use Rattle.clock.specs.declared.clock.Asked.{Asked}
use Rattle.clock.specs.declared.clock.Asked.TheVariants.{Tick, Time, Delay, Until, Unknown}
use Rattle.clock.specs.declared.message.Meaning.{Meaning}
use Rattle.clock.specs.declared.message.Meaning.TheVariants.{Count, Refused, Fault, Garbled}
use Rattle.clock.specs.Message.{size, op_of, argument_of, asked_by, words_mean, count_fits, refusal_fits, fitting, meaning}
use Rattle.clock_tasks.specs.declared.client.Stage.{Stage}
use Rattle.clock_tasks.specs.declared.client.Stage.TheVariants.{Writing, Sending, Sent, Ended}
use Rattle.clock_tasks.specs.declared.client.Client.{Client}
use Rattle.clock_tasks.specs.Words.{word_bytes, words_in}
use Rattle.clock_tasks.specs.Client as Spec
use Rattle.clock_tasks.specs.ClientState.{words, last_offset, stage_code, place, outcome_words, shown_in, client_words, stage_of, outcome_of, kept_in, client_from, is_client}
use Rattle.clock_tasks.specs.Calls.{state_refusal, is_call, is_ended, asking_refusal}
use Rattle.clock_tasks.specs.Laws.{client_machine}
use Rattle.clock_tasks.proofs.Calls.{asking_passes}
use Rattle.clock_tasks.proofs.Kept as Kept
use Rattle.clock_tasks.proofs.Kept.{Word, Keeps, byte_at, state_read, state_passes}

-- within its bounds: there are eight bytes to write
abbrev Within : Stage → Type 0
Within stage = place stage < 8

-- what can come of a call, and when
abbrev Sound : Meaning → Type 0
Sound (Count count) = Word count
Sound (Refused n) = (2 ≤ n) × (n ≤ 4)
Sound (Fault f) = (1 ≤ f) × (f ≤ 3)
Sound Garbled = Unit

abbrev Came : Meaning → Stage → Type 0
Came m (Writing k) = m ≡ Garbled
Came m Sending = m ≡ Garbled
Came m Sent = m ≡ Garbled
Came m Ended = Sound m

-- what every call keeps
pub record Rule (s : Client) : Type 0 where
  pub clock : Word s.clock
  pub called : is_call s.asked ≡ true
  pub argument : Word (argument_of s.asked)
  pub offset : s.offset ≤ last_offset
  pub within : Within s.stage
  pub came : Came s.outcome s.stage

-- THE WORDS

code_small : (stage : Stage) → Word (stage_code stage)
code_small (Writing k) = omega arith
code_small Sending = omega arith
code_small Sent = omega arith
code_small Ended = omega arith

op_small : (q : Asked) → Word (op_of q)
op_small Tick = omega arith
op_small Time = omega arith
op_small (Delay d) = omega arith
op_small (Until due) = omega arith
op_small Unknown = omega arith

negated_small : (n : ℕ) → Word (negated n)
negated_small n = omega arith

outcome_small : (m : Meaning) → Sound m → Every Word (outcome_words m)
outcome_small (Count count) h = more {x = 1} (omega arith) (more h none)
outcome_small (Refused n) h = more {x = 2} (omega arith) (more (negated_small n) none)
outcome_small (Fault f) h = more {x = 3} (omega arith) (more (negated_small f) none)
outcome_small Garbled h = more {x = 4} (omega arith) (more {x = 0} (omega arith) none)

zeros : Every Word (0 ∷ 0 ∷ [])
zeros = more {x = 0} (omega arith) (more {x = 0} (omega arith) none)

shown_small : (stage : Stage) (m : Meaning) → Came m stage → Every Word (shown_in stage m)
shown_small (Writing k) m h = zeros
shown_small Sending m h = zeros
shown_small Sent m h = zeros
shown_small Ended m h = outcome_small m h

small : {s : Client} → Rule s → Every Word (client_words s)
small {s} h =
    let at : Word (place s.stage) = omega arith in
    let offset : Word s.offset = omega arith in
    more (code_small s.stage) (more at (more h.clock (more (op_small s.asked) (more h.argument (more offset
    (shown_small s.stage s.outcome h.came))))))

shown_two : (stage : Stage) (m : Meaning) → length (shown_in stage m) ≡ 2
shown_two (Writing k) m = refl
shown_two Sending m = refl
shown_two Sent m = refl
shown_two Ended (Count count) = refl
shown_two Ended (Refused n) = refl
shown_two Ended (Fault f) = refl
shown_two Ended Garbled = refl

-- READ BACK

asked_back : (q : Asked) → is_call q ≡ true → asked_by (op_of q) (argument_of q) ≡ q
unfolding asked_by
asked_back Tick h = absurd (false≢true h)
asked_back Time h = refl
asked_back (Delay d) h = refl
asked_back (Until due) h = refl
asked_back Unknown h = absurd (false≢true h)

stage_back : (stage : Stage) → Within stage → stage_of (stage_code stage) (place stage) ≡ stage
stage_back (Writing k) h = let e : min k 7 ≡ k = omega arith in ap Writing e
stage_back Sending h = refl
stage_back Sent h = refl
stage_back Ended h = refl

negated_back : (n : ℕ) → n < 5 → negated (negated n) ≡ n
negated_back n h = omega arith

outcome_back : (m : Meaning) → Sound m → outcome_of (get_or (outcome_words m) 0 0) (get_or (outcome_words m) 1 0) ≡ m
outcome_back (Count count) h = refl
outcome_back (Refused n) h = rw (negated_back n (omega arith), le-leb 2 n h.0, le-leb n 4 h.1)
outcome_back (Fault f) h = rw (negated_back f (omega arith), le-leb 1 f h.0, le-leb f 3 h.1)
outcome_back Garbled h = refl

shown_back : (stage : Stage) (m : Meaning) → Came m stage
    → kept_in (stage_of (stage_code stage) (place stage)) (outcome_of (get_or (shown_in stage m) 0 0) (get_or (shown_in stage m) 1 0)) ≡ m
shown_back (Writing k) m h = sym h
shown_back Sending m h = sym h
shown_back Sent m h = sym h
shown_back Ended m h = outcome_back m h

back : {s : Client} → Rule s → client_from (client_words s) ≡ s
back {s} h =
    let offset : min s.offset last_offset ≡ s.offset = omega arith in
    λ i. record {
      clock = s.clock;
      asked = asked_back s.asked h.called i;
      offset = offset i;
      stage = stage_back s.stage h.within i;
      outcome = shown_back s.stage s.outcome h.came i;
    }

op_called : (q : Asked) → is_call q ≡ true → leb 2 (op_of q) ≡ true
op_called Tick h = absurd (false≢true h)
op_called Time h = refl
op_called (Delay d) h = refl
op_called (Until due) h = refl
op_called Unknown h = absurd (false≢true h)

taken : {s : Client} → Rule s → is_client (client_words s) ≡ true
taken {s} h =
    true_both (op_called s.asked h.called)
    (ap (λ (t : Client). same (client_words t) (client_words s)) (back h) ∙ same_refl (client_words s))

-- WHAT IT ASKS

after_within : (stage : Stage) → Within stage → Within (Spec.after stage)
after_within (Writing k) h = chosen Within (ltb k 7) (λ e. omega (arith, ltb-true k 7 e)) (λ e. omega arith)
after_within Sending h = h
after_within Sent h = h
after_within Ended h = h

after_came : (m : Meaning) (stage : Stage) → Came m stage → Came m (Spec.after stage)
after_came m (Writing k) h = chosen (Came m) (ltb k 7) (λ e. h) (λ e. h)
after_came m Sending h = h
after_came m Sent h = h
after_came m Ended h = h

asked_rule : {s : Client} → Rule s → Rule (Spec.asked s)
asked_rule {s} h =
    record {
      clock = h.clock;
      called = h.called;
      argument = h.argument;
      offset = h.offset;
      within = after_within s.stage h.within;
      came = after_came s.outcome s.stage h.came;
    }

-- WHAT IT IS TOLD

words_sound : (status count : ℕ) → Word count → Sound (words_mean status count)
unfolding words_mean
words_sound status count h =
    chosen Sound (eqb status 0) (λ _. h)
    (λ _. chosen Sound (not (eqb count 0)) (λ _. tt)
    (λ _. chosen Sound (eqb status (negated 2)) (λ _. (omega arith, omega arith))
    (λ _. chosen Sound (eqb status (negated 3)) (λ _. (omega arith, omega arith))
    (λ _. chosen Sound (eqb status (negated 4)) (λ _. (omega arith, omega arith))
    (λ _. tt)))))

fitting_sound : (q : Asked) (m : Meaning) → Sound m → Sound (fitting q m)
fitting_sound q (Count count) h = chosen Sound (count_fits q count) (λ _. h) (λ _. tt)
fitting_sound q (Refused n) h = chosen Sound (refusal_fits q n) (λ _. h) (λ _. tt)
fitting_sound q (Fault f) h = h
fitting_sound q Garbled h = tt

meaning_sound : (q : Asked) (o : Outcome) (bytes : List ℕ) → Kept.Told o → ((i : ℕ) → get_or bytes i 0 < 256) → Sound (meaning q o bytes)
meaning_sound q Told.Nothing bytes t b = tt
meaning_sound q (Told.Fault f) bytes t b = t
meaning_sound q (Told.Value from cut v) bytes t b =
    let status = number_in bytes 0 4 in
    let count = number_in bytes 4 4 in
    chosen Sound (not (eqb v size)) (λ _. tt)
    (λ _. fitting_sound q (words_mean status count) (words_sound status count (number_small 4 4 bytes b)))

ended_rule : {s : Client} → Rule s → (o : Outcome) (area : List ℕ) → Kept.Told o → Every (λ x. x < 256) area → Rule (Spec.ended s o area)
ended_rule {s} h o area t found =
    let behind = s.offset + size in
    record {
      clock = h.clock;
      called = h.called;
      argument = h.argument;
      offset = h.offset;
      within = omega arith;
      came = meaning_sound s.asked o (drop behind area) t (λ i. rw get_or-drop (byte_at found (behind + i)));
    }

answered_rule : {s : Client} → Rule s → (o : Outcome) (area : List ℕ) → Kept.Told o → Every (λ x. x < 256) area → Rule (Spec.answered_in s o area)
answered_rule h Told.Nothing area t found = h
answered_rule h (Told.Value from cut v) area t found = ended_rule h (Told.Value from cut v) area t found
answered_rule h (Told.Fault f) area t found = ended_rule h (Told.Fault f) area t found

told_rule : {s : Client} → Rule s → (stage : Stage) (o : Outcome) (area : List ℕ) → Kept.Told o → Every (λ x. x < 256) area
    → Rule (Spec.told_in stage s o area)
told_rule h (Writing k) o area t found = h
told_rule h Sending o area t found = h
told_rule h Sent o area t found = answered_rule h o area t found
told_rule h Ended o area t found = h

pub client_keeps : Keeps client_machine words client_words client_from is_client Rule
client_keeps =
    record {
      sized = λ {s} h. rw (shown_two s.stage s.outcome);
      small = small;
      back = back;
      taken = taken;
      asked = asked_rule;
      told = λ {s} h o area t found. told_rule h s.stage o area t found;
    }

-- of what it asks it is refused where it is over, and only there
pub client_refuses : {s : Client} → Rule s → asking_refusal (word_bytes (client_words s)) ≡ choose (is_ended s.stage) none_active accepted
client_refuses {s} h =
    let state = word_bytes (client_words s) in
    asking_passes (state_refusal words is_client state) (is_ended (client_from (words_in words state)).stage) (state_passes client_keeps h)
    ∙ ap (λ (t : Client). choose (is_ended t.stage) none_active accepted) (state_read client_keeps h)
