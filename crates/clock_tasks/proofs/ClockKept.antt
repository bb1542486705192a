-- The clock's task is read back from its words, whatever it keeps by rule.
use Rattle.std.proofs.Common.{◌≡◌, ℕ, suc, ◌+◌, ◌-◌, ◌*◌, ◌<◌, ◌≤◌, min, true, eqb, List, [], ◌∷◌, ◌++◌, length, get_or, sym, refl, ap, ◌∙◌, subst, arith, length-append, get_or-append-add, eqb-true}
use lib.ListN.{get_or-append}
use borrow.Author.Tests.{eqb-false}
use Rattle.tid.specs.Sizes.{priorities}
use Rattle.queue.proofs.Below.{by_test}
use Rattle.step.specs.Every.{Every, none, more}
use Rattle.image.specs.Bytes.{same}
use Rattle.image.proofs.Bytes.{same_refl}
use Rattle.clock.specs.declared.row.Sleeper.{Sleeper}
use Rattle.clock.specs.declared.clock.Said.{Said}
use Rattle.clock.specs.declared.clock.Said.TheVariants.{Count, Refused}
use Rattle.clock.specs.Row.{room, hearers, filled, sleeper, row_of, hearers_of}
use Rattle.clock.specs.Message.{status_of, count_of}
use Rattle.clock.proofs.Lists.{length_filled}
use Rattle.server.specs.declared.phase.Phase.{Phase}
use Rattle.server.specs.declared.phase.Phase.TheVariants.{Making, Made, Writing, Replying, Listening}
use Rattle.server.specs.Phase.{place}
use Rattle.clock_tasks.specs.declared.serving.Server.{Server}
use Rattle.clock_tasks.specs.State.{words, sleepers_at, hearers_at, phase_code, sleeper_words, server_words, phase_of, said_of, sleepers_in, hearers_in, server_from, is_server}
use Rattle.clock_tasks.specs.Laws.{clock_machine}
use Rattle.step.proofs.Entries.{every_append, every_flatten}
use Rattle.clock_tasks.proofs.Entries.{every_replicate}
use Rattle.clock_tasks.proofs.Filled.{firsts_are}
use Rattle.clock_tasks.proofs.Rows.{pairs, length_pairs, tid_at, due_at_lem, sleeper_in, hearer_in}
use Rattle.clock_tasks.proofs.Kept.{Word, Keeps}
use Rattle.clock_tasks.proofs.Sane.{Sleeps, SaneSaid, SanePhase, Sane, sane_asks, sane_told}

-- PHASE AND ANSWER

phase_back : (p : Phase) → SanePhase p → phase_of (phase_code p) (place p) ≡ p
phase_back Making h = refl
phase_back Made h = refl
phase_back (Writing k) h = let e : min k 7 ≡ k = omega arith in ap Writing e
phase_back (Replying k) h = let e : min k hearers ≡ k = omega arith in ap Replying e
phase_back Listening h = refl

code_small : (p : Phase) → Word (phase_code p)
code_small Making = omega arith
code_small Made = omega arith
code_small (Writing k) = omega arith
code_small (Replying k) = omega arith
code_small Listening = omega arith

place_small : (p : Phase) → SanePhase p → Word (place p)
place_small Making h = omega arith
place_small Made h = omega arith
place_small (Writing k) h = omega arith
place_small (Replying k) h = omega arith
place_small Listening h = omega arith

said_back : (x : Said) → SaneSaid x → said_of (status_of x) (count_of x) ≡ x
said_back (Count count) h = refl
said_back (Refused n) h =
    by_test (eqb n 2) (λ e. rw (eqb-true n 2 e))
    (λ n₂. by_test (eqb n 3) (λ e. rw (eqb-true n 3 e))
    (λ n₃. let e : n ≡ 4 = omega (arith, eqb-false n 2 n₂, eqb-false n 3 n₃) in rw e))

status_small : (x : Said) → Word (status_of x)
status_small (Count count) = omega arith
status_small (Refused n) = omega arith

count_small : (x : Said) → SaneSaid x → Word (count_of x)
count_small (Count count) h = h
count_small (Refused n) h = omega arith

-- THE TASK, OF WHAT IT KEEPS

abbrev made : ℕ → ℕ → ℕ → List Sleeper → Said → List ℕ → Phase → Server
made priority notifier count xs said ys phase =
    record {
      priority = priority;
      clock = record { notifier = notifier; count = count; row = row_of xs };
      said = said;
      to = hearers_of ys;
      phase = phase;
    }

module _ (priority notifier count : ℕ) (xs : List Sleeper) (said : Said) (ys : List ℕ) (phase : Phase)
    (few : length xs ≤ room) (fewer : length ys ≤ hearers) where
  task : Server
  task = made priority notifier count xs said ys phase

  head : List ℕ
  head =
      phase_code phase ∷ place phase ∷ priority ∷ notifier ∷ count ∷ status_of said ∷ count_of said ∷ min (length xs) room ∷ []

  places : List Sleeper
  places = filled room (sleeper 0 0) xs

  tids : List ℕ
  tids = filled hearers 0 ys

  rest : List ℕ
  rest = min (length ys) hearers ∷ tids

  all : server_words task ≡ head ++ (pairs places ++ rest)
  unfolding task head places tids rest
  all = refl

  length_places : length places ≡ room
  unfolding places
  length_places = length_filled room (sleeper 0 0) xs few

  made_sized : length (server_words task) ≡ words
  unfolding head rest tids
  made_sized =
      let p = pairs places in
      ap length all
      ∙ omega (arith, length-append head (p ++ rest), length-append p rest, length_pairs places, length_places, length_filled hearers 0 ys fewer)

  -- what stands behind the sleepers
  behind : (n : ℕ) → get_or (server_words task) (hearers_at - 1 + n) 0 ≡ get_or rest n 0
  unfolding head
  behind n =
      let p = pairs places in
      let e : hearers_at - 1 + n ≡ sleepers_at + (length p + n) = omega (arith, length_pairs places, length_places) in
      rw (all, e, get_or-append-add head (p ++ rest) (length p + n) 0, get_or-append-add p rest n 0)

  sleeper_back : (i : ℕ) → i < length xs → sleeper_in (server_words task) i ≡ get_or xs i (sleeper 0 0)
  unfolding head places
  sleeper_back i h =
      let p = pairs places in
      let there : i < length places = omega (arith, length_places) in
      let within : 2 * i + 1 < length p = omega (arith, length_pairs places) in
      let late : sleepers_at + 2 * i + 1 ≡ sleepers_at + (2 * i + 1) = omega arith in
      let x : get_or places i (sleeper 0 0) ≡ get_or xs i (sleeper 0 0) = get_or-append xs _ (sleeper 0 0) i h in
      let tid : get_or (server_words task) (sleepers_at + 2 * i) 0 ≡ (get_or xs i (sleeper 0 0)).tid =
      rw (all, get_or-append-add head (p ++ rest) (2 * i) 0, get_or-append p rest 0 (2 * i) (omega arith), tid_at places i there, x) in
      let due : get_or (server_words task) (sleepers_at + 2 * i + 1) 0 ≡ (get_or xs i (sleeper 0 0)).due =
      rw (all, late, get_or-append-add head (p ++ rest) (2 * i + 1) 0, get_or-append p rest 0 (2 * i + 1) within, due_at_lem places i there, x) in
      λ j. record { tid = tid j; due = due j }

  hearer_back : (i : ℕ) → i < length ys → hearer_in (server_words task) i ≡ get_or ys i 0
  unfolding rest tids
  hearer_back i h =
      let e : hearers_at + i ≡ hearers_at - 1 + suc i = omega arith in
      rw (e, behind (suc i)) (get_or-append ys _ 0 i h)

  row_back : row_of (sleepers_in (server_words task) (min (min (length xs) room) room)) ≡ row_of xs
  row_back =
      let n : min (min (length xs) room) room ≡ length xs = omega arith in
      rw (n, firsts_are (sleeper_in (server_words task)) (sleeper 0 0) xs sleeper_back)

  to_back : hearers_of (hearers_in (server_words task) (min (get_or (server_words task) (hearers_at - 1) 0) hearers)) ≡ hearers_of ys
  unfolding rest
  to_back =
      let n : min (get_or (server_words task) (hearers_at - 1) 0) hearers ≡ length ys = omega (arith, behind 0) in
      rw (n, firsts_are (hearer_in (server_words task)) 0 ys hearer_back)

  made_back : priority < priorities → SaneSaid said → SanePhase phase → server_from (server_words task) ≡ task
  unfolding task
  made_back h x p =
      let e : min priority (priorities - 1) ≡ priority = omega arith in
      λ i. record {
        priority = e i;
        clock = record { notifier = notifier; count = count; row = row_back i };
        said = said_back said x i;
        to = to_back i;
        phase = phase_back phase p i;
      }

  made_small : priority < priorities → Word notifier → Word count → Every Sleeps xs → SaneSaid said → Every Word ys → SanePhase phase
      → Every Word (server_words task)
  unfolding task
  made_small h n c slept x told p =
      let slept-words = every_append slept (every_replicate Sleeps (room - length xs) (sleeper 0 0) (omega arith, omega arith)) in
      let told-words = every_append told (every_replicate Word (hearers - length ys) 0 (omega arith)) in
      more (code_small phase)
      (more (place_small phase p)
      (more {x = priority} (omega arith)
      (more n
      (more c
      (more (status_small said)
      (more (count_small said x)
      (more {x = min (length xs) room} (omega arith)
      (every_append (every_flatten sleeper_words (λ a w. more w.0 (more w.1 none)) slept-words) (more {x = min (length ys) hearers} (omega arith) told-words)))))))))

-- OF EVERY TASK THAT KEEPS ITS RULES

module _ {s : Server} (h : Sane s) where
  is_made : s ≡ made s.priority s.clock.notifier s.clock.count h.clock.row.xs s.said h.to.xs s.phase
  is_made =
      λ i. record {
        priority = s.priority;
        clock = record { notifier = s.clock.notifier; count = s.clock.count; row = h.clock.row.is i };
        said = s.said;
        to = h.to.is i;
        phase = s.phase;
      }

  clock_sized : length (server_words s) ≡ words
  unfolding task
  clock_sized =
      ap (λ (t : Server). length (server_words t)) is_made
      ∙ made_sized s.priority s.clock.notifier s.clock.count h.clock.row.xs s.said h.to.xs s.phase h.clock.row.fits h.to.fits

  clock_small : Every Word (server_words s)
  unfolding task
  clock_small =
      subst (λ (t : Server). Every Word (server_words t)) (sym is_made)
      (made_small s.priority s.clock.notifier s.clock.count h.clock.row.xs s.said h.to.xs s.phase h.clock.row.fits h.to.fits
      h.priority h.clock.notifier h.clock.count h.clock.row.all h.said h.to.all h.phase)

  clock_back : server_from (server_words s) ≡ s
  unfolding task
  clock_back =
      ap (λ (t : Server). server_from (server_words t)) is_made
      ∙ made_back s.priority s.clock.notifier s.clock.count h.clock.row.xs s.said h.to.xs s.phase h.clock.row.fits h.to.fits h.priority h.said h.phase
      ∙ sym is_made

  clock_taken : is_server (server_words s) ≡ true
  clock_taken = ap (λ (t : Server). same (server_words t) (server_words s)) clock_back ∙ same_refl (server_words s)

pub clock_keeps : Keeps clock_machine words server_words server_from is_server Sane
clock_keeps =
    record {
      sized = clock_sized;
      small = clock_small;
      back = clock_back;
      taken = clock_taken;
      asked = sane_asks;
      told = sane_told;
    }
