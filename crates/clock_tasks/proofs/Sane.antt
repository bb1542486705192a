-- What the clock's task keeps by rule, from its start on: numbers that fit their words, places within bounds, and rows that are filled from the
-- front with zeros behind.
use Rattle.std.proofs.Common.{◌≡◌, ℕ, ◌+◌, ◌<◌, ◌≤◌, not, eqb, ltb, leb, List, [], ◌∷◌, ◌++◌, map, length, refl, ap, ◌∙◌, arith, length-append, ltb-true, leb-false}
use lib.ListN.{length-map}
use lib.Seq.{take-append_seam}
use Rattle.tid.specs.Sizes.{priorities}
use Rattle.task.specs.declared.task.Outcome.{Outcome}
use Rattle.task.specs.declared.task.Outcome.TheVariants.{Nothing, Value, Fault}
use Rattle.task.specs.Task.{is_negative}
use Rattle.task.proofs.Tests.{chosen}
use Rattle.step.specs.Every.{Every, none, more}
use Rattle.image.specs.Bytes.{number_in}
use Rattle.image.proofs.Rebuilt.{number_small}
use Rattle.clock.specs.declared.row.Sleeper.{Sleeper}
use Rattle.clock.specs.declared.row.Row.{Row}
use Rattle.clock.specs.declared.row.Hearers.{Hearers}
use Rattle.clock.specs.declared.clock.Clock.{Clock}
use Rattle.clock.specs.declared.clock.Asked.{Asked}
use Rattle.clock.specs.declared.clock.Asked.TheVariants.{Tick, Time, Delay, Until, Unknown}
use Rattle.clock.specs.declared.clock.Said.{Said}
use Rattle.clock.specs.declared.clock.Said.TheVariants.{Count, Refused}
use Rattle.clock.specs.Clock.{Heard}
use Rattle.clock.specs.Row.{room, hearers, sleeper, asleep, row_of, hearers_of, pushed_row, holds}
use Rattle.clock.specs.Clock.{wrapped, is_due, counted, refusal, sleeps, waits, due_at, not_due_at, ticked, hear}
use Rattle.clock.specs.Message.{size, asked_by, asked_in}
use Rattle.clock.proofs.Lists.{picked_fewer, pushed_row_lem}
use Rattle.server.specs.declared.phase.Phase.{Phase}
use Rattle.server.specs.declared.phase.Phase.TheVariants.{Making, Made, Writing, Replying, Listening}
use Rattle.server.specs.Phase.{after}
use Rattle.clock_tasks.specs.declared.serving.Server.{Server}
use Rattle.clock_tasks.specs.Server.{answered, new_server, asked, opened, heard, value_in, fault_in, told}
use Rattle.step.proofs.Entries.{every_append}
use Rattle.clock_tasks.proofs.Entries.{every_picked, every_map}
use Rattle.clock_tasks.proofs.Kept.{Word, Told, byte_at}

abbrev pub Sleeps : Sleeper → Type 0
Sleeps x = Word x.tid × Word x.due

pub record SaneRow (q : Row) : Type 0 where
  pub xs : List Sleeper
  pub is : q ≡ row_of xs
  pub fits : length xs ≤ room
  pub all : Every Sleeps xs

pub record SaneHearers (h : Hearers) : Type 0 where
  pub xs : List ℕ
  pub is : h ≡ hearers_of xs
  pub fits : length xs ≤ hearers
  pub all : Every Word xs

pub record SaneClock (c : Clock) : Type 0 where
  pub notifier : Word c.notifier
  pub count : Word c.count
  pub row : SaneRow c.row

abbrev pub SaneSaid : Said → Type 0
SaneSaid (Count count) = Word count
SaneSaid (Refused n) = (2 ≤ n) × (n ≤ 4)

abbrev pub SanePhase : Phase → Type 0
SanePhase Making = Unit
SanePhase Made = Unit
SanePhase (Writing k) = k ≤ 7
SanePhase (Replying k) = k ≤ hearers
SanePhase Listening = Unit

pub record Sane (s : Server) : Type 0 where
  pub priority : s.priority < priorities
  pub clock : SaneClock s.clock
  pub said : SaneSaid s.said
  pub to : SaneHearers s.to
  pub phase : SanePhase s.phase

-- A MESSAGE

abbrev SaneAsked : Asked → Type 0
SaneAsked Tick = Unit
SaneAsked Time = Unit
SaneAsked (Delay d) = Word d
SaneAsked (Until due) = Word due
SaneAsked Unknown = Unit

record SaneHeard (h : Heard) : Type 0 where
  clock : SaneClock h.clock
  said : SaneSaid h.said
  to : SaneHearers h.to

sane_asked : (v : ℕ) {area : List ℕ} → Every (λ x. x < 256) area → SaneAsked (asked_in v area)
unfolding asked_in asked_by
sane_asked v {area} bytes =
    let op = number_in area 0 4 in
    let argument = number_in area 4 4 in
    let word = number_small 4 4 area (byte_at bytes) in
    chosen SaneAsked (not (eqb v size)) (λ _. tt)
    (λ _. chosen SaneAsked (eqb op 3) (λ _. word)
    (λ _. chosen SaneAsked (eqb op 4) (λ _. word)
    (λ _. chosen SaneAsked (not (eqb argument 0)) (λ _. tt)
    (λ _. chosen SaneAsked (eqb op 1) (λ _. tt)
    (λ _. chosen SaneAsked (eqb op 2) (λ _. tt) (λ _. tt))))))

nobody : SaneHearers (hearers_of [])
nobody = record { xs = []; is = refl; fits = omega arith; all = none }

only : {tid : ℕ} → Word tid → SaneHearers (hearers_of (tid ∷ []))
only {tid} w = record { xs = tid ∷ []; is = refl; fits = omega arith; all = more w none }

module _ {c : Clock} (h : SaneClock c) where
  sane_counted : (from : ℕ) → Word from → SaneHeard (counted c from)
  sane_counted from w = record { clock = h; said = h.count; to = only w }

  sane_refusal : (from n : ℕ) → Word from → 2 ≤ n → n ≤ 4 → SaneHeard (refusal c from n)
  sane_refusal from n w low high = record { clock = h; said = (low, high); to = only w }

  -- one more sleeps
  sane_sleeps : (from due : ℕ) → Word from → Word due → c.row.len < room → SaneHeard (sleeps c from due)
  unfolding sleeps
  sane_sleeps from due w u free =
      let row = h.row in
      let x = sleeper from due in
      let fewer : length row.xs < room = omega (arith, ap (λ (q : Row). q.len) row.is) in
      record {
        clock =
            record {
              notifier = h.notifier;
              count = h.count;
              row =
                  record {
                    xs = row.xs ++ (x ∷ []);
                    is = ap (λ (q : Row). pushed_row q x) row.is ∙ pushed_row_lem row.xs x fewer;
                    fits = simp length-append (omega arith);
                    all = every_append row.all (more (w, u) none);
                  };
            };
        said = h.count;
        to = nobody;
      }

  sane_waits : (from due : ℕ) → Word from → Word due → SaneHeard (waits c from due)
  unfolding waits
  sane_waits from due w u =
      chosen SaneHeard (is_due c.count due) (λ _. sane_counted from w)
      (λ _. chosen SaneHeard (leb room c.row.len) (λ _. sane_refusal from 3 w (omega arith) (omega arith))
      (λ free. sane_sleeps from due w u (leb-false room c.row.len free)))

  sane_ticked : SaneHeard (ticked c)
  unfolding ticked
  sane_ticked =
      let row = h.row in
      let now = wrapped (c.count + 1) in
      let e : asleep c.row ≡ row.xs = ap asleep row.is ∙ take-append_seam row.xs _ in
      let all : Every Sleeps (asleep c.row) = rw e row.all in
      let fits : length (asleep c.row) ≤ room = rw e row.fits in
      let due = due_at now (asleep c.row) in
      record {
        clock =
            record {
              notifier = h.notifier;
              count = omega arith;
              row =
                  record {
                    xs = not_due_at now (asleep c.row);
                    is = refl;
                    fits = omega (arith, picked_fewer (λ x. not (is_due now x.due)) (asleep c.row));
                    all = every_picked (λ x. not (is_due now x.due)) all;
                  };
            };
        said = omega arith;
        to =
            record {
              xs = c.notifier ∷ map (λ x. x.tid) due;
              is = refl;
              fits = simp length-map (omega (arith, picked_fewer (λ x. is_due now x.due) (asleep c.row)));
              all = more h.notifier (every_map (λ (x : Sleeper). x.tid) (λ x p. p.0) (every_picked (λ x. is_due now x.due) all));
            };
      }

  sane_hear : (from : ℕ) (q : Asked) → Word from → SaneAsked q → SaneHeard (hear c from q)
  unfolding hear
  sane_hear from Tick w a = chosen SaneHeard (eqb from c.notifier) (λ _. sane_ticked) (λ _. sane_refusal from 4 w (omega arith) (omega arith))
  sane_hear from Time w a = sane_counted from w
  sane_hear from (Delay d) w a =
      chosen SaneHeard (holds c.row from) (λ _. sane_refusal from 4 w (omega arith) (omega arith))
      (λ _. chosen SaneHeard (is_negative d) (λ _. sane_refusal from 2 w (omega arith) (omega arith))
      (λ _. sane_waits from (wrapped (c.count + d)) w (omega arith)))
  sane_hear from (Until due) w a =
      chosen SaneHeard (holds c.row from) (λ _. sane_refusal from 4 w (omega arith) (omega arith)) (λ _. sane_waits from due w a)
  sane_hear from Unknown w a = sane_refusal from 4 w (omega arith) (omega arith)

-- THE TASK

no_sleeper : SaneRow (row_of [])
no_sleeper = record { xs = []; is = refl; fits = omega arith; all = none }

pub sane_new : (priority : ℕ) → priority < priorities → Sane (new_server priority)
sane_new priority h =
    record {
      priority = h;
      clock = record { notifier = omega arith; count = omega arith; row = no_sleeper };
      said = omega arith;
      to = nobody;
      phase = tt;
    }

sane_after : (p : Phase) (len : ℕ) → len ≤ hearers → SanePhase p → SanePhase (after p size len)
sane_after Making len h s = tt
sane_after Made len h s = tt
sane_after (Writing k) len h s =
    chosen SanePhase (ltb (k + 1) size) (λ e. omega (arith, ltb-true (k + 1) size e)) (λ _. omega arith)
sane_after (Replying k) len h s = chosen SanePhase (ltb k len) (λ e. omega (arith, ltb-true k len e)) (λ _. tt)
sane_after Listening len h s = tt

module _ {s : Server} (h : Sane s) where
  pub sane_asks : Sane (asked s)
  sane_asks =
      record {
        priority = h.priority;
        clock = h.clock;
        said = h.said;
        to = h.to;
        phase = sane_after s.phase (answered s.to) (omega arith) h.phase;
      }

  sane_opened : (notifier : ℕ) → Word notifier → Sane (opened s notifier)
  sane_opened notifier w =
      record {
        priority = h.priority;
        clock = record { notifier = w; count = omega arith; row = no_sleeper };
        said = h.said;
        to = nobody;
        phase = omega arith;
      }

  sane_heard : (from v : ℕ) {area : List ℕ} → Word from → Every (λ x. x < 256) area → Sane (heard s from v area)
  sane_heard from v {area} w bytes =
      let after = sane_hear h.clock from (asked_in v area) w (sane_asked v bytes) in
      let len = (hear s.clock from (asked_in v area)).to.len in
      record {
        priority = h.priority;
        clock = after.clock;
        said = after.said;
        to = after.to;
        phase = chosen SanePhase (eqb len 0) (λ _. omega arith) (λ _. omega arith);
      }

  sane_value : (p : Phase) (from v : ℕ) {area : List ℕ} → from < 256 → Word v → Every (λ x. x < 256) area → Sane (value_in p s from v area)
  sane_value Making from v f w bytes = h
  sane_value Made from v f w bytes = sane_opened v w
  sane_value (Writing k) from v f w bytes = h
  sane_value (Replying k) from v f w bytes = h
  sane_value Listening from v f w bytes = sane_heard from v (omega arith) bytes

  sane_fault : (p : Phase) → Sane (fault_in p s)
  sane_fault Making = h
  sane_fault Made = sane_opened 0 (omega arith)
  sane_fault (Writing k) = h
  sane_fault (Replying k) = h
  sane_fault Listening = h

  pub sane_told : (o : Outcome) (area : List ℕ) → Told o → Every (λ x. x < 256) area → Sane (told s o area)
  sane_told Nothing area t bytes = h
  sane_told (Value from cut v) area t bytes = sane_value s.phase from v t.0 t.1 bytes
  sane_told (Fault f) area t bytes = sane_fault s.phase
