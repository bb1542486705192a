-- The runs of specs/Example, by computation.
use mathlib.Core.Path.{◌≡◌, refl}
use mathlib.Core.Logic.{inr}
use mathlib.Core.Bool.{true, false, false≢true}
use native.Mathlib.Omega.{arith}
use Rattle.queue.specs.Choose.{all_below, first_from}
use Rattle.queue.specs.Row.{pushed_row, popped_row}
use Rattle.queue.specs.Rows.{row_stands, rows_kept}
use Rattle.task.specs.Standing.{queue_of}
use Rattle.kernel.specs.Edition.{one_waits}
use Rattle.kernel.specs.Table.{active_slot, used_slots}
use Rattle.kernel.specs.Moves.{first_ready, activated, dispatched}
use Rattle.kernel.specs.Turn.{settled}
use Rattle.kernel.specs.Refusal.{refusal_of}
use Rattle.kernel.specs.Decide.{turn_of, own_write, decide_at, decide}
use Rattle.kernel.proofs.Every.{every_kind, every_move}
use Rattle.rules.specs.Good as Good
use Rattle.rules.proofs.Good.{facts_good, good_shaped}
use Rattle.rules.proofs.Fresh.{fresh_good}
use Rattle.kept.proofs.Kept.{decide_sound}
use Rattle.step.specs.Step.{step}
use Rattle.clock.specs.declared.clock.Asked.TheVariants.{Time}
use Rattle.clock.specs.Clock.{hear}
use Rattle.clock.specs.Message.{asked_in, asked_by}
use Rattle.served.specs.World.{advanced, ended, Obeys}
use Rattle.served.specs.Letters.{read, replies}
use Rattle.clock_tasks.specs.Server.{new_server}
use Rattle.clock_tasks.specs.Notifier.{new_notifier}
use Rattle.clock_tasks.specs.Client.{new_client}
use Rattle.clock_laws.specs.Laws.{Begins}
use Rattle.clock_laws.specs.Example.{makes, made, asks_time, shown, TimeIsTold, CallIsMade, TickIsMade}

-- named on an `unfolding` line, it opens all that a step computes with
unfoldable every_step : Unit {0}
unfolding made decide decide_at refusal_of turn_of own_write settled every_kind every_move first_ready activated dispatched active_slot used_slots first_from
    pushed_row popped_row all_below row_stands rows_kept queue_of Good.good_tasks Good.good_active Good.good_queues Good.good_receivers Good.good_targets Good.good_events
    Good.good_table step
every_step = tt

begins : {S : Type 0} (s : S) → Begins 3 2 (made s)
unfolding every_step
begins s =
    let good = (decide_sound (omega arith) (fresh_good 3 one_waits 16 0 refl (omega arith) (omega arith)) makes).good in
    record {
      steps = record { small = omega arith; shaped = good_shaped good; good = facts_good 3 _ good; size = refl };
      least = omega arith;
      used = omega arith;
      waits = inr refl;
      nothing = refl;
    }

-- what another asks is not the machine's
other : {A : Type 0} → false ≡ true → A
other e = absurd (false≢true e)

pub time_is_told : TimeIsTold
unfolding every_step asks_time shown hear asked_in asked_by advanced ended Obeys read replies
time_is_told =
    record {
      begins = begins (new_server 20);
      obeys = (λ _. refl, (λ _. refl, (other, (other, (λ _. refl, (λ _. refl, (λ _. refl, (λ _. refl, (λ _. refl, (λ _. refl, (λ _. refl, (λ _. refl, (λ _. refl, (λ _. refl, tt))))))))))))));
      told = refl;
    }

pub call_is_made : CallIsMade
unfolding every_step advanced ended Obeys
call_is_made =
    record {
      begins = begins (new_client 1 Time 16);
      obeys = (λ _. refl, (λ _. refl, (λ _. refl, (λ _. refl, (λ _. refl, (λ _. refl, (λ _. refl, (λ _. refl, tt))))))));
      asks = refl;
    }

pub tick_is_made : TickIsMade
unfolding every_step advanced ended Obeys
tick_is_made =
    record {
      begins = begins (new_notifier 5);
      obeys = (λ _. refl, (λ _. refl, (λ _. refl, (λ _. refl, (λ _. refl, (λ _. refl, (λ _. refl, (λ _. refl, (λ _. refl, (λ _. refl, (other, tt)))))))))));
      asks = refl;
    }
