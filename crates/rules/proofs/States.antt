-- What the test of a state tells, and what it asks.
use Prim.Native.Nat.{ℕ, ◌≤◌}
use mathlib.Core.Path.{◌≡◌}
use mathlib.Core.Logic.{◌≢◌}
use mathlib.Core.Bool.{true, not, ◌&&◌, ◌||◌}
use lib.Dec.{ltb, leb, eqb}
use borrow.Author.Tests.{leb-true, eqb-false, le-leb, ne_eqb, not-true}
use Rattle.tid.specs.Sizes.{events}
use Rattle.tid.specs.Tid.{tid_of}
use Rattle.queue.proofs.Below.{both_true}
use Rattle.task.specs.declared.task.State.{State}
use Rattle.task.specs.Task.{good_buffer, message_of, reply_of, awaited, is_receive_blocked, is_event_blocked}
use Rattle.task.proofs.Tests.{implied, implies}
use Rattle.rules.specs.Good.{good_state}

-- what a good state holds
pub record StateFacts (used s : ℕ) (x : State) : Type 0 where
  pub message : good_buffer (message_of x) ≡ true
  pub reply : good_buffer (reply_of x) ≡ true
  pub target : is_receive_blocked x ≡ true → (1 ≤ awaited x) × (awaited x ≤ used) × (awaited x ≢ tid_of s)
  pub event : is_event_blocked x ≡ true → ltb (awaited x) events ≡ true

target_facts : (used s g : ℕ) → (leb 1 g && leb g used && not (eqb g (tid_of s))) ≡ true → (1 ≤ g) × (g ≤ used) × (g ≢ tid_of s)
target_facts used s g h =
    let two = both_true (leb 1 g && leb g used) _ h in
    let one = both_true (leb 1 g) _ two.0 in
    (leb-true 1 g one.0, leb-true g used one.1, eqb-false g (tid_of s) (not-true (eqb g (tid_of s)) two.1))

facts_target : (used s g : ℕ) → (1 ≤ g) × (g ≤ used) × (g ≢ tid_of s) → (leb 1 g && leb g used && not (eqb g (tid_of s))) ≡ true
facts_target used s g f = rw (le-leb 1 g f.0, le-leb g used f.1, ne_eqb g (tid_of s) f.2)

pub state_facts : (used s : ℕ) (x : State) → good_state used s x ≡ true → StateFacts used s x
state_facts used s x h =
    let target = not (is_receive_blocked x) || leb 1 (awaited x) && leb (awaited x) used && not (eqb (awaited x) (tid_of s)) in
    let three = both_true (good_buffer (message_of x) && good_buffer (reply_of x) && target) _ h in
    let two = both_true (good_buffer (message_of x) && good_buffer (reply_of x)) target three.0 in
    let one = both_true (good_buffer (message_of x)) _ two.0 in
    record {
      message = one.0;
      reply = one.1;
      target = λ e. target_facts used s (awaited x) (implied _ _ two.1 e);
      event = implied _ _ three.1;
    }

pub facts_state : (used s : ℕ) (x : State) → StateFacts used s x → good_state used s x ≡ true
facts_state used s x f =
    rw (f.message, f.reply, implies (is_receive_blocked x) _ (λ e. facts_target used s (awaited x) (f.target e)))
    (implies (is_event_blocked x) _ f.event)
