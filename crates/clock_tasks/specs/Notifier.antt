-- The notifier as a task: it learns who made it, writes the tick's message into its own area once, and from then on waits for the event and
-- sends a tick, again and again.
use Rattle.std.specs.Prelude.{ℕ, ◌+◌, ◌==◌, nat_lt, slice_index}
use Rattle.queue.specs.Choose.{choose}
use Rattle.task.specs.declared.task.Outcome.{Outcome}
use Rattle.task.specs.declared.task.Outcome.TheVariants.{Nothing, Value, Fault}
use Rattle.kernel.specs.declared.table.Request.{Request}
use Rattle.kernel.specs.Numbers.{my_parent_tid_kind, send_kind, await_event_kind, own_write_kind}
use Rattle.clock.specs.declared.clock.Asked.TheVariants.{Tick}
use Rattle.clock.specs.Message.{size, request_bytes}
use Rattle.server.specs.Phase.{ask}
use Rattle.clock_tasks.specs.declared.notifier.Duty.{Duty}
use Rattle.clock_tasks.specs.declared.notifier.Duty.TheVariants.{Asking, Asked, Writing, Awaiting, Waiting, Sending, Sent}
use Rattle.clock_tasks.specs.declared.notifier.Notifier.{Notifier}

abbrev pub new_notifier : ℕ → Notifier
new_notifier event = record { event = event; clock = 0; duty = Asking }

abbrev pub with_duty : Notifier → Duty → Notifier
with_duty s duty = record { event = s.event; clock = s.clock; duty = duty }

-- the message stands at the front of its area, and the answer, which it does not read, comes behind it
abbrev pub sends_tick : ℕ → Request
sends_tick clock = record { kind = send_kind; arg0 = clock; arg1 = 0; arg2 = size; arg3 = size; arg4 = size }

abbrev pub request_in : Duty → ℕ → ℕ → Request
request_in Asking event clock = ask my_parent_tid_kind 0 0 0
request_in Asked event clock = ask my_parent_tid_kind 0 0 0
request_in (Writing k) event clock = ask own_write_kind k (slice_index (request_bytes Tick) k) 0
request_in Awaiting event clock = ask await_event_kind event 0 0
request_in Waiting event clock = ask await_event_kind event 0 0
request_in Sending event clock = sends_tick clock
request_in Sent event clock = sends_tick clock

abbrev pub request : Notifier → Request
request s = request_in s.duty s.event s.clock

-- what comes after a duty, once that is asked
abbrev pub after : Duty → Duty
after Asking = Asked
after Asked = Asked
after (Writing k) = choose (nat_lt k 7) (Writing (k + 1)) Awaiting
after Awaiting = Waiting
after Waiting = Waiting
after Sending = Sent
after Sent = Sent

abbrev pub asked : Notifier → Notifier
asked s = with_duty s (after s.duty)

-- a value is its parent's tid where it asked for that; an event that happened is a tick; and a tick that was answered is done
abbrev pub hears : Notifier → Duty → ℕ → Notifier
hears s Asking v = s
hears s Asked v = record { event = s.event; clock = v; duty = Writing 0 }
hears s (Writing k) v = s
hears s Awaiting v = s
hears s Waiting v = with_duty s Sending
hears s Sending v = s
hears s Sent v = with_duty s Awaiting

-- the fault -2 of an event, whose data was negative, is a tick still; after any other fault it waits for the next event
abbrev pub fails : Notifier → Duty → ℕ → Notifier
fails s Asking f = s
fails s Asked f = s
fails s (Writing k) f = s
fails s Awaiting f = s
fails s Waiting f = with_duty s (choose (f == 2) Sending Awaiting)
fails s Sending f = s
fails s Sent f = with_duty s Awaiting

abbrev pub told : Notifier → Outcome → Notifier
told s Nothing = s
told s (Value from cut v) = hears s s.duty v
told s (Fault f) = fails s s.duty f
