-- The notifier as the four words that a host keeps: its duty and the byte that it has come to, the event, and the clock's tid.
use Rattle.std.specs.Prelude.{ℕ, ◌-◌, min, Bool, List, [], ◌∷◌, ◌==◌, slice_index}
use Rattle.queue.specs.Choose.{choose}
use Rattle.tid.specs.Sizes.{events}
use Rattle.image.specs.Bytes.{same}
use Rattle.clock_tasks.specs.declared.notifier.Duty.{Duty}
use Rattle.clock_tasks.specs.declared.notifier.Duty.TheVariants.{Asking, Asked, Writing, Awaiting, Waiting, Sending, Sent}
use Rattle.clock_tasks.specs.declared.notifier.Notifier.{Notifier}

abbrev pub words : ℕ
words = 4

abbrev pub duty_code : Duty → ℕ
duty_code Asking = 0
duty_code Asked = 1
duty_code (Writing k) = 2
duty_code Awaiting = 3
duty_code Waiting = 4
duty_code Sending = 5
duty_code Sent = 6

abbrev pub place : Duty → ℕ
place Asking = 0
place Asked = 0
place (Writing k) = k
place Awaiting = 0
place Waiting = 0
place Sending = 0
place Sent = 0

abbrev pub notifier_words : Notifier → List ℕ
notifier_words s = duty_code s.duty ∷ place s.duty ∷ s.event ∷ s.clock ∷ []

abbrev pub duty_of : ℕ → ℕ → Duty
duty_of code k =
    choose (code == 0) Asking
    (choose (code == 1) Asked
    (choose (code == 2) (Writing (min k 7))
    (choose (code == 3) Awaiting
    (choose (code == 4) Waiting
    (choose (code == 5) Sending
    Sent)))))

abbrev pub notifier_from : List ℕ → Notifier
notifier_from ws =
    record { event = min (slice_index ws 2) (events - 1); clock = slice_index ws 3; duty = duty_of (slice_index ws 0) (slice_index ws 1) }

-- whether words are those of a notifier
abbrev pub is_notifier : List ℕ → Bool
is_notifier ws = same (notifier_words (notifier_from ws)) ws
