-- What is to be answered to a list of messages, told without the clock's row. Whoever is put to sleep is entered in a book, once, with the
-- number of the message that will wake it, which the messages to come decide. Messages are numbered from 0.
use Rattle.std.specs.Prelude.{ℕ, suc, ◌+◌, ◌-◌, Bool, true, false, ◌&&◌, leb, List, [], ◌∷◌, ◌++◌, map, length, ◌==◌, nat_eq, nat_le}
use Rattle.queue.specs.Choose.{choose}
use Rattle.task.specs.Task.{is_negative}
use Rattle.clock.specs.declared.clock.Clock.{Clock}
use Rattle.clock.specs.declared.clock.Asked.{Asked}
use Rattle.clock.specs.declared.clock.Asked.TheVariants.{Tick, Time, Delay, Until, Unknown}
use Rattle.clock.specs.declared.clock.Said.{Said}
use Rattle.clock.specs.declared.clock.Said.TheVariants.{Count, Refused}
use Rattle.clock.specs.Clock.{Heard}
use Rattle.clock.specs.Row.{room, picked, some, answered_tids}
use Rattle.clock.specs.Clock.{wrapped, is_due, hear}

-- a message, as it reaches the clock
pub record Arrival : Type 0 where
  pub from : ℕ
  pub asked : Asked

-- an answer, as it leaves the clock
pub record Answer : Type 0 where
  pub to : ℕ
  pub said : Said

-- WHAT THE CLOCK DOES

-- what a clock makes of a message
abbrev pub heard : Clock → Arrival → Heard
heard c a = hear c a.from a.asked

-- the answers that a message leads to, in the order in which they are made
abbrev pub answers_in : Heard → List Answer
answers_in h = map (λ g. record { to = g; said = h.said }) (answered_tids h.to)

-- the answers to each of a list of messages
unfoldable pub answers : Clock → List Arrival → List (List Answer)
answers c [] = []
answers c (a ∷ ms) = answers_in (heard c a) ∷ answers (heard c a).clock ms

-- WHAT IT IS TO DO; n is the notifier's tid, and `count` the count before a message

-- whether a message asks to be counted
abbrev pub asks_tick : Asked → Bool
asks_tick Tick = true
asks_tick Time = false
asks_tick (Delay d) = false
asks_tick (Until u) = false
asks_tick Unknown = false

-- whether a message is a tick, which it is only from the notifier
abbrev pub is_tick : ℕ → Arrival → Bool
is_tick n a = asks_tick a.asked && a.from == n

-- the count after a message
abbrev pub count_after : ℕ → ℕ → Arrival → ℕ
count_after n count a = choose (is_tick n a) (wrapped (count + 1)) count

-- how many messages pass before the first tick at which a target is due; all of them where no tick is
unfoldable pub first_due : ℕ → ℕ → ℕ → List Arrival → ℕ
first_due n count target [] = 0
first_due n count target (a ∷ ms) =
    let later = suc (first_due n (count_after n count a) target ms) in
    choose (is_tick n a && is_due (count_after n count a) target) 0 later

-- how many messages pass before the d-th tick, d being at least 1; all of them where there are fewer ticks
unfoldable pub nth_tick : ℕ → ℕ → List Arrival → ℕ
nth_tick n d [] = 0
nth_tick n d (a ∷ ms) = choose (is_tick n a) (choose (nat_le d 1) 0 (suc (nth_tick n (d - 1) ms))) (suc (nth_tick n d ms))

-- one that was put to sleep: who, until which count, and the number of the message that wakes it
pub record Entry : Type 0 where
  pub tid : ℕ
  pub due : ℕ
  pub wakes : ℕ

-- those who sleep as message k comes: no message before it woke them
abbrev pub sleeping_at : ℕ → List Entry → List Entry
sleeping_at k book = picked (λ e. leb k e.wakes) book

-- those whom message k wakes, in order of arrival
abbrev pub woken_at : ℕ → List Entry → List Entry
woken_at k book = picked (λ e. nat_eq e.wakes k) book

-- what becomes of the sender of a message: it is answered at once, or sleeps until a count
pub data Verdict : Type 0 where
  answered : Said → Verdict
  sleeps : ℕ → Verdict

-- the sender waits for a target: it is answered at once where that is due, which needs no place; refused by -3 where 16 sleep; and else it
-- sleeps
abbrev pub until_due : ℕ → List Entry → ℕ → Verdict
until_due count sleeping due =
    choose (is_due count due) (answered (Count count))
    (choose (nat_le room (length sleeping)) (answered (Refused 3))
    (sleeps due))

-- whether a tid sleeps
abbrev pub is_asleep : List Entry → ℕ → Bool
is_asleep sleeping tid = some (λ e. nat_eq e.tid tid) sleeping

-- What becomes of a sender while these sleep: -4 for a message of no fixed form, for a tick that is not the notifier's, and for a delay of
-- either sort from one who sleeps; then -2 for a delay below 0; then -3.
abbrev pub verdict : ℕ → ℕ → List Entry → ℕ → Asked → Verdict
verdict n count sleeping from Tick = answered (choose (from == n) (Count (wrapped (count + 1))) (Refused 4))
verdict n count sleeping from Time = answered (Count count)
verdict n count sleeping from (Delay d) =
    choose (is_asleep sleeping from) (answered (Refused 4))
    (choose (is_negative d) (answered (Refused 2))
    (until_due count sleeping (wrapped (count + d))))
verdict n count sleeping from (Until due) = choose (is_asleep sleeping from) (answered (Refused 4)) (until_due count sleeping due)
verdict n count sleeping from Unknown = answered (Refused 4)

-- the answer to the sender, if it has one now
abbrev pub own_answer : ℕ → Verdict → List Answer
own_answer from (answered said) = record { to = from; said = said } ∷ []
own_answer from (sleeps due) = []

-- what message k enters in the book: its sender, if that sleeps; `ms` are the messages to come, of which the first is number k + 1
abbrev pub entered : ℕ → ℕ → ℕ → ℕ → List Arrival → Verdict → List Entry
entered n count k from ms (answered said) = []
entered n count k from ms (sleeps due) = record { tid = from; due = due; wakes = suc k + first_due n count due ms } ∷ []

-- the answers to message k and those behind it: first to its sender, if it has one now, then to those whom it wakes, in order of arrival
unfoldable pub plan : ℕ → ℕ → List Entry → ℕ → List Arrival → List (List Answer)
plan n count book k [] = []
plan n count book k (a ∷ ms) =
    let v = verdict n count (sleeping_at k book) a.from a.asked in
    let now = count_after n count a in
    (own_answer a.from v ++ map (λ e. record { to = e.tid; said = Count now }) (woken_at k book))
    ∷ plan n now (book ++ entered n count k a.from ms v) (suc k) ms

-- THE SAME WITH THE BOOK AT THE END IN HAND

-- the book at the end: all who were ever put to sleep, in order of arrival, each entered once
unfoldable pub booked : ℕ → ℕ → List Entry → ℕ → List Arrival → List Entry
booked n count book k [] = book
booked n count book k (a ∷ ms) =
    let v = verdict n count (sleeping_at k book) a.from a.asked in
    booked n (count_after n count a) (book ++ entered n count k a.from ms v) (suc k) ms

-- the plan where `all`, the book at the end, says whom each message wakes; `book` only says who sleeps
unfoldable pub by_book : ℕ → ℕ → List Entry → List Entry → ℕ → List Arrival → List (List Answer)
by_book n count all book k [] = []
by_book n count all book k (a ∷ ms) =
    let v = verdict n count (sleeping_at k book) a.from a.asked in
    let now = count_after n count a in
    (own_answer a.from v ++ map (λ e. record { to = e.tid; said = Count now }) (woken_at k all))
    ∷ by_book n now all (book ++ entered n count k a.from ms v) (suc k) ms
