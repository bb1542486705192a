-- Runs of the kind that the laws speak of, so that they speak of something. Tid 1 makes tid 2, which is the clock: it makes its notifier, tid 3,
-- tid 1 asks for the time, and is answered. And tid 2 is a client, or a notifier, that comes to its Send.
use Rattle.std.specs.Prelude.{ℕ, ◌+◌, ◌≡◌, Bool, true, List, [], ◌∷◌, ◌++◌, replicate}
use Rattle.kernel.specs.declared.table.Request.{Request}
use Rattle.kernel.specs.Decide.{decide}
use Rattle.kernel.specs.Edition.{one_waits}
use Rattle.rules.specs.Fresh.{fresh}
use Rattle.server.specs.Service.{Machine}
use Rattle.served.specs.World.{World, bytes_in, asks_now, ended, Obeys}
use Rattle.served.specs.Letters.{Letter, read, Sent, replies}
use Rattle.clock.specs.declared.clock.Asked.TheVariants.{Tick, Time}
use Rattle.clock.specs.declared.clock.Said.TheVariants.{Count}
use Rattle.clock.specs.Message.{request_bytes, answer_bytes}
use Rattle.clock_tasks.specs.declared.serving.Server.{Server}
use Rattle.clock_tasks.specs.Server.{new_server, clock_service}
use Rattle.clock_tasks.specs.Notifier.{new_notifier}
use Rattle.clock_tasks.specs.Client.{new_client}
use Rattle.clock_tasks.specs.Laws.{clock_machine, notifier_machine, client_machine}
use Rattle.clock_laws.specs.Laws.{Begins, served}

abbrev ask : ℕ → ℕ → ℕ → ℕ → ℕ → ℕ → Request
ask kind a b c d e = record { kind = kind; arg0 = a; arg1 = b; arg2 = c; arg3 = d; arg4 = e }

abbrev pub makes : Request
makes = ask 1 8 0 0 0 0

-- a kernel of three slots, once tid 2 was made; no byte is 0 but the first sixteen of tid 1
unfoldable pub made : {S : Type 0} → S → World S
made s = record { table = (decide (fresh 3 one_waits 16 0) makes).table; areas = replicate 16 0 ++ replicate 752 9; state = s }

abbrev pub clock : World Server
clock = made (new_server 20)

-- bytes, each by an own write, from an offset on
abbrev pub written : ℕ → List ℕ → List Request
written at [] = []
written at (byte ∷ bytes) = ask 11 at byte 0 0 0 ∷ written (at + 1) bytes

-- the clock makes its notifier and receives; tid 1 writes op 2 and sends; the clock writes eight bytes, replies, and receives again
unfoldable pub asks_time : List Request
asks_time =
    ask 1 20 0 0 0 0
    ∷ ask 7 0 8 0 0 0
    ∷ ask 11 0 2 0 0 0
    ∷ ask 6 2 0 8 16 8
    ∷ written 8 (answer_bytes (Count 0))
    ++ (ask 8 1 8 8 0 0 ∷ ask 7 0 8 0 0 0 ∷ [])

-- the letters that are read, the Replies, tid 1's reply buffer before and after, and the notifier
unfoldable pub shown : List Letter × List Sent × List ℕ × List ℕ × ℕ
shown =
    let end = ended clock_machine 2 clock asks_time in (
      read clock_service 2 (served clock) asks_time,
      replies clock_service 2 (served clock) asks_time,
      bytes_in 1 16 8 clock.areas,
      bytes_in 1 16 8 end.areas,
      end.state.clock.notifier,
    )

-- it is a run of the kind that the laws speak of, the letter is the one that was sent, and the answer reaches tid 1's buffer
pub record TimeIsTold : Type 0 where
  pub begins : Begins 3 2 clock
  pub obeys : Obeys clock_machine 2 clock asks_time
  pub told : shown
      ≡ (
        record { from = 1; length = 8; bytes = 2 ∷ 0 ∷ 0 ∷ 0 ∷ 0 ∷ 0 ∷ 0 ∷ 0 ∷ [] } ∷ [],
        record { to = 1; bytes = answer_bytes (Count 0) } ∷ [],
        replicate 8 9,
        replicate 8 0,
        3,
      )

-- a machine that comes to a Send
pub record Sends {S : Type 0} (m : Machine S) (s : S) (rs : List Request) (r : Request) : Type 0 where
  pub begins : Begins 3 2 (made s)
  pub obeys : Obeys m 2 (made s) rs
  pub asks : let now = ended m 2 (made s) rs in ◌≡◌ {A = Bool × Request} (asks_now 2 now r, m.request now.state) (true, r)

-- a client that asks tid 1 for the time, by a message at offset 16
abbrev pub CallIsMade : Type 0
CallIsMade = Sends client_machine (new_client 1 Time 16) (written 16 (request_bytes Time)) (ask 6 1 16 8 24 8)

-- a notifier of event 5, which happens
abbrev pub TickIsMade : Type 0
TickIsMade =
    Sends notifier_machine (new_notifier 5) (ask 3 0 0 0 0 0 ∷ written 0 (request_bytes Tick) ++ (ask 9 5 0 0 0 0 ∷ ask 10 5 1 0 0 0 ∷ [])) (ask 6 1 0 8 8 8)
