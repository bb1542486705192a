-- What a host keeps is the task: the bytes that it keeps, and the requests that it is handed, are those of the machine, call by call, and no
-- such call is refused. Each law is a statement; proofs/Laws.antt proves it under the same name in small letters.
use Rattle.std.specs.Prelude.{◌≡◌, ℕ, ◌^◌, ◌<◌, ◌≤◌, Bool, true, false, List, [], ◌∷◌, length}
use Rattle.queue.specs.Choose.{choose}
use Rattle.tid.specs.Sizes.{priorities, events, area_bytes}
use Rattle.kernel.specs.Numbers.{accepted, none_active}
use Rattle.step.specs.Every.{Every}
use Rattle.image.specs.Call.{request_length, answer_length}
use Rattle.server.specs.Service.{Machine}
use Rattle.server.specs.Records.{request_bytes, result_in}
use Rattle.clock.specs.declared.clock.Asked.{Asked}
use Rattle.clock.specs.Message.{argument_of}
use Rattle.clock_tasks.specs.declared.serving.Server as ServerStruct
use Rattle.clock_tasks.specs.declared.notifier.Notifier as NotifierStruct
use Rattle.clock_tasks.specs.declared.client.Client as ClientStruct
use Rattle.clock_tasks.specs.Words.{word_bytes}
use Rattle.clock_tasks.specs.Server as Server
use Rattle.clock_tasks.specs.State.{server_words}
use Rattle.clock_tasks.specs.Notifier as Notifier
use Rattle.clock_tasks.specs.NotifierState.{notifier_words}
use Rattle.clock_tasks.specs.Client as Client
use Rattle.clock_tasks.specs.ClientState.{last_offset, client_words}
use Rattle.clock_tasks.specs.Calls.{Kept, Written, written, clock_asks, clock_told, notifier_asks, notifier_told, client_asks, client_told, is_call, is_ended}

-- the three tasks as machines
abbrev pub clock_machine : Machine ServerStruct.Server
clock_machine = record { request = Server.request; asked = Server.asked; told = Server.told }

abbrev pub notifier_machine : Machine NotifierStruct.Notifier
notifier_machine = record { request = Notifier.request; asked = Notifier.asked; told = λ s o area. Notifier.told s o }

abbrev pub client_machine : Machine ClientStruct.Client
client_machine = record { request = Client.request; asked = Client.asked; told = Client.told }

-- a call of a host's: what the task asks, with room for a request, or what it is told, by the kernel's answer and the task's area
pub data Move : Type 0 where
  asks : List ℕ → Move
  tells : List ℕ → List ℕ → Move

abbrev pub Bytes : ℕ → List ℕ → Type 0
Bytes n xs = (length xs ≡ n) × Every (λ x. x < 256) xs

-- what is lent has its length, and is bytes
abbrev pub Lent : Move → Type 0
Lent (asks out) = length out ≡ request_length
Lent (tells answer area) = Bytes answer_length answer × Bytes area_bytes area

-- what the two functions of a task answer to the calls, one after another, on the state that the call before it left
unfoldable pub host_does : (List ℕ → List ℕ → Written) → (List ℕ → List ℕ → List ℕ → Kept) → List ℕ → List Move → List Written
host_does ask tell state [] = []
host_does ask tell state (asks out ∷ ms) = let c = ask state out in c ∷ host_does ask tell c.state ms
host_does ask tell state (tells answer area ∷ ms) =
    let c = tell state answer area in
    written c.verdict c.state [] ∷ host_does ask tell c.state ms

-- what its machine does: where it is over, and only there, it is refused by 4 what it asks
unfoldable pub machine_does : {S : Type 0} → Machine S → (S → List ℕ) → (S → Bool) → S → List Move → List Written
machine_does m words over s [] = []
machine_does m words over s (asks out ∷ ms) =
    let next = choose (over s) s (m.asked s) in
    choose (over s) (written none_active (word_bytes (words s)) out) (written accepted (word_bytes (words next)) (request_bytes (m.request s)))
    ∷ machine_does m words over next ms
machine_does m words over s (tells answer area ∷ ms) =
    let next = m.told s (result_in answer) area in
    written accepted (word_bytes (words next)) [] ∷ machine_does m words over next ms

-- Ruled out: a state that the clock writes and will not take again, and a sleeper that is lost between two calls.
abbrev pub ClockIsKept : Type 0
ClockIsKept =
    (priority : ℕ) (ms : List Move) → priority < priorities → Every Lent ms → let s = Server.new_server priority in
    host_does clock_asks clock_told (word_bytes (server_words s)) ms ≡ machine_does clock_machine server_words (λ s. false) s ms

abbrev pub NotifierIsKept : Type 0
NotifierIsKept =
    (event : ℕ) (ms : List Move) → event < events → Every Lent ms → let s = Notifier.new_notifier event in
    host_does notifier_asks notifier_told (word_bytes (notifier_words s)) ms ≡ machine_does notifier_machine notifier_words (λ s. false) s ms

abbrev pub ClientIsKept : Type 0
ClientIsKept =
    (clock offset : ℕ) (q : Asked) (ms : List Move) → clock < 2 ^ 32 → argument_of q < 2 ^ 32 → is_call q ≡ true → offset ≤ last_offset → Every Lent ms
    → let s = Client.new_client clock q offset in
    host_does client_asks client_told (word_bytes (client_words s)) ms ≡ machine_does client_machine client_words (λ s. is_ended s.stage) s ms
