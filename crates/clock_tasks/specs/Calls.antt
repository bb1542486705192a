-- What each exported function returns, and leaves of the bytes that were lent. Refusals have the kernel's numbers where they mean the same, and
-- a refused call writes nothing: 5 room for a request that is not 24 bytes, 10 an answer that is not 24 (or room for an outcome that is not 8),
-- 1 an area that is not 256, 7 a state of another length, 2 bytes that are no state; at a start 6 the priority, 8 the event, 3 what is no call,
-- 9 the offset; and 4 where a call that is over is asked what it asks.
use Rattle.std.specs.Prelude.{ℕ, ◌*◌, Bool, true, false, not, List, length, ◌==◌, nat_le, nat_lt}
use Rattle.queue.specs.Choose.{choose}
use Rattle.tid.specs.Sizes.{priorities, events, area_bytes}
use Rattle.kernel.specs.declared.table.Request.{Request}
use Rattle.kernel.specs.Numbers.{accepted, bad_areas, bad_table, bad_kind, none_active, bad_record, bad_priority, bad_image, bad_event, bad_write, bad_answer}
use Rattle.image.specs.Call.{request_length, answer_length}
use Rattle.server.specs.Records.{request_bytes, result_in}
use Rattle.clock.specs.declared.clock.Asked.{Asked}
use Rattle.clock.specs.declared.clock.Asked.TheVariants.{Tick, Time, Delay, Until, Unknown}
use Rattle.clock.specs.Message.{asked_by}
use Rattle.clock_tasks.specs.declared.client.Stage.{Stage}
use Rattle.clock_tasks.specs.declared.client.Stage.TheVariants.{Writing, Sending, Sent, Ended}
use Rattle.clock_tasks.specs.Words.{word_bytes, words_in}
use Rattle.clock_tasks.specs.Server as Server
use Rattle.clock_tasks.specs.State as State
use Rattle.clock_tasks.specs.Notifier as Notifier
use Rattle.clock_tasks.specs.NotifierState as NotifierState
use Rattle.clock_tasks.specs.Client as Client
use Rattle.clock_tasks.specs.declared.client.Client as ClientStruct
use Rattle.clock_tasks.specs.ClientState as ClientState

-- the verdict that a call returns, and the state after it
pub record Kept : Type 0 where
  pub verdict : ℕ
  pub state : List ℕ

abbrev pub kept : ℕ → List ℕ → Kept
kept verdict state = record { verdict = verdict; state = state }

-- the same, and the bytes that were lent to be written
pub record Written : Type 0 where
  pub verdict : ℕ
  pub state : List ℕ
  pub out : List ℕ

abbrev pub written : ℕ → List ℕ → List ℕ → Written
written verdict state out = record { verdict = verdict; state = state; out = out }

-- The refusals that concern a state of n words alone, of which `good` says whether they are one: 7, then 2. 0 where neither holds.
abbrev pub state_refusal : ℕ → (List ℕ → Bool) → List ℕ → ℕ
state_refusal n good state =
    choose (not (length state == 4 * n)) bad_image
    (choose (not (good (words_in n state))) bad_table
    accepted)

-- a start: refused by a number of its own, then by 7
abbrev pub started_with : ℕ → ℕ → List ℕ → List ℕ → Kept
started_with refusal n words state =
    choose (nat_lt accepted refusal) (kept refusal state)
    (choose (not (length state == 4 * n)) (kept bad_image state)
    (kept accepted (word_bytes words)))

-- a task asks: 5, then the state's refusals; then it has asked, and the request is written
abbrev pub asks_with : ℕ → List ℕ → Request → List ℕ → List ℕ → Written
asks_with refusal words r state out =
    choose (not (length out == request_length)) (written bad_record state out)
    (choose (nat_lt accepted refusal) (written refusal state out)
    (written accepted (word_bytes words) (request_bytes r)))

-- what a task is asked for its request is refused by: the state's refusals, then 4 where it is over
abbrev pub ask_refusal : ℕ → Bool → ℕ
ask_refusal refusal over = choose (nat_lt accepted refusal) refusal (choose over none_active accepted)

-- a task is told: 10, then 1, then the state's refusals
abbrev pub told_with : ℕ → List ℕ → List ℕ → List ℕ → List ℕ → Kept
told_with refusal words state answer area =
    choose (not (length answer == answer_length)) (kept bad_answer state)
    (choose (not (length area == area_bytes)) (kept bad_areas state)
    (choose (nat_lt accepted refusal) (kept refusal state)
    (kept accepted (word_bytes words))))

-- THE CLOCK

unfoldable pub clock_start : ℕ → List ℕ → Kept
clock_start priority state =
    started_with (choose (nat_lt priority priorities) accepted bad_priority) State.words (State.server_words (Server.new_server priority)) state

unfoldable pub clock_asks : List ℕ → List ℕ → Written
clock_asks state out =
    let s = State.server_from (words_in State.words state) in
    asks_with (state_refusal State.words State.is_server state) (State.server_words (Server.asked s)) (Server.request s) state out

unfoldable pub clock_told : List ℕ → List ℕ → List ℕ → Kept
clock_told state answer area =
    let s = State.server_from (words_in State.words state) in
    told_with (state_refusal State.words State.is_server state) (State.server_words (Server.told s (result_in answer) area)) state answer area

-- THE NOTIFIER

unfoldable pub notifier_start : ℕ → List ℕ → Kept
notifier_start event state =
    started_with (choose (nat_lt event events) accepted bad_event) NotifierState.words (NotifierState.notifier_words (Notifier.new_notifier event)) state

unfoldable pub notifier_asks : List ℕ → List ℕ → Written
notifier_asks state out =
    let s = NotifierState.notifier_from (words_in NotifierState.words state) in
    asks_with (state_refusal NotifierState.words NotifierState.is_notifier state) (NotifierState.notifier_words (Notifier.asked s)) (Notifier.request s) state out

unfoldable pub notifier_told : List ℕ → List ℕ → List ℕ → Kept
notifier_told state answer area =
    let s = NotifierState.notifier_from (words_in NotifierState.words state) in
    told_with (state_refusal NotifierState.words NotifierState.is_notifier state) (NotifierState.notifier_words (Notifier.told s (result_in answer))) state answer area

-- A CALL OF A CLIENT

-- whether it is a call: a tick is not, nor is what has no fixed form
abbrev pub is_call : Asked → Bool
is_call Tick = false
is_call Time = true
is_call (Delay d) = true
is_call (Until due) = true
is_call Unknown = false

-- 3, then 9, then 7
unfoldable pub client_start : ℕ → ℕ → ℕ → ℕ → List ℕ → Kept
client_start clock op argument offset state =
    let q = asked_by op argument in
    started_with (choose (not (is_call q)) bad_kind (choose (nat_le offset ClientState.last_offset) accepted bad_write)) ClientState.words
    (ClientState.client_words (Client.new_client clock q offset)) state

-- whether it is over
abbrev pub is_ended : Stage → Bool
is_ended (Writing k) = false
is_ended Sending = false
is_ended Sent = false
is_ended Ended = true

-- whether the call of a state is over
abbrev pub is_over : ClientStruct.Client → Bool
is_over s = is_ended s.stage

-- the state's refusals, then 4 where it is over
abbrev pub asking_refusal : List ℕ → ℕ
asking_refusal state =
    ask_refusal (state_refusal ClientState.words ClientState.is_client state) (is_over (ClientState.client_from (words_in ClientState.words state)))

unfoldable pub client_asks : List ℕ → List ℕ → Written
client_asks state out =
    let s = ClientState.client_from (words_in ClientState.words state) in
    asks_with (asking_refusal state) (ClientState.client_words (Client.asked s)) (Client.request s) state out

unfoldable pub client_told : List ℕ → List ℕ → List ℕ → Kept
client_told state answer area =
    let s = ClientState.client_from (words_in ClientState.words state) in
    told_with (state_refusal ClientState.words ClientState.is_client state) (ClientState.client_words (Client.told s (result_in answer) area)) state answer area

-- how long what came of a call is: its kind and its value
abbrev pub outcome_length : ℕ
outcome_length = 8

-- what came of a call, 10 before the state's refusals; the state is only read
unfoldable pub client_outcome : List ℕ → List ℕ → Kept
client_outcome state out =
    let s = ClientState.client_from (words_in ClientState.words state) in
    let refusal = state_refusal ClientState.words ClientState.is_client state in
    choose (not (length out == outcome_length)) (kept bad_answer out)
    (choose (nat_lt accepted refusal) (kept refusal out)
    (kept accepted (word_bytes (ClientState.shown_in s.stage s.outcome))))
