-- The laws for a host: any list of calls of `kernel_step` on an image that `kernel_start` wrote. Each is a statement; proofs/Laws.antt, and
-- of entry numbers proofs/Entries.antt and of events proofs/Waits.antt, proves it under the same name in small letters. `kernel_step` and
-- `kernel_start` promise `called` and `start_called` of 32 slots.
use Rattle.std.specs.Prelude.{ℕ, ◌*◌, ◌<◌, ◌≡◌, Bool, true, false, ◌&&◌, length, eqb, ltb}
use mathlib.Core.List.{List, [], map, Forall₂}
use Rattle.queue.specs.Choose.{choose}
use Rattle.tid.specs.Sizes.{slot_count, events, area_bytes}
use Rattle.tid.specs.Tid.{slot_named, tid_of}
use Rattle.task.specs.declared.task.Outcome.{Outcome}
use Rattle.task.specs.Task.{entry_of}
use Rattle.task.specs.Result.{bit}
use Rattle.kernel.specs.declared.table.Table.{Table}
use Rattle.kernel.specs.declared.table.Request.{Request}
use Rattle.kernel.specs.Edition.{many_wait}
use Rattle.kernel.specs.Numbers.{accepted, create_kind, await_event_kind, event_kind}
use Rattle.kernel.specs.Kinds.{signal}
use Rattle.rules.specs.Fresh.{fresh}
use Rattle.step.specs.Run.{Done, run, last_of}
use Rattle.image.specs.Bytes.{number_in, record_at}
use Rattle.image.specs.Record.{record_length, at_state, at_awaited, at_entry, byte_at, entry_at, result_parts_in, result_of}
use Rattle.image.specs.Form.{reformed}
use Rattle.image.specs.Call.{request_from, answer_from, answer_length, at_next, at_kind, at_cut_word}
use Rattle.lines.specs.Block.{requests, lines_from}
use Rattle.laws.specs.Same.{SameButWrite, SameButWrites}
use Rattle.laws.specs.Movement.{movements}
use Rattle.laws.specs.Origin.{origins, value_of}
use Rattle.laws.specs.Cut.{last_is_short}
use Rattle.laws.specs.Entries.{bare_request}
use Rattle.entry.specs.Entry.{Call, StartCall, called, start_called}
use Rattle.entry.specs.Laws.{Tells}
use Rattle.calls.specs.Calls.{Lent, calls, is_taken, of_taken, requests_of, as_call}

-- what a host starts a kernel with: an edition, and the first task's priority and entry number
pub record Setting : Type 0 where
  pub edition : ℕ
  pub priority : ℕ
  pub entry : ℕ

-- the image of a kernel that was started into bytes of any kind, whether it was, and the table that it stands for
abbrev pub start_of : Setting → List ℕ → StartCall
start_of k bytes = start_called slot_count k.edition k.priority k.entry bytes

abbrev pub Started : Setting → List ℕ → Type 0
Started k bytes = (start_of k bytes).verdict ≡ accepted

abbrev pub fresh_of : Setting → Table
fresh_of k = fresh slot_count k.edition k.priority k.entry

-- what came of the calls after it, each with the edition of the start
abbrev pub calls_from : Setting → List ℕ → List ℕ → List Lent → List Call
calls_from k bytes areas ls = calls slot_count k.edition (start_of k bytes).image areas ls

-- the run of the requests that were taken
abbrev pub run_from : Setting → List ℕ → List Lent → List Done
run_from k areas ls = run (fresh_of k) areas (requests_of ls)

-- A list of calls is a run: the calls that are taken return and leave, one after another, the verdict, the image, the areas and the answer of
-- the steps of the run.
-- Ruled out: an entry that keeps something between two calls beside the bytes that the host keeps.
abbrev pub CallsAreRun : Type 0
CallsAreRun =
    (k : Setting) (bytes areas : List ℕ) (ls : List Lent) → Started k bytes
    → of_taken ls (calls_from k bytes areas ls) ≡ map as_call (run_from k areas ls)

-- A call that is not taken changes nothing, whatever image and areas it is lent.
-- Ruled out: a call refused for a length that leaves another image, so that the next one is not the next step.
abbrev pub OthersChangeNothing : Type 0
OthersChangeNothing =
    (ed : ℕ) (image areas : List ℕ) (l : Lent) → is_taken l ≡ false → let c = called slot_count ed image areas l.request l.answer in
    (c.image ≡ image) × (c.areas ≡ areas)

-- Each answer, by its bytes, is a reading, a refusal or nothing (`Tells`), where the host lent room for it.
abbrev pub EachAnswerTells : Type 0
EachAnswerTells =
    (k : Setting) (bytes areas : List ℕ) (ls : List Lent)
    → Forall₂ (λ l c. length l.answer ≡ answer_length → Tells c) ls (calls_from k bytes areas ls)

-- A host is told of every cut: where the last answer tells a value, its last word is 1 if the delivery that gave the value copied fewer
-- bytes than the length sent, and else 0.
-- Ruled out: an entry that forgets in the stored record that a delivery was cut, and one that says so of another task's.
abbrev pub HostIsToldOfCuts : Type 0
HostIsToldOfCuts =
    (k : Setting) (bytes areas : List ℕ) (ls : List Lent) → Started k bytes → length areas ≡ slot_count * area_bytes
    → let u = run_from k areas ls in
    let answer = last_of [] (map (λ c. c.answer) (of_taken ls (calls_from k bytes areas ls))) in
    number_in answer at_kind 4 ≡ 1
    → number_in answer at_cut_word 4 ≡ bit (last_is_short (fresh_of k) (slot_named (number_in answer at_next 4)) u)

-- two calls with requests of one length that ask alike, and the same room for the answer
pub record Likened (Alike : Request → Request → Type 0) (l l' : Lent) : Type 0 where
  pub sized : length l.request ≡ length l'.request
  pub asked : Alike (request_from l.request) (request_from l'.request)
  pub room : l.answer ≡ l'.answer

-- two calls that differ only in a byte to be written: they ask the same, or are two own writes of bytes at one offset
abbrev pub SameButByte : Lent → Lent → Type 0
SameButByte = Likened SameButWrite

-- what a host sees of a call beside the areas
abbrev pub seen : Call → ℕ × List ℕ × List ℕ
seen c = (c.verdict, c.image, c.answer)

-- Demand 3 for a host: two hosts of one edition whose areas and written values differ only in bytes get the same verdicts, images and answers, call by
-- call, and the same deliveries and places of own writes.
-- Ruled out: an entry in which a byte of a message or of an area decides who runs next, is stored in the image, or is shown in an answer.
abbrev pub HostsAlike : Type 0
HostsAlike =
    (k : Setting) (bytes bytes' areas areas' : List ℕ) (ls ls' : List Lent) → Started k bytes → Started k bytes'
    → length areas ≡ length areas' → Forall₂ SameButByte ls ls'
    → (map seen (calls_from k bytes areas ls) ≡ map seen (calls_from k bytes' areas' ls'))
    × (movements (run_from k areas ls) ≡ movements (run_from k areas' ls'))

-- Every byte of a host's areas has its origin: after the last call each place holds the byte that the deliveries and own writes of the
-- taken calls, in their order, bring there.
-- Ruled out: an entry that writes another byte of the areas than its step says.
abbrev pub HostBytesHaveOrigins : Type 0
HostBytesHaveOrigins =
    (k : Setting) (bytes areas : List ℕ) (ls : List Lent) → Started k bytes → let u = run_from k areas ls in
    map (value_of areas u) (origins (length areas) u) ≡ last_of areas (map (λ c. c.areas) (calls_from k bytes areas ls))

-- The same for printed lines, wide or not: two inputs of kernel-run that differ only in written bytes print the same lines, whatever table
-- they start from and whatever the areas hold. That what it prints are the lines of its input's run is lines/Printed.PrintedIsRun.
abbrev pub LinesAlike : Type 0
LinesAlike =
    (wide : Bool) (t : Table) (areas areas' input input' : List ℕ) → length areas ≡ length areas'
    → SameButWrites (requests input) (requests input')
    → lines_from wide 1 (run t areas (requests input)) ≡ lines_from wide 1 (run t areas' (requests input'))

-- Waiting for an event, by the bytes of the image.

-- the record of a slot waits for an event
abbrev pub WaitsIn : List ℕ → ℕ → ℕ → Type 0
WaitsIn image e s = (byte_at image s at_state ≡ 6) × (byte_at image s at_awaited ≡ e)

-- Where many wait, an accepted AwaitEvent of an event that there is leaves the record of the task that was active waiting for it.
-- Ruled out: an entry that tells -3 in edition 2.
abbrev pub HostsTasksMayWait : Type 0
HostsTasksMayWait =
    (image areas request answer : List ℕ) (s : ℕ) → s < slot_count → let c = called slot_count many_wait image areas request answer in
    let r = request_from request in
    c.verdict ≡ accepted → r.kind ≡ await_event_kind → r.arg0 < events → byte_at image s at_state ≡ 1 → WaitsIn c.image r.arg0 s

-- a task gets a result by a call: its record is ready and holds it, or the answer names the task and shows it
pub data Gets (s : ℕ) (o : Outcome) (c : Call) : Type 0 where
  holds : byte_at c.image s at_state ≡ 2 → result_of (result_parts_in (record_at record_length c.image s)) ≡ o → Gets s o c
  shown : (answer_from c.answer).next ≡ tid_of s → (answer_from c.answer).result ≡ o → Gets s o c

-- An accepted Event, in either edition: every task whose record waits for it gets the same result, the word or a fault of 2.
-- Ruled out: an entry that wakes only the first who waits, and one that tells the second another number.
abbrev pub HostWakesAll : Type 0
HostWakesAll =
    (ed : ℕ) (image areas request answer : List ℕ) (s : ℕ) → s < slot_count → let c = called slot_count ed image areas request answer in
    let r = request_from request in
    c.verdict ≡ accepted → r.kind ≡ event_kind → WaitsIn image r.arg0 s → Gets s (signal r.arg1) c

-- Entry numbers, by the bytes of the image.

-- a record that is unused in the one image and used in the other: its task was made
abbrev pub is_made_in : List ℕ → List ℕ → ℕ → Bool
is_made_in image image' s = eqb (byte_at image s at_state) 0 && ltb 0 (byte_at image' s at_state)

-- A host finds in each record the entry number that its task was made with: an accepted call leaves it as it is, in the record of a task
-- that has exited too, and writes the second argument of a Create into the record that this made.
-- Ruled out: an entry that stores the entry number of the caller, or one that loses it when a record is written anew.
abbrev pub HostFindsEntries : Type 0
HostFindsEntries =
    (ed : ℕ) (image areas request answer : List ℕ) (s : ℕ) → s < slot_count → let c = called slot_count ed image areas request answer in
    let made = is_made_in image c.image s in
    c.verdict ≡ accepted
    → (entry_at c.image s ≡ choose made (entry_of (request_from request).arg1) (entry_at image s))
    × (made ≡ true → (request_from request).kind ≡ create_kind)

-- two calls that differ only in the second argument of a Create
abbrev pub SameButEntry : Lent → Lent → Type 0
SameButEntry = Likened (λ r r'. bare_request r ≡ bare_request r')

-- what a host sees of a call beside entry numbers: the image is seen without the last four bytes of each record
abbrev pub seen_bare : Call → ℕ × List ℕ × List ℕ × List ℕ
seen_bare c = (c.verdict, reformed slot_count record_length at_entry c.image, c.areas, c.answer)

-- Entry numbers decide nothing for a host: two hosts that start with entry numbers of their own, and whose Creates differ only in the second
-- argument, get the same verdicts, answers and areas, call by call, and images that differ only in entry numbers.
-- Ruled out: an entry in which an entry number decides who runs next, or whether a task is made.
abbrev pub HostsAlikeButEntries : Type 0
HostsAlikeButEntries =
    (k : Setting) (entry' : ℕ) (bytes bytes' areas : List ℕ) (ls ls' : List Lent)
    → let k' : Setting = record { edition = k.edition; priority = k.priority; entry = entry' } in
    Started k bytes → Started k' bytes' → Forall₂ SameButEntry ls ls'
    → map seen_bare (calls_from k bytes areas ls) ≡ map seen_bare (calls_from k' bytes' areas ls')
