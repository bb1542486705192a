-- What is asked of the record of a used slot by itself, told by its bytes. It is exactly that the record is what its task is written
-- as, and that the task keeps the rules of one slot: proofs/SoundRecord.
use Rattle.std.specs.Prelude.{ℕ, ◌+◌, Bool, not, ◌&&◌, ◌||◌, List, eqb, ltb, leb}
use Rattle.tid.specs.Sizes.{priorities, events, area_bytes}
use Rattle.tid.specs.Tid.{tid_of}
use Rattle.queue.specs.Choose.{choose}
use Rattle.task.specs.Task.{first_negative}
use Rattle.task.specs.Result.{negated}
use Rattle.kernel.specs.Edition.{may_wait}
use Rattle.rules.specs.Good.{good_parent}
use Rattle.image.specs.Bytes.{number_in}
use Rattle.image.specs.Record.{at_state, at_priority, at_parent, at_place, at_awaited, at_result, at_message, at_reply, at_from, at_cut, at_word, byte_in}

-- four bytes that are 0
abbrev pub blank_word : List ℕ → ℕ → Bool
blank_word r at = eqb (number_in r at 4) 0

-- a buffer that ends within its area
abbrev pub fits_area : List ℕ → ℕ → Bool
fits_area r at = leb (number_in r at 2 + number_in r (at + 2) 2) area_bytes

-- the result of a ready task: nothing, a value that is not negative from a used slot or none, cut or not, or a fault from -3 to -1
unfoldable pub result_sound : ℕ → List ℕ → Bool
result_sound used r =
    let kind = byte_in r at_result in
    let from = byte_in r at_from in
    let cut = byte_in r at_cut in
    let word = number_in r at_word 4 in
    choose (eqb kind 0) (eqb from 0 && eqb cut 0 && eqb word 0)
    (choose (eqb kind 1) (leb cut 1 && ltb word first_negative && leb from used)
    (eqb kind 2 && eqb from 0 && eqb cut 0 && ltb (negated 4) word))

abbrev pub no_result : List ℕ → Bool
no_result r = eqb (byte_in r at_result) 0 && eqb (byte_in r at_from) 0 && eqb (byte_in r at_cut) 0 && blank_word r at_word

abbrev pub no_buffers : List ℕ → Bool
no_buffers r = blank_word r at_message && blank_word r at_reply

-- a target in use that is not the task itself
abbrev pub target_sound : ℕ → ℕ → ℕ → Bool
target_sound used s target = leb 1 target && leb target used && not (eqb target (tid_of s))

-- what a task that waits for an event holds: an event that there is, and a place that the edition lets it have
unfoldable pub waiter_sound : ℕ → List ℕ → Bool
waiter_sound ed r = ltb (byte_in r at_awaited) events && no_buffers r && may_wait ed (byte_in r at_place + 1)

-- what a state holds in which a task stands in no queue
unfoldable pub unplaced_sound : List ℕ → Bool
unplaced_sound r =
    let code = byte_in r at_state in
    eqb (byte_in r at_place) 0
    && eqb (byte_in r at_awaited) 0
    && choose (eqb code 3) (fits_area r at_message && blank_word r at_reply)
    (choose (eqb code 5) (blank_word r at_message && fits_area r at_reply)
    ((eqb code 1 || eqb code 7) && no_buffers r))

-- what the state of a task says of the other fields
unfoldable pub fields_sound : ℕ → ℕ → ℕ → List ℕ → Bool
fields_sound ed used s r =
    let code = byte_in r at_state in
    let awaited = byte_in r at_awaited in
    choose (eqb code 2) (eqb awaited 0 && no_buffers r && result_sound used r)
    (no_result r
    && choose (eqb code 4) (target_sound used s awaited && fits_area r at_message && fits_area r at_reply)
    (choose (eqb code 6) (waiter_sound ed r)
    (unplaced_sound r)))

-- a record of which all this is so; its entry number may be any
unfoldable pub record_sound : ℕ → ℕ → ℕ → List ℕ → Bool
record_sound ed used s r =
    ltb (byte_in r at_priority) priorities && good_parent s (byte_in r at_parent) && fields_sound ed used s r
