-- Whether a record is what its task is written as, told from the record alone. `proofs/Exact` shows that a good table whose
-- records are all exact is written as the bytes that it was read from, so that nothing is written again to compare.
use Rattle.std.specs.Prelude.{ℕ, Bool, ◌&&◌, ◌||◌, List, ◌==◌, nat_eq, slice_index}
use Rattle.queue.specs.Choose.{choose, all_below}
use Rattle.kernel.specs.declared.table.Table.{Table}
use Rattle.rules.specs.declared.Checked.{Checked}
use Rattle.rules.specs.Check.{active_in, good_placed}
use Rattle.image.specs.declared.fields.Parts.{Parts}
use Rattle.image.specs.declared.fields.ResultParts.{ResultParts}
use Rattle.image.specs.declared.fields.Stated.{Stated}
use Rattle.image.specs.declared.fields.TaskRead.{TaskRead}
use Rattle.image.specs.declared.stored.Decoded.{Decoded}
use Rattle.image.specs.Bytes.{record_at}
use Rattle.image.specs.ResultParts.{result_parts_of}
use Rattle.image.specs.Record.{record_length, at_state, at_place, byte_in, parts_of, parts_in, result_parts_in, state_from, result_of, task_from, place_read}
use Rattle.image.specs.Image.{table_of}

abbrev pub same_parts : Parts → Parts → Bool
same_parts p q =
    (p.code == q.code)
    && p.awaited == q.awaited
    && p.message.start == q.message.start
    && p.message.len == q.message.len
    && p.reply.start == q.reply.start
    && p.reply.len == q.reply.len

abbrev pub same_result_parts : ResultParts → ResultParts → Bool
same_result_parts p q =
    (p.kind == q.kind) && p.from == q.from && p.cut == q.cut && p.word == q.word

-- a place stands only with a ready, a receive-blocked or an event-blocked task: any other stands in no queue
abbrev pub exact_place : ℕ → ℕ → Bool
exact_place code place = code == 2 || code == 4 || code == 6 || place == 0

-- the state that parts give, and whether they and the place are those of a task in it
abbrev pub stated_from : Parts → ℕ → Stated
stated_from p place =
    record { state = state_from p; exact = same_parts (parts_of (state_from p)) p && exact_place p.code place }

-- a used record gives its task's numbers again
abbrev pub exact_used : List ℕ → Bool
exact_used r =
    same_parts (parts_of (state_from (parts_in r))) (parts_in r)
    && same_result_parts (result_parts_of (result_of (result_parts_in r))) (result_parts_in r)
    && exact_place (byte_in r at_state) (byte_in r at_place)

-- an unused record is all zero
unfoldable pub exact_record : List ℕ → Bool
exact_record r =
    choose (byte_in r at_state == 0)
    (all_below record_length (λ i. nat_eq (slice_index r i) 0))
    (exact_used r)

abbrev pub task_read : List ℕ → TaskRead
task_read r = record { task = task_from r; exact = exact_record r }

-- the first k records are exact
abbrev pub exact_up_to : List ℕ → ℕ → Bool
exact_up_to bytes k = all_below k (λ s. exact_record (record_at record_length bytes s))

-- the table of n slots that the records give, and whether each of them is exact
abbrev pub decoded_of : ℕ → ℕ → List ℕ → Decoded
decoded_of n ed bytes = record { table = table_of n ed bytes; exact = exact_up_to bytes n }

-- what is asked of the table that was read: whether each task stands at the place that its record gives, and which slot is active
abbrev pub checked_placed : Table → List ℕ → Checked
checked_placed t bytes = record { good = good_placed t (place_read bytes); active = active_in t }
