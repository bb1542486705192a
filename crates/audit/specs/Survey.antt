-- The first pass over the records: how many are used, which is active, and how many stand in each queue.
use Rattle.std.specs.Prelude.{ℕ, zero, suc, ◌+◌, List, get_or, set, replicate, eqb}
use Rattle.tid.specs.Tid.{slot_named}
use Rattle.queue.specs.Choose.{choose, first_below}
use Rattle.queue.specs.Numbering.{ready_queue, event_queue, send_queue, queues_for}
use Rattle.image.specs.Record.{at_state, at_priority, at_awaited, byte_at}
use Rattle.audit.specs.declared.survey.Seen.{Seen}

-- the queue that the record of a slot stands in, of those of n slots; past the last where it stands in none
unfoldable pub queue_in : ℕ → List ℕ → ℕ → ℕ
queue_in n b s =
    let code = byte_at b s at_state in
    choose (eqb code 2) (ready_queue (byte_at b s at_priority))
    (choose (eqb code 4) (send_queue (slot_named (byte_at b s at_awaited)))
    (choose (eqb code 6) (event_queue (byte_at b s at_awaited))
    (queues_for n)))

-- the first record that is unused: those before it are used
abbrev pub used_in : ℕ → List ℕ → ℕ
used_in n b = first_below n (λ s. eqb (byte_at b s at_state) 0)

-- the last of the first k records that is active; n where none is
unfoldable pub active_up_to : ℕ → List ℕ → ℕ → ℕ
active_up_to n b zero = n
active_up_to n b (suc s) = choose (eqb (byte_at b s at_state) 1) s (active_up_to n b s)

-- how many of the first k records stand in each queue
unfoldable pub count_up_to : ℕ → List ℕ → ℕ → List ℕ
count_up_to n b zero = replicate (queues_for n) 0
count_up_to n b (suc s) =
    let count = count_up_to n b s in
    let k = queue_in n b s in
    set count k (get_or count k 0 + 1)

abbrev pub seen_in : ℕ → List ℕ → Seen
seen_in n b =
    record { used = used_in n b; active = active_up_to n b (used_in n b); count = count_up_to n b (used_in n b) }
