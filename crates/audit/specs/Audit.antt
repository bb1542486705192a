-- What the passes over the records ask and find.
use Rattle.std.specs.Prelude.{ℕ, ◌*◌, Bool, false, not, ◌&&◌, ◌||◌, List, length, get_or, replicate, eqb, ltb, leb}
use Rattle.tid.specs.Sizes.{priorities}
use Rattle.queue.specs.Choose.{choose, all_below}
use Rattle.queue.specs.Numbering.{send_queue, queues_for}
use Rattle.kernel.specs.Edition.{is_edition}
use Rattle.image.specs.Bytes.{record_at}
use Rattle.image.specs.Record.{record_length, at_state, at_place, byte_at}
use Rattle.image.specs.Image.{is_image}
use Rattle.audit.specs.declared.Found.{Found}
use Rattle.audit.specs.Survey.{queue_in, used_in, active_up_to, count_up_to}
use Rattle.audit.specs.Sound.{record_sound}

-- every byte from the record of a slot on is 0
abbrev pub rest_blank : ℕ → List ℕ → ℕ → Bool
rest_blank n b used = all_below (n * record_length) (λ i. ltb i (used * record_length) || eqb (get_or b i 0) 0)

-- a slot that stands in one of m queues has a place below the number of those who stand there, and no slot before it has the same
abbrev pub ranked : ℕ → (ℕ → ℕ) → (ℕ → ℕ) → (ℕ → ℕ) → ℕ → Bool
ranked m many key place s =
    leb m (key s)
    || (ltb (place s) (many (key s)) && all_below s (λ i. not (eqb (key i) (key s) && eqb (place i) (place s))))

-- the numbers of the states at which no sender is queued: send-blocked, exited
abbrev pub quiet_code : ℕ → Bool
quiet_code code = eqb code 3 || eqb code 7

-- a sound record, of the active slot if it is active, with no queued sender if it is send-blocked or has exited
abbrev pub judged_at : ℕ → List ℕ → ℕ → ℕ → ℕ → ℕ → Bool
judged_at ed b used active senders s =
    (not (eqb (byte_at b s at_state) 1) || eqb s active)
    && (not (quiet_code (byte_at b s at_state)) || eqb senders 0)
    && record_sound ed used s (record_at record_length b s)

-- what is asked of the record of a used slot, given how many stand in each queue
abbrev pub slot_asked : ℕ → ℕ → List ℕ → ℕ → ℕ → List ℕ → ℕ → Bool
slot_asked n ed b used active count s =
    judged_at ed b used active (get_or count (send_queue s) 0) s
    && ranked (queues_for n) (λ k. get_or count k 0) (queue_in n b) (λ i. byte_at b i at_place) s

-- what is asked of n records of which `used` are used, in an edition: proofs/Asked shows that it is whether they are the image of a good
-- table
unfoldable pub asked : ℕ → ℕ → List ℕ → ℕ → ℕ → List ℕ → Bool
asked n ed b used active count =
    is_edition ed
    && leb 1 used
    && rest_blank n b used
    && all_below used (slot_asked n ed b used active count)
    && (ltb active n || all_below priorities (λ p. eqb (get_or count p 0) 0))

-- whether the bytes are the image of a good table of n slots, and what the first pass saw
unfoldable pub found_in : ℕ → ℕ → List ℕ → Found
found_in n ed b =
    choose (eqb (length b) (n * record_length))
    (record { good = is_image n ed b; used = used_in n b; active = active_up_to n b (used_in n b); count = count_up_to n b (used_in n b) })
    (record { good = false; used = 0; active = n; count = replicate (queues_for n) 0 })
