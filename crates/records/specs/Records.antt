-- The records of an image, one by one, and what the kernel in place does to them.
use Rattle.std.specs.Prelude.{ℕ, zero, suc, ◌+◌, ◌-◌, ◌*◌, ◌<◌, ◌≡◌, Bool, ◌&&◌, List, length, set, eqb}
use Rattle.std.proofs.Math.Seq.{paste}
use Rattle.queue.specs.Choose.{choose}
use Rattle.image.specs.Bytes.{record_at}
use Rattle.image.specs.Record.{record_length, at_state, at_place, byte_in, byte_at}

-- bytes that are n records, each as f has it
pub record Records (n : ℕ) (f : ℕ → List ℕ) (b : List ℕ) : Type 0 where
  pub size : length b ≡ n * record_length
  pub each : (s : ℕ) → s < n → record_at record_length b s ≡ f s

-- bytes with the record of a slot replaced
abbrev pub with_record : List ℕ → ℕ → List ℕ → List ℕ
with_record b s r = paste b (s * record_length) r record_length

-- In the records a queue is told by the state of who stands in it, and by a key at an offset: a ready queue by 2 and the priority, a
-- send queue by 4 and the target, that of an event by 6 and the event.

-- whether a record stands in it
abbrev pub queues : ℕ → ℕ → ℕ → List ℕ → Bool
queues code at key r = eqb (byte_in r at_state) code && eqb (byte_in r at) key

-- whoever stands in it moves up; the head stays at 0
abbrev pub moved_up : ℕ → ℕ → ℕ → List ℕ → List ℕ
moved_up code at key r = choose (queues code at key r) (set r at_place (byte_in r at_place - 1)) r

-- the same of a slot of an image
abbrev pub queues_at : ℕ → ℕ → ℕ → List ℕ → ℕ → Bool
queues_at code at key b s = eqb (byte_at b s at_state) code && eqb (byte_at b s at) key

abbrev pub up_at : ℕ → ℕ → ℕ → List ℕ → ℕ → List ℕ
up_at code at key b s = choose (queues_at code at key b s) (set b (s * record_length + at_place) (byte_at b s at_place - 1)) b

-- the image after the first k slots moved up
unfoldable pub closed_up : ℕ → ℕ → ℕ → List ℕ → ℕ → List ℕ
closed_up code at key b zero = b
closed_up code at key b (suc s) = up_at code at key (closed_up code at key b s) s

-- it stands at the head
abbrev pub leads_at : ℕ → ℕ → ℕ → List ℕ → ℕ → Bool
leads_at code at key b s = queues_at code at key b s && eqb (byte_at b s at_place) 0

-- the last of the first k slots that stands at the head; another number where none does
unfoldable pub head_of : ℕ → ℕ → ℕ → ℕ → List ℕ → ℕ → ℕ
head_of code at key none b zero = none
head_of code at key none b (suc s) = choose (leads_at code at key b s) s (head_of code at key none b s)
