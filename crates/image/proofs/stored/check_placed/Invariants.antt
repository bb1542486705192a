-- `image::stored::check_placed` meets its contract. The loop's invariant: the slots before `s` were asked.
use Rattle.std.proofs.Common.{◌≡◌, ℕ, Bool, ◌&&◌, ◌||◌, leb, List}
use Rattle.std.specs.Prelude.{Option}
use Rattle.queue.specs.Choose.{all_below}
use Rattle.queue.specs.Numbering.{queue_count}
use Rattle.tid.specs.Tid.{mark_of}
use Rattle.queue.specs.Placed.{stands_at}
use Rattle.task.specs.Standing.{queue_of}
use Rattle.kernel.specs.declared.table.Table.{Table}
use Rattle.kernel.specs.Table.{task_at, queue_at}
use Rattle.rules.proofs.Walk as Walk
use Rattle.image.specs.Record.{place_read}
use Rattle.image.proofs.stored.check_placed.Given as goal

-- a slot of key k stands at its place
abbrev pub stands : Table → List ℕ → ℕ → ℕ → Bool
stands t bytes k j = leb queue_count k || stands_at (queue_at t k) (place_read bytes j) (mark_of j)

-- what is asked of a slot
abbrev pub asks : Table → List ℕ → ℕ → Option ℕ → ℕ → Bool
asks t bytes used active j = Walk.asks t used active j && stands t bytes (queue_of queue_count (task_at t j)) j

abbrev pub invariant-loop-s : goal.invariant-loop-s
invariant-loop-s l = l.good ≡ (l.initial.good && all_below l.s (asks l.table l.bytes l.used l.active))
