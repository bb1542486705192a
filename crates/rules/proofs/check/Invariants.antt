-- `rules::check`. The loop's invariant: the slots before `s` were asked, and their keys are known.
use Rattle.std.proofs.Common.{◌&&◌, ◌≡◌}
use Rattle.queue.specs.Choose.{all_below}
use Rattle.tid.specs.Sizes.{slot_count}
use Rattle.queue.specs.Numbering.{queue_count}
use Rattle.kernel.specs.Table.{task_at}
use Rattle.rules.proofs.Walk.{Keys, asks}
use Rattle.task.specs.Standing.{queue_of}
use Rattle.rules.proofs.check.Given as goal

abbrev pub invariant-loop-s : goal.invariant-loop-s
invariant-loop-s l =
    (l.good ≡ (l.initial.good && all_below l.s (asks l.table l.used l.active)))
    × Keys slot_count l.s (λ j. queue_of queue_count (task_at l.table j)) l.keys
