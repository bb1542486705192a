-- Who is ready once an entry has woken those whom it wakes, and who of them runs. An exit and an event wake whole queues, and an event lets
-- the interrupted task join behind them: both are said by the row of marks that join.
use Rattle.std.specs.Prelude.{ℕ, ◌<◌, ◌≡◌, List, [], ◌∷◌, ◌++◌, length, get_or, drop, ltb, eqb}
use Rattle.tid.specs.Sizes.{priorities}
use Rattle.tid.specs.Tid.{slot_of, tid_of}
use Rattle.queue.specs.Choose.{choose, first_below}
use Rattle.queue.specs.Numbering.{ready_queue}
use Rattle.queue.specs.Row.{members}
use Rattle.kernel.specs.declared.table.Table.{Table}
use Rattle.kernel.specs.declared.table.Decision.{Decision}
use Rattle.kernel.specs.Table.{task_at, queue_at}

-- those of a list of marks whose tasks have a priority, in its order
unfoldable pub of_priority : Table → ℕ → List ℕ → List ℕ
of_priority t p [] = []
of_priority t p (m ∷ ms) = choose (eqb (task_at t (slot_of m)).priority p) (m ∷ of_priority t p ms) (of_priority t p ms)

-- who is ready at a priority when marks have joined: those who stood there, and behind them those of the marks, in their order
unfoldable pub ready_with : Table → List ℕ → ℕ → List ℕ
ready_with t joining p = members (queue_at t (ready_queue p)) ++ of_priority t p joining

-- the first priority at which somebody is ready then
abbrev pub first_with : Table → List ℕ → ℕ
first_with t joining = first_below priorities (λ p. ltb 0 (length (ready_with t joining p)))

-- the first of them runs, and the others stand as they did
pub record TakesTurns (t : Table) (joining : List ℕ) (d : Decision) : Type 0 where
  pub next : let p = first_with t joining in
      d.answer.next ≡ choose (ltb p priorities) (tid_of (slot_of (get_or (ready_with t joining p) 0 0))) 0
  pub ready : (p : ℕ) → p < priorities
      → members (queue_at d.table (ready_queue p)) ≡ choose (eqb p (first_with t joining)) (drop 1 (ready_with t joining p)) (ready_with t joining p)
