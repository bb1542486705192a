-- The rows of a table that was read are made from its tasks and their places.
use Rattle.std.proofs.Common.{◌≡◌, ℕ, zero, suc, ◌+◌, ◌*◌, ◌<◌, ◌≤◌, List, get_or, sym, refl, ap, ◌∙◌, arith, get_or-drop, get_or-set_other, get_or-take, get_or-set_same}
use native.Mathlib.Decide.{ℕ_discrete}
use Rattle.queue.specs.declared.Queue.{Queue}
use Rattle.queue.specs.Numbering.{queues_for}
use Rattle.tid.specs.Tid.{mark_of}
use Rattle.queue.specs.Row.{place_at}
use Rattle.queue.specs.Rows.{row_at}
use Rattle.queue.specs.Placed.{made_rows}
use Rattle.queue.proofs.Made.{made_place}
use Rattle.task.specs.declared.task.Task.{Task}
use Rattle.task.specs.Task.{no_task}
use Rattle.kernel.specs.Table.{task_at, queue_at}
use Rattle.rules.specs.Facts.{standing}
use Rattle.rules.proofs.Made.{Made}
use Rattle.image.specs.Bytes.{record_at}
use Rattle.image.specs.Record.{record_length, at_place, task_from, place_read}
use Rattle.image.specs.Image.{with_stored, table_up_to, table_of}
use Rattle.image.proofs.Shape.{table_shaped}

-- slots with the same keys make the same rows
rows_same : (m w : ℕ) (key key' place : ℕ → ℕ) (k : ℕ) → ((s : ℕ) → s < k → key s ≡ key' s)
    → made_rows m w key place k ≡ made_rows m w key' place k
unfolding made_rows
rows_same m w key key' place zero e = refl
rows_same m w key key' place (suc k) e = rw (rows_same m w key key' place k (λ s l. e s (omega arith)), e k (omega arith))

module _ (n ed : ℕ) (bytes : List ℕ) where
  abbrev task : ℕ → Task
  task s = task_from (record_at record_length bytes s)

  pub task_read : (m s : ℕ) → m ≤ n → s < m → task_at (table_up_to n ed bytes m) s ≡ task s
  unfolding table_up_to with_stored
  task_read zero s h l = absurd (omega arith)
  task_read (suc m) s h l =
      let tasks = (table_up_to n ed bytes m).tasks in
      elim (ℕ_discrete s m) [
        | yes e ↦ rw e (get_or-set_same tasks m (task m) no_task (omega (arith, (table_shaped n ed bytes m).tasks)))
        | no ne ↦ get_or-set_other tasks m s (task m) no_task ne ∙ task_read m s (omega arith) (omega arith)
      ]

  pub queues_made : (k : ℕ) → (table_up_to n ed bytes k).queues ≡ made_rows (queues_for n) n (λ s. standing n (task s)) (place_read bytes) k
  unfolding table_up_to with_stored made_rows
  queues_made zero = refl
  queues_made (suc k) = rw (queues_made k, (table_shaped n ed bytes k).tasks)

  pub table_made : Made n (table_of n ed bytes) (place_read bytes)
  table_made =
      record {
        size = (table_shaped n ed bytes n).tasks;
        queues = queues_made n
            ∙ rows_same (queues_for n) n _ _ _ n (λ s l. ap (standing n) (sym (task_read n s (omega arith) l)));
      }

  -- a tid stands there only at its slot's place
  pub place_found : (k p s : ℕ) → k < queues_for n → place_at (queue_at (table_of n ed bytes) k) p ≡ mark_of s → place_read bytes s ≡ p
  place_found k p s h e =
      made_place (queues_for n) n n _ (place_read bytes) k p s h (ap (λ (rows : List Queue). place_at (row_at rows k) p) (sym (queues_made n)) ∙ e)

-- a slot's place is the fourth byte of its record
pub place_byte : (bytes : List ℕ) (s : ℕ) → place_read bytes s ≡ get_or bytes (s * record_length + at_place) 0
place_byte bytes s = let l : at_place < record_length = omega arith in rw (get_or-take, get_or-drop)
