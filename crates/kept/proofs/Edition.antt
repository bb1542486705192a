-- No move, no request and no decision changes a table's edition.
use Prim.Native.Nat.{ℕ, zero, suc}
use mathlib.Core.Path.{◌≡◌, refl, ◌∙◌}
use Rattle.queue.specs.declared.Queue.{Queue}
use Rattle.task.specs.declared.task.Outcome.{Outcome}
use Rattle.task.specs.declared.task.State.{State}
use Rattle.kernel.specs.declared.table.Table.{Table}
use Rattle.kernel.specs.declared.table.Request.{Request}
use Rattle.kernel.specs.declared.table.Effect.{Effect}
use Rattle.kernel.specs.declared.table.Turn.{Turn}
use Rattle.kernel.specs.declared.table.Decision.{Decision}
use Rattle.kernel.specs.Moves.{queued, joined, woken, woken_up_to, rejoined, activated, dispatched}
use Rattle.kernel.specs.Turn.{settled}
use Rattle.kernel.specs.Decide.{turn_of, own_write, decide_at, decide}
use Rattle.kernel.proofs.Every.{every_kind}
use Rattle.kept.proofs.Choices.{through, choose_same}

abbrev table_edition : Table → ℕ
table_edition t = t.edition

abbrev turn_edition : Turn → ℕ
turn_edition u = u.table.edition

abbrev left_edition : Decision → ℕ
left_edition d = d.table.edition

row_edition : (t : Table) (q : Queue) (o : Outcome) (i : ℕ) → (woken_up_to t q o i).edition ≡ t.edition
unfolding woken_up_to woken joined queued
row_edition t q o zero = refl
row_edition t q o (suc i) = row_edition t q o i

rejoined_edition : (t : Table) (c : ℕ) (st : State) (o : Outcome) → (rejoined t c st o).edition ≡ t.edition
unfolding rejoined joined queued
rejoined_edition t c st o = simp (through table_edition, choose_same)

dispatched_edition : (e : Effect) (t : Table) → (dispatched e t).table.edition ≡ t.edition
unfolding dispatched activated
dispatched_edition e t = simp (through left_edition, choose_same)

settled_edition : (c : ℕ) (u : Turn) → (settled c u).table.edition ≡ u.table.edition
unfolding settled
settled_edition c u = simp (dispatched_edition, rejoined_edition, row_edition)

turn_edition_lem : (t : Table) (c : ℕ) (r : Request) → (turn_of t c r).table.edition ≡ t.edition
unfolding turn_of every_kind queued
turn_edition_lem t c r = simp (through turn_edition, choose_same)

-- an entry
pub entry_edition : (t : Table) (c : ℕ) (r : Request) → (settled c (turn_of t c r)).table.edition ≡ t.edition
entry_edition t c r = settled_edition c (turn_of t c r) ∙ turn_edition_lem t c r

pub decide_edition : (t : Table) (r : Request) → (decide t r).table.edition ≡ t.edition
unfolding decide decide_at own_write
decide_edition t r = simp (through left_edition, entry_edition, choose_same)
