-- In an image the target of a record that sends has a record of its own, of a task that exists.
use Prim.Native.Nat.{ℕ, ◌<◌}
use mathlib.Core.Path.{◌≡◌, sym, ◌∙◌}
use mathlib.Core.Bool.{true}
use mathlib.Core.List.{List}
use native.Mathlib.Omega.{arith}
use borrow.Author.Tests.{eq-eqb, ltb-true}
use lib.Dec.{ltb}
use Rattle.tid.specs.Tid.{slot_named}
use Rattle.queue.proofs.Below.{both_true}
use Rattle.task.specs.Task.{awaited}
use Rattle.kernel.specs.Table.{task_at}
use Rattle.rules.proofs.Good.{facts_good}
use Rattle.rules.proofs.Targets.{target_lives}
use Rattle.kept.proofs.Moves.{slot_used}
use Rattle.kept.proofs.Tasks.{code_at}
use Rattle.image.specs.Record.{at_state, at_awaited, byte_at}
use Rattle.image.specs.Image.{table_of, is_image}
use Rattle.image.proofs.Laws.{write_back}
use Rattle.records.proofs.Images.{read_records}
use Rattle.records.proofs.Tasks.{code_told, awaited_told}

pub target_lives_in : (n ed : ℕ) (b : List ℕ) (s : ℕ) → is_image n ed b ≡ true → s < n → byte_at b s at_state ≡ 4
    → let code = byte_at b (slot_named (byte_at b s at_awaited)) at_state in (0 < code) × (code < 7)
target_lives_in n ed b s image l four =
    let t = table_of n ed b in
    let good = (write_back n ed image).0 in
    let f = good.rules in
    let records = read_records n ed b image in
    let g = awaited (task_at t s).state in
    let sends = sym (code_told f records s l) ∙ four in
    let lives = target_lives t (facts_good n t good) s (omega (arith, f.size)) (eq-eqb (code_at t s) 4 sends) in
    let exists = (both_true (ltb 0 g) _ lives).1 in
    let target : slot_named g < n = omega (arith, slot_used f {s = slot_named g} (both_true (ltb 0 (code_at t (slot_named g))) _ exists).0, f.tasks.fits) in
    let (some, below) = both_true (ltb 0 (code_at t (slot_named g))) _ exists in
    rw (awaited_told f records s l, code_told f records (slot_named g) target)
    (ltb-true 0 _ some, ltb-true _ 7 below)
