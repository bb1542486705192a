-- In an image byte 15 of a record is 0, or it is 1 beside a value.
use Prim.Native.Nat.{ℕ, ◌≤◌, ◌<◌}
use mathlib.Core.Path.{◌≡◌, refl}
use mathlib.Core.Bool.{true, false}
use mathlib.Core.List.{List}
use native.Mathlib.Omega.{arith}
use Rattle.task.specs.declared.task.Outcome.{Outcome}
use Rattle.task.specs.declared.task.Outcome.TheVariants.{Nothing, Value, Fault}
use Rattle.task.specs.Result.{result_kind, result_cut}
use Rattle.kernel.specs.Table.{task_at}
use Rattle.image.specs.Record.{at_result, at_cut, byte_at}
use Rattle.image.specs.Image.{table_of, is_image}
use Rattle.image.proofs.Laws.{write_back}
use Rattle.records.proofs.Images.{read_records}
use Rattle.records.proofs.Tasks.{kind_told, cut_told}

cut_needs_value_lem : (o : Outcome) → (result_cut o ≤ 1) × (result_cut o ≡ 1 → result_kind o ≡ 1)
cut_needs_value_lem Nothing = (omega arith, λ e. absurd (omega arith))
cut_needs_value_lem (Value from true v) = (omega arith, λ _. refl)
cut_needs_value_lem (Value from false v) = (omega arith, λ _. refl)
cut_needs_value_lem (Fault f) = (omega arith, λ e. absurd (omega arith))

pub cut_in : (n ed : ℕ) (b : List ℕ) (s : ℕ) → is_image n ed b ≡ true → s < n
    → (byte_at b s at_cut ≤ 1) × (byte_at b s at_cut ≡ 1 → byte_at b s at_result ≡ 1)
cut_in n ed b s image l =
    let f = (write_back n ed image).0.rules in
    let records = read_records n ed b image in
    rw (kind_told f records s l, cut_told f records s l) (cut_needs_value_lem (task_at (table_of n ed b) s).result)
