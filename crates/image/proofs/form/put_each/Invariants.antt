-- `image::form::put_each` meets its contract. The loop's invariant: the first s records are put, and behind them the bytes are as they were.
use Rattle.std.proofs.Common.{◌≡◌, ℕ, ◌*◌, List, ◌++◌, length, drop}
use Rattle.image.specs.Bytes.{record_at, in_order}
use Rattle.image.specs.Form.{fitted}
use Rattle.image.proofs.form.put_each.Given as goal

-- record s of the image, as it is put
abbrev pub put : ℕ → ℕ → List ℕ → ℕ → List ℕ
put from to image s = fitted to (record_at from image s)

abbrev pub invariant-loop-s : goal.invariant-loop-s
invariant-loop-s l = (length l.out ≡ length l.initial.out) × (l.out ≡ in_order (put l.from l.to l.image) l.s ++ drop (l.s * l.to) l.initial.out)
