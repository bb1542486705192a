-- What is decided of a request to the kernel that an image holds.
use Rattle.std.specs.Prelude.{ℕ, ◌*◌, ◌≡◌, not, List, length, ltb, eqb}
use Rattle.queue.specs.Choose.{choose}
use Rattle.kernel.specs.declared.table.Request.{Request}
use Rattle.kernel.specs.declared.table.Decision.{Decision}
use Rattle.kernel.specs.Numbers.{accepted, bad_table, bad_image}
use Rattle.kernel.specs.Decide.{refused, decide}
use Rattle.image.specs.Record.{record_length}
use Rattle.image.specs.Image.{image_of, table_of, is_image}
use Rattle.inplace.specs.declared.Shown.{Shown}

-- refused by 7 where the bytes have another length than an image of n slots, then by 2 where they are not the image of a good table, which
-- has an edition that there is; else what the table that they give decides
unfoldable pub decided_in : ℕ → ℕ → List ℕ → Request → Decision
decided_in n ed b r =
    let t = table_of n ed b in
    choose (not (eqb (length b) (n * record_length))) (refused t bad_image 0)
    (choose (not (is_image n ed b)) (refused t bad_table 0)
    (decide t r))

-- the bytes after a decision: a refusal leaves them as they are
abbrev pub left_by : Decision → List ℕ → List ℕ
left_by d b = choose (ltb accepted d.answer.verdict) b (image_of d.table)

-- a decision that was carried out on bytes
pub record Decided (d : Decision) (before : List ℕ) (r : Shown) (after : List ℕ) : Type 0 where
  pub shown : r.answer ≡ d.answer
  pub effect : r.effect ≡ d.effect
  pub image : after ≡ left_by d before
