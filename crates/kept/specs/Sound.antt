-- What every decision on a good table is.
use Rattle.std.specs.Prelude.{ℕ, ◌<◌, ◌≡◌, ◌≢◌, true}
use Rattle.task.specs.Task.{first_negative}
use Rattle.kernel.specs.declared.table.Table.{Table}
use Rattle.kernel.specs.declared.table.Request.{Request}
use Rattle.kernel.specs.declared.table.Decision.{Decision}
use Rattle.kernel.specs.Numbers.{bad_table}
use Rattle.kernel.specs.Decide.{decide}
use Rattle.rules.specs.Good.{good_result}
use Rattle.rules.specs.Facts.{Good}

-- it leaves a good table of n slots, and does not say that it met a broken one (`Good` are the facts behind the test `good_table`, and
-- hold exactly where it passes);
-- it shows nothing, a value that is not negative from a tid at most n, or a fault of 1, 2 or 3
pub record Sound (n : ℕ) (d : Decision) : Type 0 where
  pub good : Good n d.table
  pub verdict : d.answer.verdict ≢ bad_table
  pub result : good_result n d.answer.result ≡ true

-- Every request, refused or not, keeps the rules of a table and shows a result in its range. There are fewer slots than 2^31, since
-- the value of Create is a tid.
abbrev pub DecisionsAreSound : Type 0
DecisionsAreSound = (n : ℕ) (t : Table) (r : Request) → n < first_negative → Good n t → Sound n (decide t r)
