-- What putting a text leaves of a line: the text stands in the buffer that was lent, from where the line had come to.
use Rattle.std.specs.Prelude.{◌≡◌, ℕ, List}
use Rattle.lines.specs.declared.text.Line.{Line}
use Rattle.lines.specs.Text.{Appended}

pub record Written (before : Line) (text : List ℕ) (after : Line) : Type 0 where
  pub put : Appended before.out.now before.at text after.out.now after.at
  pub same : after.out.ghost_name ≡ before.out.ghost_name
