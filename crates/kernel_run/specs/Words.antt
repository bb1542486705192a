-- Which edition the words name that the program is called with.
use Rattle.std.specs.Prelude.{ℕ, ltb, eqb}
use Rattle.queue.specs.Choose.{choose}
use Rattle.kernel.specs.Edition.{one_waits, many_wait}

-- The first where there is no word but the program's name; else that of the first word, where it is one byte and that the digit 1 or 2.
-- Any other word names none, and 0 is none.
abbrev pub edition_named : ℕ → ℕ → ℕ → ℕ
edition_named words bytes first =
    choose (ltb words 2) one_waits
    (choose (eqb bytes 1) (choose (eqb first 49) one_waits (choose (eqb first 50) many_wait 0)) 0)
