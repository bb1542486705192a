-- The sizes that bound a kernel, each by its own name.
use Rattle.std.specs.Prelude.{ℕ}

-- how many tasks there is room for
abbrev pub slot_count : ℕ
slot_count = 32

-- 0 is the most urgent, and the last number the least
abbrev pub priorities : ℕ
priorities = 32

abbrev pub events : ℕ
events = 64

-- the bytes that each task owns
abbrev pub area_bytes : ℕ
area_bytes = 256
