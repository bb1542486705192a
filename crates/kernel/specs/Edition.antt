-- The two editions of a kernel: they differ in how many tasks may wait for one event, and in nothing else.
use Rattle.std.specs.Prelude.{ℕ, Bool, ◌||◌, leb, eqb}

-- an event has one waiter at most
abbrev pub one_waits : ℕ
one_waits = 1

-- any number of tasks wait for an event
abbrev pub many_wait : ℕ
many_wait = 2

abbrev pub is_edition : ℕ → Bool
is_edition ed = eqb ed one_waits || eqb ed many_wait

-- whether so many may wait for one event
abbrev pub may_wait : ℕ → ℕ → Bool
may_wait ed waiters = eqb ed many_wait || leb waiters 1
