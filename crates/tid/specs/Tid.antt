-- How a slot is written down. In a queue it stands as its mark; tasks and hosts are shown, and name, the tid of its task.
use Rattle.std.specs.Prelude.{ℕ, ◌+◌, ◌-◌}

-- what a queue's place holds of a slot; 0 is nobody's
abbrev pub mark_of : ℕ → ℕ
mark_of s = s + 1

-- the slot that a mark stands for
abbrev pub slot_of : ℕ → ℕ
slot_of mark = mark - 1

-- the id that is shown of the task of a slot; 0 is nobody's
abbrev pub tid_of : ℕ → ℕ
tid_of s = s + 1

-- the slot of the task that a tid names
abbrev pub slot_named : ℕ → ℕ
slot_named tid = tid - 1

-- a mark and a tid are a byte each: the last slot that they can tell
abbrev pub last_slot : ℕ
last_slot = 254
