-- A slot is found again from its mark, and a tid from the slot that it names.
use Prim.Native.Nat.{ℕ, ◌≤◌}
use mathlib.Core.Path.{◌≡◌}
use native.Mathlib.Omega.{arith}
use Rattle.tid.specs.Tid.{mark_of, slot_of, tid_of, slot_named}

pub slot_of_mark : (s : ℕ) → slot_of (mark_of s) ≡ s
slot_of_mark s = omega arith

pub tid_named : (tid : ℕ) → 1 ≤ tid → tid_of (slot_named tid) ≡ tid
tid_named tid h = omega arith
