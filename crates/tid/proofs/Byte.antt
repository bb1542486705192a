-- A slot that a byte can tell is told by it as itself.
use Prim.Native.Nat.{ℕ, ◌≤◌, min}
use mathlib.Core.Path.{◌≡◌}
use native.Mathlib.Omega.{arith}
use Rattle.tid.specs.Tid.{last_slot}

pub in_byte : (s : ℕ) → s ≤ last_slot → min s last_slot ≡ s
in_byte s h = omega arith
