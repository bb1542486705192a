-- Two lists of requests that differ only in the bytes that tasks write into their own areas.
use Rattle.std.specs.Prelude.{◌<◌, ◌≡◌}
use mathlib.Core.List.{List, Forall₂}
use Rattle.kernel.specs.declared.table.Request.{Request}
use Rattle.kernel.specs.Numbers.{own_write_kind}

-- an own write whose value is a byte
pub record Writes (r : Request) : Type 0 where
  pub own : r.kind ≡ own_write_kind
  pub byte : r.arg1 < 256

-- one request, or two own writes at one offset, each of a byte
pub data SameButWrite : Request → Request → Type 0 where
  same : {r : Request} → SameButWrite r r
  write : {r r' : Request} → Writes r → Writes r' → r.arg0 ≡ r'.arg0 → SameButWrite r r'

-- the same requests in the same order, but for the bytes that tasks write into their own areas
abbrev pub SameButWrites : List Request → List Request → Type 0
SameButWrites = Forall₂ SameButWrite
