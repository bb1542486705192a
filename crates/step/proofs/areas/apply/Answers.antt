-- `apply`: each effect as its arm knows it; past the end nothing is stored.
use Rattle.std.proofs.Common.{sym, arith}
use lib.Seq.{set_out}
use Rattle.step.proofs.areas.apply.Goals as goal

pub returns-in-Copy : goal.returns-in-Copy
returns-in-Copy c = rw c.in-Copy.is c.copy.ensures

pub returns-then-at-areas : goal.returns-then-at-areas
returns-then-at-areas c = rw c.in-Put.is

pub returns-else-at-areas : goal.returns-else-at-areas
returns-else-at-areas c = rw c.in-Put.is (sym (set_out _ _ _ (omega arith)))
