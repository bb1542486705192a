-- `found` says whether the tid is among the sleepers passed.
use Rattle.std.proofs.Common.{◌≡◌, ◌==◌, take}
use Rattle.std.specs.List.{list_any}
use Rattle.clock.proofs.row.Row.holds.Given as goal

abbrev pub invariant-loop-x : goal.invariant-loop-x
invariant-loop-x l = l.found ≡ list_any (λ x. x.tid == l.tid) (take l.x-index l.x-items)
