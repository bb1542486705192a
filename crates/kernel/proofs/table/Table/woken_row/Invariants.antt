-- `Table::woken_row`: who stands before the place that is read is woken.
use Rattle.std.proofs.Common.{◌≡◌}
use Rattle.kernel.specs.Moves.{woken_up_to}
use Rattle.kernel.proofs.table.Table.woken_row.Given as goal

abbrev pub invariant-loop-mark : goal.invariant-loop-mark
invariant-loop-mark l = l.self ≡ woken_up_to l.fn.self l.fn.row l.told l.mark-index
