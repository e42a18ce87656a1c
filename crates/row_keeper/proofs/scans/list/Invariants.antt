use Rattle.std.proofs.Common.{◌≡◌, ◌++◌}
use Rattle.row_keeper.proofs.scans.list.Given as goal

abbrev pub invariant-loop-row : goal.invariant-loop-row
invariant-loop-row l = (l.list ++ l.row-iterator.rest.items) ≡ l.fn.rows.items
