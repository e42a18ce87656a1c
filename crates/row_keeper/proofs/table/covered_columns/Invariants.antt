use Rattle.std.proofs.Common.{◌≡◌, ◌+◌, ◌++◌, drop}
use Rattle.row_keeper.specs.Covered.{covered_of, indexed_from}
use Rattle.row_keeper.proofs.table.covered_columns.Given as goal

abbrev pub invariant-loop-place : goal.invariant-loop-place
invariant-loop-place l = (l.covered.items ++ indexed_from (l.place + 1) (drop l.place l.fn.columns)) ≡ covered_of l.fn.columns
