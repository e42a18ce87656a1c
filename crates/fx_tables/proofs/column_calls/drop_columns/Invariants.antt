use Rattle.std.proofs.Common.{◌≡◌, drop}
use Rattle.fx_tables.specs.ColumnCalls.{without_columns}
use Rattle.fx_tables.proofs.column_calls.drop_columns.Given as goal

abbrev pub invariant-loop-name : goal.invariant-loop-name
invariant-loop-name l = without_columns (drop l.name-index l.names) l.narrower ≡ without_columns l.names l.fn.rows
