use Rattle.std.proofs.Common.{◌≡◌, ◌++◌, map}
use Rattle.fx_value.specs.Columns.{fields_only}
use Rattle.fx_tables.proofs.columns.show_columns.Given as goal

abbrev pub invariant-loop-row : goal.invariant-loop-row
invariant-loop-row l = l.shown.items ++ map (fields_only l.names) l.row-iterator.rest.items ≡ map (fields_only l.names) l.fn.rows
