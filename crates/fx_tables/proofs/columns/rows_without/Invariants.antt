use Rattle.std.proofs.Common.{◌≡◌, ◌++◌, map}
use Rattle.fx_value.specs.Columns.{fields_without}
use Rattle.fx_tables.proofs.columns.rows_without.Given as goal

abbrev pub invariant-loop-row : goal.invariant-loop-row
invariant-loop-row l = l.kept.items ++ map (fields_without l.name) l.row-iterator.rest.items ≡ map (fields_without l.name) l.fn.rows
