use Rattle.std.proofs.Common.{◌≡◌, drop}
use Rattle.fx_types.specs.Types.{column_list}
use Rattle.fx_core.specs.SourceTypes.{columns_of, put_columns}
use Rattle.fx_resolve.proofs.tables.columns_of.Given as goal

-- the columns that are left, put to those that stand already, are all in order
abbrev pub invariant-loop-column : goal.invariant-loop-column
invariant-loop-column l = put_columns (drop l.column-index l.column-items) (column_list l.columns) ≡ columns_of l.table
