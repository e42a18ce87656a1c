use Rattle.std.proofs.Common.{◌≡◌, drop, bytes_eq}
use Rattle.app_names.specs.Decided.{is_new, table_names}
use Rattle.app_names.proofs.distinct.is_no_table.Given as goal

abbrev pub invariant-loop-table : goal.invariant-loop-table
invariant-loop-table l = is_new bytes_eq l.name (table_names (drop l.table-index l.tables)) ≡ is_new bytes_eq l.name (table_names l.tables)
