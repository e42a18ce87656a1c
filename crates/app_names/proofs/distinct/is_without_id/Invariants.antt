use Rattle.std.proofs.Common.{◌≡◌, drop, bytes_eq}
use Rattle.app_names.specs.Decided.{is_new, column_names}
use Rattle.fx_core.specs.Lawful.{id_name}
use Rattle.app_names.proofs.distinct.is_without_id.Given as goal

abbrev pub invariant-loop-column : goal.invariant-loop-column
invariant-loop-column l = is_new bytes_eq id_name (column_names (drop l.column-index l.columns)) ≡ is_new bytes_eq id_name (column_names l.columns)
