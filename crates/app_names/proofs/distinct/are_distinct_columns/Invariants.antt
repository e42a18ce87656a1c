use Rattle.std.proofs.Common.{◌≡◌, drop, bytes_eq}
use Rattle.app_names.specs.Decided.{are_distinct, column_names}
use Rattle.app_names.proofs.distinct.are_distinct_columns.Given as goal

abbrev pub invariant-loop-place : goal.invariant-loop-place
invariant-loop-place l = are_distinct bytes_eq (column_names (drop l.place l.columns)) ≡ are_distinct bytes_eq (column_names l.columns)
