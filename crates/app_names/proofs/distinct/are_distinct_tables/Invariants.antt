use Rattle.std.proofs.Common.{◌≡◌, drop, bytes_eq}
use Rattle.app_names.specs.Decided.{are_distinct, table_names}
use Rattle.app_names.proofs.distinct.are_distinct_tables.Given as goal

abbrev pub invariant-loop-place : goal.invariant-loop-place
invariant-loop-place l = are_distinct bytes_eq (table_names (drop l.place l.tables)) ≡ are_distinct bytes_eq (table_names l.tables)
