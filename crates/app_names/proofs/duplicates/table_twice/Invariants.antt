use Rattle.std.proofs.Common.{◌≡◌, [], drop}
use Rattle.app_names.specs.NameRules.{table_twice}
use Rattle.app_names.proofs.duplicates.table_twice.Given as goal

abbrev pub invariant-loop-table : goal.invariant-loop-table
invariant-loop-table l = table_twice l.before.items (drop l.table-index l.tables) ≡ table_twice [] l.tables
