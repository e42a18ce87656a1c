use Rattle.std.proofs.Common.{◌≡◌, take}
use Rattle.app_texts.proofs.copies.copy_tables.Given as goal

abbrev pub invariant-loop-table : goal.invariant-loop-table
invariant-loop-table l = l.copy ≡ take l.table-index l.tables
