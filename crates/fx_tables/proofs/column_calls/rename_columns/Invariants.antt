use Rattle.std.proofs.Common.{◌≡◌, drop, map}
use Rattle.fx_tables.specs.ColumnCalls.{CanRename, renamed_columns}
use Rattle.fx_tables.specs.NewColumn.{renaming_seen}
use Rattle.fx_tables.proofs.column_calls.rename_columns.Given as goal

abbrev pub invariant-loop-renaming : goal.invariant-loop-renaming
invariant-loop-renaming l = record {
  value : renamed_columns (map renaming_seen (drop l.renaming-index l.renamings)) l.renamed ≡ renamed_columns (map renaming_seen l.renamings) l.fn.rows;
  free : CanRename (map renaming_seen (drop l.renaming-index l.renamings)) l.renamed;
}
