use Rattle.std.proofs.Common.{◌≡◌, ◌≤◌, ℕ, drop, map, take}
use Rattle.std.specs.List.{AllByRecursion}
use Rattle.row_queries.specs.TableRows.{IsBelowAll}
use Rattle.row_queries.specs.declared.rows.Row.{Row}
use Rattle.row_keeper.specs.MovedTables.{moved_row}
use Rattle.row_keeper.proofs.moved.add_rows.Given as goal

abbrev pub invariant-loop-row : goal.invariant-loop-row
invariant-loop-row l = record {
  columns : l.table.columns ≡ l.fn.table.columns;
  rows : l.table.now.rows ≡ map (moved_row l.from) (take l.row-index l.rows);
  above : IsBelowAll l.table.now.last (drop l.row-index l.rows);
  last : (n : ℕ) → AllByRecursion (λ (r : Row). r.id ≤ n) l.rows → l.table.now.last ≤ n;
}
