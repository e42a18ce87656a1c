use Rattle.std.proofs.Common.{◌≡◌, ◌++◌, map, take}
use Rattle.std.specs.List.{AllByRecursion}
use Rattle.row_queries.specs.TableRows.{IsHeldRow}
use Rattle.row_changes.specs.Overlay.{shown_lines}
use Rattle.store_model.specs.Decoded.{row_in}
use Rattle.store_reading.proofs.decoding.push_all_made.Given as goal

abbrev pub invariant-loop-line : goal.invariant-loop-line
invariant-loop-line l = record {
  held : AllByRecursion (IsHeldRow l.table) l.rows.items;
  so_far : l.rows.items ≡ l.fn.rows.items ++ map (row_in l.table.columns) (shown_lines (take l.line-index l.lines));
}
