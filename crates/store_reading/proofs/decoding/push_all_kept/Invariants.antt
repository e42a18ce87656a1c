use Rattle.std.proofs.Common.{◌≡◌, ◌≤◌, ◌++◌, ℕ, List, map, take}
use Rattle.std.specs.List.{AllByRecursion}
use Rattle.sql_meanings.specs.Lines.{LinesOf, line_at}
use Rattle.row_queries.specs.TableRows.{IsHeldRow}
use Rattle.row_changes.specs.Overlay.{unchanged}
use Rattle.store_model.specs.Decoded.{row_in}
use Rattle.store_reading.proofs.decoding.push_all_kept.Given as goal

abbrev pub invariant-loop-line : goal.invariant-loop-line
invariant-loop-line l = record {
  held : AllByRecursion (IsHeldRow l.table) l.rows.items;
  so_far : (xs : LinesOf) → l.lines ≡ map line_at xs → AllByRecursion (λ (x : ℕ × List ℕ). x.0 ≤ l.changes.first) xs → l.rows.items ≡ l.fn.rows.items ++ map (row_in l.table.columns) (unchanged l.changes (take l.line-index xs));
}
