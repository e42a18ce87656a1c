use Rattle.std.proofs.Common.{◌≡◌, ◌++◌, filter}
use Rattle.std.specs.List.{AllByRecursion}
use Rattle.row_queries.specs.Queries.{lies}
use Rattle.row_queries.specs.TableRows.{IsHeldRow}
use Rattle.store_reading.proofs.arranging.lying.Given as goal

abbrev pub invariant-loop-row : goal.invariant-loop-row
invariant-loop-row l = record {
  so_far : (l.asked.items ++ filter (lies l.query) l.row-iterator.rest.items) ≡ filter (lies l.query) l.fn.rows.items;
  held : AllByRecursion (IsHeldRow l.table) l.row-iterator.rest.items;
}
