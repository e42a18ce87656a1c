use Rattle.std.specs.List.{AllByRecursion}
use Rattle.row_queries.specs.TableRows.{IsHeldRow}
use Rattle.sql_keeper.proofs.reading.push_all.Given as goal

abbrev pub invariant-loop-line : goal.invariant-loop-line
invariant-loop-line l = AllByRecursion (IsHeldRow l.table) l.rows.items
