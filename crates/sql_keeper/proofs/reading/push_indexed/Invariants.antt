use Rattle.std.specs.List.{AllByRecursion}
use Rattle.row_queries.specs.TableRows.{IsHeldRow}
use Rattle.sql_keeper.proofs.reading.push_indexed.Given as goal

abbrev pub invariant-loop-mark : goal.invariant-loop-mark
invariant-loop-mark l = AllByRecursion (IsHeldRow l.table) l.rows.items
