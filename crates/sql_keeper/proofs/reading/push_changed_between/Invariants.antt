use Rattle.std.specs.List.{AllByRecursion}
use Rattle.row_queries.specs.TableRows.{IsHeldRow}
use Rattle.sql_keeper.proofs.reading.push_changed_between.Given as goal

abbrev pub invariant-loop-row : goal.invariant-loop-row
invariant-loop-row l = AllByRecursion (IsHeldRow l.table) l.rows.items
