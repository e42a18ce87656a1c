use Rattle.std.specs.List.{AllByRecursion}
use Rattle.row_queries.specs.TableRows.{IsHeldRow}
use Rattle.sql_keeper.proofs.reading.push_first.Given as goal

abbrev pub invariant-widening : goal.invariant-widening
invariant-widening l = AllByRecursion (IsHeldRow l.table) l.rows.items
