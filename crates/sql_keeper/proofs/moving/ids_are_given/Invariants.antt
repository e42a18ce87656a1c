use Rattle.std.proofs.Common.{◌≤◌, take}
use Rattle.std.specs.List.{AllByRecursion}
use Rattle.row_queries.specs.declared.rows.Row.{Row}
use Rattle.sql_keeper.proofs.moving.ids_are_given.Given as goal

abbrev pub invariant-loop-row : goal.invariant-loop-row
invariant-loop-row l = AllByRecursion (λ (r : Row). r.id ≤ l.last) (take l.row-index l.rows)
