use Rattle.std.proofs.Common.{◌≡◌, true, take}
use Rattle.std.specs.List.{AllByRecursion}
use Rattle.row_queries.specs.Queries.{lies}
use Rattle.row_queries.specs.declared.rows.Row.{Row}
use Rattle.sql_keeper.proofs.arranging.all_lie.Given as goal

abbrev pub invariant-loop-row : goal.invariant-loop-row
invariant-loop-row l = AllByRecursion (λ (r : Row). lies l.query r ≡ true) (take l.row-index l.rows)
