use Rattle.std.proofs.Common.{◌≡◌, ◌++◌, filter, map}
use Rattle.std.specs.List.{AllByRecursion}
use Rattle.row_queries.specs.Queries.{first_outcome_fault, outcome_on}
use Rattle.row_queries.specs.RowTests.{CanAsk, is_met}
use Rattle.row_queries.specs.TableRows.{values_of}
use Rattle.row_queries.specs.declared.rows.Row.{Row}
use Rattle.row_keeper.proofs.scans.judge.Given as goal

abbrev pub invariant-loop-row : goal.invariant-loop-row
invariant-loop-row l =
    ((l.rows.items ++ filter (λ r. is_met (outcome_on l.query r)) l.row-iterator.rest.items) ≡ filter (λ r. is_met (outcome_on l.query r)) l.fn.asked.items)
    × (first_outcome_fault (map (outcome_on l.query) l.row-iterator.rest.items) ≡ first_outcome_fault (map (outcome_on l.query) l.fn.asked.items))
    × AllByRecursion (λ (r : Row). CanAsk (values_of r) l.query.test) l.row-iterator.rest.items
