-- How many rows are visited. The count stands still at its type's end.
use Rattle.std.specs.Prelude.{ℕ, ◌+◌, ◌-◌, ◌^◌, ◌≤◌, min, List, length, Option, IfSome}
use Rattle.std.specs.List.{filter}
use Rattle.row_queries.specs.declared.queries.Query.{Query}
use Rattle.row_queries.specs.declared.rows.Row.{Row}
use Rattle.row_queries.specs.Queries.{lies}
use Rattle.row_queries.specs.TableRows.{rows_at}

-- at least so many more, or as many as can be counted
abbrev pub VisitsAtLeast : ℕ → ℕ → ℕ → Type 0
VisitsAtLeast n before now = min (before + n) (2 ^ 64 - 1) ≤ now

-- at most the rows in a query's ranges
abbrev pub VisitsItsRanges : Query → List Row → ℕ → ℕ → Type 0
VisitsItsRanges q rows before now = now ≤ before + length (filter (lies q) rows)

-- the same where the rows of all tables are told
abbrev pub VisitsTold : Option (List (List Row)) → Query → ℕ → ℕ → Type 0
VisitsTold told q before now = IfSome told (λ tables. VisitsItsRanges q (rows_at tables q.table)
    before now)
