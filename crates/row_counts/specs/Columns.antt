-- The numbers in the columns of rows.
use Rattle.std.specs.Prelude.{ℕ, List, map, ℤ}
use Rattle.fx_value.specs.Aggregates.{numbers_in}
use Rattle.row_queries.specs.TableRows.{value_at, values_of}
use Rattle.row_queries.specs.declared.rows.Row.{Row}

-- the numbers that rows have in a column; `ID` is column 0
abbrev pub column_of : List Row → ℕ → List ℤ
column_of rows column = numbers_in (map (λ r. value_at (values_of r) column) rows)
