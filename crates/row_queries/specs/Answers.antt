-- What scans, counts and totals answer, where the rows of all tables are told and where they
-- aren't.
use Rattle.std.specs.Prelude.{◌≡◌, ℕ, suc, List, Option, Some, None, slice_get, IfSome}
use Rattle.fx_types.specs.declared.aggregates.Totals.{Totals}
use Rattle.fx_types.specs.declared.faults.Fault.{Fault}
use Rattle.fx_types.specs.Values.{Data, fault, tab, no_rows, row}
use Rattle.fx_types.specs.Values.{RowList as TableRowList}
use Rattle.fx_core.specs.declared.schema.TableShape.{TableShape}
use Rattle.row_queries.specs.declared.queries.Query.{Query}
use Rattle.row_queries.specs.declared.rows.Row.{Row}
use Rattle.row_queries.specs.declared.rows.RowList.{RowList}
use Rattle.row_queries.specs.Queries.{IsCounted, IsScanned, IsTotalled}
use Rattle.row_queries.specs.TableRows.{AreHeldRows, rows_at, rows_table}

-- rows as a table, or the error that stands in their place
abbrev pub table_or_fault : TableShape → List Row → Option Fault → Data
table_or_fault t rows None = rows_table t rows
table_or_fault t rows (Some f) = fault f.kind f.message

-- rows that the query's table can hold, which are the told ones where rows are told
pub record AreRowsFor (shapes : List TableShape) (told : Option (List (List Row))) (q : Query)
    (t : TableShape) (rows : List Row) : Type 0 where
  pub is_table : slice_get shapes q.table ≡ Some t
  pub held : AreHeldRows t rows
  pub told_rows : IfSome told (λ tables. rows ≡ rows_at tables q.table)

-- P holds of some such rows, also where none are told
abbrev pub OfRows : List TableShape → Option (List (List Row)) → Query
    → (TableShape → List Row → Type 0) → Type 0
OfRows shapes told q P = (t : TableShape) × (rows : List Row) × AreRowsFor shapes told q t rows
    × P t rows

-- what a scan answers
abbrev pub IsScanAnswer : List TableShape → Option (List (List Row)) → Query → RowList → Type 0
IsScanAnswer shapes told q a = OfRows shapes told q (λ t rows. IsScanned q rows a)

-- a scan's answer as a value
abbrev pub IsScanValue : List TableShape → Option (List (List Row)) → Query → Data → Type 0
IsScanValue shapes told q v = OfRows shapes told q
    (λ t rows. (a : RowList) × IsScanned q rows a × (v ≡ table_or_fault t a.rows a.fault))

-- what a count and a total answer
abbrev pub IsCountAnswer : List TableShape → Option (List (List Row)) → Query → ℕ → Type 0
IsCountAnswer shapes told q n = OfRows shapes told q (λ t rows. IsCounted q rows n)

abbrev pub IsTotalAnswer : List TableShape → Option (List (List Row)) → Query → ℕ → Totals → Type 0
IsTotalAnswer shapes told q column totals = OfRows shapes told q
    (λ t rows. IsTotalled q rows column totals)

-- how many rows a table has; another value has none
abbrev pub count_rows : TableRowList → ℕ
count_rows no_rows = 0
count_rows (row _ rows) = suc (count_rows rows)

abbrev pub rows_counted : Data → ℕ
rows_counted (tab rows) = count_rows rows
rows_counted d = 0
