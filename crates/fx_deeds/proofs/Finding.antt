-- The row that is found by its number.
use Rattle.std.proofs.Common.{◌≡◌, ℕ, List, Option, Some, ap, ◌∙◌, arith, inl}
use Rattle.std.specs.Prelude.{slice_get}
use Rattle.std.specs.List.{find}
use Rattle.fx_types.specs.Values.{Data}
use Rattle.fx_core.specs.declared.schema.TableShape.{TableShape}
use Rattle.row_queries.specs.Answers.{AreRowsFor, IsScanValue, table_or_fault}
use Rattle.row_queries.specs.Laws.{AskedOnce}
use Rattle.row_queries.specs.Queries.{IsQuery}
use Rattle.row_queries.specs.TableRows.{rows_table}
use Rattle.row_queries.specs.declared.rows.Row.{Row}
use Rattle.row_queries.specs.declared.rows.RowList.{RowList}
use Rattle.row_keeper.specs.Tables.{has_id}
use Rattle.row_keeper.specs.Numbered.{one_row}
use Rattle.row_keeper.proofs.NumberedRows.{given_one, one}

-- ---- the test and the range of a number

-- the query is one of the table
pub is_query : (tables : List TableShape) (t : TableShape) (k id : ℕ) → slice_get tables k ≡ Some t → IsQuery tables (one_row k id)
is_query tables t k id e = record {
  table = t;
  is_table = e;
  has_column = omega arith;
  has_order = tt;
  reaches = inl tt;
  rises = (tt, tt);
  asks = λ r h. (tt, tt);
}

-- ---- what a scan gives

-- the rows that were asked, of which the one was found
pub record IsFoundIn (shapes : List TableShape) (told : Option (List (List Row))) (table id : ℕ) (d : Data) : Type 0 where
  pub shape : TableShape
  pub rows : List Row
  pub asked : AreRowsFor shapes told (one_row table id) shape rows
  pub found : d ≡ rows_table shape (one (find (has_id id) rows))

pub found_in : AskedOnce → (shapes : List TableShape) (told : Option (List (List Row))) (table id : ℕ) (d : Data) → IsScanValue shapes told (one_row table id) d → IsFoundIn shapes told table id d
found_in law shapes told table id d (t, rows, asked, (answer, scanned, e)) = record {
  shape = t;
  rows = rows;
  asked = asked;
  found = e ∙ ap (λ (a : RowList). table_or_fault t a.rows a.fault) (given_one law table id rows answer asked.held.0 scanned);
}
