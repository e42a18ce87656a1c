-- What formulas ask of tables.
use Rattle.std.specs.Prelude.{◌≡◌, ℕ, List, Option, None, Some, IfSome, slice_get}
use Rattle.fx_types.specs.Values.{Data}
use Rattle.fx_eval.specs.fx_plan.Ranges.{everything}
use Rattle.fx_core.specs.declared.schema.TableShape.{TableShape}
use Rattle.row_queries.specs.Conditions.{always}
use Rattle.row_queries.specs.TableRows.{AreHeldRows, rows_at, rows_table}
use Rattle.row_queries.specs.declared.queries.Query.{Query}
use Rattle.row_queries.specs.declared.rows.Row.{Row}

-- all rows of a table
abbrev pub whole_table : ℕ → Query
whole_table k = record {
  table = k;
  column = 0;
  ranges = everything;
  test = always;
  order = None;
  take = None;
}

-- the value of a table: that of rows which it can hold, and of the told ones where rows are told
pub record IsTableValue (shapes : List TableShape) (told : Option (List (List Row))) (k : ℕ)
    (v : Data) : Type 0 where
  pub table : TableShape
  pub is_table : slice_get shapes k ≡ Some table
  pub rows : List Row
  pub held : AreHeldRows table rows
  pub told_rows : IfSome told (λ tables. rows ≡ rows_at tables k)
  pub is : v ≡ rows_table table rows
