-- Laws of queries.
use Rattle.std.specs.Prelude.{◌≡◌, true, List}
use Rattle.std.specs.List.{All}
use Rattle.fx_types.specs.Types.{tables}
use Rattle.fx_core.specs.declared.schema.TableShape.{TableShape}
use Rattle.fx_core.specs.Lawful.{IsLawfulTable}
use Rattle.fx_core.specs.SourceTypes.{columns_of}
use Rattle.fx_value.specs.Fits.{fits_in}
use Rattle.row_queries.specs.Queries.{AreAsked}
use Rattle.row_queries.specs.TableRows.{AreInIdOrder, IsRowOf, rows_table}
use Rattle.row_queries.specs.declared.queries.Query.{Query}
use Rattle.row_queries.specs.declared.rows.Row.{Row}

-- of rows by rising numbers a query asks one list: so a scan and a count have one answer
abbrev pub AskedOnce : Type 0
AskedOnce = (q : Query) (rows a b : List Row) → AreInIdOrder rows → AreAsked q rows a
    → AreAsked q rows b → a ≡ b

-- rows that fit a lawful table are a table of its type
abbrev pub RowsFit : Type 0
RowsFit = (t : TableShape) (rows : List Row) → IsLawfulTable t → All (IsRowOf t) rows
    → fits_in (rows_table t rows) (tables (columns_of t)) ≡ true
