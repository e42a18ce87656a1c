-- The rows of a table, and the records that they are.
use Rattle.std.specs.Prelude.{◌≡◌, true, ℕ, ◌*◌, ◌<◌, ◌≤◌, pos, List, [], ◌∷◌, slice_get, unwrap_or}
use Rattle.std.specs.Prelude.{map}
use Rattle.std.specs.List.{All}
use Rattle.fx_types.specs.TypeView.{shape}
use Rattle.fx_types.specs.Values.{Data, blank, number, tab, row_list}
use Rattle.fx_core.specs.declared.schema.Column.{Column}
use Rattle.fx_core.specs.declared.schema.TableShape.{TableShape}
use Rattle.fx_core.specs.Lawful.{id_name}
use Rattle.fx_value.specs.Keys.{IsProper}
use Rattle.fx_value.specs.Order.{IsScalar}
use Rattle.fx_value.specs.Columns.{with_field}
use Rattle.fx_value.specs.Columns.{Row as Fields}
use Rattle.fx_value.specs.Fits.{fits_in}
use Rattle.row_queries.specs.declared.rows.Row.{Row}

-- the number of a row, as a value of the column `ID`
abbrev pub id_value : ℕ → Data
id_value id = number (pos (id * 10000))

-- the values of a row by its columns: `ID` is column 0
abbrev pub values_of : Row → List Data
values_of r = id_value r.id ∷ r.cells

abbrev pub value_at : List Data → ℕ → Data
value_at values column = unwrap_or (slice_get values column) blank

-- a cell for each column, a scalar of its type or blank, and no error
abbrev pub AreCellsOf : List Column → List Data → Type 0
AreCellsOf [] [] = Unit {0}
AreCellsOf (c ∷ cs) (d ∷ ds) = IsScalar d × (fits_in d (shape c.ty) ≡ true) × AreCellsOf cs ds
AreCellsOf cs ds = ⊥

-- a row that fits a table; numbers begin at 1
abbrev pub IsRowOf : TableShape → Row → Type 0
IsRowOf t r = (1 ≤ r.id) × AreCellsOf t.columns r.cells

-- the number is below that of each row
abbrev pub IsBelowAll : ℕ → List Row → Type 0
IsBelowAll id [] = Unit {0}
IsBelowAll id (r ∷ rs) = (id < r.id) × IsBelowAll id rs

-- rows by rising numbers
abbrev pub AreInIdOrder : List Row → Type 0
AreInIdOrder [] = Unit {0}
AreInIdOrder (r ∷ rs) = IsBelowAll r.id rs × AreInIdOrder rs

-- a row of a table whose values a program can hold: numbers and days in range, texts of scalar
-- values
abbrev pub IsHeldRow : TableShape → Row → Type 0
IsHeldRow t r = IsRowOf t r × All IsProper (values_of r)

-- the rows of a table, by rising numbers
abbrev pub AreHeldRows : TableShape → List Row → Type 0
AreHeldRows t rows = AreInIdOrder rows × All (IsHeldRow t) rows

-- the rows of a table by its number, where these are the rows of all tables
abbrev pub rows_at : List (List Row) → ℕ → List Row
rows_at tables table = unwrap_or (slice_get tables table) []

-- cells under the names of their columns, beside other fields, by rising names
abbrev pub cells_by_name : List Column → List Data → Fields → Fields
cells_by_name (c ∷ cs) (d ∷ ds) fields = cells_by_name cs ds (with_field c.name d fields)
cells_by_name cs ds fields = fields

-- a row as a record, with its number under `ID`
abbrev pub record_of_row : TableShape → Row → Fields
record_of_row t r = cells_by_name t.columns r.cells ((id_name, id_value r.id) ∷ [])

-- rows as a table
abbrev pub rows_table : TableShape → List Row → Data
rows_table t rows = tab (row_list (map (record_of_row t) rows))
