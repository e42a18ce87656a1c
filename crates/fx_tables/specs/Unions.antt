-- Values as the rows of one table.
use Rattle.std.specs.Prelude.{◌≡◌, Bool, true, false, List, [], ◌∷◌, map, unwrap_or}
use Rattle.std.specs.List.{All, find}
use Rattle.fx_types.specs.Types.{Shape, records, tables, ColumnList, no_columns, column}
use Rattle.fx_types.specs.Values.{Data, blank, rec, tab, fault, FieldList, no_fields, field}
use Rattle.fx_types.specs.Values.{RowList, no_rows, row}
use Rattle.fx_value.specs.Coercion.{CanWiden, widened_fields}
use Rattle.fx_value.specs.Fits.{fits_in}
use Rattle.fx_tables.specs.Distinct.{value_name}

-- whether a value is an error
abbrev pub is_fault : Data → Bool
is_fault (fault k cs) = true
is_fault _ = false

-- the first error of these values, and else d
abbrev pub fault_or : List Data → Data → Data
fault_or ds d = unwrap_or (find is_fault ds) d

-- the fields of a value as a row: a blank one has none, and a scalar is the field `Value`
abbrev pub fields_in : Data → FieldList
fields_in blank = no_fields
fields_in (rec fs) = fs
fields_in d = field value_name d no_fields

-- a value that can be a row of these columns: blank, a record of a type that widens to them, or a
-- scalar of the type of the one column `Value`. An error may stand for a row, too.
abbrev pub CanBeRow : ColumnList → Data → Type 0
CanBeRow cs (tab rs) = ⊥
CanBeRow cs blank = Unit {0}
CanBeRow cs (fault k m) = Unit {0}
CanBeRow cs (rec fs) = CanWiden (rec fs) (records cs)
CanBeRow cs d = (t : Shape) × (cs ≡ column value_name t no_columns) × (fits_in d t ≡ true)

-- each value as a row of these columns, blank where it has no such field
abbrev pub values_as_rows : ColumnList → List Data → RowList
values_as_rows cs [] = no_rows
values_as_rows cs (d ∷ ds) = row (widened_fields (fields_in d) cs) (values_as_rows cs ds)

-- Values as a table of this type: the first error among them, and else their rows.
abbrev pub union_of : Shape → List Data → Data
union_of (tables cs) ds = fault_or ds (tab (values_as_rows cs ds))
union_of _ ds = blank

-- values that can be the rows of a table of this type
abbrev pub CanBeRows : Shape → List Data → Type 0
CanBeRows (tables cs) ds = All (CanBeRow cs) ds
CanBeRows _ ds = ⊥
