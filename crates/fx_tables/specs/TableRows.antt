-- The rows of tables, one after another.
use Rattle.std.specs.Prelude.{List, [], ◌∷◌}
use Rattle.fx_types.specs.Values.{Data, tab, FieldList, no_fields, field, RowList, no_rows, row}
use Rattle.fx_types.specs.Values.{row_list}
use Rattle.fx_value.specs.Columns.{Row}

-- the fields of a record, one after another
abbrev pub fields_of : FieldList → Row
fields_of no_fields = []
fields_of (field n d fs) = (n, d) ∷ fields_of fs

-- the rows of a table, one after another
abbrev pub rows_of : RowList → List Row
rows_of no_rows = []
rows_of (row fs rs) = fields_of fs ∷ rows_of rs

-- the rows in a value; a blank table has none
abbrev pub rows_in : Data → List Row
rows_in (tab rs) = rows_of rs
rows_in d = []

abbrev pub table_of : List Row → Data
table_of rows = tab (row_list rows)
