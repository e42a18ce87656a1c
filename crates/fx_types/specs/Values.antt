-- The values of formulas, and their types.
use Rattle.std.specs.Prelude.{ℕ, suc, ◌+◌, ℤ, Bool, List, [], ◌∷◌}
use Rattle.fx_types.specs.declared.faults.Kind.{Kind}

mutual
  -- a value: a text is its scalar values, a date its day number
  pub data Data : Type 0 where
    blank : Data
    number : ℤ → Data
    text : List ℕ → Data
    boolean : Bool → Data
    date : ℤ → Data
    rec : FieldList → Data
    tab : RowList → Data
    fault : Kind → List ℕ → Data

  -- the fields of a record
  pub data FieldList : Type 0 where
    no_fields : FieldList
    field : List ℕ → Data → FieldList → FieldList

  -- the rows of a table
  pub data RowList : Type 0 where
    no_rows : RowList
    row : FieldList → RowList → RowList

-- a list of fields as the fields of a record, and a list of rows as those of a table
abbrev pub field_list : List (List ℕ × Data) → FieldList
field_list [] = no_fields
field_list (f ∷ fs) = field f.0 f.1 (field_list fs)

abbrev pub row_list : List (List (List ℕ × Data)) → RowList
row_list [] = no_rows
row_list (r ∷ rs) = row (field_list r) (row_list rs)

-- how many records and tables are in a value, which bounds how deep it is
abbrev mutual
  pub size_of : Data → ℕ
  size_of blank = 0
  size_of (number z) = 0
  size_of (text cs) = 0
  size_of (boolean b) = 0
  size_of (date z) = 0
  size_of (rec fs) = suc (fields_size fs)
  size_of (tab rs) = suc (rows_size rs)
  size_of (fault k cs) = 0

  pub fields_size : FieldList → ℕ
  fields_size no_fields = 0
  fields_size (field n d fs) = suc (size_of d) + fields_size fs

  pub rows_size : RowList → ℕ
  rows_size no_rows = 0
  rows_size (row fs rs) = suc (fields_size fs) + rows_size rs

abbrev pub list_size : List (List ℕ × Data) → ℕ
list_size fs = fields_size (field_list fs)

abbrev pub table_size : List (List (List ℕ × Data)) → ℕ
table_size rs = rows_size (row_list rs)
