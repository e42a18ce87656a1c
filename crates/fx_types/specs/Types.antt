-- The types of values.
use Rattle.std.specs.Prelude.{ℕ, suc, ◌+◌, List, [], ◌∷◌}

mutual
  -- a type
  pub data Shape : Type 0 where
    blanks : Shape
    numbers : Shape
    texts : Shape
    booleans : Shape
    dates : Shape
    records : ColumnList → Shape
    tables : ColumnList → Shape

  -- the columns of a record or a table
  pub data ColumnList : Type 0 where
    no_columns : ColumnList
    column : List ℕ → Shape → ColumnList → ColumnList

-- a list of columns as the columns of a record
abbrev pub column_list : List (List ℕ × Shape) → ColumnList
column_list [] = no_columns
column_list (c ∷ cs) = column c.0 c.1 (column_list cs)

-- how many records and tables are in a type
abbrev mutual
  pub shape_size : Shape → ℕ
  shape_size blanks = 0
  shape_size numbers = 0
  shape_size texts = 0
  shape_size booleans = 0
  shape_size dates = 0
  shape_size (records cs) = suc (columns_size cs)
  shape_size (tables cs) = suc (columns_size cs)

  pub columns_size : ColumnList → ℕ
  columns_size no_columns = 0
  columns_size (column n t cs) = suc (shape_size t) + columns_size cs

abbrev pub shapes_size : List (List ℕ × Shape) → ℕ
shapes_size cs = columns_size (column_list cs)
