-- Lists of columns, and what functions of tables make of them.
use Rattle.std.specs.Prelude.{ℕ, List, [], ◌∷◌, Bool, false, ◌||◌, Option, Some, None, Result, Ok}
use Rattle.std.specs.Prelude.{Err, bytes_eq, codes, if◌then◌else◌}
use Rattle.fx_types.specs.Types.{Shape, records, ColumnList, no_columns, column}
use Rattle.fx_core.specs.SourceTypes.{put_column}
use Rattle.fx_core.specs.Rules as rules

-- the type of a column
abbrev pub field_in : List ℕ → ColumnList → Option Shape
field_in x no_columns = None
field_in x (column y t cs) = if bytes_eq y x then Some t else field_in x cs

-- the columns without one
abbrev pub columns_without : List ℕ → ColumnList → ColumnList
columns_without x no_columns = no_columns
columns_without x (column y t cs) = if bytes_eq y x then cs else column y t (columns_without x cs)

-- the columns without those of these names
abbrev pub without_all : List (List ℕ) → ColumnList → ColumnList
without_all [] cs = cs
without_all (x ∷ xs) cs = without_all xs (columns_without x cs)

abbrev pub is_one_of : List ℕ → List (List ℕ) → Bool
is_one_of x [] = false
is_one_of x (y ∷ ys) = bytes_eq y x || is_one_of x ys

-- the columns of these names alone
abbrev pub columns_only : List (List ℕ) → ColumnList → ColumnList
columns_only xs no_columns = no_columns
columns_only xs (column y t cs) = if is_one_of y xs then column y t (columns_only xs cs) else
    columns_only xs cs

-- the one column of a table of values
abbrev pub value_column : Shape → ColumnList
value_column t = column (codes "Value") t no_columns

-- the columns of rows that are values of a type: a record's own, and for a scalar the column Value
abbrev pub row_columns : Shape → ColumnList
row_columns (records cs) = cs
row_columns t = value_column t

-- a column that is there, and one that isn't: else the rule that is broken
abbrev pub if_there : Option Shape → Result Shape ℕ
if_there (Some t) = Ok t
if_there None = Err rules.unknown_column

abbrev pub if_free : Option Shape → ColumnList → Result ColumnList ℕ
if_free (Some t) cs = Err rules.name_twice
if_free None cs = Ok cs

abbrev pub and_then : {A B : Type 0} → Result A ℕ → (A → Result B ℕ) → Result B ℕ
and_then (Ok a) go = go a
and_then (Err e) go = Err e

-- one column more, one under a new name
abbrev pub with_new : List ℕ → Shape → ColumnList → Result ColumnList ℕ
with_new x t cs = if_free (field_in x cs) (put_column x t cs)

abbrev pub with_renamed : List ℕ → List ℕ → ColumnList → Result ColumnList ℕ
with_renamed x y cs = and_then (if_there (field_in x cs))
    (λ t. if_free (field_in y cs) (put_column y t (columns_without x cs)))

-- columns beside others, in whose place they stand where the names are the same
abbrev pub joined_columns : ColumnList → ColumnList → ColumnList
joined_columns no_columns cs = cs
joined_columns (column n t ds) cs = joined_columns ds (put_column n t cs)

-- names without the last, which stands apart behind them
abbrev pub before_last : {A : Type 0} → List A → List A
before_last [] = []
before_last (x ∷ []) = []
before_last (x ∷ y ∷ xs) = x ∷ before_last (y ∷ xs)
