-- The calls that change the columns of a table, one column after another.
use Rattle.std.specs.Prelude.{◌≡◌, ℕ, true, List, [], ◌∷◌, map, length, All, Result, Ok}
use Rattle.fx_types.specs.Types.{ColumnList, Shape}
use Rattle.fx_types.specs.Values.{Data}
use Rattle.fx_value.specs.Columns.{LacksColumn, Row, field_renamed, rows_with_column}
use Rattle.fx_value.specs.Columns.{fields_without}
use Rattle.fx_core.specs.ColumnLists.{and_then}
use Rattle.fx_value.specs.Fits.{fits_in}

-- `AddColumns`: each column of a name and its values, which stand at the places of the rows
abbrev pub with_columns : List (List ℕ × List Data) → List Row → List Row
with_columns [] rows = rows
with_columns (c ∷ cs) rows = with_columns cs (rows_with_column c.0 rows c.1)

-- each name is no column's when its turn comes, and has a value for each row
abbrev pub CanAddColumns : List (List ℕ × List Data) → List Row → Type 0
CanAddColumns [] rows = Unit {0}
CanAddColumns (c ∷ cs) rows = LacksColumn c.0 rows × (length c.1 ≡ length rows)
    × CanAddColumns cs (rows_with_column c.0 rows c.1)

-- `DropColumns`
abbrev pub without_columns : List (List ℕ) → List Row → List Row
without_columns [] rows = rows
without_columns (n ∷ ns) rows = without_columns ns (map (fields_without n) rows)

-- `RenameColumns`: each column of the first name gets the second
abbrev pub renamed_columns : List (List ℕ × List ℕ) → List Row → List Row
renamed_columns [] rows = rows
renamed_columns (p ∷ ps) rows = renamed_columns ps (map (field_renamed p.0 p.1) rows)

-- each new name is no column's when its turn comes
abbrev pub CanRename : List (List ℕ × List ℕ) → List Row → Type 0
CanRename [] rows = Unit {0}
CanRename (p ∷ ps) rows = LacksColumn p.1 rows × CanRename ps (map (field_renamed p.0 p.1) rows)

-- one step on the columns of a type after another, as long as none breaks a rule
abbrev pub in_turn : {A : Type 0} → (A → ColumnList → Result ColumnList ℕ) → List A → ColumnList
    → Result ColumnList ℕ
in_turn step [] cs = Ok cs
in_turn step (a ∷ more) cs = and_then (step a cs) (λ ds. in_turn step more ds)

-- new columns of these names, whose values fit these types
abbrev pub AreOfTypes : List (List ℕ × List Data) → List (List ℕ × Shape) → Type 0
AreOfTypes [] [] = Unit {0}
AreOfTypes (c ∷ cs) (t ∷ ts) = (c.0 ≡ t.0) × All (λ d. fits_in d t.1 ≡ true) c.1 × AreOfTypes cs ts
AreOfTypes cs ts = ⊥
