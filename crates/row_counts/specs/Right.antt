-- When what is counted is right.
use Rattle.std.specs.Prelude.{◌≡◌, ◌<◌, ◌≤◌, ◌/◌, ◌^◌, ℕ, List, length, ℤ, pos, negsuc}
use Rattle.std.specs.Prelude.{Option, Some, IfSome, IsSome, slice_get}
use Rattle.std.specs.List.{AllByRecursion}
use Rattle.fx_core.specs.declared.schema.Schema.{Schema}
use Rattle.fx_core.specs.declared.schema.TableShape.{TableShape}
use Rattle.fx_value.specs.Keys.{IsProper}
use Rattle.number_bags.specs.Rising.{AreSame, times}
use Rattle.row_queries.specs.declared.rows.Row.{Row}
use Rattle.row_keeper.specs.Tables.{Tables, shapes_of, state_at}
use Rattle.row_counts.specs.Columns.{column_of}
use Rattle.row_books.specs.Numbers.{column_in, row_number}

-- what is counted of each column of each table is what its rows have there, where they are told
abbrev pub AreOf : List (List (List ℤ)) → Tables → Type 0
AreOf counted t = (table column : ℕ) → IfSome (column_in counted table column)
    (λ zs. AreSame zs (column_of (state_at t.states table).rows column))

abbrev pub AreRight : List (List (List ℤ)) → Option Tables → Type 0
AreRight counted told = IfSome told (AreOf counted)

-- the row that a number in the column `ID` stands for
abbrev pub row_of : ℤ → ℕ
row_of (pos n) = n / 10000
row_of (negsuc n) = 0

-- the number of a row
pub record IsRowNumber (z : ℤ) : Type 0 where
  pub first : 1 ≤ row_of z
  pub few : row_of z < 2 ^ 32
  pub exact : z ≡ row_number (row_of z)

-- numbers of rows, each once
abbrev pub AreRowNumbers : List ℤ → Type 0
AreRowNumbers zs = (z : ℤ) → 0 < times z zs → (times z zs ≡ 1) × IsRowNumber z

-- what is counted of `ID` in each table are numbers of rows, even where no tables are told
abbrev pub CountRows : List (List (List ℤ)) → Type 0
CountRows counted = (table : ℕ) → IfSome (column_in counted table 0) AreRowNumbers

-- each column of each table is counted
abbrev pub AreComplete : List TableShape → List (List (List ℤ)) → Type 0
AreComplete shapes counted = (table : ℕ) (t : TableShape) → slice_get shapes table ≡ Some t
    → (column : ℕ) → column ≤ length t.columns → IsSome (column_in counted table column)

-- the numbers and days in the cells of rows are in their ranges
abbrev pub AreInRanges : List Row → Type 0
AreInRanges rows = AllByRecursion (λ (r : Row). AllByRecursion IsProper r.cells) rows

-- the same for each table that is told
abbrev pub HaveProperRows : List TableShape → Tables → Type 0
HaveProperRows shapes t = (table : ℕ) (shape : TableShape) → slice_get shapes table ≡ Some shape
    → AreInRanges (state_at t.states table).rows

-- what is counted is right, for tables of this schema
pub record AreCounted (schema : Option Schema) (counted : List (List (List ℤ)))
    (told : Option Tables) : Type 0 where
  pub right : AreRight counted told
  pub rows : CountRows counted
  pub complete : AreComplete (shapes_of schema) counted
  pub proper : IfSome told (HaveProperRows (shapes_of schema))
