-- The laws of pages and batches.
use Rattle.std.specs.Prelude.{◌≡◌, ◌≢◌, ◌≤◌, ℕ, ◌+◌, ◌-◌, true, false, List, [], ◌∷◌, length, map}
use Rattle.std.specs.Prelude.{IsSome, Ok}
use Rattle.std.specs.List.{AllByRecursion, list_any}
use Rattle.std.specs.Ordering.{is_eq}
use Rattle.std.specs.Str.{all_scalars}
use Rattle.fx_types.specs.Values.{Data, blank, text}
use Rattle.fx_core.specs.Lawful.{AreDistinct}
use Rattle.fx_core.specs.declared.schema.Column.{Column}
use Rattle.fx_value.specs.Keys.{IsProper}
use Rattle.fx_value.specs.Order.{order}
use Rattle.row_queries.specs.TableRows.{AreCellsOf, value_at}
use Rattle.row_queries.specs.declared.rows.Row.{Row}
use Rattle.row_files.specs.Batches.{IsBatchOf, column_at}
use Rattle.row_files.specs.declared.batches.Batch.{Batch}
use Rattle.row_files.specs.Pages.{page_text}
use Rattle.row_files.specs.Records.{AreRecordsOf, Fields}

-- a text has one list of records
abbrev pub IsOneReading : Type 0
IsOneReading = (bytes : List ℕ) (records others : List Fields) → AreRecordsOf bytes records
    → AreRecordsOf bytes others → records ≡ others

-- the numbers of all columns, from this one on
abbrev pub numbers_from : ℕ → List Column → List ℕ
numbers_from k [] = []
numbers_from k (c ∷ cs) = k ∷ numbers_from (k + 1) cs

-- a text doesn't begin with U+FEFF
abbrev pub BeginsPlainly : List ℕ → Type 0
BeginsPlainly [] = Unit {0}
BeginsPlainly (c ∷ cs) = c ≢ 0xFEFF

abbrev pub FirstBeginsPlainly : List (List ℕ) → Type 0
FirstBeginsPlainly [] = Unit {0}
FirstBeginsPlainly (n ∷ ns) = BeginsPlainly n

-- columns whose names are texts, no two the same, and the first doesn't begin with U+FEFF
pub record AreNamed (columns : List Column) : Type 0 where
  pub texts : AllByRecursion (λ (c : Column). all_scalars c.name ≡ true) columns
  pub distinct : AreDistinct (map (λ (c : Column). c.name) columns)
  pub plain : FirstBeginsPlainly (map (λ (c : Column). c.name) columns)

-- cells that fields tell: they fit their columns, and no text is empty
pub record AreTold (columns : List Column) (cells : List Data) : Type 0 where
  pub fit : AreCellsOf columns cells
  pub proper : AllByRecursion IsProper cells
  pub texts : AllByRecursion (λ (d : Data). d ≢ text []) cells

-- keys of which none is blank, and none the same as a later one
abbrev pub AreKeys : List Data → Type 0
AreKeys [] = Unit {0}
AreKeys (d ∷ ds) = (d ≢ blank) × (list_any (λ (e : Data). is_eq (order d e)) ds ≡ false)
    × AreKeys ds

-- the batch of all columns and the cells of rows
abbrev pub batch_of_rows : List Column → List Row → Batch
batch_of_rows columns rows = record {
  columns = numbers_from 1 columns;
  lines = map (λ (r : Row). r.cells) rows;
}

-- THE LAW: the batch of a page is the cells of its rows
abbrev pub PagesReadBack : Type 0
PagesReadBack = (columns : List Column) (key : ℕ) (rows : List Row) → 1 ≤ key
    → IsSome (column_at columns key) → AreNamed columns
    → AllByRecursion (λ (r : Row). AreTold columns r.cells) rows
    → AreKeys (map (λ (r : Row). value_at r.cells (key - 1)) rows) → length rows ≤ 1000
    → IsBatchOf columns key (page_text columns rows) (Ok (batch_of_rows columns rows))
