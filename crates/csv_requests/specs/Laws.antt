-- The law of batches: they go into the table that they were read for.
use Rattle.std.specs.Prelude.{◌≡◌, ℕ, ◌≤◌, List, length, Some, Ok}
use Rattle.std.specs.List.{All}
use Rattle.fx_types.specs.Values.{Data}
use Rattle.fx_core.specs.declared.schema.Column.{Column}
use Rattle.row_files.specs.Batches.{IsBatchOf, key_named}
use Rattle.row_files.specs.declared.batches.Batch.{Batch}
use Rattle.row_imports.specs.Laws.{HaveKeys}
use Rattle.row_imports.specs.Lines.{IsLineOf, IsUniqueAt}
use Rattle.row_imports.specs.declared.lines.Heading.{Heading}

-- where a batch goes, in the table of this number and by the key of this one
abbrev pub heading_of : ℕ → ℕ → Batch → Heading
heading_of table key b = record { table = table; key = key; columns = b.columns }

-- lines go into a table of these columns: each fits and has a key, none is blank and no two have
-- one, and there are few
pub record GoIn (columns : List Column) (h : Heading) (lines : List (List Data)) : Type 0 where
  pub unique : IsUniqueAt columns h.key
  pub fit : All (IsLineOf columns h) lines
  pub keys : HaveKeys h.columns h.key lines
  pub few : length lines ≤ 1000

-- THE LAW: the batch of a text, read by the key of a unique column, goes in by it
abbrev pub BatchesGoIn : Type 0
BatchesGoIn = (columns : List Column) (name : List ℕ) (table key : ℕ) (bytes : List ℕ) (b : Batch)
    → key_named name columns ≡ Some key → IsBatchOf columns key bytes (Ok b)
    → GoIn columns (heading_of table key b) b.lines
