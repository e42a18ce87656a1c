-- What calls that read rows leave of a keeper.
use Rattle.std.specs.Prelude.{◌≡◌, ◌⊎◌, ◌≤◌, Bool, false, ℕ, List, Option, Some, slice_get}
use Rattle.app_semantics.specs.app_cells.declared.app.App.{App}
use Rattle.app_semantics.specs.app_cells.declared.app.CellInfo.{CellInfo}
use Rattle.app_semantics.specs.Fresh.{reads_table}
use Rattle.fx_base.specs.Silence.{MayFallSilent, IsLater, SilenceCause, Marks}
use Rattle.fx_base.specs.Telling.{Stays}
use Rattle.fx_env.specs.Telling.{IsHeard}
use Rattle.row_keeper.specs.Shaped.{Shaped, by}
use Rattle.row_keeper.specs.Tables.{Tables, rows_told}
use Rattle.row_queries.specs.declared.rows.Row.{Row}

-- a keeper as those see it who read its rows
pub record Keeping : Type 0 where
  pub told : Option Tables
  pub began : Option Tables
  pub shaped : Shaped
  pub in_transaction : Bool
  pub marks : Marks
  pub visited : ℕ
  pub loan : Option ℕ

abbrev pub keeping : Option Tables → Option Tables → Shaped → Bool → Marks → ℕ → Option ℕ → Keeping
keeping told began shaped in_transaction marks visited loan
    = record {
      told = told;
      began = began;
      shaped = shaped;
      in_transaction = in_transaction;
      marks = marks;
      visited = visited;
      loan = loan;
    }

-- nothing changed, but that it may have fallen silent, and counted faults
pub record HasRead (a b : Keeping) : Type 0 where
  pub told : MayFallSilent (SilenceCause a.marks b.marks) Stays a.told b.told
  pub began : MayFallSilent (SilenceCause a.marks b.marks) Stays a.began b.began
  pub shaped : b.shaped ≡ a.shaped
  pub mode : b.in_transaction ≡ a.in_transaction
  pub later : IsLater a.marks b.marks
  pub visited : a.visited ≤ b.visited
  pub loan : b.loan ≡ a.loan

-- the rows of each table, where they are told
abbrev pub ToldRows : Type 0
ToldRows = Option (List (List Row))

-- these are the rows of its tables, where it tells them; or nothing is taken as told
abbrev pub IsHeardOf : Option Tables → ToldRows → Type 0
IsHeardOf told tables = IsHeard (rows_told told) tables

-- no formula of an app reads a table
abbrev pub ReadsNone : App → Type 0
ReadsNone a = (k : ℕ) (c : CellInfo) → slice_get a.cells k ≡ Some c → reads_table c.reads ≡ false

-- a keeper can be asked for the rows that the formulas of an app read: it is shaped by the app's
-- schema, or they read none
abbrev pub CanAsk : App → Shaped → Type 0
CanAsk a shaped = (shaped ≡ by a.names.schema) ⊎ ReadsNone a
