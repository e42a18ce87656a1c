-- An import in one transaction.
use Rattle.std.specs.Prelude.{◌≡◌, ℕ, List, Result, Ok, Err}
use Rattle.fx_types.specs.Values.{Data}
use Rattle.fx_core.specs.declared.schema.Column.{Column}
use Rattle.fx_core.specs.declared.schema.Schema.{Schema}
use Rattle.fx_core.specs.declared.schema.TableShape.{TableShape}
use Rattle.row_keeper.specs.Shaped.{Shaped, by}
use Rattle.row_keeper.specs.Tables.{Tables}
use Rattle.row_imports.specs.Imports.{import}
use Rattle.row_imports.specs.Lines.{IsHeading}
use Rattle.row_imports.specs.declared.imports.BrokenLine.{BrokenLine}
use Rattle.row_imports.specs.declared.imports.Counts.{Counts}
use Rattle.row_imports.specs.declared.lines.Heading.{Heading}
use Rattle.numbered_requests.specs.Replies.{refusal_reply}
use Rattle.csv_requests.specs.Refusals.{line_refusal}
use Rattle.csv_requests.specs.Replies.{counts_reply}

-- what becomes of an import: how many rows it added and changed, or the line that broke a rule
abbrev pub ImportOutcome : Type 0
ImportOutcome = Result Counts BrokenLine

-- a schema shapes the keeper, and lines go into this one of its tables
pub record IsShapedFor (x : Shaped) (t : TableShape) (h : Heading) : Type 0 where
  pub schema : Schema
  pub shaped : x ≡ by schema
  pub heading : IsHeading schema.tables t h

-- in one transaction: all lines act, or none
abbrev pub ImportsWhole : List Column → Heading → List (List Data) → ImportOutcome → Tables → Tables
    → Type 0
ImportsWhole columns h lines (Ok c) a b
    = import columns h.table h.key h.columns 1 lines a ≡ Ok (c, b)
ImportsWhole columns h lines (Err e) a b
    = (import columns h.table h.key h.columns 1 lines a ≡ Err e) × (b ≡ a)

-- what is said of an outcome
abbrev pub outcome_reply : ℕ → List Column → ImportOutcome → List ℕ
outcome_reply seq columns (Ok c) = counts_reply seq c
outcome_reply seq columns (Err e) = refusal_reply (line_refusal columns e)
