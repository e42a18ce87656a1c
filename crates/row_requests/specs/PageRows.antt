-- Rows that can be shown.
use Rattle.std.specs.Prelude.{List}
use Rattle.std.specs.List.{AllByRecursion}
use Rattle.fx_core.specs.declared.schema.Column.{Column}
use Rattle.row_queries.specs.TableRows.{AreCellsOf}
use Rattle.row_queries.specs.declared.rows.Row.{Row}

-- each fits the columns
abbrev pub AreShown : List Column → List Row → Type 0
AreShown columns rows = AllByRecursion (λ (r : Row). AreCellsOf columns r.cells) rows
