-- What the formulas of an app are evaluated over, and what their sources then give.
use Rattle.std.specs.Prelude.{◌≡◌, ℕ, pos, List, false, Option, Some, None, slice_get}
use Rattle.std.specs.Prelude.{slice_index_or}
use Rattle.app_cells.specs.Leaning.{default_cell, items_cell}
use Rattle.app_cells.specs.declared.app.App.{App}
use Rattle.app_semantics.specs.Chosen.{chosen_of}
use Rattle.fx_types.specs.Values.{Data, blank, number, boolean, tab, no_rows}
use Rattle.fx_types.specs.declared.controls.Control.TheVariants as control
use Rattle.fx_types.specs.declared.controls.Control.{Control}
use Rattle.fx_scalar.specs.ScalarFunctions.{IsToday}
use Rattle.fx_core.specs.declared.names.ControlName.{ControlName}
use Rattle.fx_core.specs.declared.names.Names.{Names}
use Rattle.fx_core.specs.declared.schema.TableShape.{TableShape}
use Rattle.fx_core.specs.declared.sources.Source.{Source}
use Rattle.fx_core.specs.declared.sources.Source.TheVariants as source
use Rattle.row_queries.specs.TableRows.{rows_at, rows_table}
use Rattle.row_queries.specs.declared.rows.Row.{Row}
use Rattle.session_state.specs.Sessions.{SessionState, stored_value}

-- an app, a session of it, the rows of its tables where they are told, and a moment in seconds
-- since 1970-01-01 UTC
pub record Present : Type 0 where
  pub app : App
  pub session : SessionState
  pub tables : Option (List (List Row))
  pub moment : ℕ

abbrev pub present : App → SessionState → Option (List (List Row)) → ℕ → Present
present a s tables m = record { app = a; session = s; tables = tables; moment = m }

-- the value of a cell, and another one where there is no cell
abbrev pub cell_value_or : (ℕ → Data) → Data → Option ℕ → Data
cell_value_or values d (Some k) = values k
cell_value_or values d None = d

-- the value of an input to which neither a user nor a formula gave one
abbrev pub unset : Control → Data
unset control.Slider = number (pos 0)
unset control.Checkbox = boolean false
unset c = blank

abbrev pub unset_value : Option ControlName → Data
unset_value (Some c) = unset c.kind
unset_value None = blank

-- what a user gave, which is never blank, and another value where a user gave nothing
abbrev pub given_or : Data → Data → Data
given_or blank d = d
given_or v d = v

-- the value of an input: the user's, else that of the formula of its default, else that of its kind
abbrev pub input_of : Names → SessionState → (ℕ → Data) → ℕ → Data
input_of n s values k = given_or (stored_value s (source.Input k))
    (cell_value_or values (unset_value (slice_get n.controls k)) (default_cell n k))

-- the items of a gallery: the value of their formula, and no rows without one
abbrev pub items_of : Names → (ℕ → Data) → ℕ → Data
items_of n values g = cell_value_or values (tab no_rows) (items_cell n g)

-- the chosen item of a gallery
abbrev pub selected_of : Names → SessionState → (ℕ → Data) → ℕ → Data
selected_of n s values g = chosen_of (slice_index_or s.chosen g None) (items_of n values g)

-- the value of a table by its number, which has this shape, if there is one. Where no rows are told
-- it gives nothing.
abbrev pub GivesTable : Option TableShape → Option (List (List Row)) → ℕ → Data → Type 0
GivesTable (Some t) (Some tables) k v = v ≡ rows_table t (rows_at tables k)
GivesTable t tables k v = ⊥

-- WHAT A SOURCE GIVES, where cells have these values
abbrev pub SourceGives : Present → (ℕ → Data) → Source → Data → Type 0
SourceGives p values (source.Cell k) v = v ≡ values k
SourceGives p values (source.Global k) v = v ≡ stored_value p.session (source.Global k)
SourceGives p values (source.Context k) v = v ≡ stored_value p.session (source.Context k)
SourceGives p values (source.Gathered k) v = v ≡ stored_value p.session (source.Gathered k)
SourceGives p values (source.Input k) v = v ≡ input_of p.app.names p.session values k
SourceGives p values (source.Chosen k) v = v ≡ selected_of p.app.names p.session values k
SourceGives p values (source.Table k) v = GivesTable (slice_get p.app.names.schema.tables k)
    p.tables k v
SourceGives p values source.Today v = IsToday p.moment v
