-- What performing a behaviour formula of an app does.
use Rattle.std.specs.Prelude.{ℕ, List, [], Option, None}
use Rattle.fx_behave.specs.Perform.{Performs}
use Rattle.fx_types.specs.TypeView.{shape}
use Rattle.fx_types.specs.Values.{Data}
use Rattle.fx_deeds.specs.Within.{Within}
use Rattle.fx_env.specs.Scopes.{ScopeValues}
use Rattle.fx_behave.specs.Actable.{IsPlaced}
use Rattle.fx_semantics.specs.Sound.{IsLawfulTyping}
use Rattle.fx_core.specs.declared.sources.Source.{Source}
use Rattle.fx_typing.specs.WellTyped.{IsTyped}
use Rattle.recalc.specs.app_semantics.Sound.{context_at}
use Rattle.recalc.specs.app_cells.declared.app.App.{App}
use Rattle.recalc.specs.app_cells.declared.app.CellInfo.{CellInfo}
use Rattle.row_keeper.specs.Tables.{Tables}
use Rattle.session_state.specs.Sessions.{SessionState}
use Rattle.session_requests.specs.WorldContext.{ground_of, grounds, state_on}

-- a formula can be performed: it has its type where it stands, by a typing in which the columns of
-- all types rise, and what acts in it acts in its place
pub record IsActingCell (a : App) (c : CellInfo) : Type 0 where
  pub typed : IsTyped (context_at a.names c.cell.item) c.core (shape c.ty)
  pub lawful : IsLawfulTyping (context_at a.names c.cell.item) c.core (shape c.ty) typed
  pub placed : IsPlaced c.core

-- no scope is around, and perhaps the item of a gallery
abbrev pub outermost_scope : Option Data → ScopeValues
outermost_scope item = record { rows = []; item = item; caught = None }

-- PERFORMING A FORMULA of an app at a moment, for an item where it sees one: it takes tables and a
-- session to others, with a value, and writes these sources. The tables as the transaction began
-- are nothing to it.
pub record PerformsCell (a : App) (moment : ℕ) (c : CellInfo) (item : Option Data) (t : Tables)
    (s : SessionState) (value : Data) (u : Tables) (r : SessionState) (wrote : List Source) :
    Type 0 where
  pub began : Option Tables
  pub performs : Performs (ground_of a) c.core (outermost_scope item) value
      (state_on (grounds a moment began) t s []) (state_on (grounds a moment began) u r wrote)

-- what a performing leaves, whole or cut off: nothing has changed but what was written
pub record ChangesOnlyWritten (a : App) (moment : ℕ) (t : Tables) (s : SessionState) (u : Tables)
    (r : SessionState) : Type 0 where
  pub began : Option Tables
  pub wrote : List Source
  pub within : Within (state_on (grounds a moment began) t s [])
      (state_on (grounds a moment began) u r wrote)
