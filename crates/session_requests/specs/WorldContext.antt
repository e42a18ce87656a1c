-- What the behaviour formulas of an app are performed over, and what their sources then give.
use Rattle.std.specs.Prelude.{◌≡◌, ℕ, List, Option, Some, None, slice_get}
use Rattle.fx_types.specs.Values.{Data, blank}
use Rattle.fx_deeds.specs.State.{EvalFrame, Giving, Ground, WorldState}
use Rattle.fx_core.specs.SourceTypes.{sources}
use Rattle.fx_core.specs.declared.sources.Source.{Source}
use Rattle.recalc.specs.app_cells.Leaning.{cell_behind}
use Rattle.recalc.specs.app_semantics.Needed.{IsFreshAt}
use Rattle.recalc.specs.app_semantics.Present.{SourceGives, Present, present}
use Rattle.recalc.specs.app_semantics.Sound.{IsSoundApp}
use Rattle.recalc.specs.app_cells.declared.app.App.{App}
use Rattle.row_keeper.specs.Tables.{Tables, rows_of_tables}
use Rattle.row_requests.specs.Sound.{AreSound}
use Rattle.session_state.specs.Changes.{FitsNames}
use Rattle.session_state.specs.Sessions.{SessionState}

-- what no change touches: the app, the moment, and the tables as the transaction began, where they
-- are told
pub record WorldContext : Type 0 where
  pub app : App
  pub moment : ℕ
  pub began : Option Tables

abbrev pub grounds : App → ℕ → Option Tables → WorldContext
grounds a moment began = record { app = a; moment = moment; began = began }

-- these tables and this session, where these sources were written
abbrev pub state_on : WorldContext → Tables → SessionState → List Source → WorldState WorldContext
state_on g t s ws = record { app = g; tables = t; session = s; wrote = ws }

-- what formulas are evaluated over in a state
abbrev pub present_in : WorldState WorldContext → Present
present_in s = present s.app.app s.session (Some (rows_of_tables s.tables.states)) s.app.moment

-- Values are fresh at the cell on which leans who reads a source, if there is one. A cell that
-- isn't there is blank.
abbrev pub IsFreshBehind : Present → (ℕ → Data) → Source → Type 0
IsFreshBehind p values x = (k : ℕ) → cell_behind p.app.names x ≡ Some k
    → IsFreshAt p values k × (slice_get p.app.cells k ≡ None → values k ≡ blank)

-- a state is one of an accepted app, which its session and its tables fit
pub record IsFit (a : App) (s : SessionState) (t : Tables) : Type 0 where
  pub accepted : IsSoundApp a
  pub session : FitsNames a.names s
  pub tables : AreSound a.names.schema (Some t)

-- WHAT A SOURCE GIVES in a state that fits: what it gives where the cell on which it leans has its
-- fresh value
abbrev pub source_gives : Giving WorldContext
source_gives s x d = ∥ ((fit : IsFit s.app.app s.session s.tables) × (values : ℕ → Data)
    × IsFreshBehind (present_in s) values x × SourceGives (present_in s) values x d) ∥₁

-- the types of an app's sources, its tables and its row limit
abbrev pub frame : App → EvalFrame
frame a = record { types = sources a.names; schema = a.names.schema; limit = a.limit }

abbrev pub ground_of : App → Ground WorldContext
ground_of a = record { gives = source_gives; frame = frame a }
