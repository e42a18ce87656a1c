-- How a keeper is opened for an app: it is attached to the store of a name, and takes the shape of
-- the app's tables.
use Rattle.std.specs.Prelude.{◌≡◌, ◌≢◌, ◌⊎◌, ℕ, List, Option, Some, None, IfNone, IfSome, IsSome}
use Rattle.fx_base.specs.Faults.{Rose}
use Rattle.fx_base.specs.Silence.{MayFallSilent, IsLater, SilenceCause, Marks}
use Rattle.fx_core.specs.declared.schema.Schema.{Schema}
use Rattle.row_keeper.specs.Changes.{Shapes, StaysOrShapes}
use Rattle.row_keeper.specs.Over.{Becomes}
use Rattle.row_keeper.specs.declared.keeper.Keeper.{Ghosts}
use Rattle.row_keeper.specs.Shaped.{by}
use Rattle.app_cells.specs.declared.app.App.{App}
use Rattle.office.specs.app_semantics.Sound.{IsSoundApp}
use Rattle.office.specs.session_requests.Opening.{CanOpen}
use Rattle.office.specs.State.{OfficeState, schema_of, started}
use Rattle.fx_cli.specs.Conversations.{OfficeAt}

-- a fault was counted
abbrev pub Counted : Marks → Marks → Type 0
Counted before now = Rose before.faults now.faults

-- whether one was counted is not said
abbrev pub Unsaid : Marks → Marks → Type 0
Unsaid before now = Unit {0}

-- it is shaped by the tables of the app that this office serves
abbrev pub IsShapedFor : {K : Type 0} → Ghosts K → K → OfficeAt → Type 0
IsShapedFor g keeper office = g.shaped keeper ≡ by (schema_of office.state.app)

module _ {K : Type 0} (g : Ghosts K) (name : List ℕ) where
  -- the name that is attached is this one, where it is told
  abbrev pub HasName : K → K → Type 0
  HasName old new = MayFallSilent (SilenceCause (g.marks old) (g.marks new)) (λ _ n. n ≡ Some name)
      (g.attached old) (g.attached new)

  -- It was attached to the store of the name.
  pub record IsAttached (old new : K) : Type 0 where
    pub named : HasName old new
    pub promised : g.attaches old name new
    pub later : IsLater (g.marks old) (g.marks new)

  -- Attached, it was asked to take the shape of a schema: it did, or it answered the other schema
  -- that it keeps, and its shape is what it was. The name is attached still.
  pub record IsAsked (schema : Schema) (other : Option Schema) (old new : K) : Type 0 where
    pub between : K
    pub is_attached : IsAttached old between
    pub shapes : Becomes g between new (Shapes schema other)
    pub shaped : IfNone other (g.shaped new ≡ by schema)
    pub unshaped : IsSome other → g.shaped new ≡ g.shaped between
    pub differs : IfSome other (λ s. s ≢ schema)
    pub named : HasName old new
    pub later : IsLater (g.marks between) (g.marks new)

  -- It gave no answer as it was attached, or as it was to take the shape of a schema then. The
  -- tables that are told are as before that call, or have that shape already, and the marks rose so
  -- in it.
  pub record IsStopped (Rise : Marks → Marks → Type 0) (old new : K) : Type 0 where
    pub between : K
    pub schema : Schema
    pub begun : (between ≡ old) ⊎ IsAttached old between
    pub tables : Becomes g between new (StaysOrShapes schema)
    pub later : IsLater (g.marks between) (g.marks new)
    pub rise : Rise (g.marks between) (g.marks new)

  -- Opened for an app, which is a sound one of which sessions can be opened, it was served: that
  -- began with the tables and the marks that it had then, without a session or a desk, and ended
  -- with those that it has now.
  pub record IsServed (old new : K) (app : App) (serves : OfficeAt → OfficeAt → Type 0) :
      Type 0 where
    pub accepted : IsSoundApp app
    pub opens : CanOpen app.names
    pub opened : K
    pub is_opened : IsAsked (schema_of app) None old opened
    pub state : OfficeState
    pub tables : state.tables ≡ g.told new
    pub served : serves (record { state = started app (g.told opened); marks = g.marks opened })
        (record { state = state; marks = g.marks new })
