-- What the whole performing of a request writes: one that is cut off has written nothing beside it.
use Rattle.std.specs.Prelude.{◌≡◌, ◌++◌, ℕ, List, [], ◌∷◌, Option, Some, None, Result, Ok, Err}
use Rattle.fx_types.specs.Values.{Data}
use Rattle.fx_core.specs.Reads.{IsAmong}
use Rattle.fx_core.specs.declared.sources.Source.{Source}
use Rattle.fx_core.specs.declared.sources.Source.TheVariants as source
use Rattle.recalc.specs.app_cells.declared.app.App.{App}
use Rattle.recalc.specs.app_cells.declared.app.CellInfo.{CellInfo}
use Rattle.recalc.specs.app_semantics.Present.{present}
use Rattle.numbered_requests.specs.Directory.{find}
use Rattle.numbered_requests.specs.declared.directory.Named.{Named}
use Rattle.row_keeper.specs.Tables.{Tables, rows_told}
use Rattle.session_state.specs.Sessions.{SessionState}
use Rattle.view_text.specs.declared.refused.Refusal.{Refusal}
use Rattle.session_requests.specs.Acting.{item_chosen, input_trigger, item_seen, with_input}
use Rattle.session_requests.specs.Acting.{with_target}
use Rattle.session_requests.specs.Caching.{AreFreshAt}
use Rattle.session_requests.specs.Performing.{PerformsCell}
use Rattle.session_requests.specs.Posting.{EventLooksAt, InputLooksAt, IsVerdict}
use Rattle.session_requests.specs.Running.{ActsWriting, RunsWriting, ShowsWriting}
use Rattle.session_requests.specs.Scenes.{TablesAndSession, begun, scene}
use Rattle.session_requests.specs.Targets.{InputValue, event_target, input_target}
use Rattle.session_requests.specs.Triggers.{cell_at}
use Rattle.session_requests.specs.declared.event.Event.{Event}
use Rattle.session_requests.specs.declared.input.Input.{Input}
use Rattle.session_requests.specs.declared.target.Target.{Target}
use Rattle.session_requests.specs.declared.trigger.Trigger.{Trigger}
use Rattle.session_requests.specs.declared.trigger.Trigger.TheVariants.{OnSelect}

-- the source is among all lists of which P holds
abbrev pub IsInAll : (List Source → Type 0) → Source → Type 0
IsInAll P x = (ws : List Source) → P ws → IsAmong x ws

-- ---- formulas

-- what a formula writes that is performed whole
abbrev pub FormulaWrites : App → ℕ → CellInfo → Option Data → Tables → SessionState → List Source
    → Type 0
FormulaWrites a m c item t s ws = (value : Data) × (u : Tables) × (r : SessionState)
    × PerformsCell a m c item t s value u r ws

-- the formula of a trigger, where one is written
abbrev pub TriggerWrites : App → ℕ → Trigger → Option Data → TablesAndSession → List Source → Type 0
TriggerWrites a m trigger item s ws = (value : Data) × (t : TablesAndSession)
    × ActsWriting a m (cell_at trigger a) item s value t ws

-- a screen that is shown
abbrev pub ScreenWrites : App → ℕ → TablesAndSession → List Source → Type 0
ScreenWrites a m s ws = (t : TablesAndSession) × ShowsWriting a m s t ws

-- WHAT A REQUEST WRITES at a trigger by its whole performing: what its formula does, and what the
-- screen does that is then shown
abbrev pub RequestWrites : App → ℕ → Trigger → Option Data → TablesAndSession → List Source → Type 0
RequestWrites a m trigger item s ws = (value : Data) × (t : TablesAndSession)
    × RunsWriting a m trigger item s value t ws

-- and what is given or chosen before
abbrev pub GivenAndWrites : App → ℕ → Trigger → Option Data → List Source → SessionState → Tables
    → List Source → Type 0
GivenAndWrites a m trigger item given s t xs = (ws : List Source) × (xs ≡ given ++ ws)
    × RequestWrites a m trigger item (scene t (begun s)) ws

-- ---- events

-- what an event writes by its whole performing, by the verdict of its checks
abbrev pub TargetWrites : App → ℕ → SessionState → (ℕ → Data) → Result Target Refusal → Tables
    → List Source → Type 0
TargetWrites a m s values (Err r) t xs = xs ≡ []
TargetWrites a m s values (Ok g) t xs =
    GivenAndWrites a m (OnSelect g.control) (item_seen a.names values g.item) (item_chosen g.item)
    (with_target g s) t xs

-- WHAT AN EVENT WRITES over these tables by its whole performing, where it passed the checks of
-- numbered requests
pub record EventWritesWhole (a : App) (m : ℕ) (name : List ℕ) (e : Event) (t : Tables)
    (sessions : List (Named SessionState)) (xs : List Source) : Type 0 where
  pub session : SessionState
  pub found : find name sessions ≡ Some session
  pub values : ℕ → Data
  pub fresh : ∥ AreFreshAt (present a session (rows_told (Some t)) m) (EventLooksAt a e) values ∥₁
  pub verdict : Result Target Refusal
  pub judged : IsVerdict (present a session (rows_told (Some t)) m) values
      (event_target a.names session values e) verdict
  pub writes : TargetWrites a m session values verdict t xs

-- ---- inputs

-- what an input writes by its whole performing, by the verdict of its checks
abbrev pub InputGivenWrites : App → ℕ → SessionState → (ℕ → Data) → Result InputValue Refusal
    → Tables → List Source → Type 0
InputGivenWrites a m s values (Err r) t xs = xs ≡ []
InputGivenWrites a m s values (Ok g) t xs =
    GivenAndWrites a m (input_trigger a.names (with_input g s) values g.0) None
    (source.Input g.0 ∷ []) (with_input g s) t xs

-- WHAT AN INPUT WRITES over these tables by its whole performing, where it passed the checks of
-- numbered requests
pub record InputWritesWhole (a : App) (m : ℕ) (name : List ℕ) (i : Input) (t : Tables)
    (sessions : List (Named SessionState)) (xs : List Source) : Type 0 where
  pub session : SessionState
  pub found : find name sessions ≡ Some session
  pub values : ℕ → Data
  pub fresh : ∥ AreFreshAt (present a session (rows_told (Some t)) m) (InputLooksAt a i) values ∥₁
  pub writes : InputGivenWrites a m session values (input_target a.names session values i) t xs
