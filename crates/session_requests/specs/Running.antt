-- What the formulas of one request do, one after another.
use Rattle.std.specs.Prelude.{◌≡◌, ◌++◌, ℕ, Bool, true, false, List, [], Option, None, Some}
use Rattle.std.specs.Prelude.{slice_get}
use Rattle.session_requests.specs.Performing.{PerformsCell}
use Rattle.recalc.specs.app_cells.declared.app.App.{App}
use Rattle.recalc.specs.app_cells.declared.app.CellInfo.{CellInfo}
use Rattle.fx_types.specs.Values.{Data, blank}
use Rattle.fx_core.specs.declared.sources.Source.{Source}
use Rattle.session_requests.specs.Scenes.{TablesAndSession, arrived, scene}
use Rattle.session_requests.specs.Triggers.{cell_at}
use Rattle.session_requests.specs.declared.trigger.Trigger.{Trigger}
use Rattle.session_requests.specs.declared.trigger.Trigger.TheVariants.{OnStart, OnVisible}

-- the formula of this number is performed
pub record IsPerformed (a : App) (m k : ℕ) (item : Option Data) (s : TablesAndSession)
    (value : Data) (t : TablesAndSession) : Type 0 where
  pub cell : CellInfo
  pub there : slice_get a.cells k ≡ Some cell
  pub wrote : List Source
  pub acts : PerformsCell a m cell item s.tables s.session value t.tables t.session wrote

-- where none is written nothing is done, and the value is blank
abbrev pub IsActed : App → ℕ → Option ℕ → Option Data → TablesAndSession → Data → TablesAndSession
    → Type 0
IsActed a m None item s value t = (value ≡ blank) × (t ≡ s)
IsActed a m (Some k) item s value t = IsPerformed a m k item s value t

-- the formula of a trigger acts, for an item where it sees one
abbrev pub IsTriggered : App → ℕ → Trigger → Option Data → TablesAndSession → Data
    → TablesAndSession → Type 0
IsTriggered a m trigger item s value t = IsActed a m (cell_at trigger a) item s value t

-- the current screen is shown: its `OnVisible` acts, and shows no further one where it navigates
pub record ShowsScreen (a : App) (m : ℕ) (s t : TablesAndSession) : Type 0 where
  pub value : Data
  pub end : TablesAndSession
  pub acts : IsTriggered a m (OnVisible s.session.screen) None (scene s.tables (arrived s.session))
      value end
  pub is : t ≡ scene end.tables (arrived end.session)

-- so it is once, where a screen was navigated to
abbrev pub IsFollowed : App → ℕ → Bool → TablesAndSession → TablesAndSession → Type 0
IsFollowed a m true s t = ShowsScreen a m s t
IsFollowed a m false s t = t ≡ s

-- WHAT A REQUEST DOES at a trigger: the formula acts, and then the screen is shown that was
-- navigated to.
pub record Runs (a : App) (m : ℕ) (trigger : Trigger) (item : Option Data) (s : TablesAndSession)
    (value : Data) (t : TablesAndSession) : Type 0 where
  pub end : TablesAndSession
  pub acts : IsTriggered a m trigger item s value end
  pub follows : IsFollowed a m end.session.navigated end t

-- WHAT OPENING A SESSION DOES: `App.OnStart` acts, and the screen that is then current is shown.
pub record Opens (a : App) (m : ℕ) (s t : TablesAndSession) : Type 0 where
  pub value : Data
  pub end : TablesAndSession
  pub acts : IsTriggered a m OnStart None s value end
  pub shown : ShowsScreen a m end t

-- ---- the sources that are written

-- by a formula that acts
abbrev pub wrote_acted : (a : App) (m : ℕ) (o : Option ℕ) (item : Option Data)
    (s : TablesAndSession) (value : Data) (t : TablesAndSession) → IsActed a m o item s value t
    → List Source
wrote_acted a m None item s value t h = []
wrote_acted a m (Some k) item s value t h = h.wrote

-- by a screen that is shown
abbrev pub wrote_shown : (a : App) (m : ℕ) (s t : TablesAndSession) → ShowsScreen a m s t
    → List Source
wrote_shown a m s t h = wrote_acted a m (cell_at (OnVisible s.session.screen) a) None
    (scene s.tables (arrived s.session)) h.value h.end h.acts

abbrev pub wrote_followed : (a : App) (m : ℕ) (b : Bool) (s t : TablesAndSession)
    → IsFollowed a m b s t → List Source
wrote_followed a m true s t h = wrote_shown a m s t h
wrote_followed a m false s t h = []

abbrev pub ActsWriting : App → ℕ → Option ℕ → Option Data → TablesAndSession → Data
    → TablesAndSession → List Source → Type 0
ActsWriting a m o item s value t ws = (h : IsActed a m o item s value t)
    × (ws ≡ wrote_acted a m o item s value t h)

abbrev pub ShowsWriting : App → ℕ → TablesAndSession → TablesAndSession → List Source → Type 0
ShowsWriting a m s t ws = (h : ShowsScreen a m s t) × (ws ≡ wrote_shown a m s t h)

-- WHAT OPENING A SESSION WRITES: the sources that `App.OnStart` writes, and then those of the
-- screen that is shown.
abbrev pub OpensWriting : App → ℕ → TablesAndSession → TablesAndSession → List Source → Type 0
OpensWriting a m s t ws = (h : Opens a m s t)
    × (ws ≡ wrote_acted a m (cell_at OnStart a) None s h.value h.end h.acts
    ++ wrote_shown a m h.end t h.shown)

-- WHAT A REQUEST WRITES at a trigger: the sources that the formula writes, and then those of the
-- screen that is shown.
abbrev pub RunsWriting : App → ℕ → Trigger → Option Data → TablesAndSession → Data
    → TablesAndSession → List Source → Type 0
RunsWriting a m trigger item s value t ws =
    (h : Runs a m trigger item s value t) × (ws
    ≡ wrote_acted a m (cell_at trigger a) item s value h.end h.acts
    ++ wrote_followed a m h.end.session.navigated h.end t h.follows)
