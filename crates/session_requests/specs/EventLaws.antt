-- What the formulas of one request do, is one.
use Rattle.std.specs.Prelude.{◌≡◌, ℕ, Option}
use Rattle.fx_types.specs.Values.{Data}
use Rattle.recalc.specs.app_cells.declared.app.App.{App}
use Rattle.session_requests.specs.Running.{Opens, Runs}
use Rattle.session_requests.specs.Scenes.{TablesAndSession}
use Rattle.session_requests.specs.declared.trigger.Trigger.{Trigger}

-- a request has one value at a trigger, and one end
abbrev pub OneRunning : Type 0
OneRunning = (a : App) (m : ℕ) (trigger : Trigger) (item : Option Data) (s t u : TablesAndSession)
    (x y : Data) → Runs a m trigger item s x t → Runs a m trigger item s y u → (x ≡ y) × (t ≡ u)

-- opening a session has one end
abbrev pub OneOpening : Type 0
OneOpening = (a : App) (m : ℕ) (s t u : TablesAndSession) → Opens a m s t → Opens a m s u → t ≡ u
