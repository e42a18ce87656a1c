-- A behaviour formula does one thing at most.
use Rattle.std.specs.Prelude.{◌≡◌, ℕ, List, Option}
use Rattle.fx_types.specs.Values.{Data}
use Rattle.fx_core.specs.declared.sources.Source.{Source}
use Rattle.recalc.specs.app_cells.declared.app.App.{App}
use Rattle.recalc.specs.app_cells.declared.app.CellInfo.{CellInfo}
use Rattle.row_keeper.specs.Tables.{Tables}
use Rattle.session_state.specs.Sessions.{SessionState}
use Rattle.session_requests.specs.Performing.{PerformsCell}

-- The app, the moment, the item, the tables and the session determine the value, the tables and the
-- session that a formula leaves, and the sources that it writes.
abbrev pub OneActing : Type 0
OneActing =
    (a : App) (moment : ℕ) (c : CellInfo) (item : Option Data) (t : Tables) (s : SessionState)
    (x y : Data) (u v : Tables) (q r : SessionState) (ws zs : List Source) →
    PerformsCell a moment c item t s x u q ws → PerformsCell a moment c item t s y v r zs
    → (x ≡ y) × (u ≡ v) × (q ≡ r) × (ws ≡ zs)
