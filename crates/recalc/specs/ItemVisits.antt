-- How many rows evaluating the formulas of templates for items visits, where the rows of tables are
-- told.
use Rattle.std.specs.Prelude.{◌≡◌, ℕ, List, Option, Some, None, slice_get}
use Rattle.fx_types.specs.Values.{Data}
use Rattle.fx_eval.specs.Laws.{AreHeld}
use Rattle.recalc.specs.app_cells.Leaning.{LeansOn}
use Rattle.recalc.specs.app_cells.declared.app.App.{App}
use Rattle.recalc.specs.app_cells.declared.app.CellInfo.{CellInfo}
use Rattle.recalc.specs.app_semantics.Fresh.{AreKnown}
use Rattle.recalc.specs.app_semantics.Holding.{HoldsFitting}
use Rattle.recalc.specs.app_semantics.Needed.{IsFreshAt}
use Rattle.recalc.specs.app_semantics.Present.{Present, present}
use Rattle.recalc.specs.app_semantics.Sound.{IsSoundApp}
use Rattle.recalc.specs.Visits.{FormulaVisits}
use Rattle.row_queries.specs.declared.rows.Row.{Row}
use Rattle.session_state.specs.Sessions.{SessionState}

-- Evaluating a formula for an item visits so many rows where cells have these values, and none
-- where it isn't written.
abbrev pub ItemVisits : App → SessionState → List (List Row) → ℕ → (ℕ → Data) → Data → Option ℕ → ℕ
    → Type 0
ItemVisits a s rows m values item (Some k) n = (c : CellInfo) × (slice_get a.cells k ≡ Some c)
    × FormulaVisits a s rows m values (Some item) c n
ItemVisits a s rows m values item None n = n ≡ 0

-- the cells have their fresh values on which the formula leans, if there is one
abbrev pub IsLedFresh : Present → (ℕ → Data) → Option ℕ → Type 0
IsLedFresh p values (Some k) = (c : CellInfo) (d : ℕ) → slice_get p.app.cells k ≡ Some c
    → LeansOn p.app.names c d → IsFreshAt p values d
IsLedFresh p values None = Unit {0}

-- a formula visits one number of rows at most for an item, where all that is read is told, over
-- whatever values are fresh for it
abbrev pub OneItemVisits : Type 0
OneItemVisits =
    (a : App) (s : SessionState) (rows : List (List Row)) (m : ℕ) (values others : ℕ → Data)
    (item : Data) (o : Option ℕ) (n l : ℕ) → IsSoundApp a → HoldsFitting a.names s
    → AreKnown a (Some rows) →
    AreHeld (record { shapes = a.names.schema.tables; rows = rows })
    → IsLedFresh (present a s (Some rows) m) values o
    → IsLedFresh (present a s (Some rows) m) others o →
    ItemVisits a s rows m values item o n → ItemVisits a s rows m others item o l → n ≡ l
