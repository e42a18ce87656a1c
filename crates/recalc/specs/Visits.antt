-- How many rows evaluating the formulas of cells visits, where the rows of tables are told.
use Rattle.std.specs.Prelude.{◌≡◌, ◌≢◌, ◌⊎◌, ◌+◌, ◌≤◌, ℕ, List, [], ◌∷◌, length, false, Option}
use Rattle.std.specs.Prelude.{None, Some, slice_get}
use Rattle.std.specs.List.{All, AllPairs}
use Rattle.fx_types.specs.Values.{Data}
use Rattle.fx_eval.specs.Laws.{AreHeld}
use Rattle.fx_eval.specs.Visits.{AtMost, Both, Visits}
use Rattle.fx_eval.specs.fx_plan.Limited.{limited}
use Rattle.recalc.specs.app_cells.Leaning.{LeansOn}
use Rattle.recalc.specs.app_cells.declared.app.App.{App}
use Rattle.recalc.specs.app_cells.declared.app.CellInfo.{CellInfo}
use Rattle.recalc.specs.app_semantics.Fresh.{AreKnown, IsWhere, reads_table, formula_context}
use Rattle.recalc.specs.app_semantics.Holding.{HoldsFitting}
use Rattle.recalc.specs.app_semantics.Needed.{IsFreshAt}
use Rattle.recalc.specs.app_semantics.Present.{present}
use Rattle.recalc.specs.app_semantics.Sound.{IsSoundApp}
use Rattle.recalc.specs.Kept.{CacheState}
use Rattle.recalc.specs.Steps.{WasDue}
use Rattle.row_keeper.specs.Tables.{Tables, rows_of_tables}
use Rattle.row_queries.specs.declared.rows.Row.{Row}
use Rattle.session_state.specs.Sessions.{SessionState}

-- Evaluating a formula visits so many rows where cells have these values. One that reads no table
-- visits none.
abbrev pub FormulaVisits : App → SessionState → List (List Row) → ℕ → (ℕ → Data) → Option Data
    → CellInfo → ℕ → Type 0
FormulaVisits a s rows m values item c n =
    IsWhere (reads_table c.reads)
    (Visits (record { shapes = a.names.schema.tables; rows = rows })
    (limited a.names.schema.tables a.limit 0 false c.core)
    (formula_context (present a s (Some rows) m) values c.reads item) n)
    (n ≡ 0)

-- Evaluating a cell visits so many: its formula does, where the cells on which it leans are fresh.
abbrev pub CellVisits : App → SessionState → List (List Row) → ℕ → ℕ → ℕ → Type 0
CellVisits a s rows m k n =
    (values : ℕ → Data) × (c : CellInfo) × (slice_get a.cells k ≡ Some c)
    × ((d : ℕ) → LeansOn a.names c d → IsFreshAt (present a s (Some rows) m) values d)
    × FormulaVisits a s rows m values None c n

-- evaluating each of these cells visits so many in all
abbrev pub CellsVisit : App → SessionState → List (List Row) → ℕ → List ℕ → ℕ → Type 0
CellsVisit a s rows m [] n = n ≡ 0
CellsVisit a s rows m (k ∷ ks) n = Both (CellVisits a s rows m k) (CellsVisit a s rows m ks) n

-- P of the rows of tables, if they are told
abbrev pub WhereTold : Option Tables → (List (List Row) → Type 0) → Type 0
WhereTold told P = (t : Tables) → told ≡ Some t → P (rows_of_tables t.states)

-- a step was taken, and no more rows were visited than evaluating the cell visits; or none was, and
-- none were
abbrev pub MayVisit : App → SessionState → List (List Row) → ℕ → ℕ → ℕ → ℕ → ℕ → ℕ → Type 0
MayVisit a s rows m k old new before now = ((new ≡ old + 1)
    × AtMost (CellVisits a s rows m k) before now) ⊎ ((new ≡ old) × (now ≤ before))

-- the steps are those of cells that were due, one of each, and no more rows were visited than
-- evaluating these visits
abbrev pub VisitsPerCell : App → SessionState → List (List Row) → ℕ → List ℕ → CacheState
    → CacheState → ℕ → ℕ → ℕ → ℕ → Type 0
VisitsPerCell a s rows m roots start after old new before now =
    (cs : List ℕ) × AllPairs (λ x y. x ≢ y) cs × All (WasDue a roots start after) cs
    × (new ≡ old + length cs) × AtMost (CellsVisit a s rows m cs) before now

-- a cell visits one number of rows at most, where all that is read is told
abbrev pub OneCellVisits : Type 0
OneCellVisits =
    (a : App) (s : SessionState) (rows : List (List Row)) (m k n l : ℕ) → IsSoundApp a
    → HoldsFitting a.names s → AreKnown a (Some rows)
    → AreHeld (record { shapes = a.names.schema.tables; rows = rows }) →
    CellVisits a s rows m k n → CellVisits a s rows m k l → n ≡ l
