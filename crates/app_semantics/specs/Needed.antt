-- The formulas that a formula needs, and values that are fresh where they are needed.
use Rattle.std.specs.Prelude.{◌≡◌, ℕ, List, Bool, true, false, Option, Some, None, option_map}
use Rattle.std.specs.Prelude.{slice_get, unwrap_or}
use Rattle.app_cells.specs.Leaning.{LeansOn}
use Rattle.app_cells.specs.declared.app.App.{App}
use Rattle.app_cells.specs.declared.app.CellInfo.{CellInfo}
use Rattle.app_semantics.specs.Fresh.{IsCellValue}
use Rattle.app_semantics.specs.Present.{Present}
use Rattle.fx_types.specs.Values.{Data}

-- a formula has a value by itself: it neither acts nor sees an item
abbrev pub stands_by : Bool → Option ℕ → Bool
stands_by false None = true
stands_by acts item = false

abbrev pub stands_alone : CellInfo → Bool
stands_alone c = stands_by c.cell.acts c.cell.item

-- the cell of this number does
abbrev pub is_alone : List CellInfo → ℕ → Bool
is_alone cells k = unwrap_or (option_map stands_alone (slice_get cells k)) false

-- A path of leaning leads from a cell to another one, or they are one. A formula that has no value
-- by itself needs no other.
pub data Needs (a : App) : ℕ → ℕ → Type 0 where
  itself : (k : ℕ) → Needs a k k
  further : (k d e : ℕ) (c : CellInfo) → Needs a k d → slice_get a.cells d ≡ Some c
      → stands_alone c ≡ true → LeansOn a.names c e → Needs a k e

-- FRESH AT A CELL: it and each cell that it needs has the value of its tree, over the values that
-- they have
abbrev pub IsFreshAt : Present → (ℕ → Data) → ℕ → Type 0
IsFreshAt p values k = (d : ℕ) (c : CellInfo) → Needs p.app k d → slice_get p.app.cells d ≡ Some c
    → IsCellValue p values c (values d)
