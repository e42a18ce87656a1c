-- The values of an app's cells, as they are lent.
use Rattle.std.specs.Prelude.{◌≡◌, ℕ, List, true, Some, slice_get}
use Rattle.app_semantics.specs.app_cells.declared.app.App.{App}
use Rattle.app_semantics.specs.app_cells.declared.app.CellInfo.{CellInfo}
use Rattle.fx_types.specs.TypeView.{shape}
use Rattle.fx_types.specs.Values.{Data}
use Rattle.fx_value.specs.Fits.{fits_in}
use Rattle.recalc.specs.Reading.{cell_value}

-- the value of each cell by its number, and the day
pub record CellValues : Type 0 where
  pub cells : List Data
  pub day : Data

abbrev pub value_of : CellValues → ℕ → Data
value_of v = cell_value v.cells

-- each cell has a value that fits it
abbrev pub CellsFit : App → (ℕ → Data) → Type 0
CellsFit a values = (k : ℕ) (c : CellInfo) → slice_get a.cells k ≡ Some c
    → fits_in (values k) (shape c.ty) ≡ true
