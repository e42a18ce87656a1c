-- Formulas of an app as inference takes them.
use Rattle.std.specs.Prelude.{◌≡◌}
use Rattle.fx_infer.specs.declared.elaboration.Written.{Written}
use Rattle.fx_infer.specs.CellView.{cell}
use Rattle.app_cells.specs.declared.cell.Cell.{Cell}
use Rattle.app_loader.specs.Cells.{round_cell}

-- the same formula at the same place
pub record IsWritten (c : Cell) (w : Written) : Type 0 where
  pub name : w.cell ≡ c.name
  pub seen : cell w ≡ round_cell c
