-- An accepted app in its parts.
use Rattle.std.specs.Prelude.{List, map}
use Rattle.fx_types.specs.declared.types.Ty.TheVariants as ty
use Rattle.fx_core.specs.declared.names.ControlName.{ControlName}
use Rattle.app_cells.specs.declared.app.App.{App}
use Rattle.app_cells.specs.declared.app.CellInfo.{CellInfo}
use Rattle.app_cells.specs.declared.cell.Cell.{Cell}
use Rattle.app_cells.specs.declared.frame.Frame.{Frame}

-- a control, of whose items the type isn't known yet
abbrev pub without_items : ControlName → ControlName
without_items c = record c { items = ty.Blank }

-- what it has beside its formulas
abbrev pub app_frame : App → Frame
app_frame a = record {
  schema = a.names.schema;
  limit = a.limit;
  screens = a.names.screens;
  controls = map without_items a.names.controls;
}

-- its formulas, as they are written
abbrev pub written_texts : App → List Cell
written_texts a = map (λ (i : CellInfo). i.cell) a.cells
