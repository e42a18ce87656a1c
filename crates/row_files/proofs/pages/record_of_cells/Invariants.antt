use Rattle.std.proofs.Common.{◌≡◌, map, take}
use Rattle.csv.specs.Records.{fields_of}
use Rattle.fx_types.specs.ValueView.{view}
use Rattle.field_texts.specs.Fields.{field_of}
use Rattle.row_files.proofs.pages.record_of_cells.Given as goal

abbrev pub invariant-loop-cell : goal.invariant-loop-cell
invariant-loop-cell l = fields_of l.line ≡ map field_of (map view (take l.cell-index l.cells))
