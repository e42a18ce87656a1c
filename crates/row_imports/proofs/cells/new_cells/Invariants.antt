use Rattle.std.proofs.Common.{◌≡◌, map, take}
use Rattle.fx_types.specs.ValueView.{view}
use Rattle.row_imports.specs.Imports.{blanks}
use Rattle.row_imports.proofs.cells.new_cells.Given as goal

abbrev pub invariant-loop : goal.invariant-loop
invariant-loop l = map view l.blanks.items ≡ blanks (take l.index l.columns)
