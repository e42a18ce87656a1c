use Rattle.std.proofs.Common.{◌≡◌, map, take}
use Rattle.fx_types.specs.ValueView.{view}
use Rattle.row_imports.specs.Imports.{with_given}
use Rattle.row_imports.proofs.cells.with_given.Given as goal

abbrev pub invariant-loop-cell : goal.invariant-loop-cell
invariant-loop-cell l = record {
  number : l.number ≡ l.cell-index;
  all : l.all ≡ with_given l.heading.columns l.line 1 (map view (take l.cell-index l.cells));
}
