use Rattle.std.proofs.Common.{◌≡◌, map, take}
use Rattle.std.specs.List.{AllByRecursion}
use Rattle.fx_types.specs.ValueView.{view}
use Rattle.row_lines.specs.Bodies.{line_bytes}
use Rattle.row_lines.specs.Laws.{HasShortKey}
use Rattle.row_lines.proofs.lines.line_of.Given as goal

abbrev pub invariant-loop-cell : goal.invariant-loop-cell
invariant-loop-cell l = record {
  written : l.body.items ≡ line_bytes (map view (take l.cell-index l.items));
  short : AllByRecursion HasShortKey (map view (take l.cell-index l.items));
}
