use Rattle.std.proofs.Common.{◌≡◌, ◌++◌, flat_map, take}
use Rattle.std.specs.List.{AllByRecursion}
use Rattle.row_lines.specs.Bodies.{column_bytes}
use Rattle.row_lines.specs.Laws.{HasShortName}
use Rattle.row_lines.proofs.schemas.push_columns.Given as goal

abbrev pub invariant-loop-column : goal.invariant-loop-column
invariant-loop-column l = record {
  written : l.body.items ≡ l.fn.body.items ++ flat_map column_bytes (take l.column-index l.columns);
  short : AllByRecursion HasShortName (take l.column-index l.columns);
}
