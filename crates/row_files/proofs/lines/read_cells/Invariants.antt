use Rattle.std.proofs.Common.{◌≡◌, drop}
use Rattle.csv.specs.Records.{fields_of}
use Rattle.row_files.specs.Batches.{cells_of}
use Rattle.row_files.proofs.Steps.{behind}
use Rattle.row_files.proofs.lines.read_cells.Given as goal

abbrev pub invariant-loop-place : goal.invariant-loop-place
invariant-loop-place l =
    behind l.cells (cells_of l.columns l.at (drop l.place l.numbers) (drop l.place (fields_of l.fn.line)))
    ≡ cells_of l.columns l.at l.numbers (fields_of l.fn.line)
