use Rattle.std.proofs.Common.{◌≡◌, [], drop, map}
use Rattle.csv.specs.Records.{fields_of}
use Rattle.row_files.specs.Batches.{lines_of}
use Rattle.row_files.proofs.lines.read_lines.Given as goal

abbrev pub invariant-loop-line : goal.invariant-loop-line
invariant-loop-line l =
    lines_of l.columns l.key l.numbers l.lines (map fields_of (drop l.line-index l.records))
    ≡ lines_of l.columns l.key l.numbers [] (map fields_of l.records)
