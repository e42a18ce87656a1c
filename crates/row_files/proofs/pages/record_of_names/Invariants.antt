use Rattle.std.proofs.Common.{◌≡◌, take}
use Rattle.csv.specs.Records.{fields_of}
use Rattle.row_files.specs.Pages.{names_of}
use Rattle.row_files.proofs.pages.record_of_names.Given as goal

abbrev pub invariant-loop-column : goal.invariant-loop-column
invariant-loop-column l = fields_of l.line ≡ names_of (take l.column-index l.columns)
