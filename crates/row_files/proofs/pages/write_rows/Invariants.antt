use Rattle.std.proofs.Common.{Some, map, take}
use Rattle.row_files.specs.Pages.{row_fields}
use Rattle.row_files.specs.Records.{WritesOn}
use Rattle.row_files.proofs.pages.write_rows.Given as goal

abbrev pub invariant-loop-row : goal.invariant-loop-row
invariant-loop-row l = WritesOn (λ v. Some v.items) l.fn.writer l.writer (map row_fields (take l.row-index l.rows))
