use Rattle.std.proofs.Common.{◌≡◌, take}
use Rattle.std.specs.List.{AllByRecursion}
use Rattle.row_lines.specs.Bodies.{schema_bytes}
use Rattle.row_lines.specs.Laws.{IsShortTable}
use Rattle.row_lines.proofs.schemas.body_of.Given as goal

abbrev pub invariant-loop-table : goal.invariant-loop-table
invariant-loop-table l = record {
  written : l.body.items ≡ schema_bytes (record { tables = take l.table-index l.tables });
  short : AllByRecursion IsShortTable (take l.table-index l.tables);
}
