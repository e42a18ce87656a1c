use Rattle.std.specs.List.{AllByRecursion}
use Rattle.row_lines.specs.Laws.{HasTypeBytes}
use Rattle.row_lines.proofs.schemas.tables_of.Given as goal

abbrev pub invariant-loop : goal.invariant-loop
invariant-loop l = AllByRecursion HasTypeBytes l.tables
