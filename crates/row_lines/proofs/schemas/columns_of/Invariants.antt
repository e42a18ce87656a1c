use Rattle.std.specs.List.{AllByRecursion}
use Rattle.row_lines.specs.Laws.{HasTypeByte}
use Rattle.row_lines.proofs.schemas.columns_of.Given as goal

abbrev pub invariant-loop : goal.invariant-loop
invariant-loop l = AllByRecursion HasTypeByte l.columns
