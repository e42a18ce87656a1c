use Rattle.std.proofs.Common.{◌≡◌, ◌++◌, take}
use Rattle.fx_value.proofs.joining.push_rest.Given as goal

abbrev pub invariant-loop-column : goal.invariant-loop-column
invariant-loop-column l = l.columns.items ≡ l.initial.columns.items ++ take l.column-index l.column-items
