use Rattle.std.proofs.Common.{◌≡◌, map, take}
use Rattle.fx_types.specs.ValueView.{view}
use Rattle.row_queries.specs.TableRows.{value_at, values_of}
use Rattle.row_queries.specs.declared.rows.Row.{Row}
use Rattle.row_keeper.proofs.answers.values_in.Given as goal

abbrev pub invariant-loop-row : goal.invariant-loop-row
invariant-loop-row l = map view l.values.items ≡ map (λ (r : Row). value_at (values_of r) l.column) (take l.row-index l.rows)
