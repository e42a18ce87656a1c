use Rattle.std.proofs.Common.{◌≡◌, map, take}
use Rattle.std.specs.Prelude.{slice_get, unwrap_or}
use Rattle.fx_types.specs.ValueView.{view}
use Rattle.fx_types.specs.Values.{blank}
use Rattle.row_queries.specs.declared.rows.Row.{Row}
use Rattle.row_keeper.proofs.row_tables.cells_at.Given as goal

abbrev pub invariant-loop-row : goal.invariant-loop-row
invariant-loop-row l = map view l.cells.items ≡ map (λ (r : Row). unwrap_or (slice_get r.cells l.place) blank) (take l.row-index l.rows)
