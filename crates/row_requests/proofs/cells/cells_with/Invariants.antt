use Rattle.std.proofs.Common.{◌≡◌, map, take}
use Rattle.fx_types.specs.ValueView.{view}
use Rattle.row_requests.specs.Changes.{cells_with}
use Rattle.row_requests.proofs.cells.cells_with.Given as goal

abbrev pub invariant-loop-place : goal.invariant-loop-place
invariant-loop-place l = l.all ≡ cells_with l.given (take l.place l.columns) (take l.place (map view l.cells))
