use Rattle.std.proofs.Common.{◌≡◌, ◌+◌, drop}
use Rattle.fx_types.specs.TypeView.{columns_view}
use Rattle.fx_typing.specs.ColumnPlaces.{column_rank}
use Rattle.fx_typing.proofs.columns.place_of.Given as goal

abbrev pub invariant-loop-place : goal.invariant-loop-place
invariant-loop-place l = l.place + column_rank l.name (columns_view (drop l.place l.columns)) ≡ column_rank l.name (columns_view l.columns)
