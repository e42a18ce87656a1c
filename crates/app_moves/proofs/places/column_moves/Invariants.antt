use Rattle.std.proofs.Common.{◌≡◌, map, take}
use Rattle.std.specs.Prelude.{option_map}
use Rattle.app_moves.specs.Places.{column_move}
use Rattle.app_moves.proofs.places.column_moves.Given as goal

abbrev pub invariant-loop-column : goal.invariant-loop-column
invariant-loop-column l = l.numbers ≡ map (column_move l.moves (option_map (λ t. t.now) l.source)) (take l.column-index l.columns)
