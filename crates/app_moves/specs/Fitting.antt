-- Tables that have moved fit their new schema.
use Rattle.std.specs.Prelude.{List}
use Rattle.fx_core.specs.declared.schema.TableShape.{TableShape}
use Rattle.row_keeper.specs.MovedTables.{AreMoves, moved_states}
use Rattle.row_keeper.specs.Tables.{AreStatesOf, TableState}
use Rattle.row_keeper.specs.declared.moves.TableMove.{TableMove}

-- tables that fit old shapes fit the new ones once they have moved
abbrev pub MovedTablesFit : Type 0
MovedTablesFit = (olds news : List TableShape) (moves : List TableMove) (states : List TableState)
    → AreMoves olds news moves → AreStatesOf olds states
    → AreStatesOf news (moved_states states moves)
