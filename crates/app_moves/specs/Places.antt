-- Moves by places, as a keeper is asked for them.
use Rattle.std.specs.Prelude.{ℕ, suc, List, map, Option, Some, None, bytes_eq, option_map}
use Rattle.std.specs.List.{position}
use Rattle.fx_core.specs.declared.schema.Column.{Column}
use Rattle.fx_core.specs.declared.schema.TableShape.{TableShape}
use Rattle.row_keeper.specs.declared.moves.TableMove.{TableMove}
use Rattle.app_moves.specs.Moves.{column_source, source_of}
use Rattle.app_moves.specs.declared.moves.Move.{Move}

-- the place of a table, if any
abbrev pub place_of : List TableShape → Option TableShape → Option ℕ
place_of tables None = None
place_of tables (Some t) = position (λ (u : TableShape). bytes_eq u.name t.name) tables

-- the number of a column, if any; they are numbered from 1, since `ID` is column 0
abbrev pub number_of : List Column → Option Column → Option ℕ
number_of columns None = None
number_of columns (Some c) =
    option_map suc (position (λ (d : Column). bytes_eq d.name c.name) columns)

-- the number of a column's source
abbrev pub column_move : List Move → Option TableShape → Column → Option ℕ
column_move moves None c = None
column_move moves (Some old) c = number_of old.columns (column_source moves old c.name)

-- from where a new table comes whose source is this
abbrev pub move_from : List TableShape → List Move → Option TableShape → TableShape → TableMove
move_from olds moves source new = record {
  from = place_of olds source;
  columns = map (column_move moves source) new.columns;
}

abbrev pub table_move : List TableShape → List Move → TableShape → TableMove
table_move olds moves new = move_from olds moves (source_of olds moves new.name) new

-- THE MOVES that a keeper is asked for, one for each new table
abbrev pub table_moves : List TableShape → List Move → List TableShape → List TableMove
table_moves olds moves news = map (table_move olds moves) news
