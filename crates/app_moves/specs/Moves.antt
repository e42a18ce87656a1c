-- From where the tables and columns of a new app come, by a list of moves.
use Rattle.std.specs.Prelude.{ℕ, Bool, true, false, not, ◌&&◌, bytes_eq, List, Option, Some, None}
use Rattle.std.specs.Prelude.{is_some, is_none, option_and_then, if◌then◌else◌}
use Rattle.std.specs.List.{find, list_any}
use Rattle.fx_core.specs.declared.schema.Column.{Column}
use Rattle.fx_core.specs.declared.schema.TableShape.{TableShape}
use Rattle.app_moves.specs.declared.moves.Move.{Move}

abbrev pub table_named : List TableShape → List ℕ → Option TableShape
table_named tables name = find (λ (t : TableShape). bytes_eq t.name name) tables

-- `ID` is no column of these
abbrev pub column_named : TableShape → List ℕ → Option Column
column_named t name = find (λ (c : Column). bytes_eq c.name name) t.columns

-- the first of two that is there
abbrev pub or_else : {A : Type 0} → Option A → Option A → Option A
or_else None b = b
or_else (Some a) b = Some a

-- ---- tables

-- a table of the old app moves
abbrev pub moves_table : List TableShape → Move → Bool
moves_table olds m = is_none m.column && is_some (table_named olds m.table)

-- the first move that gives this name to a table of the old app
abbrev pub first_to : List TableShape → List Move → List ℕ → Option Move
first_to olds moves name = find (λ (m : Move). bytes_eq m.to name && moves_table olds m) moves

-- the table that is to get this name; where several are, the one of the first move
abbrev pub moved_to : List TableShape → List Move → List ℕ → Option TableShape
moved_to olds moves name = option_and_then (λ (m : Move). table_named olds m.table)
    (first_to olds moves name)

-- the table of this name is to get another one
abbrev pub is_moved : List Move → List ℕ → Bool
is_moved moves name = list_any (λ (m : Move). is_none m.column && bytes_eq m.table name) moves

-- the table of this name, where it keeps its name
abbrev pub kept_table : List TableShape → List Move → List ℕ → Option TableShape
kept_table olds moves name = if is_moved moves name then None else table_named olds name

-- THE SOURCE of the new table of a name: the old one that is to get the name, or else the one that
-- has and keeps it
abbrev pub source_of : List TableShape → List Move → List ℕ → Option TableShape
source_of olds moves name = or_else (moved_to olds moves name) (kept_table olds moves name)

-- the thing is there and has this name
abbrev pub is_called : List ℕ → Option TableShape → Bool
is_called name None = false
is_called name (Some t) = bytes_eq t.name name

-- the new table of one name comes from the old one of another
abbrev pub comes_from : List TableShape → List TableShape → List Move → List ℕ → List ℕ → Bool
comes_from olds news moves new old = is_some (table_named news new)
    && is_called old (source_of olds moves new)

-- a move makes the old table of this name a new one
abbrev pub leads_from : List TableShape → List TableShape → List Move → List ℕ → Move → Bool
leads_from olds news moves old m =
    is_none m.column && (bytes_eq m.table old && comes_from olds news moves m.to old)

-- the first move that does
abbrev pub first_from : List TableShape → List TableShape → List Move → List ℕ → Option Move
first_from olds news moves old = find (leads_from olds news moves old) moves

-- the new table that comes by a move from the old one of this name; of several moves by the first
abbrev pub led_to : List TableShape → List TableShape → List Move → List ℕ → Option TableShape
led_to olds news moves old = option_and_then (λ (m : Move). table_named news m.to)
    (first_from olds news moves old)

-- the new table of the same name, where it comes from this one
abbrev pub stayed : List TableShape → List TableShape → List Move → List ℕ → Option TableShape
stayed olds news moves old = if comes_from olds news moves old old then table_named news old
    else None

-- what the old table of a name becomes, by all moves of the list
abbrev pub target_of : List TableShape → List TableShape → List Move → List ℕ → Option TableShape
target_of olds news moves old = or_else (led_to olds news moves old) (stayed olds news moves old)

-- ---- columns

-- a name is given, and is this one
abbrev pub is_name : List ℕ → Option (List ℕ) → Bool
is_name name None = false
is_name name (Some given) = bytes_eq given name

-- a column of the table of this name moves
abbrev pub moves_column : List ℕ → Move → Bool
moves_column table m = is_some m.column && bytes_eq m.table table

-- the column of a table that a move names
abbrev pub column_of : TableShape → Option (List ℕ) → Option Column
column_of t None = None
column_of t (Some name) = column_named t name

-- the first move that gives this name to a column of an old table
abbrev pub column_to : List Move → TableShape → List ℕ → Option Move
column_to moves old name = find (λ (m : Move). bytes_eq m.to name && moves_column old.name m) moves

-- the column of an old table that is to get this name; where several are, the one of the first move
abbrev pub column_moved_to : List Move → TableShape → List ℕ → Option Column
column_moved_to moves old name = option_and_then (λ (m : Move). column_of old m.column)
    (column_to moves old name)

-- the column of this name of an old table is to get another one
abbrev pub is_column_moved : List Move → TableShape → List ℕ → Bool
is_column_moved moves old name =
    list_any (λ (m : Move). is_name name m.column && bytes_eq m.table old.name) moves

-- the column of this name, where it keeps its name
abbrev pub kept_column : List Move → TableShape → List ℕ → Option Column
kept_column moves old name = if is_column_moved moves old name then None else column_named old name

-- THE SOURCE of the new column of a name among the columns of its table's source: the one that is
-- to get the name, or else the one that has and keeps it
abbrev pub column_source : List Move → TableShape → List ℕ → Option Column
column_source moves old name = or_else (column_moved_to moves old name)
    (kept_column moves old name)
