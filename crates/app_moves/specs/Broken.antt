-- Which move breaks a rule first, and which column comes from one of another type.
use Rattle.std.specs.Prelude.{ℕ, Bool, true, false, not, ◌&&◌, ◌++◌, ◌∷◌, [], bytes_eq, List}
use Rattle.std.specs.Prelude.{Option, Some, None, is_some, is_none, option_and_then}
use Rattle.std.specs.Prelude.{if◌then◌else◌}
use Rattle.std.specs.List.{find, list_any}
use Rattle.fx_types.specs.declared.types.Ty.{Ty}
use Rattle.fx_types.specs.declared.types.Ty.TheVariants as ty
use Rattle.fx_core.specs.declared.schema.Column.{Column}
use Rattle.fx_core.specs.declared.schema.TableShape.{TableShape}
use Rattle.app_moves.specs.Moves.{column_named, column_source, is_called, is_name, table_named}
use Rattle.app_moves.specs.Moves.{target_of}
use Rattle.app_moves.specs.declared.moves.Move.{Move}

-- ---- moves

-- neither names a column, or both name this one
abbrev pub is_same_column : Option (List ℕ) → Option (List ℕ) → Bool
is_same_column other None = is_none other
is_same_column other (Some name) = is_name name other

-- an earlier move is one of the same table, or of the same column of it
abbrev pub moves_same : Move → Move → Bool
moves_same m earlier = bytes_eq earlier.table m.table && is_same_column earlier.column m.column

-- an earlier move gives a table the same name
abbrev pub gives_table : Move → Move → Bool
gives_table m earlier = is_none earlier.column && bytes_eq earlier.to m.to

-- an earlier move gives a column of this new table the same name
abbrev pub gives_column : List TableShape → List TableShape → List Move → TableShape → Move → Move
    → Bool
gives_column olds news moves new m earlier = is_some earlier.column
    && (bytes_eq earlier.to m.to && is_called new.name (target_of olds news moves earlier.table))

-- an earlier move is one of the same thing
abbrev pub is_moved_before : List Move → Move → Bool
is_moved_before earlier m = list_any (moves_same m) earlier

-- an earlier move gives a table the same name
abbrev pub is_given_before : List Move → Move → Bool
is_given_before earlier m = list_any (gives_table m) earlier

-- an earlier move gives a column of this new table the same name
abbrev pub is_filled_before : List TableShape → List TableShape → List Move → List Move
    → TableShape → Move → Bool
is_filled_before olds news moves earlier new m =
    list_any (gives_column olds news moves new m) earlier

-- a table moves well behind these moves: it is there, the new app has one of its new name, and no
-- earlier move is of it or gives that name
abbrev pub is_fine_table : List TableShape → List TableShape → List Move → Move → Bool
is_fine_table olds news earlier m = is_some (table_named olds m.table)
    && (is_some (table_named news m.to)
    && (not (is_moved_before earlier m) && not (is_given_before earlier m)))

-- the new table, if any, has a column of the new name, which no earlier move gives to one of it
abbrev pub is_fine_in : List TableShape → List TableShape → List Move → List Move → Move
    → Option TableShape → Bool
is_fine_in olds news moves earlier m None = false
is_fine_in olds news moves earlier m (Some new) = is_some (column_named new m.to)
    && not (is_filled_before olds news moves earlier new m)

-- the column of a name of the table of another
abbrev pub column_in : List TableShape → List ℕ → List ℕ → Option Column
column_in tables table name = option_and_then (λ (t : TableShape). column_named t name)
    (table_named tables table)

-- a column moves well behind these moves: it is there, no earlier move is of it, and it fares well
-- in what its table becomes
abbrev pub is_fine_column : List TableShape → List TableShape → List Move → List Move → Move
    → List ℕ → Bool
is_fine_column olds news moves earlier m name = is_some (column_in olds m.table name)
    && (not (is_moved_before earlier m)
    && is_fine_in olds news moves earlier m (target_of olds news moves m.table))

abbrev pub is_fine_by : List TableShape → List TableShape → List Move → List Move → Move
    → Option (List ℕ) → Bool
is_fine_by olds news moves earlier m None = is_fine_table olds news earlier m
is_fine_by olds news moves earlier m (Some name) = is_fine_column olds news moves earlier m name

-- a move of the list breaks no rule behind these of it
abbrev pub is_fine : List TableShape → List TableShape → List Move → List Move → Move → Bool
is_fine olds news moves earlier m = is_fine_by olds news moves earlier m m.column

-- the first of the rest of the list that does
abbrev pub broken_behind : List TableShape → List TableShape → List Move → List Move → List Move
    → Option Move
broken_behind olds news moves earlier [] = None
broken_behind olds news moves earlier (m ∷ ms) =
    if is_fine olds news moves earlier m
    then broken_behind olds news moves (earlier ++ m ∷ []) ms
    else Some m

-- THE FIRST MOVE that names nothing of the old app, leads to nothing of the new one, or repeats an
-- earlier one in either
abbrev pub broken_move : List TableShape → List TableShape → List Move → Option Move
broken_move olds news moves = broken_behind olds news moves [] moves

-- ---- types

-- two columns have one type
abbrev pub is_same_type : Ty → Ty → Bool
is_same_type ty.Number ty.Number = true
is_same_type ty.Text ty.Text = true
is_same_type ty.Boolean ty.Boolean = true
is_same_type ty.Date ty.Date = true
is_same_type a b = false

-- a column's source has another type
abbrev pub has_other_type : Column → Option Column → Bool
has_other_type c None = false
has_other_type c (Some source) = not (is_same_type source.ty c.ty)

-- the first column of a new table whose source in this old one has another type
abbrev pub mistyped_from : List Move → TableShape → TableShape → Option Column
mistyped_from moves old new =
    find (λ (c : Column). has_other_type c (column_source moves old c.name)) new.columns

-- the first column of a new table whose source has another type
abbrev pub mistyped_column : List Move → Option TableShape → TableShape → Option Column
mistyped_column moves None new = None
mistyped_column moves (Some old) new = mistyped_from moves old new
