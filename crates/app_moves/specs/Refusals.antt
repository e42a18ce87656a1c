-- How moves are refused.
use Rattle.std.specs.Prelude.{ℕ, ◌-◌, List, [], ◌∷◌, Option, Some, None, codes, option_map}
use Rattle.std.specs.Prelude.{slice_get, unwrap_or}
use Rattle.fx_core.specs.declared.schema.Column.{Column}
use Rattle.fx_core.specs.declared.schema.TableShape.{TableShape}
use Rattle.view_text.specs.declared.refused.Detail.TheVariants as detail
use Rattle.view_text.specs.declared.refused.Refusal.{Refusal}
use Rattle.row_keeper.specs.declared.rows.RowRefusal.{RowRefusal}
use Rattle.row_keeper.specs.declared.rows.RowRule.{RowRule}
use Rattle.row_keeper.specs.declared.rows.RowRule.TheVariants.{Required, Unique, Size, Full}
use Rattle.app_moves.specs.Broken.{broken_move, mistyped_column}
use Rattle.app_moves.specs.Moves.{or_else, source_of}
use Rattle.app_moves.specs.declared.moves.Move.{Move}
use Rattle.app_moves.specs.declared.refusals.Rule.{Rule}
use Rattle.app_moves.specs.declared.refusals.Rule.TheVariants.{Moves, Types, Rows}

-- the words of rules, as refusals have them
abbrev pub row_word : RowRule → List ℕ
row_word Required = codes "required"
row_word Unique = codes "unique"
row_word Size = codes "size"
row_word Full = codes "full"

abbrev pub word : Rule → List ℕ
word Moves = codes "move"
word Types = codes "type"
word (Rows r) = row_word r

-- a rule breaks in a column of a table (27); the column is "" where the rule is one of the table,
-- or of whole rows
abbrev pub move_refusal : List ℕ → List ℕ → List ℕ → Refusal
move_refusal table column rule = record { code = 27; detail = detail.Move table column rule }

-- a move breaks a rule of moves: it is told as it was given
abbrev pub broken_refusal : Move → Refusal
broken_refusal m = move_refusal m.table (unwrap_or m.column []) (word Moves)

-- a column's source has another type
abbrev pub type_refusal : TableShape → Column → Refusal
type_refusal new c = move_refusal new.name c.name (word Types)

-- that of the first table that has such a column
abbrev pub mistyped_refusal : List TableShape → List Move → List TableShape → Option Refusal
mistyped_refusal olds moves [] = None
mistyped_refusal olds moves (new ∷ news) = or_else
    (option_map (type_refusal new) (mistyped_column moves (source_of olds moves new.name) new))
    (mistyped_refusal olds moves news)

-- THE REFUSAL of moves, before a row is looked at: that of the first move that breaks a rule, and
-- where none does that of the first column that comes from one of another type
abbrev pub moves_refusal : List TableShape → List TableShape → List Move → Option Refusal
moves_refusal olds news moves = or_else (option_map broken_refusal (broken_move olds news moves))
    (mistyped_refusal olds moves news)

-- ---- rules of rows

-- the name of the column of this number, where `ID` is 0
abbrev pub name_at : List Column → Option ℕ → List ℕ
name_at columns None = []
name_at columns (Some k) = unwrap_or
    (option_map (λ (c : Column). c.name) (slice_get columns (k - 1))) []

-- a moved row breaks a rule in a new table
abbrev pub row_refusal : TableShape → RowRefusal → Refusal
row_refusal new r = move_refusal new.name (name_at new.columns r.column) (word (Rows r.rule))

-- THE REFUSAL of moved rows, where a keeper names the table by its number
abbrev pub rows_refusal : List TableShape → ℕ → RowRefusal → Option Refusal
rows_refusal news table r = option_map (λ (new : TableShape). row_refusal new r)
    (slice_get news table)
