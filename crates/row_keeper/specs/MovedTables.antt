-- Tables that move to another schema: from where they come, what they are then, and which row
-- breaks a rule first.
use Rattle.std.specs.Prelude.{◌≡◌, ◌≢◌, ℕ, zero, suc, ◌+◌, List, [], ◌∷◌, map, Option, Some, None}
use Rattle.std.specs.Prelude.{IsSome, IsSomeAnd, option_map, slice_get, unwrap_or}
use Rattle.fx_types.specs.Values.{Data, blank}
use Rattle.fx_core.specs.Lawful.{AreDistinct}
use Rattle.fx_core.specs.declared.schema.Column.{Column}
use Rattle.fx_core.specs.declared.schema.Schema.{Schema}
use Rattle.fx_core.specs.declared.schema.TableShape.{TableShape}
use Rattle.row_queries.specs.TableRows.{value_at, values_of}
use Rattle.row_queries.specs.declared.rows.Row.{Row}
use Rattle.row_keeper.specs.Changes.{NamesItsColumn}
use Rattle.row_keeper.specs.Kept.{columns_shaped}
use Rattle.row_keeper.specs.RowRules.{first_of_two, rule_in}
use Rattle.row_keeper.specs.Tables.{TableState, Tables, no_rows, state_at}
use Rattle.row_keeper.specs.declared.moves.TableMove.{TableMove}
use Rattle.row_keeper.specs.declared.rows.Reshaped.{Reshaped}
use Rattle.row_keeper.specs.declared.rows.Reshaped.TheVariants.{Done, Broken}
use Rattle.row_keeper.specs.declared.rows.RowRefusal.{RowRefusal}
use Rattle.row_keeper.specs.declared.rows.RowRule.TheVariants.{Full}

-- ---- from where tables and columns come

-- the places that are named, in order
abbrev pub named : List (Option ℕ) → List ℕ
named [] = []
named (None ∷ xs) = named xs
named (Some k ∷ xs) = k ∷ named xs

-- the column of this number; they are numbered from 1, since `ID` is column 0
abbrev pub column_numbered : List Column → ℕ → Option Column
column_numbered columns zero = None
column_numbered columns (suc k) = slice_get columns k

-- a column comes from none, or from one that is there and has its type
abbrev pub IsSource : List Column → Column → Option ℕ → Type 0
IsSource olds c None = Unit {0}
IsSource olds c (Some k) = IsSomeAnd (column_numbered olds k) (λ (d : Column). d.ty ≡ c.ty)

-- each column comes so
abbrev pub AreSources : List Column → List Column → List (Option ℕ) → Type 0
AreSources olds [] [] = Unit {0}
AreSources olds (c ∷ cs) (m ∷ ms) = IsSource olds c m × AreSources olds cs ms
AreSources olds cs ms = ⊥

-- a table comes from none, or from one that is there
abbrev pub IsFrom : List (List Column) → Option ℕ → Type 0
IsFrom olds None = Unit {0}
IsFrom olds (Some k) = IsSome (slice_get olds k)

-- the columns of that table
abbrev pub columns_from : List (List Column) → Option ℕ → List Column
columns_from olds None = []
columns_from olds (Some k) = unwrap_or (slice_get olds k) []

-- a table comes so, and its columns from those of its source, none of which is named twice
pub record IsMove (olds : List (List Column)) (t : TableShape) (m : TableMove) : Type 0 where
  pub from : IsFrom olds m.from
  pub sources : AreSources (columns_from olds m.from) t.columns m.columns
  pub apart : AreDistinct (named m.columns)

-- each table comes so
abbrev pub AreMovesOf : List (List Column) → List TableShape → List TableMove → Type 0
AreMovesOf olds [] [] = Unit {0}
AreMovesOf olds (t ∷ ts) (m ∷ ms) = IsMove olds t m × AreMovesOf olds ts ms
AreMovesOf olds ts ms = ⊥

-- one move for each new table, and no table is named twice
pub record AreMoves (olds news : List TableShape) (moves : List TableMove) : Type 0 where
  pub each : AreMovesOf (columns_shaped olds) news moves
  pub apart : AreDistinct (named (map (λ (m : TableMove). m.from) moves))

-- ---- the tables that move

-- a column has the values of its source, and one without a source is blank
abbrev pub moved_cell : Row → Option ℕ → Data
moved_cell r None = blank
moved_cell r (Some k) = value_at (values_of r) k

-- a row keeps its number
abbrev pub moved_row : List (Option ℕ) → Row → Row
moved_row columns r = record { id = r.id; cells = map (moved_cell r) columns }

-- a table keeps its rows and its last number
abbrev pub moved_from : List (Option ℕ) → TableState → TableState
moved_from columns s = record { rows = map (moved_row columns) s.rows; last = s.last }

-- a table without a source has no rows
abbrev pub moved_by : List TableState → List (Option ℕ) → Option ℕ → TableState
moved_by states columns None = no_rows
moved_by states columns (Some k) = moved_from columns (state_at states k)

abbrev pub moved_state : List TableState → TableMove → TableState
moved_state states m = moved_by states m.columns m.from

abbrev pub moved_states : List TableState → List TableMove → List TableState
moved_states states moves = map (moved_state states) moves

-- ---- the first rule that breaks

-- that of the first row that breaks one beside all others of its table
abbrev pub broken_row : List Column → TableState → List Row → Option RowRefusal
broken_row columns s [] = None
broken_row columns s (r ∷ rs) = first_of_two (rule_in columns s 0 (Some r.id) r.cells)
    (broken_row columns s rs)

-- the first of two tables, where one breaks a rule
abbrev pub first_table : Option (ℕ × RowRefusal) → Option (ℕ × RowRefusal) → Option (ℕ × RowRefusal)
first_table None b = b
first_table (Some x) b = Some x

-- that of the first table, by its place, where the first is counted from k on
abbrev pub broken_table : ℕ → List (List Column) → List TableState → Option (ℕ × RowRefusal)
broken_table k (cs ∷ css) (s ∷ ss) = first_table (option_map (λ r. (k, r)) (broken_row cs s s.rows))
    (broken_table (k + 1) css ss)
broken_table k css ss = None

-- ---- what a call makes of tables, and what it answers

-- the first rule that moved tables break, as it is answered
abbrev pub breach : Reshaped → Option (ℕ × RowRefusal)
breach Done = None
breach (Broken k r) = Some (k, r)

-- the tables have moved to the schema, or a rule broke and nothing has changed
abbrev pub reshaped : Schema → List TableMove → Reshaped → Tables → Tables
reshaped schema moves Done a = record { kept = Some schema; states = moved_states a.states moves }
reshaped schema moves (Broken k r) a = a

-- THE tables move, unless a rule breaks in them: the first one is answered
abbrev pub Reshapes : Schema → List TableMove → Reshaped → Tables → Tables → Type 0
Reshapes schema moves r a b = (broken_table 0 (columns_shaped schema.tables)
    (moved_states a.states moves) ≡ breach r) × (b ≡ reshaped schema moves r a)

-- a rule that a row which is there can break, with its column
abbrev pub IsRowRule : List Column → RowRefusal → Type 0
IsRowRule columns r = NamesItsColumn columns r.rule r.column × (r.rule ≢ Full)

-- what may be said where no tables are told: one of the new tables, by its columns, and such a rule
abbrev pub IsReshaped : List (List Column) → Reshaped → Type 0
IsReshaped tables Done = Unit {0}
IsReshaped tables (Broken k r) = IsSomeAnd (slice_get tables k)
    (λ (cs : List Column). IsRowRule cs r)
