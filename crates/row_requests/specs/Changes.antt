-- What posted changes do to tables.
use Rattle.std.specs.Prelude.{ℕ, ◌+◌, ◌-◌, Bool, true, false, bytes_eq, cond, List, [], ◌∷◌, map}
use Rattle.std.specs.Prelude.{codes, slice_get, Option, Some, None, option_and_then, option_map}
use Rattle.std.specs.Prelude.{unwrap_or, Result, Ok, Err}
use Rattle.std.specs.List.{find, list_any, position}
use Rattle.fx_types.specs.TypeView.{shape}
use Rattle.fx_types.specs.Values.{Data, blank}
use Rattle.fx_value.specs.Fits.{fits_in}
use Rattle.fx_core.specs.declared.schema.Column.{Column as ColumnShape}
use Rattle.fx_core.specs.declared.schema.TableShape.{TableShape}
use Rattle.row_queries.specs.declared.rows.Row.{Row}
use Rattle.row_keeper.specs.RowRules.{rule_of}
use Rattle.row_keeper.specs.Tables.{Tables, columns_at, has_id, state_at, with_cells, with_row}
use Rattle.row_keeper.specs.Tables.{with_state, without_row}
use Rattle.row_keeper.specs.declared.rows.RowRefusal.{RowRefusal}
use Rattle.row_keeper.specs.declared.rows.RowRule.{RowRule}
use Rattle.row_keeper.specs.declared.rows.RowRule.TheVariants as row
use Rattle.view_text.specs.declared.refused.Detail.TheVariants as detail
use Rattle.view_text.specs.declared.refused.Refusal.{Refusal}
use Rattle.numbered_requests.specs.Replies.{plain}
use Rattle.row_requests.specs.declared.rule.Rule.{Rule}
use Rattle.row_requests.specs.declared.rule.Rule.TheVariants.{Column, ColumnType, Required, Unique}
use Rattle.row_requests.specs.declared.rule.Rule.TheVariants.{Size, Full}
use Rattle.row_requests.specs.declared.bodies.Change.{Change}
use Rattle.row_requests.specs.declared.bodies.Change.TheVariants.{Add, Replace, Remove}

-- ---- the rules of rows, as refusals

abbrev pub rule_name : Rule → List ℕ
rule_name Column = codes "column"
rule_name ColumnType = codes "type"
rule_name Required = codes "required"
rule_name Unique = codes "unique"
rule_name Size = codes "size"
rule_name Full = codes "full"

-- a rule breaks in the change at this place, in this column, which is "" where the rule is one of
-- the whole row (23)
abbrev pub change_refusal : ℕ → List ℕ → Rule → Refusal
change_refusal at column rule = record { code = 23; detail = detail.Row at column (rule_name rule) }

abbrev pub column_named : List ℕ → List ColumnShape → Option ColumnShape
column_named name columns = find (λ (c : ColumnShape). bytes_eq c.name name) columns

-- a value of the column's type, or blank
abbrev pub has_type : ColumnShape → Option Data → Bool
has_type c None = false
has_type c (Some d) = fits_in d (shape c.ty)

-- there is no such column (`column`), or the value isn't of its type (`type`)
abbrev pub rule_of_given : Option ColumnShape → Option Data → Option Rule
rule_of_given None v = Some Column
rule_of_given (Some c) v = cond (has_type c v) None (Some ColumnType)

-- the first of two
abbrev pub or_refusal : Option Refusal → Option Refusal → Option Refusal
or_refusal None b = b
or_refusal (Some r) b = Some r

-- the first value given that breaks a rule, by the order of names
abbrev pub first_refusal : ℕ → List ColumnShape → List (List ℕ × Option Data) → Option Refusal
first_refusal at columns [] = None
first_refusal at columns (g ∷ gs) = or_refusal
    (option_map (change_refusal at g.0) (rule_of_given (column_named g.0 columns) g.1))
    (first_refusal at columns gs)

abbrev pub kept_rule : RowRule → Rule
kept_rule row.Required = Required
kept_rule row.Unique = Unique
kept_rule row.Size = Size
kept_rule row.Full = Full

-- the name of the column of this number, where `ID` is 0
abbrev pub column_name_at : List ColumnShape → Option ℕ → List ℕ
column_name_at columns None = []
column_name_at columns (Some k) = unwrap_or (option_map (λ (c : ColumnShape). c.name)
    (slice_get columns (k - 1))) []

-- the rule that a keeper names
abbrev pub kept_refusal : ℕ → List ColumnShape → RowRefusal → Refusal
kept_refusal at columns r = change_refusal at (column_name_at columns r.column) (kept_rule r.rule)

-- ---- rows

-- the value given under a name, where one is
abbrev pub given_at : List ℕ → List (List ℕ × Option Data) → Option Data
given_at name gs = option_and_then (λ g. g.1)
    (find (λ (g : List ℕ × Option Data). bytes_eq g.0 name) gs)

-- a row's cells: what is given for a column, or else what was there
abbrev pub cells_with : List (List ℕ × Option Data) → List ColumnShape → List Data → List Data
cells_with gs (c ∷ cs) (d ∷ ds) = unwrap_or (given_at c.name gs) d ∷ cells_with gs cs ds
cells_with gs cs ds = []

abbrev pub blanks : List ColumnShape → List Data
blanks columns = map (λ (c : ColumnShape). blank) columns

-- the row of a number
abbrev pub row_with_id : ℕ → List Row → Option Row
row_with_id id rows = find (has_id id) rows

-- the table of a name
abbrev pub table_index : List ℕ → List TableShape → Option ℕ
table_index name shapes = position (λ (t : TableShape). bytes_eq t.name name) shapes

-- ---- one change: the number of its row and the tables with it, or why it is refused

-- unless something is refused
abbrev pub unless_refused : {A : Type 0} → Option Refusal → Result A Refusal → Result A Refusal
unless_refused None r = r
unless_refused (Some refusal) r = Err refusal

-- a row is added
abbrev pub add_row : ℕ → List ColumnShape → ℕ → List (List ℕ × Option Data) → Tables
    → Result (ℕ × Tables) Refusal
add_row at columns k gs t =
    let cells = cells_with gs columns (blanks columns) in
    unless_refused (first_refusal at columns gs)
    (unless_refused (option_map (kept_refusal at columns) (rule_of columns t.states k None cells))
    (Ok ((state_at t.states k).last + 1, with_state t k (with_row cells (state_at t.states k)))))

-- a row is changed, which was this one
abbrev pub change_row : ℕ → List ColumnShape → ℕ → ℕ → List (List ℕ × Option Data) → Tables
    → Option Row → Result (ℕ × Tables) Refusal
change_row at columns k id gs t None = Err (plain 22)
change_row at columns k id gs t (Some r) =
    let cells = cells_with gs columns r.cells in
    unless_refused (first_refusal at columns gs)
    (unless_refused (option_map (kept_refusal at columns)
    (rule_of columns t.states k (Some id) cells))
    (Ok (id, with_state t k (with_cells id cells (state_at t.states k)))))

-- a row is taken out, where it is there
abbrev pub remove_row : ℕ → ℕ → Tables → Bool → Result (ℕ × Tables) Refusal
remove_row k id t false = Err (plain 22)
remove_row k id t true = Ok (id, with_state t k (without_row id (state_at t.states k)))

-- a change of the table at this place (21 where there is none)
abbrev pub change_in_table : List TableShape → ℕ → Change → Tables → Option ℕ
    → Result (ℕ × Tables) Refusal
change_in_table shapes at c t None = Err (plain 21)
change_in_table shapes at (Add name gs) t (Some k) = add_row at (columns_at shapes k) k gs t
change_in_table shapes at (Replace name id gs) t (Some k)
    = change_row at (columns_at shapes k) k id gs t (row_with_id id (state_at t.states k).rows)
change_in_table shapes at (Remove name id) t (Some k)
    = remove_row k id t (list_any (has_id id) (state_at t.states k).rows)

abbrev pub table_changed : Change → List ℕ
table_changed (Add name gs) = name
table_changed (Replace name id gs) = name
table_changed (Remove name id) = name

-- THE change at a place: no such table (21), no such row (22), a rule that breaks (23), or the
-- row's number and the tables
abbrev pub change_one : List TableShape → ℕ → Change → Tables → Result (ℕ × Tables) Refusal
change_one shapes at c t = change_in_table shapes at c t (table_index (table_changed c) shapes)

-- ---- changes, one after another

-- a row's number before others
abbrev pub before : ℕ → Result (List ℕ × Tables) Refusal → Result (List ℕ × Tables) Refusal
before id (Ok x) = Ok (id ∷ x.0, x.1)
before id (Err r) = Err r

-- the others after one, over the tables that it made
abbrev pub then_others : Result (ℕ × Tables) Refusal → (Tables → Result (List ℕ × Tables) Refusal)
    → Result (List ℕ × Tables) Refusal
then_others (Ok x) go = before x.0 (go x.1)
then_others (Err r) go = Err r

-- THE changes, from this place on: the numbers of their rows with the tables that all of them make,
-- or why the first that is refused is
abbrev pub perform : List TableShape → ℕ → List Change → Tables → Result (List ℕ × Tables) Refusal
perform shapes at [] t = Ok ([], t)
perform shapes at (c ∷ cs) t = then_others (change_one shapes at c t) (perform shapes (at + 1) cs)
