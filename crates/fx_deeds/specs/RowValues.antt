-- Rows as values: their numbers, their cells, and changes of them.
use Rattle.std.specs.Prelude.{ℕ, suc, zero, ◌/◌, ◌%◌, ◌==◌, ◌&&◌, ℤ, pos, negsuc, nat_le, Bool}
use Rattle.std.specs.Prelude.{true, false, List, [], ◌∷◌, ◌++◌, map, Option, Some, None, unwrap_or}
use Rattle.std.specs.Prelude.{if◌then◌else◌}
use Rattle.fx_types.specs.Lookup.{item_named}
use Rattle.fx_types.specs.declared.faults.Kind.{Kind}
use Rattle.fx_types.specs.declared.faults.Kind.TheVariants as kind
use Rattle.fx_types.specs.Types.{Shape, ColumnList, no_columns, column, tables}
use Rattle.fx_types.specs.Values.{Data, blank, rec, fault, field_list}
use Rattle.fx_core.specs.Lawful.{id_name}
use Rattle.fx_core.specs.declared.schema.Column.{Column}
use Rattle.fx_core.specs.declared.schema.TableShape.{TableShape}
use Rattle.fx_value.specs.Columns.{Row}
use Rattle.fx_semantics.specs.Rows.{fields_of, rows_in}
use Rattle.fx_value.specs.Coercion.{widened}
use Rattle.row_queries.specs.TableRows.{record_of_row}
use Rattle.row_keeper.specs.declared.rows.Put.{Put}
use Rattle.row_keeper.specs.declared.rows.Put.TheVariants.{Id, NoRow, Refused}
use Rattle.row_keeper.specs.declared.rows.RowRefusal.{RowRefusal}
use Rattle.row_keeper.specs.declared.rows.RowRule.{RowRule}
use Rattle.row_keeper.specs.declared.rows.RowRule.TheVariants.{Required, Unique, Size, Full}

-- ---- answers

-- a change of the session is answered by true, and where it is refused by an error
abbrev pub too_much : Data
too_much = fault kind.QuotaExceeded []

abbrev pub value_if_taken : Bool → Data → Data
value_if_taken true taken = taken
value_if_taken false taken = too_much

abbrev pub not_found : Data
not_found = fault kind.NotFound []

-- ---- numbers of rows

-- the number of a row: a whole one from 1 to 4,294,967,295, which stands as a count of
-- ten-thousandths
abbrev pub id_in : ℤ → Option ℕ
id_in (pos n) = if n % 10000 == 0 && (nat_le 1 (n / 10000) && nat_le (n / 10000) 4294967295) then
    Some (n / 10000) else None
id_in (negsuc n) = None

-- ---- changes

-- the rows of some tables
abbrev pub rows_among : List Data → List Row
rows_among [] = []
rows_among (y ∷ ys) = rows_in y ++ rows_among ys

-- the values in the fields of a row, and of rows
abbrev pub field_values : Row → List Data
field_values r = map (λ (f : List ℕ × Data). f.1) r

abbrev pub values_among : List Row → List Data
values_among [] = []
values_among (r ∷ rs) = field_values r ++ values_among rs

-- the value that stands under a name after changes, each a record of some columns: that of the last
-- one that has it
abbrev pub changed_value : List ℕ → List Row → Data → Data
changed_value n [] d = d
changed_value n (r ∷ rs) d = changed_value n rs (unwrap_or (item_named n r) d)

-- a row of these columns after changes, each value as one of its column's type
abbrev pub changed_row : ColumnList → List Row → Row → Row
changed_row no_columns changes r = []
changed_row (column n t cs) changes r = (
  n,
  widened
      (changed_value n changes (unwrap_or (item_named n r) blank)) t,
) ∷ changed_row cs changes r

-- the cells of a row after changes
abbrev pub changed_cells : List Column → List Row → List Data → List Data
changed_cells (c ∷ cs) changes (d ∷ ds) = changed_value c.name changes d
    ∷ changed_cells cs changes ds
changed_cells cs changes ds = []

-- the cells of a new row
abbrev pub blank_cells : List Column → List Data
blank_cells columns = map (λ (c : Column). blank) columns

-- the cells of a record
abbrev pub cells_in : List Column → Row → List Data
cells_in columns r = map (λ (c : Column). unwrap_or (item_named c.name r) blank) columns

-- the columns of rows, and a row of blanks
abbrev pub columns_of_rows : Option Shape → ColumnList
columns_of_rows (Some (tables cs)) = cs
columns_of_rows t = no_columns

abbrev pub blank_row : ColumnList → Row
blank_row no_columns = []
blank_row (column n t cs) = (n, blank) ∷ blank_row cs

-- a record as a row; a blank one is a row of blanks
abbrev pub record_row : ColumnList → Data → Row
record_row cs (rec fs) = fields_of fs
record_row cs d = blank_row cs

-- ---- rows of a table

-- a row with its number
abbrev pub whole_row : TableShape → ℕ → List Data → Data
whole_row t id cells = rec (field_list (record_of_row t (record { id = id; cells = cells })))

-- the error of a rule that a row breaks
abbrev pub rule_kind : RowRule → Kind
rule_kind Required = kind.MissingRequired
rule_kind Unique = kind.ConstraintViolated
rule_kind Size = kind.QuotaExceeded
rule_kind Full = kind.QuotaExceeded

-- the name of a column, which counts from 1 behind `ID`; a rule may have none
abbrev pub column_name : List Column → Option ℕ → List ℕ
column_name columns None = []
column_name columns (Some zero) = id_name
column_name [] (Some (suc k)) = []
column_name (c ∷ cs) (Some (suc zero)) = c.name
column_name (c ∷ cs) (Some (suc (suc k))) = column_name cs (Some (suc k))

abbrev pub rule_error : List Column → RowRefusal → Data
rule_error columns r = fault (rule_kind r.rule) (column_name columns r.column)

-- the whole row where it is kept, and else why it isn't
abbrev pub put_answer : TableShape → List Data → Put → Data
put_answer t cells (Id id) = whole_row t id cells
put_answer t cells NoRow = not_found
put_answer t cells (Refused r) = rule_error t.columns r
