-- The rules that rows keep.
use Rattle.std.specs.Prelude.{ℕ, ◌+◌, ◌==◌, Bool, true, false, not, ◌&&◌, ◌||◌, nat_le, nat_lt}
use Rattle.std.specs.Prelude.{cond, List, ◌∷◌, filter, length, sum_by, Option, Some, None, is_none}
use Rattle.std.specs.List.{list_any}
use Rattle.std.specs.Ordering.{is_eq}
use Rattle.fx_types.specs.Values.{Data, blank}
use Rattle.fx_core.specs.declared.schema.Column.{Column}
use Rattle.fx_value.specs.Order.{order}
use Rattle.fx_value.specs.Weight.{weight_of}
use Rattle.row_queries.specs.RowTests.{is_empty_value}
use Rattle.row_queries.specs.TableRows.{value_at, values_of}
use Rattle.row_queries.specs.declared.rows.Row.{Row}
use Rattle.row_keeper.specs.Tables.{TableState, all_rows, has_id, state_at}
use Rattle.row_keeper.specs.declared.rows.RowRefusal.{RowRefusal}
use Rattle.row_keeper.specs.declared.rows.RowRule.{RowRule}
use Rattle.row_keeper.specs.declared.rows.RowRule.TheVariants.{Required, Unique, Size, Full}

abbrev pub is_blank : Data → Bool
is_blank blank = true
is_blank d = false

-- the same value: the order doesn't tell them apart
abbrev pub is_same_key : Data → Data → Bool
is_same_key a b = is_eq (order a b)

-- a required column is blank or ""
abbrev pub lacks : Column → ℕ → Data → Bool
lacks c k d = c.required && is_empty_value d

-- a row has this value in the column of this number
abbrev pub has_value : ℕ → Data → Row → Bool
has_value k d r = is_same_key (value_at (values_of r) k) d

-- the value of a unique column, the one of this number, stands in another row; blank may stand in
-- many
abbrev pub repeats : List Row → Column → ℕ → Data → Bool
repeats others c k d = c.unique && (not (is_blank d) && list_any (has_value k d) others)

-- the number of the first column that breaks a rule, where these cells stand in these columns,
-- which are numbered from k on
abbrev pub first_broken : (Column → ℕ → Data → Bool) → ℕ → List Column → List Data → Option ℕ
first_broken breaks k (c ∷ cs) (d ∷ ds) = cond (breaks c k d) (Some k)
    (first_broken breaks (k + 1) cs ds)
first_broken breaks k cs ds = None

-- what the cells of a row weigh
abbrev pub cells_weight : List Data → ℕ
cells_weight cells = sum_by weight_of cells

-- a table takes no new row: it has 200,000 rows, all tables have 500,000, or its last number is the
-- greatest
abbrev pub is_table_full : TableState → ℕ → Bool
is_table_full state all = nat_le 200000 (length state.rows)
    || (nat_le 500000 all || state.last == 4294967295)

-- the rows of a table but the one of this number; a new row has none
abbrev pub others : Option ℕ → List Row → List Row
others None rows = rows
others (Some id) rows = filter (λ r. not (has_id id r)) rows

-- a rule is broken in a column, where one breaks it
abbrev pub in_column : RowRule → Option ℕ → Option RowRefusal
in_column rule None = None
in_column rule (Some k) = Some (record { column = Some k; rule = rule })

-- a rule is broken, where it is
abbrev pub where_broken : RowRule → Bool → Option RowRefusal
where_broken rule false = None
where_broken rule true = Some (record { column = None; rule = rule })

-- the first of two, where one is broken
abbrev pub first_of_two : Option RowRefusal → Option RowRefusal → Option RowRefusal
first_of_two None b = b
first_of_two (Some r) b = Some r

-- THE first rule that cells break in the row of this number of a table, or in a new one, where all
-- tables have so many rows: `required` and `unique` by columns, `size`, and `full` for new rows.
-- `ID` is column 0.
abbrev pub rule_in : List Column → TableState → ℕ → Option ℕ → List Data → Option RowRefusal
rule_in columns state all id cells =
    first_of_two (in_column Required (first_broken lacks 1 columns cells))
    (first_of_two (in_column Unique (first_broken (repeats (others id state.rows)) 1 columns cells))
    (first_of_two (where_broken Size (nat_lt 2048 (cells_weight cells)))
    (where_broken Full (is_none id && is_table_full state all))))

-- the same of one of several tables
abbrev pub rule_of : List Column → List TableState → ℕ → Option ℕ → List Data → Option RowRefusal
rule_of columns states table id cells = rule_in columns (state_at states table) (all_rows states) id
    cells
