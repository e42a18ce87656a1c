-- Groups of the rows of a table by keys, and rows out of their groups.
use Rattle.std.specs.Prelude.{◌≡◌, ℕ, Bool, true, false, not, ◌&&◌, List, [], ◌∷◌, map, flat_map}
use Rattle.std.specs.Prelude.{unwrap_or, None, codes}
use Rattle.std.specs.List.{All, filter}
use Rattle.std.specs.Ordering.{is_eq}
use Rattle.fx_types.specs.Lookup.{item_named}
use Rattle.fx_types.specs.Values.{Data, blank, tab, fault}
use Rattle.fx_core.specs.ColumnLists.{before_last}
use Rattle.fx_tables.specs.ColumnCalls.{without_columns}
use Rattle.fx_tables.specs.RowCalls.{AreKeysOrErrors}
use Rattle.fx_tables.specs.TableRows.{rows_in, table_of}
use Rattle.fx_tables.specs.Unions.{fault_or}
use Rattle.fx_value.specs.Columns.{LacksColumn, Row, fields_only, with_field, fields_without}
use Rattle.fx_value.specs.Order.{order}

-- ---- groups

-- the value of a field, and blank where there is none
abbrev pub value_of : List ℕ → Row → Data
value_of n r = unwrap_or (item_named n r) blank

-- the values of a row under these names: its key
abbrev pub key_of : List (List ℕ) → Row → List Data
key_of ns r = map (λ n. value_of n r) ns

-- whether two keys are equal: at each place `=` holds, or both are blank
abbrev pub is_same_key : List Data → List Data → Bool
is_same_key [] [] = true
is_same_key (d ∷ ds) (e ∷ es) = is_eq (order d e) && is_same_key ds es
is_same_key ds es = false

-- the first row of each key, in the order in which they appear
abbrev pub firsts_of : List (List ℕ) → List Row → List Row
firsts_of ns [] = []
firsts_of ns (r ∷ rs) = r ∷ filter (λ s. not (is_same_key (key_of ns r) (key_of ns s)))
    (firsts_of ns rs)

-- THE group of a row: the rows of its key, in their order, without the columns of the keys
abbrev pub group_of : List (List ℕ) → List Row → Row → List Row
group_of ns rows r = without_columns ns (filter (λ s. is_same_key (key_of ns r) (key_of ns s)) rows)

-- the fields of a row's key, and its group under a name
abbrev pub grouped_row : List (List ℕ) → List ℕ → List Row → Row → Row
grouped_row ns g rows r = with_field g (table_of (group_of ns rows r)) (fields_only ns r)

-- the first error in a key, from the first row on, else a row for each key
abbrev pub grouped_or : List (List ℕ) → List ℕ → List Row → Data
grouped_or ns g rows = fault_or (flat_map (key_of ns) rows)
    (table_of (map (grouped_row ns g rows) (firsts_of ns rows)))

-- what can be grouped: no column has the name of the groups, and the values of each key are scalars
-- of one type, or blank, unless there is an error among them
pub record CanGroup (ns : List (List ℕ)) (g : List ℕ) (rows : List Row) : Type 0 where
  pub new : LacksColumn g rows
  pub keys : All (λ n. AreKeysOrErrors (map (value_of n) rows)) ns

-- ---- rows out of their groups

-- a record with each of these fields
abbrev pub with_fields : Row → Row → Row
with_fields [] r = r
with_fields (f ∷ fs) r = with_fields fs (with_field f.0 f.1 r)

-- the rows of a row's group, each beside the row's other fields; a blank group has none
abbrev pub rows_under : List ℕ → Row → List Row
rows_under g r = map (λ s. with_fields s (fields_without g r)) (rows_in (value_of g r))

-- the first error in the place of a group, else the rows of all groups
abbrev pub ungrouped_or : List ℕ → List Row → Data
ungrouped_or g rows = fault_or (map (value_of g) rows) (table_of (flat_map (rows_under g) rows))

-- no field of the second record has the name of one of the first
abbrev pub IsApart : Row → Row → Type 0
IsApart r s = All (λ f. item_named f.0 r ≡ None) s

-- no field of a row of a group has the name of another field of the group's row
abbrev pub CanUngroup : List ℕ → List Row → Type 0
CanUngroup g rows = All (λ r. All (IsApart (fields_without g r)) (rows_in (value_of g r))) rows

-- ---- by the names of a call
abbrev pub last_name : List (List ℕ) → List ℕ
last_name [] = []
last_name (n ∷ []) = n
last_name (n ∷ m ∷ ns) = last_name (m ∷ ns)

-- `GroupBy`: keys, and behind them the name of the groups
abbrev pub grouped_by : List (List ℕ) → List Row → Data
grouped_by ns rows = grouped_or (before_last ns) (last_name ns) rows

-- `Ungroup`: the name of the groups
abbrev pub ungrouped_by : List (List ℕ) → List Row → Data
ungrouped_by ns rows = ungrouped_or (last_name ns) rows
