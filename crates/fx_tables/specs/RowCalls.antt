-- The calls on rows, as functions of the rows and of what a formula gave for each of them in turn.
use Rattle.std.specs.Prelude.{◌≡◌, ℕ, pos, ◌*ℤ◌, Bool, true, false, List, [], ◌∷◌, map, length, not}
use Rattle.std.specs.Prelude.{MatchOption, None}
use Rattle.std.specs.List.{filter, find, list_all, zip}
use Rattle.fx_number.specs.Decimal.{IsInRange}
use Rattle.fx_types.specs.Types.{Shape, tables}
use Rattle.fx_types.specs.Values.{Data, blank, number, boolean, rec, tab, fault, RowList, no_rows}
use Rattle.fx_types.specs.Values.{row, field_list, row_list}
use Rattle.fx_types.specs.declared.faults.Kind.TheVariants.{Numeric}
use Rattle.fx_value.specs.Columns.{Row}
use Rattle.fx_tables.specs.Distinct.{distinct_of, value_row}
use Rattle.fx_value.specs.Ordered.{AreKeys, IsOrderedBy}
use Rattle.fx_tables.specs.Unions.{fault_or, fields_in, is_fault}

-- the first error of these values, and where there is none a value of which P holds
abbrev pub IsFirstErrorOr : List Data → (Data → Type 0) → Data → Type 0
IsFirstErrorOr ds P d = MatchOption (find is_fault ds) (P d) (λ e. d ≡ e)

-- a condition holds where it is true; a blank one does not
abbrev pub holds : Data → Bool
holds (boolean b) = b
holds _ = false

-- what the conditions of one row come to: the first error from the left, else whether all hold
abbrev pub verdict_of : List Data → Data
verdict_of cs = fault_or cs (boolean (list_all holds cs))

-- the rows whose condition holds
abbrev pub kept_rows : List Row → List Data → List Row
kept_rows rows cs = map (λ (p : Row × Data). p.0)
    (filter (λ (p : Row × Data). holds p.1) (zip rows cs))

-- `Filter`: the first error of a condition in row order, else the rows whose condition holds
abbrev pub filtered : List Row → List Data → Data
filtered rows cs = fault_or cs (tab (row_list (kept_rows rows cs)))

-- the first row as a record, or blank where there is none
abbrev pub first_row_record : List Row → Data
first_row_record [] = blank
first_row_record (r ∷ rs) = rec (field_list r)

-- `LookUp`: the first error of a condition in row order, else the first row whose condition holds
abbrev pub looked_up : List Row → List Data → Data
looked_up rows cs = fault_or cs (first_row_record (kept_rows rows cs))

-- a count as a number, and Numeric without a message where it is out of range
abbrev pub IsCountValue : ℕ → Data → Type 0
IsCountValue n (number z) = (z ≡ pos n *ℤ pos 10000) × IsInRange (pos n *ℤ pos 10000)
IsCountValue n (fault k cs) = (k ≡ Numeric) × (cs ≡ []) × ¬ IsInRange (pos n *ℤ pos 10000)
IsCountValue n _ = ⊥

-- `CountIf`: the first error of a condition in row order, else how many of them hold
abbrev pub IsCountIfOf : List Data → Data → Type 0
IsCountIfOf cs = IsFirstErrorOr cs (IsCountValue (length (filter holds cs)))

-- whether a value is blank
abbrev pub is_blank : Data → Bool
is_blank blank = true
is_blank _ = false

-- each value as a row: a record as it is, and a scalar as the field `Value`
abbrev pub rows_by_values : List Data → RowList
rows_by_values [] = no_rows
rows_by_values (d ∷ ds) = row (fields_in d) (rows_by_values ds)

-- `ForAll`: the first error in row order, else the values that aren't blank as rows
abbrev pub for_all_of : List Data → Data
for_all_of ds = fault_or ds (tab (rows_by_values (filter (λ d. not (is_blank d)) ds)))

-- the types that rows can be made of: records, scalars, and blank as a scalar
abbrev pub CanBeRowType : Shape → Type 0
CanBeRowType (tables cs) = ⊥
CanBeRowType t = Unit {0}

-- `Distinct`: the first error in row order, else each value once in a column `Value`
abbrev pub distinct_or : List Data → Data
distinct_or ds = fault_or ds (tab (row_list (map value_row (distinct_of ds))))

-- a table of the rows in the order of their keys
abbrev pub IsTableBy : Bool → List Data → List Row → Data → Type 0
IsTableBy down keys rows (tab rs) = (ordered : List Row) × (rs ≡ row_list ordered)
    × IsOrderedBy down keys rows ordered
IsTableBy down keys rows _ = ⊥

-- `Sort`: the first error of a key in row order, else the rows in the order of their keys
abbrev pub IsSortOf : Bool → List Row → List Data → Data → Type 0
IsSortOf down rows keys = IsFirstErrorOr keys (IsTableBy down keys rows)

-- scalars of one type, or blank, unless there is an error among them
abbrev pub AreKeysOrErrors : List Data → Type 0
AreKeysOrErrors ds = find is_fault ds ≡ None → AreKeys ds
