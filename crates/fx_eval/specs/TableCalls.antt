-- What a function makes of the rows of a table, and of what its other parts give.
use Rattle.std.specs.Prelude.{◌≡◌, ℕ, true, List, [], ◌∷◌, map, length, if◌then◌else◌}
use Rattle.std.specs.List.{zip}
use Rattle.fx_types.specs.Values.{Data, blank, text, boolean}
use Rattle.fx_semantics.specs.Rows.{is_falling, table_of}
use Rattle.fx_core.specs.declared.functions.Fun.{Fun}
use Rattle.fx_core.specs.declared.functions.Fun.TheVariants as fun
use Rattle.fx_tables.specs.AggregateCalls.{IsSumOf, IsLeastOf, IsGreatestOf, averaged}
use Rattle.fx_tables.specs.AggregateCalls.{concatenated_by}
use Rattle.fx_tables.specs.ColumnCalls.{CanAddColumns, CanRename, renamed_columns, with_columns}
use Rattle.fx_tables.specs.ColumnCalls.{without_columns}
use Rattle.fx_tables.specs.Ends.{emptiness_of, first_rows, last_of, last_rows}
use Rattle.fx_tables.specs.RowCalls.{AreKeysOrErrors, IsCountIfOf, IsCountValue, IsSortOf}
use Rattle.fx_tables.specs.RowCalls.{distinct_or, filtered, first_row_record, for_all_of, holds}
use Rattle.fx_tables.specs.RowCalls.{looked_up, verdict_of}
use Rattle.fx_core.specs.ColumnLists.{before_last}
use Rattle.fx_tables.specs.Groups.{CanGroup, CanUngroup, grouped_by, last_name, ungrouped_by}
use Rattle.fx_value.specs.Columns.{Row, fields_only}
use Rattle.fx_tables.specs.Unions.{fault_or}
use Rattle.fx_eval.specs.Given.{ArgumentValues, once, each, new_columns, count_argument}
use Rattle.fx_eval.specs.Given.{column_names_in, pairs_in, separator_in, values_in}

-- ---- conditions
-- one more condition of each row
abbrev pub with_condition : List Data → List Data → List Data
with_condition vs ds = map (λ (p : Data × Data). verdict_of (p.0 ∷ p.1 ∷ [])) (zip vs ds)

-- what conditions come to for each row, each given by its values for the rows, behind earlier ones
abbrev pub verdicts_behind : List Data → List ArgumentValues → List Data
verdicts_behind vs [] = vs
verdicts_behind vs (each ds ∷ gs) = verdicts_behind (with_condition vs ds) gs
verdicts_behind vs gs = []

-- what they come to, from the first on
abbrev pub verdicts : List Row → List ArgumentValues → List Data
verdicts rows gs = verdicts_behind (map (λ (r : Row). boolean true) rows) gs

-- the value that stands where the first condition holds, and blank where none does
abbrev pub value_found : List Data → List Data → Data
value_found (c ∷ cs) (d ∷ ds) = if holds c then d else value_found cs ds
value_found cs ds = blank

-- `LookUp`: the first error of a condition, else the first row whose condition holds, or the
-- formula's value for that row
abbrev pub look_up_answer : List Row → List ArgumentValues → Data
look_up_answer rows (each cs ∷ each ds ∷ gs) = fault_or cs (value_found cs ds)
look_up_answer rows gs = looked_up rows (values_in gs)

-- ---- the table: what each function makes
abbrev pub IsMadeOf : Fun → List Row → List ArgumentValues → Data → Type 0
IsMadeOf fun.Filter rows gs v = v ≡ filtered rows (verdicts rows gs)
IsMadeOf fun.LookUp rows gs v = v ≡ look_up_answer rows gs
IsMadeOf (fun.Sort o) rows gs v = IsSortOf (is_falling o) rows (values_in gs) v
IsMadeOf fun.First rows gs v = v ≡ first_row_record rows
IsMadeOf fun.Last rows gs v = v ≡ last_of rows
IsMadeOf fun.FirstN rows gs v = v ≡ first_rows rows (count_argument gs)
IsMadeOf fun.LastN rows gs v = v ≡ last_rows rows (count_argument gs)
IsMadeOf fun.CountRows rows gs v = IsCountValue (length rows) v
IsMadeOf fun.CountIf rows gs v = IsCountIfOf (verdicts rows gs) v
IsMadeOf fun.IsEmpty rows gs v = v ≡ emptiness_of rows
IsMadeOf fun.SumRows rows gs v = IsSumOf (values_in gs) v
IsMadeOf fun.MinRows rows gs v = IsLeastOf (values_in gs) v
IsMadeOf fun.MaxRows rows gs v = IsGreatestOf (values_in gs) v
IsMadeOf fun.AverageRows rows gs v = v ≡ averaged (values_in gs)
IsMadeOf fun.AddColumns rows gs v = v ≡ table_of (with_columns (new_columns gs) rows)
IsMadeOf fun.DropColumns rows gs v = v ≡ table_of (without_columns (column_names_in gs) rows)
IsMadeOf fun.ShowColumns rows gs v = v ≡ table_of (map (fields_only (column_names_in gs)) rows)
IsMadeOf fun.RenameColumns rows gs v = v ≡ table_of (renamed_columns (pairs_in gs) rows)
IsMadeOf fun.GroupBy rows gs v = v ≡ grouped_by (column_names_in gs) rows
IsMadeOf fun.Ungroup rows gs v = v ≡ ungrouped_by (column_names_in gs) rows
IsMadeOf fun.Distinct rows gs v = v ≡ distinct_or (values_in gs)
IsMadeOf fun.ForAll rows gs v = v ≡ for_all_of (values_in gs)
IsMadeOf fun.Concat rows gs v = v ≡ concatenated_by (separator_in gs) (values_in gs)
IsMadeOf f rows gs v = ⊥

-- ---- what each function takes
-- values for so many rows
abbrev pub AreFor : ℕ → ArgumentValues → Type 0
AreFor n (each ds) = length ds ≡ n
AreFor n g = ⊥

-- one formula
abbrev pub IsOneFormula : List ArgumentValues → Type 0
IsOneFormula (each ds ∷ []) = Unit {0}
IsOneFormula gs = ⊥

-- formulas
abbrev pub AreFormulas : ℕ → List ArgumentValues → Type 0
AreFormulas n [] = Unit {0}
AreFormulas n (g ∷ gs) = AreFor n g × AreFormulas n gs

-- a condition, and a formula or none
abbrev pub IsConditionAndFormula : ℕ → List ArgumentValues → Type 0
IsConditionAndFormula n (g ∷ []) = AreFor n g
IsConditionAndFormula n (g ∷ h ∷ []) = AreFor n g × AreFor n h
IsConditionAndFormula n gs = ⊥

-- a value or none
abbrev pub IsOneOrNone : List ArgumentValues → Type 0
IsOneOrNone [] = Unit {0}
IsOneOrNone (once d ∷ []) = Unit {0}
IsOneOrNone gs = ⊥

-- a formula, and a value or none
abbrev pub IsJoining : List ArgumentValues → Type 0
IsJoining (each ds ∷ []) = Unit {0}
IsJoining (each ds ∷ once d ∷ []) = Unit {0}
IsJoining gs = ⊥

-- names of columns
abbrev pub AreColumnNames : List ArgumentValues → Type 0
AreColumnNames [] = Unit {0}
AreColumnNames (once (text n) ∷ gs) = AreColumnNames gs
AreColumnNames gs = ⊥

-- names, each before a formula
abbrev pub AreNewColumns : List ArgumentValues → Type 0
AreNewColumns [] = Unit {0}
AreNewColumns (once (text n) ∷ each ds ∷ gs) = AreNewColumns gs
AreNewColumns gs = ⊥

-- names of columns in pairs
abbrev pub AreNamePairs : List ArgumentValues → Type 0
AreNamePairs [] = Unit {0}
AreNamePairs (once (text n) ∷ once (text m) ∷ gs) = AreNamePairs gs
AreNamePairs gs = ⊥

-- what a function can make something of
abbrev pub CanMake : Fun → List Row → List ArgumentValues → Type 0
CanMake fun.Filter rows gs = AreFormulas (length rows) gs
CanMake fun.LookUp rows gs = IsConditionAndFormula (length rows) gs
CanMake (fun.Sort o) rows gs = IsOneFormula gs × (length (values_in gs) ≡ length rows)
CanMake fun.First rows gs = Unit {0}
CanMake fun.Last rows gs = Unit {0}
CanMake fun.FirstN rows gs = IsOneOrNone gs
CanMake fun.LastN rows gs = IsOneOrNone gs
CanMake fun.CountRows rows gs = Unit {0}
CanMake fun.CountIf rows gs = AreFormulas (length rows) gs
CanMake fun.IsEmpty rows gs = Unit {0}
CanMake fun.SumRows rows gs = IsOneFormula gs
CanMake fun.MinRows rows gs = IsOneFormula gs
CanMake fun.MaxRows rows gs = IsOneFormula gs
CanMake fun.AverageRows rows gs = IsOneFormula gs
CanMake fun.AddColumns rows gs = AreNewColumns gs × CanAddColumns (new_columns gs) rows
CanMake fun.DropColumns rows gs = AreColumnNames gs
CanMake fun.ShowColumns rows gs = AreColumnNames gs
CanMake fun.RenameColumns rows gs = AreNamePairs gs × CanRename (pairs_in gs) rows
CanMake fun.GroupBy rows gs = AreColumnNames gs
    × CanGroup (before_last (column_names_in gs)) (last_name (column_names_in gs)) rows
CanMake fun.Ungroup rows gs = AreColumnNames gs × CanUngroup (last_name (column_names_in gs)) rows
CanMake fun.Distinct rows gs = IsOneFormula gs × AreKeysOrErrors (values_in gs)
CanMake fun.ForAll rows gs = IsOneFormula gs
CanMake fun.Concat rows gs = IsJoining gs
CanMake f rows gs = ⊥
