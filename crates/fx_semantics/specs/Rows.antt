-- The functions of tables: from the rows, and from the meanings of the other parts.
use Rattle.std.specs.Prelude.{◌≡◌, ℕ, Bool, true, false, List, [], ◌∷◌, map, length, Option, Some}
use Rattle.std.specs.Prelude.{None}
use Rattle.fx_types.specs.Values.{Data, text, rec}
use Rattle.fx_core.specs.declared.functions.Fun.{Fun}
use Rattle.fx_core.specs.declared.functions.Fun.TheVariants as fun
use Rattle.fx_core.specs.declared.literals.SortOrder.{SortOrder}
use Rattle.fx_core.specs.declared.literals.SortOrder.TheVariants as order
use Rattle.fx_tables.specs.AggregateCalls.{IsSumOf, IsLeastOf, IsGreatestOf, averaged, concatenated}
use Rattle.fx_tables.specs.AggregateCalls.{concatenated_by}
use Rattle.fx_tables.specs.ColumnCalls.{renamed_columns, with_columns, without_columns}
use Rattle.fx_tables.specs.Ends.{emptiness_of, first_rows, last_of, last_rows}
use Rattle.fx_tables.specs.RowCalls.{IsCountIfOf, IsCountValue, IsSortOf, distinct_or, filtered}
use Rattle.fx_tables.specs.RowCalls.{first_row_record, for_all_of, looked_up, verdict_of}
pub use Rattle.fx_tables.specs.TableRows.{fields_of, rows_of, rows_in, table_of}
use Rattle.fx_value.specs.Columns.{Row, fields_only}
use Rattle.fx_tables.specs.Groups.{grouped_by, ungrouped_by}
use Rattle.fx_scalar.specs.LazyForms.{ErrorOr}
use Rattle.fx_semantics.specs.Around.{Around, Meaning, AreEach, AreValues, inside}

-- ---- formulas

-- R holds of the values of the one formula for the rows
abbrev pub OfEach : List Row → List Meaning → Around → (List Data → Type 0) → Type 0
OfEach rows (F ∷ []) a R = (ds : List Data) × AreEach F a rows ds × R ds
OfEach rows Ps a R = ⊥

-- conditions as one: all are evaluated; the first error from the left, else whether all hold
abbrev pub IsConjunction : List Meaning → Meaning
IsConjunction Cs a v = (ds : List Data) × AreValues Cs a ds × (v ≡ verdict_of ds)

-- R holds of what the conditions come to for the rows
abbrev pub OfVerdicts : List Row → List Meaning → Around → (List Data → Type 0) → Type 0
OfVerdicts rows Cs a R = (ds : List Data) × AreEach (IsConjunction Cs) a rows ds × R ds

-- the row that was found is the scope of a formula; an error or a blank one is the answer
abbrev pub IsOfFound : Data → Meaning → Meaning
IsOfFound (rec fs) F a v = F (inside a (rec fs)) v
IsOfFound d F a v = v ≡ d

-- `LookUp`: the first row whose condition holds, or a formula of that row
abbrev pub IsLookedUp : List Row → List Meaning → Meaning
IsLookedUp rows (C ∷ []) a v = (ds : List Data) × AreEach C a rows ds × (v ≡ looked_up rows ds)
IsLookedUp rows (C ∷ F ∷ []) a v = (ds : List Data) × AreEach C a rows ds
    × IsOfFound (looked_up rows ds) F a v
IsLookedUp rows Ps a v = ⊥

-- some of the rows: as many as the number says, where one is given
abbrev pub TakesRows : (Option Data → Data) → List Meaning → Meaning
TakesRows taken [] a v = v ≡ taken None
TakesRows taken (N ∷ []) a v = (n : Data) × N a n × (v ≡ taken (Some n))
TakesRows taken Ps a v = ⊥

-- `Concat`
abbrev pub IsConcat : List Row → List Meaning → Meaning
IsConcat rows (F ∷ []) a v = (ds : List Data) × AreEach F a rows ds × (v ≡ concatenated [] ds)
IsConcat rows (F ∷ S ∷ []) a v = (ds : List Data) × (s : Data) × AreEach F a rows ds × S a s
    × (v ≡ concatenated_by s ds)
IsConcat rows Ps a v = ⊥

abbrev pub is_falling : SortOrder → Bool
is_falling order.Ascending = false
is_falling order.Descending = true

-- ---- columns; their names stand as texts

abbrev pub AreNames : List Meaning → Around → List (List ℕ) → Type 0
AreNames [] a [] = Unit {0}
AreNames (P ∷ Ps) a (n ∷ ns) = P a (text n) × AreNames Ps a ns
AreNames Ps a ns = ⊥

-- new columns, each a name and its formula's values for the rows as given; errors stay in the
-- fields
abbrev pub AreNew : List Row → List Meaning → Around → List (List ℕ × List Data) → Type 0
AreNew rows [] a [] = Unit {0}
AreNew rows (N ∷ F ∷ Ps) a (c ∷ cs) = N a (text c.0) × AreEach F a rows c.1 × AreNew rows Ps a cs
AreNew rows Ps a cs = ⊥

-- names in pairs: that of a column, and its new one
abbrev pub AreRenamings : List Meaning → Around → List (List ℕ × List ℕ) → Type 0
AreRenamings [] a [] = Unit {0}
AreRenamings (N ∷ M ∷ Ps) a (p ∷ ps) = N a (text p.0) × M a (text p.1) × AreRenamings Ps a ps
AreRenamings Ps a ps = ⊥

-- what is made by the names of columns
abbrev pub MakesByNames : (List (List ℕ) → Data) → List Meaning → Meaning
MakesByNames made Ps a v = (ns : List (List ℕ)) × AreNames Ps a ns × (v ≡ made ns)

-- ---- the table: what a function makes of the rows
abbrev pub IsMade : Fun → List Row → List Meaning → Meaning
IsMade fun.Filter rows Ps a v = OfVerdicts rows Ps a (λ ds. v ≡ filtered rows ds)
IsMade fun.LookUp rows Ps a v = IsLookedUp rows Ps a v
IsMade (fun.Sort o) rows Ps a v = OfEach rows Ps a (λ ds. IsSortOf (is_falling o) rows ds v)
IsMade fun.First rows Ps a v = v ≡ first_row_record rows
IsMade fun.Last rows Ps a v = v ≡ last_of rows
IsMade fun.FirstN rows Ps a v = TakesRows (first_rows rows) Ps a v
IsMade fun.LastN rows Ps a v = TakesRows (last_rows rows) Ps a v
IsMade fun.CountRows rows Ps a v = IsCountValue (length rows) v
IsMade fun.CountIf rows Ps a v = OfVerdicts rows Ps a (λ ds. IsCountIfOf ds v)
IsMade fun.IsEmpty rows Ps a v = v ≡ emptiness_of rows
IsMade fun.SumRows rows Ps a v = OfEach rows Ps a (λ ds. IsSumOf ds v)
IsMade fun.MinRows rows Ps a v = OfEach rows Ps a (λ ds. IsLeastOf ds v)
IsMade fun.MaxRows rows Ps a v = OfEach rows Ps a (λ ds. IsGreatestOf ds v)
IsMade fun.AverageRows rows Ps a v = OfEach rows Ps a (λ ds. v ≡ averaged ds)
IsMade fun.AddColumns rows Ps a v = (cs : List (List ℕ × List Data)) × AreNew rows Ps a cs
    × (v ≡ table_of (with_columns cs rows))
IsMade fun.DropColumns rows Ps a v = MakesByNames (λ ns. table_of (without_columns ns rows)) Ps a v
IsMade fun.ShowColumns rows Ps a v = MakesByNames (λ ns. table_of (map (fields_only ns) rows)) Ps a
    v
IsMade fun.RenameColumns rows Ps a v = (ps : List (List ℕ × List ℕ)) × AreRenamings Ps a ps
    × (v ≡ table_of (renamed_columns ps rows))
IsMade fun.GroupBy rows Ps a v = MakesByNames (λ ns. grouped_by ns rows) Ps a v
IsMade fun.Ungroup rows Ps a v = MakesByNames (λ ns. ungrouped_by ns rows) Ps a v
IsMade fun.Distinct rows Ps a v = OfEach rows Ps a (λ ds. v ≡ distinct_or ds)
IsMade fun.ForAll rows Ps a v = OfEach rows Ps a (λ ds. v ≡ for_all_of ds)
IsMade fun.Concat rows Ps a v = IsConcat rows Ps a v
IsMade f rows Ps a v = ⊥

-- a call over a table, which comes first: an error in its place is the answer
abbrev pub IsTableCall : Fun → List Meaning → Meaning
IsTableCall f [] a v = ⊥
IsTableCall f (P ∷ Ps) a v = (w : Data) × P a w × ErrorOr w (IsMade f (rows_in w) Ps a v) v
