-- Values that become the rows of one table, until the first error.
use Rattle.std.proofs.Common.{◌≡◌, ℕ, List, [], ◌∷◌, ◌++◌, map, Bool, true, false, bytes_eq, Option, Some, None, option_map, unwrap_or, refl, sym, ap, subst, cond}
use Rattle.std.specs.Prelude.{◌&&◌}
use Rattle.std.specs.List.{All, find}
use Rattle.std.proofs.lemmas.List.Elements.{All-head, All-tail}
use Rattle.std.proofs.lemmas.Bool.{and_from}
use Rattle.fx_types.specs.Rising.{AreNamesRising}
use Rattle.fx_types.specs.Types.{Shape, records, tables, ColumnList, no_columns, column, column_list}
use Rattle.fx_types.specs.Values.{Data, blank, number, text, boolean, date, rec, tab, fault, FieldList, no_fields, field, RowList, no_rows, row, field_list, row_list}
use Rattle.fx_types.specs.ValueView.{view}
use Rattle.fx_types.specs.declared.faults.Fault.{Fault as FaultData}
use Rattle.fx_types.specs.declared.values.Value.{Value}
use Rattle.fx_types.specs.declared.values.Value.TheVariants.{Blank, Number, Text, Boolean, Date, Rec, Tab, Fault}
use Rattle.fx_value.specs.Coercion.{CanWiden, Widens, same, joined, widened_fields}
use Rattle.fx_value.specs.Fits.{fits_in, fields_fit}
use Rattle.fx_value.proofs.Unions.{union_of_none, rises_list}
use Rattle.fx_value.proofs.Widenings.{own_name}
use Rattle.fx_value.specs.Columns.{Row}
use Rattle.fx_tables.specs.Distinct.{value_name}
use Rattle.fx_tables.specs.Unions.{is_fault, fault_or, fields_in, CanBeRow, values_as_rows}

-- a scalar of the one column's type fits it
scalar_fits : (cs : ColumnList) (d : Data) → (t : Shape) × (cs ≡ column value_name t no_columns) × (fits_in d t ≡ true) → fields_fit (field value_name d no_fields) cs ≡ true
scalar_fits cs d p =
    let P : ColumnList → Type 0 = λ ds. fields_fit (field value_name d no_fields) ds ≡ true in
    subst P (sym p.1) (and_from (bytes_eq value_name value_name) (fits_in d p.0 && true) (own_name value_name) (and_from (fits_in d p.0) true p.2 refl))

scalar_widens : (cs : ColumnList) (d : Data) → (t : Shape) × (cs ≡ column value_name t no_columns) × (fits_in d t ≡ true) → CanWiden (rec (field value_name d no_fields)) (records cs)
scalar_widens cs d p = record { from = records cs; fitting = scalar_fits cs d p; widens = same }

-- what can be a row can be widened to one
pub can_widen : (cs : List (List ℕ × Shape)) (d : Data) → AreNamesRising cs → is_fault d ≡ false → CanBeRow (column_list cs) d → CanWiden (rec (fields_in d)) (records (column_list cs))
can_widen cs blank r f h = record {
  from = records no_columns;
  fitting = refl;
  widens = joined (records no_columns) (records (column_list cs)) (records (column_list cs)) same (ap (option_map records) (union_of_none (column_list cs) (rises_list cs r)));
}
can_widen cs (rec fs) r f h = h
can_widen cs (tab rs) r f h = absurd h
can_widen cs (fault k m) r f h = cc
can_widen cs (number z) r f h = scalar_widens (column_list cs) (number z) h
can_widen cs (text w) r f h = scalar_widens (column_list cs) (text w) h
can_widen cs (boolean b) r f h = scalar_widens (column_list cs) (boolean b) h
can_widen cs (date z) r f h = scalar_widens (column_list cs) (date z) h

pub no_fault : (v : Value) → ((x : FaultData) → v ≡ Fault x → ⊥) → is_fault (view v) ≡ false
no_fault Blank h = refl
no_fault (Number n) h = refl
no_fault (Text w) h = refl
no_fault (Boolean b) h = refl
no_fault (Date d) h = refl
no_fault (Rec fs) h = refl
no_fault (Tab rs) h = refl
no_fault (Fault f) h = absurd (h f refl)

-- one more value without an error before it, and one that is an error
pub none_push : (ds : List Value) (v : Value) → find is_fault (map view ds) ≡ None → is_fault (view v) ≡ false → find is_fault (map view (ds ++ v ∷ [])) ≡ None
none_push [] v h f = rw f refl
none_push (d ∷ ds) v h f = by (is_fault (view d)) (λ k. none_push ds v k f) h
  where
    by : (b : Bool) → (find is_fault (map view ds) ≡ None → find is_fault (map view (ds ++ v ∷ [])) ≡ None) → cond b (Some (view d)) (find is_fault (map view ds)) ≡ None → cond b (Some (view d)) (find is_fault (map view (ds ++ v ∷ []))) ≡ None
    by true k e = cc
    by false k e = k e

pub first_fault : (ds : List Value) (v : Value) (es : List Value) (d : Data) → find is_fault (map view ds) ≡ None → is_fault (view v) ≡ true → fault_or (map view (ds ++ v ∷ es)) d ≡ view v
first_fault [] v es d h f = rw f refl
first_fault (x ∷ ds) v es d h f = by (is_fault (view x)) (λ k. first_fault ds v es d k f) h
  where
    by : (b : Bool) → (find is_fault (map view ds) ≡ None → unwrap_or (find is_fault (map view (ds ++ v ∷ es))) d ≡ view v) → cond b (Some (view x)) (find is_fault (map view ds)) ≡ None → unwrap_or (cond b (Some (view x)) (find is_fault (map view (ds ++ v ∷ es)))) d ≡ view v
    by true k e = cc
    by false k e = k e

-- one more row
pub rows_of_push : (cs : ColumnList) (ws : List Row) (ds : List Value) (w : Row) (v : Value) → row_list ws ≡ values_as_rows cs (map view ds) → field_list w ≡ widened_fields (fields_in (view v)) cs → row_list (ws ++ w ∷ []) ≡ values_as_rows cs (map view (ds ++ v ∷ []))
rows_of_push cs [] [] w v h e = ap (λ z. row z no_rows) e
rows_of_push cs [] (d ∷ ds) w v h e = cc
rows_of_push cs (x ∷ ws) [] w v h e = cc
rows_of_push cs (x ∷ ws) (d ∷ ds) w v h e =
    let a : field_list x ≡ widened_fields (fields_in (view d)) cs = cc in
    let b : row_list ws ≡ values_as_rows cs (map view ds) = cc in
    λ i. row (a i) (rows_of_push cs ws ds w v b e i)

-- what holds of all holds of one in the middle
pub at_middle : (P : Data → Type 0) (ds : List Value) (v : Value) (es : List Value) → All P (map view (ds ++ v ∷ es)) → P (view v)
at_middle P [] v es h = All-head P (view v) (map view es) h
at_middle P (d ∷ ds) v es h = at_middle P ds v es (All-tail P (view d) (map view (ds ++ v ∷ es)) h)
