-- Rows that stay where others are taken out.
use Rattle.std.proofs.Common.{◌≡◌, List, [], ◌∷◌, ◌++◌, true, map, refl, ap, sym, subst, ◌∙◌, append_assoc, inl, inr}
use Rattle.std.proofs.lemmas.List.{append-nil, map-append}
use Rattle.fx_types.specs.declared.values.Value.{Value}
use Rattle.fx_types.specs.declared.values.Value.TheVariants.{Rec}
use Rattle.fx_types.specs.Types.{ColumnList, no_columns, tables}
use Rattle.fx_types.specs.Values.{field_list}
use Rattle.fx_types.specs.ValueView.{view}
use Rattle.fx_semantics.proofs.Tables.{RowsFit, fit_table, table_fits}
use Rattle.fx_semantics.specs.Around.{record_of}
use Rattle.fx_semantics.specs.Rows.{fields_of, table_of}
use Rattle.fx_value.specs.Columns.{Row}
use Rattle.fx_value.specs.Fits.{fits_in}
use Rattle.fx_deeds.specs.Collections.{RemainAfterFilter}
use Rattle.fx_deeds.specs.RemainingRows.{AreRecords, IsFirstValue, values_behind, record_rows}
use Rattle.fx_deeds.specs.RowValues.{record_row}

pub row_back : (r : Row) → fields_of (field_list r) ≡ r
row_back [] = refl
row_back (f ∷ fs) = ap (λ z. f ∷ z) (row_back fs)

-- records are the rows that they were made of
pub rows_back : (vs : List Value) (rows : List Row) → map view vs ≡ map record_of rows → record_rows vs ≡ rows
rows_back [] [] e = refl
rows_back [] (r ∷ rows) e = absurd cc
rows_back (v ∷ vs) [] e = absurd cc
rows_back (v ∷ vs) (r ∷ rows) e =
    let first : view v ≡ record_of r = cc in
    let rest : map view vs ≡ map record_of rows = cc in
    λ i. (ap (record_row no_columns) first ∙ row_back r) i ∷ rows_back vs rows rest i

-- what is left to find decides of the whole
abbrev pub LeavesTo : List Row → List Value → List Row → List Value → List Row → Type 0
LeavesTo rows kept left wanted rest = (more : List Row) → RemainAfterFilter rest (record_rows wanted) more → RemainAfterFilter rows (record_rows kept) (left ++ more)

pub left_start : (rows left : List Row) (kept : List Value) → left ≡ [] → LeavesTo rows kept left kept rows
left_start rows left kept e more h = subst (λ z. RemainAfterFilter rows (record_rows kept) (z ++ more)) (sym e) h

pub left_takes : (rows left rest others : List Row) (kept wanted now : List Value) (r : Row) (v : Value) → rest ≡ r ∷ others → view v ≡ record_of r → now ≡ values_behind wanted → IsFirstValue wanted v →
    LeavesTo rows kept left wanted rest → LeavesTo rows kept left now others
left_takes rows left rest others kept [] now r v e c n f h more k = absurd f
left_takes rows left rest others kept (w ∷ ws) now r v e c n f h more k =
    h more (subst (λ z. RemainAfterFilter z (record_rows (w ∷ ws)) more) (sym e) (inl (ap (record_row no_columns) (f ∙ c) ∙ row_back r, subst (λ z. RemainAfterFilter others (record_rows z) more) n k)))

none_wanted : (rows more : List Row) → RemainAfterFilter rows [] more → more ≡ rows
none_wanted [] more h = h
none_wanted (r ∷ rows) more h = h

first_record : (w : Value) (ws : List Value) → AreRecords (w ∷ ws) → view w ≡ record_of (record_row no_columns (view w))
first_record w ws a = cc

rest_records : (w : Value) (ws : List Value) → AreRecords (w ∷ ws) → AreRecords ws
rest_records w ws a = cc

pub still_records : (wanted now : List Value) → now ≡ values_behind wanted → AreRecords wanted → AreRecords now
still_records [] now n a = subst AreRecords (sym n) a
still_records (w ∷ ws) now n a = subst AreRecords (sym n) (rest_records w ws a)

pub made_records : (vs : List Value) (rows : List Row) → map view vs ≡ map record_of rows → AreRecords vs
made_records vs rows e = e ∙ ap (map record_of) (sym (rows_back vs rows e))

stays_behind : (r : Row) (others more : List Row) (wanted : List Value) (v : Value) → AreRecords wanted → view v ≡ record_of r → (IsFirstValue wanted v → ⊥) → RemainAfterFilter others (record_rows wanted) more → RemainAfterFilter (r ∷ others) (record_rows wanted) (r ∷ more)
stays_behind r others more [] v a c n h = ap (λ z. r ∷ z) (none_wanted others more h)
stays_behind r others more (w ∷ ws) v a c n h = inr (λ e. n (first_record w ws a ∙ ap record_of e ∙ sym c), more, refl, h)

pub left_stays : (rows left now rest others : List Row) (kept wanted : List Value) (r q : Row) (v : Value) → AreRecords wanted → rest ≡ r ∷ others → view v ≡ record_of r → q ≡ r → now ≡ left ++ q ∷ [] → (IsFirstValue wanted v → ⊥) →
    LeavesTo rows kept left wanted rest → LeavesTo rows kept now wanted others
left_stays rows left now rest others kept wanted r q v a e c same n f h more k =
    subst (λ z. RemainAfterFilter rows (record_rows kept) (z ++ more)) (sym (n ∙ ap (λ z. left ++ z ∷ []) same))
    (subst (RemainAfterFilter rows (record_rows kept)) (sym (append_assoc left (r ∷ []) more)) (h (r ∷ more) (subst (λ z. RemainAfterFilter z (record_rows wanted) (r ∷ more)) (sym e) (stays_behind r others more wanted v a c f k))))

pub left_ends : (rows left rest : List Row) (kept wanted : List Value) → rest ≡ [] → LeavesTo rows kept left wanted rest → RemainAfterFilter rows (record_rows kept) left
left_ends rows left rest kept wanted e h = subst (RemainAfterFilter rows (record_rows kept)) (append-nil left) (h [] (subst (λ z. RemainAfterFilter z (record_rows wanted) []) (sym e) refl))

-- rows that stay fit
left_fit : (cs : ColumnList) (rows kept left : List Row) → RemainAfterFilter rows kept left → RowsFit cs rows → RowsFit cs left
left_fit cs [] kept left h k = subst (RowsFit cs) (sym h) tt
left_fit cs (r ∷ rows) [] left h k = subst (RowsFit cs) (sym h) k
left_fit cs (r ∷ rows) (q ∷ kept) left (inl h) k = left_fit cs rows kept left h.1 k.1
left_fit cs (r ∷ rows) (q ∷ kept) left (inr h) k = subst (RowsFit cs) (sym h.2) (k.0, left_fit cs rows (q ∷ kept) h.1 h.3 k.1)

pub left_fits : (cs : ColumnList) (rows kept left : List Row) → RemainAfterFilter rows kept left → fits_in (table_of rows) (tables cs) ≡ true → fits_in (table_of left) (tables cs) ≡ true
left_fits cs rows kept left h f = table_fits cs left (left_fit cs rows kept left h (fit_table cs rows f))

-- ---- rows as records

pub records_more : (rows rest others : List Row) (vs now : List Value) (r q : Row) → rest ≡ r ∷ others → q ≡ r → now ≡ vs ++ Rec q ∷ [] → map view vs ++ map record_of rest ≡ map record_of rows →
    map view now ++ map record_of others ≡ map record_of rows
records_more rows rest others vs now r q e same n h =
    ap (λ z. map view z ++ map record_of others) n ∙ ap (λ z. z ++ map record_of others) (map-append view vs (Rec q ∷ [])) ∙ append_assoc (map view vs) (record_of q ∷ []) (map record_of others)
    ∙ ap (λ z. map view vs ++ record_of z ∷ map record_of others) same ∙ ap (λ z. map view vs ++ map record_of z) (sym e) ∙ h

pub records_end : (rows rest : List Row) (vs : List Value) → rest ≡ [] → map view vs ++ map record_of rest ≡ map record_of rows → map view vs ≡ map record_of rows
records_end rows rest vs e h = sym (append-nil (map view vs)) ∙ ap (λ z. map view vs ++ map record_of z) (sym e) ∙ h
