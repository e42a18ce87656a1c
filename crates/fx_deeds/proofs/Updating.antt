-- Rows that are changed among others.
use Rattle.std.proofs.Common.{◌≡◌, List, [], ◌∷◌, ◌++◌, true, map, Option, Some, None, refl, ap, sym, subst, ◌∙◌, append_assoc, inl, inr}
use Rattle.std.specs.Prelude.{IfSome}
use Rattle.std.specs.List.{find}
use Rattle.std.specs.Option.{option_or}
use Rattle.std.proofs.lemmas.List.{append-nil}
use Rattle.std.proofs.lemmas.List.Folds.{find-append}
use Rattle.std.specs.Prelude.{option_map}
use Rattle.fx_types.specs.declared.values.Value.{Value}
use Rattle.fx_types.specs.Types.{ColumnList, no_columns, records, tables}
use Rattle.fx_types.specs.Values.{Data}
use Rattle.fx_types.specs.ValueView.{view}
use Rattle.fx_semantics.proofs.Tables.{RowsFit, fit_table, table_fits}
use Rattle.fx_semantics.specs.Around.{record_of}
use Rattle.fx_semantics.specs.Rows.{rows_in, table_of}
use Rattle.fx_value.specs.Columns.{Row}
use Rattle.fx_tables.specs.Unions.{is_fault}
use Rattle.fx_value.specs.Fits.{fits_in}
use Rattle.fx_deeds.proofs.Adding.{both_fit}
use Rattle.fx_deeds.proofs.Lefting.{still_records}
use Rattle.fx_deeds.specs.Collections.{AreWith}
use Rattle.fx_deeds.specs.Done.{errors_in, errors_of}
use Rattle.fx_deeds.specs.Fitting.{CanChange, CanChangeAll}
use Rattle.fx_deeds.specs.RemainingRows.{AreRecords, IsChangedFirst, IsFirstValue, values_behind, record_rows}
use Rattle.fx_deeds.specs.RowValues.{changed_row, record_row}
use Rattle.fx_deeds.proofs.Steps.{none_is}

-- ---- errors among changes

in_parts : (rest others : List Value) (v : Value) → rest ≡ v ∷ others →
    find is_fault (errors_in (map view rest)) ≡ option_or (find is_fault (errors_of (view v))) (find is_fault (errors_in (map view others)))
in_parts rest others v e = ap (λ z. find is_fault (errors_in (map view z))) e ∙ find-append is_fault (errors_of (view v)) (errors_in (map view others))

pub changes_first : (rest others : List Value) (v : Value) (o : Option Value) (e : Value) (whole : Option Data) → find is_fault (errors_in (map view rest)) ≡ whole → rest ≡ v ∷ others →
    option_map view o ≡ find is_fault (errors_of (view v)) → o ≡ Some e → Some (view e) ≡ whole
changes_first rest others v o e whole h p f is =
    let found : find is_fault (errors_of (view v)) ≡ Some (view e) = sym f ∙ ap (option_map view) is in
    sym (in_parts rest others v p ∙ ap (λ z. option_or z (find is_fault (errors_in (map view others)))) found) ∙ h

pub changes_more : (rest others : List Value) (v : Value) (o : Option Value) (whole : Option Data) → find is_fault (errors_in (map view rest)) ≡ whole → rest ≡ v ∷ others →
    option_map view o ≡ find is_fault (errors_of (view v)) → ((e : Value) → o ≡ Some e → ⊥) → find is_fault (errors_in (map view others)) ≡ whole
changes_more rest others v o whole h p f none =
    let found : find is_fault (errors_of (view v)) ≡ None = sym f ∙ ap (option_map view) (none_is o none) in
    sym (in_parts rest others v p ∙ ap (λ z. option_or z (find is_fault (errors_in (map view others)))) found) ∙ h

-- ---- rows with changes among them

-- what is left to change decides of the whole
abbrev pub WithTo : ColumnList → List Row → List Value → List Value → List Row → List Value → List Value → List Row → Type 0
WithTo cs rows kept changes made wanted left rest =
    (more : List Row) → AreWith cs rest (record_rows wanted) (map view left) more → AreWith cs rows (record_rows kept) (map view changes) (made ++ more)

-- what is left of a loop over rows: kept rows are records, they can be changed, and so far all fit
pub record IsWith (cs : ColumnList) (rows : List Row) (kept changes : List Value) (made : List Row) (wanted left : List Value) (rest : List Row) : Type 0 where
  pub records : AreRecords wanted
  pub can : CanChangeAll cs (record_rows wanted) (map view left)
  pub done : WithTo cs rows kept changes made wanted left rest
  pub fits : RowsFit cs rows → RowsFit cs made × RowsFit cs rest

still_can : (cs : ColumnList) (wanted left : List Value) → CanChangeAll cs (record_rows wanted) (map view left) → CanChangeAll cs (record_rows (values_behind wanted)) (map view (values_behind left))
still_can cs [] [] h = tt
still_can cs [] (d ∷ ds) h = tt
still_can cs (w ∷ []) [] h = tt
still_can cs (w ∷ (v ∷ ws)) [] h = tt
still_can cs (w ∷ ws) (d ∷ ds) h = h.1

rest_fit : (cs : ColumnList) (rest others : List Row) (r : Row) → rest ≡ r ∷ others → RowsFit cs rest → RowsFit cs (r ∷ others)
rest_fit cs rest others r e h = subst (RowsFit cs) e h

with_made : (cs : ColumnList) (rows made now others : List Row) (kept changes wanted left : List Value) (r new : Row) → now ≡ made ++ new ∷ [] →
    IsChangedFirst cs r (record_rows wanted) (map view left) (Some new) → WithTo cs rows kept changes made wanted left (r ∷ others) → WithTo cs rows kept changes now (values_behind wanted) (values_behind left) others
with_made cs rows made now others kept changes [] left r new n c h more k = absurd c
with_made cs rows made now others kept changes (w ∷ ws) [] r new n c h more k = absurd c
with_made cs rows made now others kept changes (w ∷ ws) (d ∷ ds) r new n c h more k =
    subst (λ z. AreWith cs rows (record_rows kept) (map view changes) (z ++ more)) (sym n)
    (subst (AreWith cs rows (record_rows kept) (map view changes)) (sym (append_assoc made (new ∷ []) more)) (h (new ∷ more) (inl (c.0, more, ap (λ z. z ∷ more) c.1, k))))

none_kept : (cs : ColumnList) (rows more : List Row) (changes : List Data) → AreWith cs rows [] changes more → more ≡ rows
none_kept cs [] more changes h = h
none_kept cs (r ∷ rows) more changes h = h

none_changed : (cs : ColumnList) (rows kept more : List Row) → AreWith cs rows kept [] more → more ≡ rows
none_changed cs [] kept more h = h
none_changed cs (r ∷ rows) [] more h = h
none_changed cs (r ∷ rows) (q ∷ kept) more h = h

stays_here : (cs : ColumnList) (r : Row) (others more : List Row) (wanted left : List Value) → IsChangedFirst cs r (record_rows wanted) (map view left) None → AreWith cs others (record_rows wanted) (map view left) more →
    AreWith cs (r ∷ others) (record_rows wanted) (map view left) (r ∷ more)
stays_here cs r others more [] left c h = ap (λ z. r ∷ z) (none_kept cs others more (map view left) h)
stays_here cs r others more (w ∷ ws) [] c h = ap (λ z. r ∷ z) (none_changed cs others (record_rows (w ∷ ws)) more h)
stays_here cs r others more (w ∷ ws) (d ∷ ds) c h = inr (c, more, refl, h)

-- the row is changed
pub with_takes : (cs : ColumnList) (rows made now rest others : List Row) (kept changes wanted left after behind_left : List Value) (r new : Row) (o : Option Row) → rest ≡ r ∷ others → o ≡ Some new → now ≡ made ++ new ∷ [] →
    after ≡ values_behind wanted → behind_left ≡ values_behind left → IsChangedFirst cs r (record_rows wanted) (map view left) o → IfSome o (λ q. fits_in (record_of q) (records cs) ≡ true) →
    IsWith cs rows kept changes made wanted left rest → IsWith cs rows kept changes now after behind_left others
with_takes cs rows made now rest others kept changes wanted left after behind_left r new o e is n a b c f h =
    let step : WithTo cs rows kept changes now (values_behind wanted) (values_behind left) others =
    with_made cs rows made now others kept changes wanted left r new n (subst (IsChangedFirst cs r (record_rows wanted) (map view left)) is c)
    (subst (WithTo cs rows kept changes made wanted left) e h.done) in
    record {
      records = still_records wanted after a h.records;
      can = subst (λ z. CanChangeAll cs (record_rows z) (map view behind_left)) (sym a) (subst (λ z. CanChangeAll cs (record_rows (values_behind wanted)) (map view z)) (sym b) (still_can cs wanted left h.can));
      done = subst (λ z. WithTo cs rows kept changes now z behind_left others) (sym a) (subst (λ z. WithTo cs rows kept changes now (values_behind wanted) z others) (sym b) step);
      fits = λ k. (
        subst (RowsFit cs) (sym n) (both_fit cs made (new ∷ []) (h.fits k).0 (subst (λ z. IfSome z (λ q. fits_in (record_of q) (records cs) ≡ true)) is f, tt)),
        (rest_fit cs rest others r e (h.fits k).1).1,
      );
    }

-- the row stays
pub with_stays : (cs : ColumnList) (rows made now rest others : List Row) (kept changes wanted left : List Value) (r copy : Row) (o : Option Row) → rest ≡ r ∷ others → o ≡ None → copy ≡ r → now ≡ made ++ copy ∷ [] →
    IsChangedFirst cs r (record_rows wanted) (map view left) o → IsWith cs rows kept changes made wanted left rest → IsWith cs rows kept changes now wanted left others
with_stays cs rows made now rest others kept changes wanted left r copy o e is same n c h =
    let more_is : now ≡ made ++ r ∷ [] = n ∙ ap (λ z. made ++ z ∷ []) same in
    record {
      records = h.records;
      can = h.can;
      done = λ more k.
          subst (λ z. AreWith cs rows (record_rows kept) (map view changes) (z ++ more)) (sym more_is)
          (subst (AreWith cs rows (record_rows kept) (map view changes)) (sym (append_assoc made (r ∷ []) more))
          (h.done (r ∷ more) (subst (λ z. AreWith cs z (record_rows wanted) (map view left) (r ∷ more)) (sym e)
          (stays_here cs r others more wanted left (subst (IsChangedFirst cs r (record_rows wanted) (map view left)) is c) k))));
      fits = λ k. (
        subst (RowsFit cs) (sym more_is) (both_fit cs made (r ∷ []) (h.fits k).0 ((rest_fit cs rest others r e (h.fits k).1).0, tt)),
        (rest_fit cs rest others r e (h.fits k).1).1,
      );
    }

pub with_ends : (cs : ColumnList) (rows made rest : List Row) (kept changes wanted left : List Value) → rest ≡ [] → IsWith cs rows kept changes made wanted left rest → AreWith cs rows (record_rows kept) (map view changes) made
with_ends cs rows made rest kept changes wanted left e h =
    subst (AreWith cs rows (record_rows kept) (map view changes)) (append-nil made) (h.done [] (subst (λ z. AreWith cs z (record_rows wanted) (map view left) []) (sym e) refl))

pub with_fits : (cs : ColumnList) (rows made rest : List Row) (kept changes wanted left : List Value) → IsWith cs rows kept changes made wanted left rest → fits_in (table_of rows) (tables cs) ≡ true → fits_in (table_of made) (tables cs) ≡ true
with_fits cs rows made rest kept changes wanted left h f = table_fits cs made (h.fits (fit_table cs rows f)).0

-- ---- the first of the rows that were kept

-- where it is that row, it can be changed
pub first_can : (cs : ColumnList) (r : Row) (kept changes others : List Value) (v d : Value) (start rows : List Row) → changes ≡ d ∷ others → start ≡ [] → rows ≡ start ++ rows_in (view d) → view v ≡ record_of r → IsFirstValue kept v →
    CanChangeAll cs (record_rows kept) (map view changes) → CanChange cs rows r
first_can cs r [] changes others v d start rows p s q e f h = absurd f
first_can cs r (w ∷ ws) changes others v d start rows p s q e f h =
    let same : record_row no_columns (view w) ≡ r = ap (record_row no_columns) (f ∙ e) ∙ Rattle.fx_deeds.proofs.Lefting.row_back r in
    let first = subst (λ z. CanChangeAll cs (record_rows (w ∷ ws)) (map view z)) p h in
    subst (CanChange cs rows) same (subst (λ z. CanChange cs z (record_row no_columns (view w))) (sym (q ∙ ap (λ z. z ++ rows_in (view d)) s)) first.0)

pub is_first : (cs : ColumnList) (r made : Row) (kept changes others : List Value) (v d : Value) (start rows : List Row) → changes ≡ d ∷ others → start ≡ [] → rows ≡ start ++ rows_in (view d) → view v ≡ record_of r → IsFirstValue kept v →
    made ≡ changed_row cs rows r → IsChangedFirst cs r (record_rows kept) (map view changes) (Some made)
is_first cs r made [] changes others v d start rows p s q e f m = absurd f
is_first cs r made (w ∷ ws) changes others v d start rows p s q e f m =
    subst (λ z. IsChangedFirst cs r (record_rows (w ∷ ws)) (map view z) (Some made)) (sym p)
    (ap (record_row no_columns) (f ∙ e) ∙ Rattle.fx_deeds.proofs.Lefting.row_back r, m ∙ ap (λ z. changed_row cs z r) (q ∙ ap (λ z. z ++ rows_in (view d)) s))
