-- Rows for a collection.
use Rattle.std.proofs.Common.{◌≡◌, ℕ, List, [], ◌∷◌, ◌++◌, true, Some, refl, ap, sym, subst, ◌∙◌}
use Rattle.std.specs.List.{find}
use Rattle.fx_types.specs.Types.{Shape, ColumnList, records, tables}
use Rattle.fx_types.specs.Values.{Data, blank, number, text, boolean, date, rec, tab, fault}
use Rattle.fx_env.specs.Scopes.{Fixed}
use Rattle.fx_semantics.proofs.Tables.{RowsFit, fit_table, rows_in_fit, table_fits}
use Rattle.fx_semantics.specs.Around.{record_of}
use Rattle.fx_semantics.specs.Rows.{table_of}
use Rattle.fx_tables.proofs.FirstErrors.{found_passes}
use Rattle.fx_value.specs.Columns.{Row}
use Rattle.fx_tables.specs.Unions.{is_fault}
use Rattle.fx_core.specs.declared.names.Names.{Names}
use Rattle.fx_core.specs.declared.sources.Source.{Source}
use Rattle.fx_core.specs.declared.sources.Source.TheVariants as source
use Rattle.fx_core.specs.SourceTypes.{sources}
use Rattle.fx_value.specs.Fits.{fits_in}
use Rattle.session_state.specs.Changes.{FitsSource}
use Rattle.fx_deeds.specs.Collections.{IsFirstRow}
use Rattle.fx_deeds.specs.Fitting.{AreOf, CollectionCanTake, IsOfColumns}
use Rattle.fx_deeds.specs.RowValues.{rows_among}

fault_fits : (d : Data) (t : Shape) → is_fault d ≡ true → fits_in d t ≡ true
fault_fits (fault k cs) t h = refl
fault_fits blank t h = absurd cc
fault_fits (number z) t h = absurd cc
fault_fits (text cs) t h = absurd cc
fault_fits (boolean b) t h = absurd cc
fault_fits (date z) t h = absurd cc
fault_fits (rec fs) t h = absurd cc
fault_fits (tab rs) t h = absurd cc

-- an error that is found fits every type
pub error_fits : (ds : List Data) (d : Data) (t : Shape) → find is_fault ds ≡ Some d → fits_in d t ≡ true
error_fits ds d t h = fault_fits d t (found_passes ds d h)

pub both_fit : (cs : ColumnList) (rows more : List Row) → RowsFit cs rows → RowsFit cs more → RowsFit cs (rows ++ more)
both_fit cs [] more h k = k
both_fit cs (r ∷ rows) more h k = (h.0, both_fit cs rows more h.1 k)

among_fit : (cs : ColumnList) (ds : List Data) → AreOf (tables cs) ds → RowsFit cs (rows_among ds)
among_fit cs [] h = tt
among_fit cs (d ∷ ds) h = both_fit cs _ (rows_among ds) (rows_in_fit d cs h.0) (among_fit cs ds h.1)

-- the change that gives a collection rows behind others fits
pub gathers : (before after : Fixed) (n : Names) (k : ℕ) (ds : List Data) (start rows : List Row) → after ≡ before → ((x : Source) → after.types x ≡ sources n x) →
    (can : CollectionCanTake before.types k ds) → ((cs : ColumnList) → IsOfColumns before.types k cs → fits_in (table_of start) (tables cs) ≡ true) → rows ≡ start ++ rows_among ds →
    FitsSource n (source.Gathered k) (table_of rows)
gathers before after n k ds start rows e typed can fit r = (
  tables can.0,
  sym (typed (source.Gathered k)) ∙ ap (λ z. z.types (source.Gathered k)) e ∙ can.1,
  subst (λ z. fits_in (table_of z) (tables can.0) ≡ true) (sym r)
      (table_fits can.0 (start ++ rows_among ds) (both_fit can.0 start (rows_among ds) (fit_table can.0 start (fit can.0 can.1)) (among_fit can.0 ds can.2))),
)

-- so does one that gives it rows that fit
pub gathers_rows : (before after : Fixed) (n : Names) (k : ℕ) (cs : ColumnList) (rows : List Row) → after ≡ before → ((x : Source) → after.types x ≡ sources n x) → IsOfColumns before.types k cs →
    fits_in (table_of rows) (tables cs) ≡ true → FitsSource n (source.Gathered k) (table_of rows)
gathers_rows before after n k cs rows e typed can fit = (tables cs, sym (typed (source.Gathered k)) ∙ ap (λ z. z.types (source.Gathered k)) e ∙ can, fit)

without_one : (cs : ColumnList) (before after : List Row) (r : Row) → RowsFit cs (before ++ r ∷ after) → RowsFit cs (before ++ after)
without_one cs [] after r h = h.1
without_one cs (q ∷ before) after r h = (h.0, without_one cs before after r h.1)

with_other : (cs : ColumnList) (before after : List Row) (r q : Row) → RowsFit cs (before ++ r ∷ after) → fits_in (record_of q) (records cs) ≡ true → RowsFit cs (before ++ q ∷ after)
with_other cs [] after r q h f = (f, h.1)
with_other cs (p ∷ before) after r q h f = (h.0, with_other cs before after r q h.1 f)

-- one row behind the others, without one, and with another in its place
pub appended_fits : (cs : ColumnList) (rows made : List Row) (r : Row) → made ≡ rows ++ r ∷ [] → fits_in (table_of rows) (tables cs) ≡ true → fits_in (record_of r) (records cs) ≡ true → fits_in (table_of made) (tables cs) ≡ true
appended_fits cs rows made r e h f = subst (λ z. fits_in (table_of z) (tables cs) ≡ true) (sym e) (table_fits cs (rows ++ r ∷ []) (both_fit cs rows (r ∷ []) (fit_table cs rows h) (f, tt)))

pub parted_fits : (cs : ColumnList) (rows all before after left : List Row) (r : Row) → all ≡ rows → IsFirstRow r all before after → left ≡ before ++ after → fits_in (table_of rows) (tables cs) ≡ true → fits_in (table_of left) (tables cs) ≡ true
parted_fits cs rows all before after left r p f e h =
    subst (λ z. fits_in (table_of z) (tables cs) ≡ true) (sym e)
    (table_fits cs (before ++ after) (without_one cs before after r (subst (RowsFit cs) (sym p ∙ f.parted) (fit_table cs rows h))))

pub put_fits : (cs : ColumnList) (rows all before after put : List Row) (r q : Row) → all ≡ rows → IsFirstRow r all before after → put ≡ before ++ q ∷ after → fits_in (record_of q) (records cs) ≡ true →
    fits_in (table_of rows) (tables cs) ≡ true → fits_in (table_of put) (tables cs) ≡ true
put_fits cs rows all before after put r q p f e g h =
    subst (λ z. fits_in (table_of z) (tables cs) ≡ true) (sym e)
    (table_fits cs (before ++ q ∷ after) (with_other cs before after r q (subst (RowsFit cs) (sym p ∙ f.parted) (fit_table cs rows h)) g))
