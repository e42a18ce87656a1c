use Rattle.std.proofs.Common.{◌≡◌, ◌∙◌, ◌++◌, ◌∷◌, [], ap, subst, sym, map, List, true, append_assoc}
use Rattle.fx_types.specs.Types.{Shape, records, column_list}
use Rattle.fx_types.specs.Values.{Data, rec, tab, field_list}
use Rattle.fx_types.specs.ValueView.{view}
use Rattle.fx_types.specs.declared.values.Value.{Value}
use Rattle.fx_value.specs.Coercion.{CanWiden, widened, widened_fields}
use Rattle.fx_value.specs.Fits.{fits_in}
use Rattle.fx_value.proofs.WideningSteps.{rows_fit_push}
use Rattle.fx_tables.specs.Unions.{CanBeRow, fault_or, fields_in, is_fault, values_as_rows}
use Rattle.fx_tables.proofs.UnionSteps.{at_middle, can_widen, first_fault, no_fault, none_push, rows_of_push}
use Rattle.fx_tables.proofs.unions.table_of.Goals as goal

pub returns-in-Fault-clause-value : goal.returns-in-Fault-clause-value
returns-in-Fault-clause-value c =
    let done = c.loop-value.yielded in
    let v = c.in-Some.value in
    let rest = c.next.new.self.rest.items in
    let table = tab (values_as_rows (column_list c.args.columns.now) (map view c.args.rows.items)) in
    let all : done ++ v ∷ rest ≡ c.args.rows.items = ap (λ z. done ++ z) (sym c.in-Some.ensures.steps.0) ∙ c.loop-value.invariant.all in
    ap view (sym c.in-Fault.is) ∙ sym (first_fault done v rest table c.loop-value.invariant.clear (ap (λ x. is_fault (view x)) c.in-Fault.is)) ∙ ap (λ zs. fault_or (map view zs) table) all

pub row_of-requires : goal.row_of-requires
row_of-requires c =
    let done = c.loop-value.yielded in
    let v = c.in-Some.value in
    let rest = c.next.new.self.rest.items in
    let all : done ++ v ∷ rest ≡ c.args.rows.items = ap (λ z. done ++ z) (sym c.in-Some.ensures.steps.0) ∙ c.loop-value.invariant.all in
    let columns = c.args.columns.now in
    let can = at_middle (CanBeRow (column_list columns)) done v rest (rw all c.requires.rows) in
    let P : Shape → Type 0 = λ t. CanWiden (rec (fields_in (view v))) t in
    subst P (sym c.requires.same) (can_widen columns (view v) c.as_slice-rising.ensures.rising (no_fault v c.in_default.not-Fault) can)

pub loop-value-preserved : goal.loop-value-preserved
loop-value-preserved c =
    let done = c.loop-value.yielded in
    let v = c.in-Some.value in
    let rest = c.next.new.self.rest.items in
    let cs = column_list c.args.columns.now in
    let table = c.loop-value.table.items in
    let w = c.in_ok-row_of-in_default.field-0 in
    let made = c.in_ok-row_of-in_default.ensures in
    let p = c.in_ok-push-in_default.ensures.items in
    let inv = c.loop-value.invariant in
    let wide : rec (field_list w) ≡ rec (widened_fields (fields_in (view v)) cs) = made.value ∙ ap (λ t. widened (rec (fields_in (view v))) t) c.requires.same in
    let fields : field_list w ≡ widened_fields (fields_in (view v)) cs = cc in
    let P : Shape → Type 0 = λ t. fits_in (rec (field_list w)) t ≡ true in
    record {
      all = append_assoc done (v ∷ []) rest ∙ ap (λ z. done ++ z) (sym c.in-Some.ensures.steps.0) ∙ inv.all;
      clear = none_push done v inv.clear (no_fault v c.in_default.not-Fault);
      value = rw p (rows_of_push cs table done w v inv.value fields);
      fits = rw p (rows_fit_push cs table w inv.fits (subst P c.requires.same made.fits));
    }
