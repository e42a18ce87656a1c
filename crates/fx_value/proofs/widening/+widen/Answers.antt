use Rattle.std.proofs.Common.{arith, ap, sym, subst, ◌∙◌, refl, ◌≡◌, ◌++◌, ◌∷◌, [], List, ℕ, append_assoc}
use Rattle.std.proofs.lemmas.List.{take_all}
use Rattle.fx_types.proofs.Sizes.{column_is_smaller}
use Rattle.fx_types.specs.Types.{column_list}
use Rattle.fx_types.specs.TypeView.{shape, columns_view}
use Rattle.fx_types.specs.Values.{Data, field_list}
use Rattle.fx_types.specs.ValueView.{view, fields_view}
use Rattle.fx_value.specs.Coercion.{widened, widened_fields}
use Rattle.fx_value.proofs.Widenings.{field_can_widen, row_can_widen, rises_by_fit, flat_fits, is_flat, rec_stays, tab_stays}
use Rattle.fx_value.proofs.WideningSteps.{stand_at_first, stands_next, stands_after, next_value, next_fits, rows_push, rows_fit_push}
use Rattle.fx_value.proofs.widening.+widen.Goals as goal

pub widen-returns-in_default-clause-fits : goal.widen-returns-in_default-clause-fits
widen-returns-in_default-clause-fits t c = flat_fits (view c.args.v) (shape c.args.to.now) (is_flat c.args.v c.in_default.not-Rec c.in_default.not-Tab) c.requires

pub widen_record-loop-name-init : goal.widen_record-loop-name-init
widen_record-loop-name-init t c =
    let w = c.in_ok-wide.ensures.items in
    record {
      value = rw w refl;
      fits = rw w refl;
      stand = rw c.into_items-items.ensures.fields (stand_at_first (field_list c.args.fields) c.as_slice-types.result.now);
    }

pub widen_record-widen-requires : goal.widen_record-widen-requires
widen_record-widen-requires t c =
    let types = c.as_slice-types.result.now in
    let old = field_list c.args.fields in
    let new = field_list (fields_view c.loop-name.items.items) in
    let item = c.loop-name-item.result in
    let v = c.take_value.ensures.value in
    let s = stands_next old new types c.loop-name.name-index item c.loop-name-test.true c.loop-name-item.is c.loop-name.invariant.stand in
    let columns = c.as_slice-types.ensures.columns in
    (grind (arith, column_is_smaller), rw (v, s) (field_can_widen c.args.fields types (rw columns c.requires) c.into_items-items.ensures.rising (rw columns c.as_slice-types.ensures.rising) c.loop-name.name-index item c.loop-name-test.true c.loop-name-item.is))

pub widen_record-loop-name-preserved : goal.widen_record-loop-name-preserved
widen_record-loop-name-preserved t c =
    let types = c.as_slice-types.result.now in
    let old = field_list c.args.fields in
    let new = field_list (fields_view c.loop-name.items.items) in
    let newer = field_list (fields_view c.take_value.new.items.items) in
    let item = c.loop-name-item.result in
    let i = c.loop-name.name-index in
    let inv = c.loop-name.invariant in
    let p = c.in_ok-push.ensures.items in
    let n = c.in_ok-copy.ensures in
    let v = c.take_value.ensures.value in
    let s = stands_next old new types i item c.loop-name-test.true c.loop-name-item.is inv.stand in
    let as_wide = c.in_ok-widen.ensures.value ∙ ap (λ d. widened d (shape item.1)) (v ∙ s) in
    record {
      value = rw (p, n) (next_value c.loop-name.wide.items types i item c.in_ok-widen.field-0 c.loop-name-test.true c.loop-name-item.is old inv.value as_wide);
      fits = rw (p, n) (next_fits c.loop-name.wide.items types i item c.in_ok-widen.field-0 c.loop-name-test.true c.loop-name-item.is inv.fits c.in_ok-widen.ensures.fits);
      stand = stands_after old new types i item c.loop-name-test.true c.loop-name-item.is inv.stand newer (rw c.as_slice-types.ensures.columns c.as_slice-types.ensures.rising) c.take_value.ensures.others;
    }

pub widen_record-from_rising-requires : goal.widen_record-from_rising-requires
widen_record-from_rising-requires t c =
    let types = c.as_slice-types.result.now in
    let all = take_all c.loop-name.name-index types c.loop-name-test.false in
    rises_by_fit (fields_view c.loop-name.wide.items) (columns_view types) (rw all at c.loop-name.invariant.fits) (rw c.as_slice-types.ensures.columns c.as_slice-types.ensures.rising)

pub widen_table-widen_record-requires : goal.widen_table-widen_record-requires
widen_table-widen_record-requires t c =
    let P : List (List (List ℕ × Data)) → Type 0 = λ z. c.loop-row.yielded ++ z ≡ c.args.rows in
    let all = subst P c.in-Some.ensures.steps.0 c.loop-row.invariant.all in
    (omega (arith, c.decreases), row_can_widen c.loop-row.yielded c.in-Some.row c.next.new.self.rest.items (column_list c.args.columns.now) (rw all c.requires))

pub widen_table-loop-row-preserved : goal.widen_table-loop-row-preserved
widen_table-loop-row-preserved t c =
    let p = c.in_ok-push.ensures.items in
    let w = c.in_ok-widen_record.ensures in
    let columns = column_list c.args.columns.now in
    let inv = c.loop-row.invariant in
    record {
      all = append_assoc c.loop-row.yielded (c.in-Some.row ∷ []) c.next.new.self.rest.items ∙ ap (λ z. c.loop-row.yielded ++ z) (sym c.in-Some.ensures.steps.0) ∙ inv.all;
      value = rw p (rows_push (λ fs. widened_fields fs columns) c.loop-row.wide.items c.loop-row.yielded c.in_ok-widen_record.field-0 c.in-Some.row inv.value w.value);
      fits = rw p (rows_fit_push columns c.loop-row.wide.items c.in_ok-widen_record.field-0 inv.fits w.fits);
    }

pub widen-unreachable-requires : goal.widen-unreachable-requires
widen-unreachable-requires t c = rec_stays c.args.v c.in-Rec.fields c.args.to.now c.in-Rec.is c.requires c.in_default-to.not-Rec

pub widen-unreachable-requires-in_default-to-2 : goal.widen-unreachable-requires-in_default-to-2
widen-unreachable-requires-in_default-to-2 t c = tab_stays c.args.v c.in-Tab.rows c.args.to.now c.in-Tab.is c.requires c.in_default-to-2.not-Tab
