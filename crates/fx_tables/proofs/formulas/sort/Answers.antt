use Rattle.std.proofs.Common.{◌∙◌, map, subst, List, refl}
use Rattle.fx_types.specs.Values.{tab, row_list}
use Rattle.fx_types.specs.ValueView.{view}
use Rattle.fx_types.specs.declared.values.Value.{Value}
use Rattle.fx_value.specs.Ordered.{IsOrderedBy}
use Rattle.fx_tables.specs.RowCalls.{IsTableBy}
use Rattle.fx_tables.proofs.FirstErrors.{error_meets, none_meets}
use Rattle.fx_tables.proofs.FitRows.{ordered_fit}
use Rattle.fx_tables.proofs.formulas.sort.Goals as goal

pub returns-in_ok-order_by-in-Ok-clause-value : goal.returns-in_ok-order_by-in-Ok-clause-value
returns-in_ok-order_by-in-Ok-clause-value c =
    let keys = map view c.args.keys.items in
    let ordered = c.in_ok-order_by-in-Ok.field-0 in
    let same = c.as_slice.ensures.value ∙ c.in-Ok.ensures.0 in
    let P : List Value → Type 0 = λ vs. IsOrderedBy c.args.down (map view vs) c.args.rows ordered in
    none_meets keys (IsTableBy c.args.down keys c.args.rows) (tab (row_list ordered)) c.in-Ok.ensures.1
    (ordered, refl, subst P same c.in_ok-order_by-in-Ok.ensures)

pub returns-in_ok-order_by-in-Ok-clause-fits : goal.returns-in_ok-order_by-in-Ok-clause-fits
returns-in_ok-order_by-in-Ok-clause-fits c = λ t h.
    ordered_fit c.args.down (map view c.as_slice.result.now) c.args.rows c.in_ok-order_by-in-Ok.field-0 t c.in_ok-order_by-in-Ok.ensures h

pub returns-in-Err-clause-value : goal.returns-in-Err-clause-value
returns-in-Err-clause-value c = error_meets (map view c.args.keys.items) (IsTableBy c.args.down (map view c.args.keys.items) c.args.rows) _ c.in-Err.ensures
