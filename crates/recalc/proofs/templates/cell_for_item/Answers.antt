use Rattle.std.proofs.Common.{Some, arith, subst, sym}
use Rattle.std.proofs.lemmas.Result.{IfOk-weaker}
use Rattle.app_semantics.specs.Fresh.{IsValueOf}
use Rattle.app_semantics.specs.Present.{present}
use Rattle.fx_types.specs.ValueView.{view}
use Rattle.fx_semantics.specs.Around.{record_of}
use Rattle.fx_semantics.specs.Sound.{IsItemFit}
use Rattle.fx_value.specs.Columns.{Row}
use Rattle.fx_typing.specs.Typing.{item_context}
use Rattle.recalc.specs.Values.{value_of}
use Rattle.recalc.specs.Visits.{FormulaVisits}
use Rattle.row_keeper.specs.Tables.{rows_of_tables}
use Rattle.recalc.proofs.ForItems.{sees_item, template_cell, template_there}
use Rattle.recalc.proofs.templates.cell_for_item.Goals as goal

pub in_item-requires-clause-cell : goal.in_item-requires-clause-cell
in_item-requires-clause-cell g c = (c.args.cell, c.in-Some.ensures)

pub in_item-requires-clause-quiet : goal.in_item-requires-clause-quiet
in_item-requires-clause-quiet g c = (template_cell c.args.app.now c.args.gallery c.args.cell c.in-Some.info.now c.requires.cell c.in-Some.ensures).0

pub in_item-requires-clause-item : goal.in_item-requires-clause-item
in_item-requires-clause-item g c =
    subst (λ (r : Row). IsItemFit (Some (record_of r)) (item_context c.args.app.now.names c.in-Some.info.now.cell.item)) (sym c.in_ok-fields-in-Some.ensures)
    (sees_item c.args.app.now.names c.args.gallery (record_of c.args.row.now) c.in-Some.info.now.cell.item (template_cell c.args.app.now c.args.gallery c.args.cell c.in-Some.info.now c.requires.cell c.in-Some.ensures).1 c.requires.item)

pub returns-clause-shows : goal.returns-clause-shows
returns-clause-shows g c =
    IfOk-weaker c.in_item.result _ _ (λ v h moment tables today heard. (
      c.in-Some.info.now,
      c.in-Some.ensures,
      subst (λ (r : Row). IsValueOf (present c.args.app.now c.args.session.now tables moment) (value_of c.args.valued.now) (Some (record_of r)) c.in-Some.info.now (view v)) c.in_ok-fields-in-Some.ensures (h moment tables today heard),
    )) c.in_item.ensures.value

pub returns-clause-visits : goal.returns-clause-visits
returns-clause-visits g c =
    IfOk-weaker c.in_item.result _ _ (λ v h moment today t told.
    let one = h moment today t told in (
      one.0,
      (
        c.in-Some.info.now,
        c.in-Some.ensures,
        subst (λ (r : Row). FormulaVisits c.args.app.now c.args.session.now (rows_of_tables t.states) moment (value_of c.args.valued.now) (Some (record_of r)) c.in-Some.info.now one.0) c.in_ok-fields-in-Some.ensures one.1,
      ),
      one.2,
    )) c.in_item.ensures.visits

pub unreachable-requires : goal.unreachable-requires
unreachable-requires g c = omega (arith, template_there c.args.app.now c.args.gallery c.args.cell c.requires.cell, c.in-None.ensures)
