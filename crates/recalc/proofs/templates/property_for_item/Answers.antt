use Rattle.std.proofs.Common.{Option, ℕ, ◌+◌, ap, arith, ◌∙◌, refl, subst}
use Rattle.std.proofs.lemmas.Result.{IfOk-weaker}
use Rattle.app_semantics.specs.Present.{present}
use Rattle.app_semantics.specs.Properties.{IsForItem}
use Rattle.fx_types.specs.ValueView.{view}
use Rattle.fx_semantics.specs.Around.{record_of}
use Rattle.fx_eval.specs.Visits.{AtMost}
use Rattle.recalc.specs.ItemVisits.{ItemVisits}
use Rattle.recalc.specs.Templates.{steps_of}
use Rattle.recalc.specs.Values.{value_of}
use Rattle.row_keeper.specs.Tables.{rows_of_tables}
use Rattle.recalc.proofs.templates.property_for_item.Goals as goal

pub returns-in-Some-clause-shows : goal.returns-in-Some-clause-shows
returns-in-Some-clause-shows g c =
    IfOk-weaker c.cell_for_item.result _ _ (λ v h moment tables today heard.
    subst (λ (o : Option ℕ). IsForItem (present c.args.app.now c.args.session.now tables moment) (value_of c.args.valued.now) (record_of c.args.row.now) (view c.args.unwritten) o (view v)) c.in-Some.ensures (h moment tables today heard))
    c.cell_for_item.ensures.shows

pub returns-in-Some-clause-steps : goal.returns-in-Some-clause-steps
returns-in-Some-clause-steps g c =
    IfOk-weaker c.cell_for_item.result _ _ (λ v h. h ∙ ap (λ (o : Option ℕ). c.args.steps.now + steps_of o) c.in-Some.ensures) c.cell_for_item.ensures.steps

pub returns-in-Some-clause-visits : goal.returns-in-Some-clause-visits
returns-in-Some-clause-visits g c =
    IfOk-weaker c.cell_for_item.result _ _ (λ v h moment today t told.
    subst (λ (o : Option ℕ). AtMost (ItemVisits c.args.app.now c.args.session.now (rows_of_tables t.states) moment (value_of c.args.valued.now) (record_of c.args.row.now) o) (g.K.Keeper.visited c.args.keeper.now) (g.K.Keeper.visited c.cell_for_item.new.keeper)) c.in-Some.ensures (h moment today t told))
    c.cell_for_item.ensures.visits

pub returns-in-None-clause-visits : goal.returns-in-None-clause-visits
returns-in-None-clause-visits g c = λ moment today t told.
    subst (λ (o : Option ℕ). AtMost (ItemVisits c.args.app.now c.args.session.now (rows_of_tables t.states) moment (value_of c.args.valued.now) (record_of c.args.row.now) o) (g.K.Keeper.visited c.args.keeper.now) (g.K.Keeper.visited c.args.keeper.now)) c.in-None.ensures
    (0, refl, omega arith)
