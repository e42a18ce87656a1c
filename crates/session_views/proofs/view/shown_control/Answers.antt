use Rattle.session_views.proofs.Visiting.{heard_at, most_as}
use Rattle.session_views.specs.Visits.{GivenItemsVisit, ShownVisits}
use Rattle.recalc.specs.Values.{value_of}
use Rattle.row_keeper.specs.Tables.{rows_of_tables}
use Rattle.std.proofs.Common.{Some, sym, ◌∙◌, arith, refl}
use Rattle.session_views.proofs.view.shown_control.Goals as goal

pub returns-in_ok-shown-clause-shows : goal.returns-in_ok-shown-clause-shows
returns-in_ok-shown-clause-shows g c = λ moment tables today heard. (sym c.is_shown.ensures ∙ c.if-is_shown.true, c.in_ok-shown.ensures.shows moment tables today heard)

pub returns-else-is_shown-clause-shows : goal.returns-else-is_shown-clause-shows
returns-else-is_shown-clause-shows g c = λ moment tables today heard. sym c.is_shown.ensures ∙ c.if-is_shown.false

pub returns-in_ok-shown-clause-visits : goal.returns-in_ok-shown-clause-visits
returns-in_ok-shown-clause-visits g c = λ moment today t told.
    let rows = rows_of_tables t.states in
    let values = value_of c.args.valued.now in
    let shown = c.in_ok-shown.shown in
    most_as (GivenItemsVisit c.args.app.now c.args.session.now rows moment values c.args.number 1 shown.items) (ShownVisits c.args.app.now c.args.session.now rows moment values c.args.number c.args.control.now (Some shown)) (g.K.Keeper.visited c.args.keeper.now) (g.K.Keeper.visited c.shown_with.new.keeper)
    (λ n p. ((sym c.is_shown.ensures ∙ c.if-is_shown.true, c.in_ok-shown.ensures.shows moment (Some rows) today (heard_at (g.K.Keeper.told c.shown_with.new.keeper) t told)), p)) (c.in_ok-shown.ensures.visits moment today t told)

pub returns-else-is_shown-clause-visits : goal.returns-else-is_shown-clause-visits
returns-else-is_shown-clause-visits g c = λ moment today t told. (0, (sym c.is_shown.ensures ∙ c.if-is_shown.false, refl), omega arith)
