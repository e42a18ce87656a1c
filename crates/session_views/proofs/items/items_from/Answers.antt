use Rattle.session_views.proofs.Visiting.{fault_visits, rows_visits}
use Rattle.row_keeper.specs.Tables.{rows_of_tables}
use Rattle.std.proofs.lemmas.Result.{IfOk-weaker}
use Rattle.recalc.specs.app_semantics.Present.{items_of, present}
use Rattle.fx_types.specs.ValueView.{view}
use Rattle.recalc.specs.Values.{value_of}
use Rattle.session_views.proofs.Galleries.{rows_are_items}
use Rattle.session_views.proofs.Pages.{by_fault, by_rows}
use Rattle.session_views.proofs.items.items_from.Goals as goal

pub returns-in-Some-clause-shows : goal.returns-in-Some-clause-shows
returns-in-Some-clause-shows g c = λ moment tables today heard.
    by_fault (present c.args.app.now c.args.session.now tables moment) (value_of c.args.valued.now) c.args.gallery c.args.from (view c.in_ok-items.items) (items_of c.args.app.now.names (value_of c.args.valued.now) c.args.gallery) c.in_ok-error.error c.in-Some.fault
    c.items_with.result c.in_ok-items.ensures c.in_ok-error.ensures c.in-Some.is c.items_with.ensures

pub table_items-requires-clause-rows : goal.table_items-requires-clause-rows
table_items-requires-clause-rows g c =
    rows_are_items c.args.app.now (value_of c.args.valued.now) c.args.gallery c.rows_in-rows.result.now (view c.in_ok-items.items) c.requires.ready.sound c.requires.ready.fits c.requires.gallery
    c.in_ok-items.ensures c.rows_in-rows.ensures

pub returns-clause-shows : goal.returns-clause-shows
returns-clause-shows g c =
    IfOk-weaker c.table_items.result _ _ (λ i h moment tables today heard.
    by_rows (present c.args.app.now c.args.session.now tables moment) (value_of c.args.valued.now) c.args.gallery c.args.from (view c.in_ok-items.items) (items_of c.args.app.now.names (value_of c.args.valued.now) c.args.gallery) c.in_ok-error.error c.rows_in-rows.result.now
    i c.in_ok-items.ensures c.in_ok-error.ensures c.in-None.is c.rows_in-rows.ensures (h moment tables today heard))
    c.table_items.ensures.shows

pub returns-in-Some-clause-visits : goal.returns-in-Some-clause-visits
returns-in-Some-clause-visits g c = λ moment today t told.
    fault_visits c.args.app.now c.args.session.now (rows_of_tables t.states) moment (value_of c.args.valued.now) c.args.gallery c.args.from (view c.in_ok-items.items) c.in_ok-error.error c.items_with.result (g.K.Keeper.visited c.args.keeper.now) (g.K.Keeper.visited c.args.keeper.now) c.in_ok-items.ensures c.in_ok-error.ensures
    c.in-Some.fault c.in-Some.is

pub returns-clause-visits : goal.returns-clause-visits
returns-clause-visits g c =
    IfOk-weaker c.table_items.result _ _ (λ i h moment today t told.
    rows_visits c.args.app.now c.args.session.now (rows_of_tables t.states) moment (value_of c.args.valued.now) c.args.gallery c.args.from (view c.in_ok-items.items) c.in_ok-error.error i (g.K.Keeper.visited c.args.keeper.now) (g.K.Keeper.visited c.table_items.new.keeper) c.in_ok-items.ensures c.in_ok-error.ensures
    c.rows_in-rows.result.now c.in-None.is c.rows_in-rows.ensures (h moment today t told))
    c.table_items.ensures.visits
