use Rattle.session_views.proofs.Visiting.{paged_visits}
use Rattle.session_views.specs.Visits.{ItemAtVisits}
use Rattle.row_keeper.specs.Tables.{rows_of_tables}
use Rattle.std.proofs.Common.{◌-◌, arith, refl}
use Rattle.recalc.specs.app_semantics.Present.{present}
use Rattle.session_views.specs.Views.{IsItemAt}
use Rattle.recalc.specs.Values.{value_of}
use Rattle.session_views.proofs.Pages.{page_row, page_short, paged}
use Rattle.session_views.proofs.items.table_items.Goals as goal

pub item_views-requires-clause-rows : goal.item_views-requires-clause-rows
item_views-requires-clause-rows g c = λ i r there.
    let row = page_row (c.max-first.result - 1) c.args.rows.now c.page-shown.result.now i r c.page-shown.ensures there in
    c.requires.rows row.0 r row.1

pub item_views-requires-clause-few : goal.item_views-requires-clause-few
item_views-requires-clause-few g c =
    omega (arith, page_short (c.max-first.result - 1) c.page-shown.result.now c.args.rows.now c.page-shown.ensures, c.max-first.type_inv)

pub returns-clause-shows : goal.returns-clause-shows
returns-clause-shows g c = λ moment tables today heard. (
  refl,
  refl,
  paged (IsItemAt (present c.args.app.now c.args.session.now tables moment) (value_of c.args.valued.now) c.args.gallery) c.args.from c.max-first.result c.from.result c.page-shown.result.now c.args.rows.now c.in_ok-list.list c.max-first.ensures c.from.ensures c.page-shown.ensures (c.in_ok-list.ensures.shows moment tables today heard),
)

pub returns-clause-visits : goal.returns-clause-visits
returns-clause-visits g c = λ moment today t told.
    paged_visits (ItemAtVisits c.args.app.now c.args.session.now (rows_of_tables t.states) moment (value_of c.args.valued.now) c.args.gallery) c.args.from c.max-first.result c.from.result c.page-shown.result.now c.args.rows.now c.in_ok-list.list (g.K.Keeper.visited c.args.keeper.now) (g.K.Keeper.visited c.item_views.new.keeper) c.max-first.ensures c.from.ensures c.page-shown.ensures
    (c.in_ok-list.ensures.visits moment today t told)
