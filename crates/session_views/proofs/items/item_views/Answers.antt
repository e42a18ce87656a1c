use Rattle.session_views.proofs.Visiting.{all_visited, none_visited, one_visited}
use Rattle.session_views.specs.Visits.{ItemAtVisits}
use Rattle.recalc.proofs.CellVisits.{told_back}
use Rattle.row_keeper.specs.Tables.{rows_of_tables}
use Rattle.std.proofs.Common.{◌*◌, Some, arith, length, refl}
use Rattle.recalc.specs.app_semantics.Present.{present}
use Rattle.session_views.specs.Bounds.{formulas_for}
use Rattle.session_views.specs.Looking.{is_it}
use Rattle.session_views.specs.Views.{IsItemAt}
use Rattle.recalc.proofs.Asked.{heard_before, read_none, read_on}
use Rattle.recalc.specs.Asking.{Keeping, keeping}
use Rattle.recalc.specs.Values.{value_of}
use Rattle.session_views.proofs.Counts.{at_least, items_more}
use Rattle.session_views.proofs.Giving.{all_given, at_place, none_given, one_given}
use Rattle.session_views.proofs.items.item_views.Goals as goal

pub loop-row-init : goal.loop-row-init
loop-row-init g c = record {
  at = omega arith;
  ticks = at_least c.args.steps.now (length c.new-list.result * formulas_for c.args.app.now.names (is_it c.args.gallery));
  given = λ moment tables today heard. none_given (IsItemAt (present c.args.app.now c.args.session.now tables moment) (value_of c.args.valued.now) c.args.gallery) c.args.first 0 c.args.rows.now c.new-list.result refl c.new-list.ensures;
  visits = λ moment today t told. none_visited (ItemAtVisits c.args.app.now c.args.session.now (rows_of_tables t.states) moment (value_of c.args.valued.now) c.args.gallery) c.args.first 0 c.args.rows.now c.new-list.result (g.K.Keeper.visited c.args.keeper.now) refl c.new-list.ensures;
  read = read_none (keeping (g.K.Keeper.told c.args.keeper.now) (g.K.Keeper.began c.args.keeper.now) (g.K.Keeper.shaped c.args.keeper.now) (g.K.Keeper.in_transaction c.args.keeper.now) (g.K.Keeper.marks c.args.keeper.now) (g.K.Keeper.visited c.args.keeper.now) (g.K.Keeper.loan c.args.keeper.now));
}

pub item_view-requires-clause-row : goal.item_view-requires-clause-row
item_view-requires-clause-row g c =
    c.requires.rows c.loop-row.row-index c.row-item.result
    (at_place c.args.rows.now c.args.rows.now c.loop-row.row-index c.loop-row.row-index c.row-item.result refl refl c.loop-row-test.true c.row-item.is)

pub loop-row-preserved : goal.loop-row-preserved
loop-row-preserved g c =
    let first : Keeping = keeping (g.K.Keeper.told c.args.keeper.now) (g.K.Keeper.began c.args.keeper.now) (g.K.Keeper.shaped c.args.keeper.now) (g.K.Keeper.in_transaction c.args.keeper.now) (g.K.Keeper.marks c.args.keeper.now) (g.K.Keeper.visited c.args.keeper.now) (g.K.Keeper.loan c.args.keeper.now) in
    let before : Keeping = keeping (g.K.Keeper.told c.loop-row.keeper) (g.K.Keeper.began c.loop-row.keeper) (g.K.Keeper.shaped c.loop-row.keeper) (g.K.Keeper.in_transaction c.loop-row.keeper) (g.K.Keeper.marks c.loop-row.keeper) (g.K.Keeper.visited c.loop-row.keeper) (g.K.Keeper.loan c.loop-row.keeper) in
    let after : Keeping = keeping (g.K.Keeper.told c.item_view.new.keeper) (g.K.Keeper.began c.item_view.new.keeper) (g.K.Keeper.shaped c.item_view.new.keeper) (g.K.Keeper.in_transaction c.item_view.new.keeper) (g.K.Keeper.marks c.item_view.new.keeper) (g.K.Keeper.visited c.item_view.new.keeper) (g.K.Keeper.loan c.item_view.new.keeper) in
    record {
      at = omega (arith, c.loop-row.invariant.at);
      ticks = items_more c.loop-row.list c.push.new.self c.in_ok-item.item (formulas_for c.args.app.now.names (is_it c.args.gallery)) c.args.steps.now c.loop-row.steps c.item_view.new.steps c.in_ok-push.ensures.ok c.in_ok-item.ensures.ticks c.loop-row.invariant.ticks;
      given = λ moment tables today heard.
          one_given (IsItemAt (present c.args.app.now c.args.session.now tables moment) (value_of c.args.valued.now) c.args.gallery) c.args.first c.loop-row.at c.loop-row.row-index c.args.rows.now c.args.rows.now c.row-item.result (Some c.in_ok-item.item) c.loop-row.list c.push.new.self
          c.loop-row.invariant.at refl c.loop-row-test.true c.row-item.is (c.in_ok-item.ensures.shows moment tables today heard) c.in_ok-push.ensures.ok (c.loop-row.invariant.given moment tables today (heard_before before after c.in_ok-item.ensures.read tables heard));
      visits = λ moment today t told.
          one_visited (ItemAtVisits c.args.app.now c.args.session.now (rows_of_tables t.states) moment (value_of c.args.valued.now) c.args.gallery) c.args.first c.loop-row.at c.loop-row.row-index c.args.rows.now c.args.rows.now c.row-item.result (Some c.in_ok-item.item) c.loop-row.list c.push.new.self (g.K.Keeper.visited c.args.keeper.now) (g.K.Keeper.visited c.loop-row.keeper) (g.K.Keeper.visited c.item_view.new.keeper)
          c.loop-row.invariant.at refl c.loop-row-test.true c.row-item.is (c.in_ok-item.ensures.visits moment today t told) c.in_ok-push.ensures.ok (c.loop-row.invariant.visits moment today t (told_back before after c.in_ok-item.ensures.read t told));
      read = read_on first before after c.loop-row.invariant.read c.in_ok-item.ensures.read;
    }

pub returns-clause-shows : goal.returns-clause-shows
returns-clause-shows g c = λ moment tables today heard.
    all_given (IsItemAt (present c.args.app.now c.args.session.now tables moment) (value_of c.args.valued.now) c.args.gallery) c.args.first c.loop-row.row-index c.args.rows.now c.args.rows.now c.loop-row.list refl c.loop-row-test.false (c.loop-row.invariant.given moment tables today heard)

pub returns-clause-visits : goal.returns-clause-visits
returns-clause-visits g c = λ moment today t told.
    all_visited (ItemAtVisits c.args.app.now c.args.session.now (rows_of_tables t.states) moment (value_of c.args.valued.now) c.args.gallery) c.args.first c.loop-row.row-index c.args.rows.now c.args.rows.now c.loop-row.list (g.K.Keeper.visited c.args.keeper.now) (g.K.Keeper.visited c.loop-row.keeper) refl c.loop-row-test.false (c.loop-row.invariant.visits moment today t told)
