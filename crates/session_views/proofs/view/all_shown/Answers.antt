use Rattle.session_views.proofs.Visiting.{all_visited, none_visited, one_visited}
use Rattle.session_views.specs.Visits.{ShownVisits}
use Rattle.recalc.proofs.CellVisits.{told_back}
use Rattle.row_keeper.specs.Tables.{rows_of_tables}
use Rattle.std.proofs.Common.{◌≡◌, ◌+◌, ap, arith, length, refl}
use Rattle.recalc.specs.app_semantics.Present.{present}
use Rattle.session_views.specs.Bounds.{shown_steps}
use Rattle.session_views.specs.Views.{IsShown}
use Rattle.recalc.proofs.Asked.{heard_before, read_none, read_on}
use Rattle.recalc.specs.Asking.{Keeping, keeping}
use Rattle.recalc.specs.Values.{value_of}
use Rattle.session_views.proofs.Counts.{at_least, shown_more}
use Rattle.session_views.proofs.Giving.{all_given, at_place, none_given, one_given}
use Rattle.session_views.proofs.view.all_shown.Goals as goal

pub loop-control-init : goal.loop-control-init
loop-control-init g c = record {
  number = refl;
  ticks = at_least c.args.steps.now (shown_steps c.args.app.now.names c.new-shown.result);
  given = λ moment tables today heard. none_given (IsShown (present c.args.app.now c.args.session.now tables moment) (value_of c.args.valued.now)) 0 0 c.args.app.now.names.controls c.new-shown.result refl c.new-shown.ensures;
  visits = λ moment today t told. none_visited (ShownVisits c.args.app.now c.args.session.now (rows_of_tables t.states) moment (value_of c.args.valued.now)) 0 0 c.args.app.now.names.controls c.new-shown.result (g.K.Keeper.visited c.args.keeper.now) refl c.new-shown.ensures;
  read = read_none (keeping (g.K.Keeper.told c.args.keeper.now) (g.K.Keeper.began c.args.keeper.now) (g.K.Keeper.shaped c.args.keeper.now) (g.K.Keeper.in_transaction c.args.keeper.now) (g.K.Keeper.marks c.args.keeper.now) (g.K.Keeper.visited c.args.keeper.now) (g.K.Keeper.loan c.args.keeper.now));
}

pub shown_control-requires-clause-control : goal.shown_control-requires-clause-control
shown_control-requires-clause-control g c =
    at_place c.as_slice-controls.result.now c.args.app.now.names.controls c.loop-control.number c.loop-control.control-index c.control-item.result c.as_slice-controls.ensures c.loop-control.invariant.number
    c.loop-control-test.true c.control-item.is

pub overflow_add-number : goal.overflow_add-number
overflow_add-number g c =
    let many : length c.as_slice-controls.result.now ≡ length c.args.app.now.names.controls = ap length c.as_slice-controls.ensures in
    omega (arith, many, c.requires.ready.sound.names.controls.0, c.loop-control.invariant.number, c.loop-control-test.true)

pub loop-control-preserved : goal.loop-control-preserved
loop-control-preserved g c =
    let first : Keeping = keeping (g.K.Keeper.told c.args.keeper.now) (g.K.Keeper.began c.args.keeper.now) (g.K.Keeper.shaped c.args.keeper.now) (g.K.Keeper.in_transaction c.args.keeper.now) (g.K.Keeper.marks c.args.keeper.now) (g.K.Keeper.visited c.args.keeper.now) (g.K.Keeper.loan c.args.keeper.now) in
    let before : Keeping = keeping (g.K.Keeper.told c.loop-control.keeper) (g.K.Keeper.began c.loop-control.keeper) (g.K.Keeper.shaped c.loop-control.keeper) (g.K.Keeper.in_transaction c.loop-control.keeper) (g.K.Keeper.marks c.loop-control.keeper) (g.K.Keeper.visited c.loop-control.keeper) (g.K.Keeper.loan c.loop-control.keeper) in
    let after : Keeping = keeping (g.K.Keeper.told c.shown_control.new.keeper) (g.K.Keeper.began c.shown_control.new.keeper) (g.K.Keeper.shaped c.shown_control.new.keeper) (g.K.Keeper.in_transaction c.shown_control.new.keeper) (g.K.Keeper.marks c.shown_control.new.keeper) (g.K.Keeper.visited c.shown_control.new.keeper) (g.K.Keeper.loan c.shown_control.new.keeper) in
    let place : c.loop-control.number ≡ 0 + c.loop-control.control-index = omega (arith, c.loop-control.invariant.number) in
    record {
      number = omega (arith, c.loop-control.invariant.number);
      ticks = shown_more c.args.app.now.names c.loop-control.shown c.add.new.list c.in_ok-given.given c.args.steps.now c.loop-control.steps c.shown_control.new.steps c.in_ok-add.ensures c.in_ok-given.ensures.ticks c.loop-control.invariant.ticks;
      given = λ moment tables today heard.
          one_given (IsShown (present c.args.app.now c.args.session.now tables moment) (value_of c.args.valued.now)) 0 c.loop-control.number c.loop-control.control-index c.as_slice-controls.result.now c.args.app.now.names.controls c.control-item.result c.in_ok-given.given c.loop-control.shown c.add.new.list
          place c.as_slice-controls.ensures c.loop-control-test.true c.control-item.is (c.in_ok-given.ensures.shows moment tables today heard) c.in_ok-add.ensures (c.loop-control.invariant.given moment tables today (heard_before before after c.in_ok-given.ensures.read tables heard));
      visits = λ moment today t told.
          one_visited (ShownVisits c.args.app.now c.args.session.now (rows_of_tables t.states) moment (value_of c.args.valued.now)) 0 c.loop-control.number c.loop-control.control-index c.as_slice-controls.result.now c.args.app.now.names.controls c.control-item.result c.in_ok-given.given c.loop-control.shown c.add.new.list (g.K.Keeper.visited c.args.keeper.now) (g.K.Keeper.visited c.loop-control.keeper) (g.K.Keeper.visited c.shown_control.new.keeper)
          place c.as_slice-controls.ensures c.loop-control-test.true c.control-item.is (c.in_ok-given.ensures.visits moment today t told) c.in_ok-add.ensures (c.loop-control.invariant.visits moment today t (told_back before after c.in_ok-given.ensures.read t told));
      read = read_on first before after c.loop-control.invariant.read c.in_ok-given.ensures.read;
    }

pub returns-clause-shows : goal.returns-clause-shows
returns-clause-shows g c = λ moment tables today heard.
    all_given (IsShown (present c.args.app.now c.args.session.now tables moment) (value_of c.args.valued.now)) 0 c.loop-control.control-index c.as_slice-controls.result.now c.args.app.now.names.controls c.loop-control.shown c.as_slice-controls.ensures c.loop-control-test.false (c.loop-control.invariant.given moment tables today heard)

pub returns-clause-visits : goal.returns-clause-visits
returns-clause-visits g c = λ moment today t told.
    all_visited (ShownVisits c.args.app.now c.args.session.now (rows_of_tables t.states) moment (value_of c.args.valued.now)) 0 c.loop-control.control-index c.as_slice-controls.result.now c.args.app.now.names.controls c.loop-control.shown (g.K.Keeper.visited c.args.keeper.now) (g.K.Keeper.visited c.loop-control.keeper)
    c.as_slice-controls.ensures c.loop-control-test.false (c.loop-control.invariant.visits moment today t told)
