use Rattle.session_views.proofs.Visiting.{all_visited, none_visited, one_visited}
use Rattle.session_views.specs.Visits.{TemplateVisits}
use Rattle.recalc.proofs.CellVisits.{told_back}
use Rattle.row_keeper.specs.Tables.{rows_of_tables}
use Rattle.std.proofs.Common.{◌≡◌, ◌+◌, ◌≤◌, ap, arith, length, refl, subst, ℕ}
use Rattle.recalc.specs.app_semantics.Present.{present}
use Rattle.session_views.specs.Bounds.{control_steps}
use Rattle.session_views.specs.Views.{IsItemControlShown, is_in}
use Rattle.recalc.specs.fx_semantics.Around.{record_of}
use Rattle.recalc.proofs.Asked.{heard_before, read_none, read_on}
use Rattle.recalc.specs.Asking.{Keeping, keeping}
use Rattle.recalc.specs.Values.{value_of}
use Rattle.session_views.proofs.Counts.{all_formulas, at_least, formulas_before, more_formulas}
use Rattle.session_views.proofs.Giving.{all_given, at_place, none_given, one_given}
use Rattle.session_views.proofs.templates.item_controls.Goals as goal

pub loop-control-init : goal.loop-control-init
loop-control-init g c = record {
  number = refl;
  ticks = at_least c.args.steps.now (formulas_before c.args.app.now.names c.args.gallery 0);
  given = λ moment tables today heard. none_given (IsItemControlShown (present c.args.app.now c.args.session.now tables moment) (value_of c.args.valued.now) c.args.gallery (record_of c.args.row.now)) 0 0 c.args.app.now.names.controls c.new-shown.result refl c.new-shown.ensures;
  visits = λ moment today t told. none_visited (TemplateVisits c.args.app.now c.args.session.now (rows_of_tables t.states) moment (value_of c.args.valued.now) c.args.gallery (record_of c.args.row.now)) 0 0 c.args.app.now.names.controls c.new-shown.result (g.K.Keeper.visited c.args.keeper.now) refl c.new-shown.ensures;
  read = read_none (keeping (g.K.Keeper.told c.args.keeper.now) (g.K.Keeper.began c.args.keeper.now) (g.K.Keeper.shaped c.args.keeper.now) (g.K.Keeper.in_transaction c.args.keeper.now) (g.K.Keeper.marks c.args.keeper.now) (g.K.Keeper.visited c.args.keeper.now) (g.K.Keeper.loan c.args.keeper.now));
}

pub item_control-requires-clause-control : goal.item_control-requires-clause-control
item_control-requires-clause-control g c =
    at_place c.as_slice-controls.result.now c.args.app.now.names.controls c.loop-control.number c.loop-control.control-index c.control-item.result c.as_slice-controls.ensures c.loop-control.invariant.number
    c.loop-control-test.true c.control-item.is

pub overflow_add-number : goal.overflow_add-number
overflow_add-number g c =
    let many : length c.as_slice-controls.result.now ≡ length c.args.app.now.names.controls = ap length c.as_slice-controls.ensures in
    omega (arith, many, c.requires.ready.sound.names.controls.0, c.loop-control.invariant.number, c.loop-control-test.true)

pub loop-control-preserved : goal.loop-control-preserved
loop-control-preserved g c =
    let first : Keeping = keeping (g.K.Keeper.told c.args.keeper.now) (g.K.Keeper.began c.args.keeper.now) (g.K.Keeper.shaped c.args.keeper.now) (g.K.Keeper.in_transaction c.args.keeper.now) (g.K.Keeper.marks c.args.keeper.now) (g.K.Keeper.visited c.args.keeper.now) (g.K.Keeper.loan c.args.keeper.now) in
    let before : Keeping = keeping (g.K.Keeper.told c.loop-control.keeper) (g.K.Keeper.began c.loop-control.keeper) (g.K.Keeper.shaped c.loop-control.keeper) (g.K.Keeper.in_transaction c.loop-control.keeper) (g.K.Keeper.marks c.loop-control.keeper) (g.K.Keeper.visited c.loop-control.keeper) (g.K.Keeper.loan c.loop-control.keeper) in
    let after : Keeping = keeping (g.K.Keeper.told c.item_control.new.keeper) (g.K.Keeper.began c.item_control.new.keeper) (g.K.Keeper.shaped c.item_control.new.keeper) (g.K.Keeper.in_transaction c.item_control.new.keeper) (g.K.Keeper.marks c.item_control.new.keeper) (g.K.Keeper.visited c.item_control.new.keeper) (g.K.Keeper.loan c.item_control.new.keeper) in
    let place : c.loop-control.number ≡ 0 + c.loop-control.control-index = omega (arith, c.loop-control.invariant.number) in
    let there = at_place c.as_slice-controls.result.now c.args.app.now.names.controls c.loop-control.control-index c.loop-control.control-index c.control-item.result c.as_slice-controls.ensures refl c.loop-control-test.true c.control-item.is in
    let more = more_formulas c.args.app.now.names c.args.gallery c.loop-control.control-index c.control-item.result there in
    let one = subst (λ (k : ℕ). c.item_control.new.steps ≤ c.loop-control.steps + control_steps c.args.app.now.names k (is_in c.args.gallery c.control-item.result.gallery)) c.loop-control.invariant.number c.in_ok-given.ensures.ticks in
    record {
      number = omega (arith, c.loop-control.invariant.number);
      ticks = omega (arith, one, more, c.loop-control.invariant.ticks);
      given = λ moment tables today heard.
          one_given (IsItemControlShown (present c.args.app.now c.args.session.now tables moment) (value_of c.args.valued.now) c.args.gallery (record_of c.args.row.now)) 0 c.loop-control.number c.loop-control.control-index c.as_slice-controls.result.now c.args.app.now.names.controls c.control-item.result c.in_ok-given.given c.loop-control.shown c.add.new.list
          place c.as_slice-controls.ensures c.loop-control-test.true c.control-item.is (c.in_ok-given.ensures.shows moment tables today heard) c.in_ok-add.ensures (c.loop-control.invariant.given moment tables today (heard_before before after c.in_ok-given.ensures.read tables heard));
      visits = λ moment today t told.
          one_visited (TemplateVisits c.args.app.now c.args.session.now (rows_of_tables t.states) moment (value_of c.args.valued.now) c.args.gallery (record_of c.args.row.now)) 0 c.loop-control.number c.loop-control.control-index c.as_slice-controls.result.now c.args.app.now.names.controls c.control-item.result c.in_ok-given.given c.loop-control.shown c.add.new.list (g.K.Keeper.visited c.args.keeper.now) (g.K.Keeper.visited c.loop-control.keeper) (g.K.Keeper.visited c.item_control.new.keeper)
          place c.as_slice-controls.ensures c.loop-control-test.true c.control-item.is (c.in_ok-given.ensures.visits moment today t told) c.in_ok-add.ensures (c.loop-control.invariant.visits moment today t (told_back before after c.in_ok-given.ensures.read t told));
      read = read_on first before after c.loop-control.invariant.read c.in_ok-given.ensures.read;
    }

pub returns-clause-shows : goal.returns-clause-shows
returns-clause-shows g c = λ moment tables today heard.
    all_given (IsItemControlShown (present c.args.app.now c.args.session.now tables moment) (value_of c.args.valued.now) c.args.gallery (record_of c.args.row.now)) 0 c.loop-control.control-index c.as_slice-controls.result.now c.args.app.now.names.controls c.loop-control.shown c.as_slice-controls.ensures c.loop-control-test.false (c.loop-control.invariant.given moment tables today heard)

pub returns-clause-ticks : goal.returns-clause-ticks
returns-clause-ticks g c = let all = all_formulas c.args.app.now.names c.args.gallery c.loop-control.control-index in omega (arith, all, c.loop-control.invariant.ticks)

pub returns-clause-visits : goal.returns-clause-visits
returns-clause-visits g c = λ moment today t told.
    all_visited (TemplateVisits c.args.app.now c.args.session.now (rows_of_tables t.states) moment (value_of c.args.valued.now) c.args.gallery (record_of c.args.row.now)) 0 c.loop-control.control-index c.as_slice-controls.result.now c.args.app.now.names.controls c.loop-control.shown (g.K.Keeper.visited c.args.keeper.now) (g.K.Keeper.visited c.loop-control.keeper)
    c.as_slice-controls.ensures c.loop-control-test.false (c.loop-control.invariant.visits moment today t told)
