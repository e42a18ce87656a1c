use Rattle.recalc.proofs.CellVisits.{told_back}
use Rattle.row_keeper.specs.Tables.{rows_of_tables, rows_told}
use Rattle.std.proofs.Common.{subst, sym, Some, ap}
use Rattle.std.proofs.lemmas.Result.{IfOk-weaker}
use Rattle.std.specs.List.{Contains}
use Rattle.recalc.proofs.Asked.{heard_before}
use Rattle.recalc.specs.Asking.{Keeping, keeping}
use Rattle.recalc.specs.Values.{CellValues, value_of}
use Rattle.recalc.specs.app_semantics.Present.{Present, present}
use Rattle.fx_scalar.specs.ScalarFunctions.{IsToday}
use Rattle.session_views.proofs.Needing.{fresh_for, lent, looked_on, made_for}
use Rattle.session_views.specs.Looking.{AreFreshFor, AreLookedAt, is_on_screen}
use Rattle.session_views.proofs.view.view_of.Goals as goal

pub returns-clause-shows : goal.returns-clause-shows
returns-clause-shows g c =
    let before : Keeping = keeping (g.K.Keeper.told c.refresh.new.keeper) (g.K.Keeper.began c.refresh.new.keeper) (g.K.Keeper.shaped c.refresh.new.keeper) (g.K.Keeper.in_transaction c.refresh.new.keeper) (g.K.Keeper.marks c.refresh.new.keeper) (g.K.Keeper.visited c.refresh.new.keeper) (g.K.Keeper.loan c.refresh.new.keeper) in
    let after : Keeping = keeping (g.K.Keeper.told c.view_by.new.keeper) (g.K.Keeper.began c.view_by.new.keeper) (g.K.Keeper.shaped c.view_by.new.keeper) (g.K.Keeper.in_transaction c.view_by.new.keeper) (g.K.Keeper.marks c.view_by.new.keeper) (g.K.Keeper.visited c.view_by.new.keeper) (g.K.Keeper.loan c.view_by.new.keeper) in
    let looked : AreLookedAt c.args.app.now (is_on_screen c.args.app.now.names c.args.session.now.screen) c.in_ok-roots.roots.items = looked_on c.args.app.now c.screen.result c.args.session.now.screen c.in_ok-roots.roots.items c.screen.ensures c.in_ok-roots.ensures in
    let today : IsToday c.args.moment c.values.result.now.day = subst (λ (v : CellValues). IsToday c.args.moment v.day) (sym c.values.ensures) (subst (IsToday c.args.moment) (sym c.refresh.ensures.day) c.requires.day) in
    IfOk-weaker c.view_by.result _ _ (λ v h right tables heard.
    let p : Present = present c.args.app.now c.args.session.now tables c.args.moment in
    let fresh = c.in_ok-refresh.ensures.fresh right in
    record {
      values = value_of c.values.result.now;
      fresh = subst (λ (v : CellValues). AreFreshFor p (value_of v) (is_on_screen c.args.app.now.names c.args.session.now.screen)) (sym c.values.ensures)
          (fresh_for p c.refresh.new.self (is_on_screen c.args.app.now.names c.args.session.now.screen) c.in_ok-roots.roots.items c.refresh.ensures.order looked (λ k among. fresh tables k (heard_before before after c.view_by.ensures.read tables heard) (subst (λ ks. Contains ks k) (sym c.deref.ensures.value) among)));
      shows = h c.args.moment tables today heard;
    })
    c.view_by.ensures.shows

pub returns-clause-made : goal.returns-clause-made
returns-clause-made g c =
    let looked : AreLookedAt c.args.app.now (is_on_screen c.args.app.now.names c.args.session.now.screen) c.in_ok-roots.roots.items = looked_on c.args.app.now c.screen.result c.args.session.now.screen c.in_ok-roots.roots.items c.screen.ensures c.in_ok-roots.ensures in
    IfOk-weaker c.view_by.result _ _ (λ v h. made_for c.args.app.now c.refresh.new.self (is_on_screen c.args.app.now.names c.args.session.now.screen) c.in_ok-roots.roots.items c.refresh.ensures.order looked (λ k among. c.in_ok-refresh.ensures.made k (subst (λ ks. Contains ks k) (sym c.deref.ensures.value) among)))
    c.view_by.ensures.ticks

pub returns-clause-ticks : goal.returns-clause-ticks
returns-clause-ticks g c =
    let looked : AreLookedAt c.args.app.now (is_on_screen c.args.app.now.names c.args.session.now.screen) c.in_ok-roots.roots.items = looked_on c.args.app.now c.screen.result c.args.session.now.screen c.in_ok-roots.roots.items c.screen.ensures c.in_ok-roots.ensures in
    IfOk-weaker c.view_by.result _ _ (λ v h room. record {
      roots = c.deref.result.now;
      looked = lent c.args.app.now (is_on_screen c.args.app.now.names c.args.session.now.screen) c.in_ok-roots.roots.items c.deref.result.now c.deref.ensures.value looked;
      between = c.refresh.new.steps;
      cells = c.in_ok-refresh.ensures.ticks room;
      others = h;
    })
    c.view_by.ensures.ticks

pub returns-clause-visits : goal.returns-clause-visits
returns-clause-visits g c =
    let before : Keeping = keeping (g.K.Keeper.told c.refresh.new.keeper) (g.K.Keeper.began c.refresh.new.keeper) (g.K.Keeper.shaped c.refresh.new.keeper) (g.K.Keeper.in_transaction c.refresh.new.keeper) (g.K.Keeper.marks c.refresh.new.keeper) (g.K.Keeper.visited c.refresh.new.keeper) (g.K.Keeper.loan c.refresh.new.keeper) in
    let after : Keeping = keeping (g.K.Keeper.told c.view_by.new.keeper) (g.K.Keeper.began c.view_by.new.keeper) (g.K.Keeper.shaped c.view_by.new.keeper) (g.K.Keeper.in_transaction c.view_by.new.keeper) (g.K.Keeper.marks c.view_by.new.keeper) (g.K.Keeper.visited c.view_by.new.keeper) (g.K.Keeper.loan c.view_by.new.keeper) in
    let looked : AreLookedAt c.args.app.now (is_on_screen c.args.app.now.names c.args.session.now.screen) c.in_ok-roots.roots.items = looked_on c.args.app.now c.screen.result c.args.session.now.screen c.in_ok-roots.roots.items c.screen.ensures c.in_ok-roots.ensures in
    let today : IsToday c.args.moment c.values.result.now.day = subst (λ (v : CellValues). IsToday c.args.moment v.day) (sym c.values.ensures) (subst (IsToday c.args.moment) (sym c.refresh.ensures.day) c.requires.day) in
    IfOk-weaker c.view_by.result _ _ (λ v h right room t told.
    let p : Present = present c.args.app.now c.args.session.now (Some (rows_of_tables t.states)) c.args.moment in
    let fresh = c.in_ok-refresh.ensures.fresh right in
    record {
      roots = c.deref.result.now;
      looked = lent c.args.app.now (is_on_screen c.args.app.now.names c.args.session.now.screen) c.in_ok-roots.roots.items c.deref.result.now c.deref.ensures.value looked;
      between = c.refresh.new.steps;
      mid = g.K.Keeper.visited c.refresh.new.keeper;
      cells = c.in_ok-refresh.ensures.visits right room t (told_back before after c.view_by.ensures.read t told);
      values = value_of c.values.result.now;
      fresh = subst (λ (v : CellValues). AreFreshFor p (value_of v) (is_on_screen c.args.app.now.names c.args.session.now.screen)) (sym c.values.ensures)
          (fresh_for p c.refresh.new.self (is_on_screen c.args.app.now.names c.args.session.now.screen) c.in_ok-roots.roots.items c.refresh.ensures.order looked
          (λ k among. fresh (Some (rows_of_tables t.states)) k (heard_before before after c.view_by.ensures.read (Some (rows_of_tables t.states)) (ap rows_told told)) (subst (λ ks. Contains ks k) (sym c.deref.ensures.value) among)));
      items = h c.args.moment today t told;
    })
    c.view_by.ensures.visits
