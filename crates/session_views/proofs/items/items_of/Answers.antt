use Rattle.recalc.proofs.CellVisits.{told_back}
use Rattle.row_keeper.specs.Tables.{rows_of_tables, rows_told}
use Rattle.std.proofs.Common.{[], subst, sym, Some, ap}
use Rattle.std.proofs.lemmas.Result.{IfOk-weaker}
use Rattle.std.specs.List.{Contains}
use Rattle.recalc.proofs.Asked.{heard_before}
use Rattle.recalc.proofs.Leaving.{left_same}
use Rattle.recalc.specs.Asking.{Keeping, keeping}
use Rattle.recalc.specs.Values.{CellValues, value_of}
use Rattle.recalc.specs.app_semantics.Present.{Present, present}
use Rattle.fx_scalar.specs.ScalarFunctions.{IsToday}
use Rattle.session_views.proofs.Needing.{fresh_for, lent, made_for}
use Rattle.session_views.specs.Looking.{AreFreshFor, AreLookedAt, is_it}
use Rattle.session_views.proofs.items.items_of.Goals as goal

pub returns-clause-shows : goal.returns-clause-shows
returns-clause-shows g c =
    let before : Keeping = keeping (g.K.Keeper.told c.refresh.new.keeper) (g.K.Keeper.began c.refresh.new.keeper) (g.K.Keeper.shaped c.refresh.new.keeper) (g.K.Keeper.in_transaction c.refresh.new.keeper) (g.K.Keeper.marks c.refresh.new.keeper) (g.K.Keeper.visited c.refresh.new.keeper) (g.K.Keeper.loan c.refresh.new.keeper) in
    let after : Keeping = keeping (g.K.Keeper.told c.items_by.new.keeper) (g.K.Keeper.began c.items_by.new.keeper) (g.K.Keeper.shaped c.items_by.new.keeper) (g.K.Keeper.in_transaction c.items_by.new.keeper) (g.K.Keeper.marks c.items_by.new.keeper) (g.K.Keeper.visited c.items_by.new.keeper) (g.K.Keeper.loan c.items_by.new.keeper) in
    let looked : AreLookedAt c.args.app.now (is_it c.args.gallery) c.in_ok-roots.roots.items = c.in_ok-roots.ensures in
    let today : IsToday c.args.moment c.values.result.now.day = subst (λ (v : CellValues). IsToday c.args.moment v.day) (sym c.values.ensures) (subst (IsToday c.args.moment) (sym c.refresh.ensures.day) c.requires.day) in
    IfOk-weaker c.items_by.result _ _ (λ v h right tables heard.
    let p : Present = present c.args.app.now c.args.session.now tables c.args.moment in
    let fresh = c.in_ok-refresh.ensures.fresh right in
    record {
      values = value_of c.values.result.now;
      fresh = subst (λ (v : CellValues). AreFreshFor p (value_of v) (is_it c.args.gallery)) (sym c.values.ensures)
          (fresh_for p c.refresh.new.self (is_it c.args.gallery) c.in_ok-roots.roots.items c.refresh.ensures.order looked (λ k among. fresh tables k (heard_before before after c.items_by.ensures.read tables heard) (subst (λ ks. Contains ks k) (sym c.deref.ensures.value) among)));
      are = h c.args.moment tables today heard;
    })
    c.items_by.ensures.shows

pub returns-clause-made : goal.returns-clause-made
returns-clause-made g c =
    let looked : AreLookedAt c.args.app.now (is_it c.args.gallery) c.in_ok-roots.roots.items = c.in_ok-roots.ensures in
    IfOk-weaker c.items_by.result _ _ (λ v h. made_for c.args.app.now c.refresh.new.self (is_it c.args.gallery) c.in_ok-roots.roots.items c.refresh.ensures.order looked (λ k among. c.in_ok-refresh.ensures.made k (subst (λ ks. Contains ks k) (sym c.deref.ensures.value) among)))
    c.items_by.ensures.ticks

pub returns-clause-ticks : goal.returns-clause-ticks
returns-clause-ticks g c =
    let looked : AreLookedAt c.args.app.now (is_it c.args.gallery) c.in_ok-roots.roots.items = c.in_ok-roots.ensures in
    IfOk-weaker c.items_by.result _ _ (λ v h room. record {
      roots = c.deref.result.now;
      looked = lent c.args.app.now (is_it c.args.gallery) c.in_ok-roots.roots.items c.deref.result.now c.deref.ensures.value looked;
      between = c.refresh.new.steps;
      cells = c.in_ok-refresh.ensures.ticks room;
      others = h;
    })
    c.items_by.ensures.ticks

pub returns-in_err-roots-clause-but : goal.returns-in_err-roots-clause-but
returns-in_err-roots-clause-but g c = left_same c.args.app.now [] c.args.cache.now

pub returns-clause-right : goal.returns-clause-right
returns-clause-right g c =
    let before : Keeping = keeping (g.K.Keeper.told c.refresh.new.keeper) (g.K.Keeper.began c.refresh.new.keeper) (g.K.Keeper.shaped c.refresh.new.keeper) (g.K.Keeper.in_transaction c.refresh.new.keeper) (g.K.Keeper.marks c.refresh.new.keeper) (g.K.Keeper.visited c.refresh.new.keeper) (g.K.Keeper.loan c.refresh.new.keeper) in
    let after : Keeping = keeping (g.K.Keeper.told c.items_by.new.keeper) (g.K.Keeper.began c.items_by.new.keeper) (g.K.Keeper.shaped c.items_by.new.keeper) (g.K.Keeper.in_transaction c.items_by.new.keeper) (g.K.Keeper.marks c.items_by.new.keeper) (g.K.Keeper.visited c.items_by.new.keeper) (g.K.Keeper.loan c.items_by.new.keeper) in
    λ right tables heard. c.refresh.ensures.right right tables (heard_before before after c.items_by.ensures.read tables heard)

pub returns-clause-visits : goal.returns-clause-visits
returns-clause-visits g c =
    let before : Keeping = keeping (g.K.Keeper.told c.refresh.new.keeper) (g.K.Keeper.began c.refresh.new.keeper) (g.K.Keeper.shaped c.refresh.new.keeper) (g.K.Keeper.in_transaction c.refresh.new.keeper) (g.K.Keeper.marks c.refresh.new.keeper) (g.K.Keeper.visited c.refresh.new.keeper) (g.K.Keeper.loan c.refresh.new.keeper) in
    let after : Keeping = keeping (g.K.Keeper.told c.items_by.new.keeper) (g.K.Keeper.began c.items_by.new.keeper) (g.K.Keeper.shaped c.items_by.new.keeper) (g.K.Keeper.in_transaction c.items_by.new.keeper) (g.K.Keeper.marks c.items_by.new.keeper) (g.K.Keeper.visited c.items_by.new.keeper) (g.K.Keeper.loan c.items_by.new.keeper) in
    let looked : AreLookedAt c.args.app.now (is_it c.args.gallery) c.in_ok-roots.roots.items = c.in_ok-roots.ensures in
    let today : IsToday c.args.moment c.values.result.now.day = subst (λ (v : CellValues). IsToday c.args.moment v.day) (sym c.values.ensures) (subst (IsToday c.args.moment) (sym c.refresh.ensures.day) c.requires.day) in
    IfOk-weaker c.items_by.result _ _ (λ v h right room t told.
    let p : Present = present c.args.app.now c.args.session.now (Some (rows_of_tables t.states)) c.args.moment in
    let fresh = c.in_ok-refresh.ensures.fresh right in
    record {
      roots = c.deref.result.now;
      looked = lent c.args.app.now (is_it c.args.gallery) c.in_ok-roots.roots.items c.deref.result.now c.deref.ensures.value looked;
      between = c.refresh.new.steps;
      mid = g.K.Keeper.visited c.refresh.new.keeper;
      cells = c.in_ok-refresh.ensures.visits right room t (told_back before after c.items_by.ensures.read t told);
      values = value_of c.values.result.now;
      fresh = subst (λ (v : CellValues). AreFreshFor p (value_of v) (is_it c.args.gallery)) (sym c.values.ensures)
          (fresh_for p c.refresh.new.self (is_it c.args.gallery) c.in_ok-roots.roots.items c.refresh.ensures.order looked
          (λ k among. fresh (Some (rows_of_tables t.states)) k (heard_before before after c.items_by.ensures.read (Some (rows_of_tables t.states)) (ap rows_told told)) (subst (λ ks. Contains ks k) (sym c.deref.ensures.value) among)));
      items = h c.args.moment today t told;
    })
    c.items_by.ensures.visits
