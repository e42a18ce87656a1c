use Rattle.std.proofs.Common.{None, ◌≡◌, ◌<◌, ℕ, Some, arith, length, slice_get, subst, sym}
use Rattle.std.proofs.lemmas.Option.{slice_get_within}
use Rattle.fx_types.specs.ValueView.{view}
use Rattle.fx_types.specs.Values.{Data}
use Rattle.fx_scalar.specs.ScalarFunctions.{IsToday}
use Rattle.recalc.specs.Asking.{Keeping, keeping}
use Rattle.recalc.specs.Values.{CellsFit, CellValues}
use Rattle.recalc.specs.Values as values
use Rattle.recalc.specs.app_cells.declared.app.App.{App}
use Rattle.recalc.specs.app_cells.declared.app.CellInfo.{CellInfo}
use Rattle.recalc.specs.app_semantics.Fresh.{IsCellValue}
use Rattle.recalc.specs.app_semantics.Present.{present}
use Rattle.fx_eval.specs.Visits.{AtMost}
use Rattle.recalc.proofs.CellVisits.{leaned_fresh}
use Rattle.recalc.specs.Visits.{FormulaVisits}
use Rattle.row_keeper.specs.Tables.{rows_of_tables}
use Rattle.recalc.proofs.Places.{alone_at}
use Rattle.recalc.proofs.Setting.{evaluated_brought, evaluated_order, evaluated_right, right_on}
use Rattle.recalc.specs.Kept.{IsInOrder, CacheState}
use Rattle.recalc.specs.Outcomes.{IsRightOver}
use Rattle.recalc.specs.Steps.{IsBrought}
use Rattle.recalc.proofs.cache.Cache.evaluate.Goals as goal

within : (a : App) (c : CacheState) (k : ℕ) (i : CellInfo) → slice_get a.cells k ≡ Some i → IsInOrder a c → k < length c.values.cells
within a c k i there o = let low = slice_get_within a.cells k i there in let values = o.values in omega (arith, low, values)

pub by_itself-requires-clause-fits : goal.by_itself-requires-clause-fits
by_itself-requires-clause-fits g c = subst (λ (v : CellValues). CellsFit c.args.app.now (values.value_of v)) (sym c.values.ensures) c.requires.order.fits

pub by_itself-requires-clause-day : goal.by_itself-requires-clause-day
by_itself-requires-clause-day g c = (c.args.moment, subst (λ (v : CellValues). IsToday c.args.moment v.day) (sym c.values.ensures) c.requires.day)

pub by_itself-requires-clause-cell : goal.by_itself-requires-clause-cell
by_itself-requires-clause-cell g c = (c.args.cell, c.requires.there)

pub by_itself-requires-clause-alone : goal.by_itself-requires-clause-alone
by_itself-requires-clause-alone g c = alone_at c.args.app.now.cells c.args.cell c.args.info.now c.requires.there c.requires.self_alone

pub since-moved-requires-clause-there : goal.since-moved-requires-clause-there
since-moved-requires-clause-there g c = within c.args.app.now c.args.self.now c.args.cell c.args.info.now c.requires.there c.requires.order

pub keep-requires-clause-value : goal.keep-requires-clause-value
keep-requires-clause-value g c = within c.args.app.now c.args.self.now c.args.cell c.args.info.now c.requires.there c.requires.order

pub keep-requires-clause-stamp : goal.keep-requires-clause-stamp
keep-requires-clause-stamp g c =
    let low = slice_get_within c.args.app.now.cells c.args.cell c.args.info.now c.requires.there in
    let stamps = c.requires.order.stamps in
    omega (arith, low, stamps)

pub returns-in_err-value-clause-right : goal.returns-in_err-value-clause-right
returns-in_err-value-clause-right g c = λ right.
    let before : Keeping = keeping (g.K.Keeper.told c.args.keeper.now) (g.K.Keeper.began c.args.keeper.now) (g.K.Keeper.shaped c.args.keeper.now) (g.K.Keeper.in_transaction c.args.keeper.now) (g.K.Keeper.marks c.args.keeper.now) (g.K.Keeper.visited c.args.keeper.now) (g.K.Keeper.loan c.args.keeper.now) in
    let after : Keeping = keeping (g.K.Keeper.told c.by_itself.new.keeper) (g.K.Keeper.began c.by_itself.new.keeper) (g.K.Keeper.shaped c.by_itself.new.keeper) (g.K.Keeper.in_transaction c.by_itself.new.keeper) (g.K.Keeper.marks c.by_itself.new.keeper) (g.K.Keeper.visited c.by_itself.new.keeper) (g.K.Keeper.loan c.by_itself.new.keeper) in
    right_on c.args.app.now c.args.session.now c.args.moment c.args.self.now before after c.in_err-value.ensures.read right

pub returns-clause-order : goal.returns-clause-order
returns-clause-order g c =
    let v : Data = view c.in_ok-value.value in
    subst (IsInOrder c.args.app.now) (sym c.keep.ensures)
    (evaluated_order c.args.app.now c.args.self.now c.args.cell c.args.info.now c.requires.sound c.requires.there c.requires.self_alone c.requires.unclean c.requires.leans c.requires.order c.since-moved.result v
    c.in_ok-value.ensures.fits c.since-moved.ensures)

pub returns-clause-right : goal.returns-clause-right
returns-clause-right g c = λ right.
    let v : Data = view c.in_ok-value.value in
    let before : Keeping = keeping (g.K.Keeper.told c.args.keeper.now) (g.K.Keeper.began c.args.keeper.now) (g.K.Keeper.shaped c.args.keeper.now) (g.K.Keeper.in_transaction c.args.keeper.now) (g.K.Keeper.marks c.args.keeper.now) (g.K.Keeper.visited c.args.keeper.now) (g.K.Keeper.loan c.args.keeper.now) in
    let after : Keeping = keeping (g.K.Keeper.told c.by_itself.new.keeper) (g.K.Keeper.began c.by_itself.new.keeper) (g.K.Keeper.shaped c.by_itself.new.keeper) (g.K.Keeper.in_transaction c.by_itself.new.keeper) (g.K.Keeper.marks c.by_itself.new.keeper) (g.K.Keeper.visited c.by_itself.new.keeper) (g.K.Keeper.loan c.by_itself.new.keeper) in
    subst (λ (x : CacheState). IsRightOver c.args.app.now c.args.session.now after.told c.args.moment x) (sym c.keep.ensures)
    (evaluated_right c.args.app.now c.args.self.now c.args.cell c.args.info.now c.requires.sound c.requires.there c.requires.self_alone c.requires.unclean c.requires.leans c.requires.order c.since-moved.result v
    c.in_ok-value.ensures.fits c.since-moved.ensures c.args.session.now c.args.moment before after c.in_ok-value.ensures.read right
    (λ tables heard. subst (λ (w : CellValues). IsCellValue (present c.args.app.now c.args.session.now tables c.args.moment) (values.value_of w) c.args.info.now v) c.values.ensures
    (c.in_ok-value.ensures.value c.args.moment tables (subst (λ (w : CellValues). IsToday c.args.moment w.day) (sym c.values.ensures) c.requires.day) heard)))

pub returns-clause-brought : goal.returns-clause-brought
returns-clause-brought g c =
    let v : Data = view c.in_ok-value.value in
    subst (IsBrought c.args.app.now c.args.cell c.args.self.now) (sym c.keep.ensures)
    (evaluated_brought c.args.app.now c.args.self.now c.args.cell c.args.info.now c.requires.sound c.requires.there c.requires.self_alone c.requires.unclean c.requires.leans c.requires.order c.since-moved.result v
    c.in_ok-value.ensures.fits c.since-moved.ensures)

pub returns-clause-visits : goal.returns-clause-visits
returns-clause-visits g c = λ right t told.
    let before : Keeping = keeping (g.K.Keeper.told c.args.keeper.now) (g.K.Keeper.began c.args.keeper.now) (g.K.Keeper.shaped c.args.keeper.now) (g.K.Keeper.in_transaction c.args.keeper.now) (g.K.Keeper.marks c.args.keeper.now) (g.K.Keeper.visited c.args.keeper.now) (g.K.Keeper.loan c.args.keeper.now) in
    let after : Keeping = keeping (g.K.Keeper.told c.by_itself.new.keeper) (g.K.Keeper.began c.by_itself.new.keeper) (g.K.Keeper.shaped c.by_itself.new.keeper) (g.K.Keeper.in_transaction c.by_itself.new.keeper) (g.K.Keeper.marks c.by_itself.new.keeper) (g.K.Keeper.visited c.by_itself.new.keeper) (g.K.Keeper.loan c.by_itself.new.keeper) in
    let seen = subst (λ (w : CellValues). AtMost (FormulaVisits c.args.app.now c.args.session.now (rows_of_tables t.states) c.args.moment (values.value_of w) None c.args.info.now) (g.K.Keeper.visited c.args.keeper.now) (g.K.Keeper.visited c.by_itself.new.keeper)) c.values.ensures
    (c.in_ok-value.ensures.visits c.args.moment (subst (λ (w : CellValues). IsToday c.args.moment w.day) (sym c.values.ensures) c.requires.day) t told) in (
      seen.0,
      leaned_fresh c.args.app.now c.args.session.now c.args.moment c.args.self.now before after c.args.cell c.args.info.now t c.in_ok-value.ensures.read right c.requires.there c.requires.leans told seen.0 seen.1,
      seen.2,
    )
