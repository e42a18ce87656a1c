use Rattle.std.proofs.Common.{◌≡◌, List, Some, map, rules, subst, sym, true}
use Rattle.std.proofs.lemmas.Result.{IfOk-weaker}
use Rattle.fx_types.specs.TypeView.{shape}
use Rattle.fx_types.specs.ValueView.{view}
use Rattle.fx_types.specs.Values.{Data}
use Rattle.fx_eval.specs.Visits.{AtMost}
use Rattle.fx_scalar.specs.ScalarFunctions.{IsToday}
use Rattle.fx_value.specs.Fits.{fits_in}
use Rattle.recalc.specs.Reading.{cell_value}
use Rattle.recalc.specs.Values.{CellValues}
use Rattle.recalc.specs.Visits.{FormulaVisits}
use Rattle.row_keeper.specs.Tables.{rows_of_tables}
use Rattle.recalc.proofs.valued.Valued.in_item.Goals as goal

pub formula_value-requires-clause-cell : goal.formula_value-requires-clause-cell
formula_value-requires-clause-cell g c = c.requires.sound.cells c.requires.cell.0 c.args.info.now c.requires.cell.1

pub formula_value-requires-clause-taken : goal.formula_value-requires-clause-taken
formula_value-requires-clause-taken g c = c.requires.sound.taken c.requires.cell.0 c.args.info.now c.requires.cell.1

pub formula_value-requires-clause-fits : goal.formula_value-requires-clause-fits
formula_value-requires-clause-fits g c = λ k e there.
    let same : c.args.self.now.cells ≡ map view c.as_slice-values.result.now = search rules in
    subst (λ (ds : List Data). fits_in (cell_value ds k) (shape e.ty) ≡ true) same (c.requires.fits k e there)

pub returns-clause-visits : goal.returns-clause-visits
returns-clause-visits g c =
    let same : map view c.as_slice-values.result.now ≡ c.args.self.now.cells = search rules in
    IfOk-weaker c.formula_value.result _ _ (λ v h moment today t told.
    let began : IsToday moment (view c.self.inside.day) = subst (λ (w : CellValues). IsToday moment w.day) (sym c.self.view_is) today in
    subst (λ (ds : List Data). AtMost (FormulaVisits c.args.app.now c.args.session.now (rows_of_tables t.states) moment (cell_value ds) (Some (view c.args.item)) c.args.info.now) (g.K.Keeper.visited c.args.keeper.now) (g.K.Keeper.visited c.formula_value.new.keeper)) same (h moment began t told))
    c.formula_value.ensures.visits
