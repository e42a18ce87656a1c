use Rattle.std.proofs.Common.{◌≡◌, List, None, map, rules, subst, sym, true}
use Rattle.app_semantics.specs.app_cells.declared.app.CellInfo.{CellInfo}
use Rattle.app_semantics.specs.Fresh.{IsCellValue, IsValueOf}
use Rattle.app_semantics.specs.Present.{Present, present}
use Rattle.fx_types.specs.ValueView.{view}
use Rattle.fx_types.specs.Values.{Data}
use Rattle.fx_types.specs.declared.values.Value.{Value}
use Rattle.recalc.specs.Reading.{cell_value}
use Rattle.app_semantics.specs.Needed.{stands_alone}
use Rattle.recalc.proofs.Asked.{asks_for}
use Rattle.recalc.proofs.Kept.{own_value, set_fits, set_other, set_same}
use Rattle.recalc.proofs.valued.keep_formula.Goals as goal

pub formula_value-requires-clause-cell : goal.formula_value-requires-clause-cell
formula_value-requires-clause-cell g c = c.requires.sound.cells c.args.number c.args.info.now c.requires.there

pub formula_value-requires-clause-taken : goal.formula_value-requires-clause-taken
formula_value-requires-clause-taken g c = c.requires.sound.taken c.args.number c.args.info.now c.requires.there

pub formula_value-requires-clause-shaped : goal.formula_value-requires-clause-shaped
formula_value-requires-clause-shaped g c = λ reads. asks_for c.args.app.now (g.K.Keeper.shaped c.args.keeper.now) c.args.number c.args.info.now c.requires.asks c.requires.there reads

pub returns-clause-fits : goal.returns-clause-fits
returns-clause-fits g c =
    set_fits c.args.app.now c.args.values.now.items c.args.number c.in_ok-value.value c.args.info.now c.requires.number c.requires.fits c.requires.there c.in_ok-value.ensures.fits

pub returns-clause-others : goal.returns-clause-others
returns-clause-others g c = λ k n. set_other c.args.values.now.items c.args.number k c.in_ok-value.value n

pub returns-clause-value : goal.returns-clause-value
returns-clause-value g c = λ moment tables today heard.
    let p : Present = present c.args.app.now c.args.session.now tables moment in
    let info : CellInfo = c.args.info.now in
    let items : List Value = c.args.values.now.items in
    let value : Value = c.in_ok-value.value in
    let alone : stands_alone info ≡ true = search rules in
    subst (λ (d : Data). IsCellValue p (cell_value (map view items)) info d) (sym (set_same items c.args.number value c.requires.number))
    (own_value p (cell_value (map view items)) info (view value) alone
    (subst (λ (vs : List Value). IsValueOf p (cell_value (map view vs)) None info (view value)) c.as_slice-slice.ensures.value (c.in_ok-value.ensures.value moment tables today heard)))
