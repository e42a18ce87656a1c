use Rattle.std.proofs.Common.{◌≡◌, ℕ, List, Some, None, ap, map, subst, sym}
use Rattle.std.specs.Prelude.{option_map}
use Rattle.app_semantics.specs.app_cells.declared.app.CellInfo.{CellInfo}
use Rattle.app_semantics.specs.Present.{Present, present}
use Rattle.app_semantics.specs.Telling.{told_on}
use Rattle.fx_types.specs.TypeView.{shape}
use Rattle.fx_types.specs.ValueView.{view}
use Rattle.fx_types.specs.Values.{Data}
use Rattle.fx_types.specs.declared.values.Value.{Value}
use Rattle.fx_env.specs.Scopes.{CanEvaluate, ScopeValues, IsTypedHere, around, scope_values}
use Rattle.fx_env.specs.Telling.{EnvState}
use Rattle.fx_semantics.specs.Fresh.{IsValue}
use Rattle.fx_core.specs.Term.{Term}
use Rattle.fx_core.specs.declared.sources.Source.{Source}
use Rattle.recalc.specs.Reading.{cell_value, types_on}
use Rattle.recalc.proofs.Tellings.{is_ready, is_value, outermost}
use Rattle.recalc.proofs.evaluating.value_alone.Goals as goal

pub eval-requires : goal.eval-requires
eval-requires g c =
    let values : ℕ → Data = cell_value (map view c.args.values.now) in
    let day : Data = view c.args.day.now in
    let info : CellInfo = c.args.info.now in
    let told : Source → Data = told_on day c.args.app.now.names c.args.session.now None values in
    let ready =
    is_ready c.args.app.now c.args.session.now c.requires.day.0 values day info (option_map view c.args.item) c.requires.day.1 c.requires.sound c.requires.holds c.requires.cell c.requires.quiet c.requires.no_tables c.requires.fits c.requires.item in
    let empty : scope_values c.new-2.result.items c.args.item None ≡ outermost (option_map view c.args.item) = ap (λ (vs : List Value). scope_values vs c.args.item None) c.new-2.ensures.items in
    subst (λ (rs : List Source). CanEvaluate (types_on c.args.app.now.names rs told) (scope_values c.new-2.result.items c.args.item None) info.taken) (sym c.as_slice.ensures)
    (subst (λ (h : ScopeValues). CanEvaluate (types_on c.args.app.now.names info.reads told) h info.taken) (sym empty)
    (subst (λ (t : Term). CanEvaluate (types_on c.args.app.now.names info.reads told) (outermost (option_map view c.args.item)) t) (sym c.requires.taken) (shape info.ty, ready)))

pub returns-in-Ok-clause-value : goal.returns-in-Ok-clause-value
returns-in-Ok-clause-value g c = λ moment tables today.
    let p : Present = present c.args.app.now c.args.session.now tables moment in
    let values : ℕ → Data = cell_value (map view c.args.values.now) in
    let day : Data = view c.args.day.now in
    let info : CellInfo = c.args.info.now in
    let told : Source → Data = told_on day c.args.app.now.names c.args.session.now None values in
    let v : Data = view c.in-Ok.value in
    let empty : scope_values c.new-2.result.items c.args.item None ≡ outermost (option_map view c.args.item) = ap (λ (vs : List Value). scope_values vs c.args.item None) c.new-2.ensures.items in
    is_value p values day info (option_map view c.args.item) v today c.requires.no_tables
    (subst (λ (t : Term). IsValue (around (types_on c.args.app.now.names info.reads told) (Some told) (outermost (option_map view c.args.item))) t v) c.requires.taken
    (subst (λ (rs : List Source). IsValue (around (types_on c.args.app.now.names rs told) (Some told) (outermost (option_map view c.args.item))) info.taken v) c.as_slice.ensures
    (subst (λ (h : ScopeValues). IsValue (around (types_on c.args.app.now.names c.as_slice.result.now told) (Some told) h) info.taken v) empty
    (subst (λ (t : EnvState (Unit {0})). IsValue (around (types_on c.args.app.now.names c.as_slice.result.now told) (Some t.values) (scope_values c.new-2.result.items c.args.item None)) info.taken v) c.in-Ok.ensures.told
    c.in-Ok.ensures.value))))

pub returns-in-Ok-clause-fits : goal.returns-in-Ok-clause-fits
returns-in-Ok-clause-fits g c =
    let values : ℕ → Data = cell_value (map view c.args.values.now) in
    let day : Data = view c.args.day.now in
    let info : CellInfo = c.args.info.now in
    let told : Source → Data = told_on day c.args.app.now.names c.args.session.now None values in
    let ready =
    is_ready c.args.app.now c.args.session.now c.requires.day.0 values day info (option_map view c.args.item) c.requires.day.1 c.requires.sound c.requires.holds c.requires.cell c.requires.quiet c.requires.no_tables c.requires.fits c.requires.item in
    let empty : scope_values c.new-2.result.items c.args.item None ≡ outermost (option_map view c.args.item) = ap (λ (vs : List Value). scope_values vs c.args.item None) c.new-2.ensures.items in
    c.in-Ok.ensures.fits (shape info.ty)
    (subst (λ (rs : List Source). IsTypedHere (types_on c.args.app.now.names rs told) (scope_values c.new-2.result.items c.args.item None) info.taken (shape info.ty)) (sym c.as_slice.ensures)
    (subst (λ (h : ScopeValues). IsTypedHere (types_on c.args.app.now.names info.reads told) h info.taken (shape info.ty)) (sym empty)
    (subst (λ (t : Term). IsTypedHere (types_on c.args.app.now.names info.reads told) (outermost (option_map view c.args.item)) t (shape info.ty)) (sym c.requires.taken) ready)))
