use Rattle.std.proofs.Common.{◌≡◌, ◌∙◌, ℕ, List, Option, None, Some, ap, map, rules, subst, sym}
use Rattle.std.specs.Prelude.{option_map}
use Rattle.app_semantics.specs.app_cells.declared.app.CellInfo.{CellInfo}
use Rattle.app_semantics.specs.Fresh.{IsValueOf}
use Rattle.app_semantics.specs.Present.{present}
use Rattle.app_semantics.specs.Telling.{told_on}
use Rattle.fx_base.specs.Silence.{SilenceCause}
use Rattle.fx_types.specs.TypeView.{shape}
use Rattle.fx_types.specs.Types.{Shape}
use Rattle.fx_types.specs.ValueView.{view}
use Rattle.fx_types.specs.Values.{Data}
use Rattle.fx_types.specs.declared.values.Value.{Value}
use Rattle.fx_env.specs.Scopes.{CanEvaluate, ScopeValues, IsTypedHere, around, scope_values}
use Rattle.fx_env.specs.Telling.{values_told}
use Rattle.fx_scalar.specs.ScalarFunctions.{IsToday}
use Rattle.fx_semantics.specs.Fresh.{IsValue}
use Rattle.fx_core.specs.Term.{Term}
use Rattle.fx_core.specs.declared.sources.Source.{Source}
use Rattle.fx_core.specs.declared.names.Names.{Names}
use Rattle.recalc.specs.Asking.{HasRead, IsHeardOf, ToldRows, keeping}
use Rattle.recalc.specs.Reading.{cell_value, told_over, types_over}
use Rattle.row_keeper.specs.Tables.{Tables, rows_of_tables, rows_told}
use Rattle.row_queries.specs.declared.rows.Row.{Row}
use Rattle.session_state.specs.Sessions.{SessionState}
use Rattle.fx_eval.specs.Visits.{AskedTables, AtMost, Visits}
use Rattle.recalc.proofs.CellVisits.{over_rows}
use Rattle.recalc.specs.Visits.{FormulaVisits, WhereTold}
use Rattle.recalc.proofs.Evaluated.{carried, has_read, same_values, values_over, whole}
use Rattle.recalc.proofs.Tellings.{is_ready_over, is_value_over, outermost}
use Rattle.recalc.proofs.evaluating.value_over_rows.Goals as goal

pub eval-requires : goal.eval-requires
eval-requires g c =
    let values : ℕ → Data = cell_value (map view c.args.values.now) in
    let day : Data = view c.args.day.now in
    let info : CellInfo = c.args.info.now in
    let told : Source → Data = told_on day c.args.app.now.names c.args.session.now None values in
    let ready =
    is_ready_over c.args.app.now c.args.session.now c.requires.day.0 values day info (option_map view c.args.item) c.requires.day.1 c.requires.sound c.requires.holds c.requires.cell c.requires.quiet c.requires.fits c.requires.item in
    let empty : scope_values c.new.result.items c.args.item None ≡ outermost (option_map view c.args.item) = ap (λ (vs : List Value). scope_values vs c.args.item None) c.new.ensures.items in
    subst (λ (rs : List Source). CanEvaluate (types_over c.args.app.now.names rs told) (scope_values c.new.result.items c.args.item None) info.taken) (sym c.as_slice.ensures)
    (subst (λ (h : ScopeValues). CanEvaluate (types_over c.args.app.now.names info.reads told) h info.taken) (sym empty)
    (subst (λ (t : Term). CanEvaluate (types_over c.args.app.now.names info.reads told) (outermost (option_map view c.args.item)) t) (sym c.requires.taken) (shape info.ty, ready)))

pub returns-in-Ok-clause-fits : goal.returns-in-Ok-clause-fits
returns-in-Ok-clause-fits g c =
    let values : ℕ → Data = cell_value (map view c.args.values.now) in
    let day : Data = view c.args.day.now in
    let info : CellInfo = c.args.info.now in
    let told : Source → Data = told_on day c.args.app.now.names c.args.session.now None values in
    let ready =
    is_ready_over c.args.app.now c.args.session.now c.requires.day.0 values day info (option_map view c.args.item) c.requires.day.1 c.requires.sound c.requires.holds c.requires.cell c.requires.quiet c.requires.fits c.requires.item in
    let empty : scope_values c.new.result.items c.args.item None ≡ outermost (option_map view c.args.item) = ap (λ (vs : List Value). scope_values vs c.args.item None) c.new.ensures.items in
    c.in-Ok.ensures.fits (shape info.ty)
    (subst (λ (rs : List Source). IsTypedHere (types_over c.args.app.now.names rs told) (scope_values c.new.result.items c.args.item None) info.taken (shape info.ty)) (sym c.as_slice.ensures)
    (subst (λ (h : ScopeValues). IsTypedHere (types_over c.args.app.now.names info.reads told) h info.taken (shape info.ty)) (sym empty)
    (subst (λ (t : Term). IsTypedHere (types_over c.args.app.now.names info.reads told) (outermost (option_map view c.args.item)) t (shape info.ty)) (sym c.requires.taken) ready)))

pub returns-in-Ok-clause-value : goal.returns-in-Ok-clause-value
returns-in-Ok-clause-value g c =
    let n : Names = c.args.app.now.names in
    let s : SessionState = c.args.session.now in
    let cells : List Data = map view c.args.values.now in
    let day : Data = view c.args.day.now in
    let info : CellInfo = c.args.info.now in
    let env = c.eval.new.env in
    let told : Option Tables = g.K.Keeper.told env.keeper.now in
    let was : Option Tables = g.K.Keeper.told c.args.keeper.now in
    let lost = SilenceCause (g.K.Keeper.marks c.args.keeper.now) (g.K.Keeper.marks env.keeper.now) in
    let f = told_over day n s cells (g.K.Keeper.began c.args.keeper.now) in
    let other = told_over (view env.today.now) env.names.now env.session.now (map view env.values.now) (g.K.Keeper.began env.keeper.now) in
    let v : Data = view c.in-Ok.value in
    let types : Source → Option Shape = types_over n info.reads (told_on day n s None (cell_value cells)) in
    let same = same_values lost f other (whole day n s cells (g.K.Keeper.began c.args.keeper.now)) (whole (view env.today.now) env.names.now env.session.now (map view env.values.now) (g.K.Keeper.began env.keeper.now)) was told c.eval.ensures.told ∙ values_over day n s cells (g.K.Keeper.began c.args.keeper.now) told in
    let empty : scope_values c.new.result.items c.args.item None ≡ outermost (option_map view c.args.item) = ap (λ (vs : List Value). scope_values vs c.args.item None) c.new.ensures.items in
    carried (λ (k : g.row.K.Denot). (moment : ℕ) (tables : ToldRows) → IsToday moment day → IsHeardOf (g.K.Keeper.told k) tables → IsValueOf (present c.args.app.now s tables moment) (cell_value cells) (option_map view c.args.item) info v)
    env.keeper.now _ (search rules)
    (λ moment tables today heard.
    is_value_over c.args.app.now s (rows_told told) tables moment (cell_value cells) day info (option_map view c.args.item) v today c.requires.tables heard (returns-in-Ok-clause-fits g c)
    (subst (λ (t : Term). IsValue (around types (option_map (λ (rows : List (List Row)). told_on day n s (Some rows) (cell_value cells)) (rows_told told)) (outermost (option_map view c.args.item))) t v) c.requires.taken
    (subst (λ (o : Option (Source → Data)). IsValue (around types o (outermost (option_map view c.args.item))) info.taken v) same
    (subst (λ (rs : List Source). IsValue (around (types_over n rs (told_on day n s None (cell_value cells))) (values_told (option_map other told)) (outermost (option_map view c.args.item))) info.taken v) c.as_slice.ensures
    (subst (λ (h : ScopeValues). IsValue (around (types_over n c.as_slice.result.now (told_on day n s None (cell_value cells))) (values_told (option_map other told)) h) info.taken v) empty
    c.in-Ok.ensures.value)))))

pub returns-in-Ok-clause-read : goal.returns-in-Ok-clause-read
returns-in-Ok-clause-read g c =
    let env = c.eval.new.env in
    let keeps = λ (k : g.row.K.Denot). keeping (g.K.Keeper.told k) (g.K.Keeper.began k) (g.K.Keeper.shaped k) (g.K.Keeper.in_transaction k) (g.K.Keeper.marks k) (g.K.Keeper.visited k) (g.K.Keeper.loan k) in
    carried (λ (k : g.row.K.Denot). HasRead (keeps c.args.keeper.now) (keeps k)) env.keeper.now _ (search rules)
    (has_read c.args.app.now.names env.names.now c.as_slice.result.now env.reads.now (view c.args.day.now) (view env.today.now) c.args.session.now env.session.now (map view c.args.values.now) (map view env.values.now)
    c.args.app.now.limit env.limit _ _ _ _ _ _ _ _ _ _ _ _ _ _ _ _ c.requires.shaped env.shaped c.eval.ensures.fixed c.eval.ensures.told c.eval.ensures.marks c.eval.ensures.visited
    (λ e. (g.met.K.Keeper.quiet c.args.keeper.now e).0) (λ e. (g.met.K.Keeper.quiet env.keeper.now e).0))

pub returns-clause-read : goal.returns-clause-read
returns-clause-read g c =
    let env = c.eval.new.env in
    let keeps = λ (k : g.row.K.Denot). keeping (g.K.Keeper.told k) (g.K.Keeper.began k) (g.K.Keeper.shaped k) (g.K.Keeper.in_transaction k) (g.K.Keeper.marks k) (g.K.Keeper.visited k) (g.K.Keeper.loan k) in
    carried (λ (k : g.row.K.Denot). HasRead (keeps c.args.keeper.now) (keeps k)) env.keeper.now _ (search rules)
    (has_read c.args.app.now.names env.names.now c.as_slice.result.now env.reads.now (view c.args.day.now) (view env.today.now) c.args.session.now env.session.now (map view c.args.values.now) (map view env.values.now)
    c.args.app.now.limit env.limit _ _ _ _ _ _ _ _ _ _ _ _ _ _ _ _ c.requires.shaped env.shaped c.eval.ensures.fixed c.eval.ensures.told c.eval.ensures.marks c.eval.ensures.visited
    (λ e. (g.met.K.Keeper.quiet c.args.keeper.now e).0) (λ e. (g.met.K.Keeper.quiet env.keeper.now e).0))

pub returns-in-Ok-clause-visits : goal.returns-in-Ok-clause-visits
returns-in-Ok-clause-visits g c =
    let n : Names = c.args.app.now.names in
    let s : SessionState = c.args.session.now in
    let cells : List Data = map view c.args.values.now in
    let day : Data = view c.args.day.now in
    let info : CellInfo = c.args.info.now in
    let env = c.eval.new.env in
    let told : Option Tables = g.K.Keeper.told env.keeper.now in
    let was : Option Tables = g.K.Keeper.told c.args.keeper.now in
    let lost = SilenceCause (g.K.Keeper.marks c.args.keeper.now) (g.K.Keeper.marks env.keeper.now) in
    let f = told_over day n s cells (g.K.Keeper.began c.args.keeper.now) in
    let other = told_over (view env.today.now) env.names.now env.session.now (map view env.values.now) (g.K.Keeper.began env.keeper.now) in
    let types : Source → Option Shape = types_over n info.reads (told_on day n s None (cell_value cells)) in
    let same = same_values lost f other (whole day n s cells (g.K.Keeper.began c.args.keeper.now)) (whole (view env.today.now) env.names.now env.session.now (map view env.values.now) (g.K.Keeper.began env.keeper.now)) was told c.eval.ensures.told ∙ values_over day n s cells (g.K.Keeper.began c.args.keeper.now) told in
    let empty : scope_values c.new.result.items c.args.item None ≡ outermost (option_map view c.args.item) = ap (λ (vs : List Value). scope_values vs c.args.item None) c.new.ensures.items in
    carried (λ (k : g.row.K.Denot). (moment : ℕ) → IsToday moment day → WhereTold (g.K.Keeper.told k) (λ rows.
    AtMost (FormulaVisits c.args.app.now s rows moment (cell_value cells) (option_map view c.args.item) info) (g.K.Keeper.visited c.args.keeper.now) (g.K.Keeper.visited k)))
    env.keeper.now _ (search rules)
    (λ moment today t is.
    let tables : AskedTables = record { shapes = n.schema.tables; rows = rows_of_tables t.states } in
    let seen = c.in-Ok.ensures.visits (other t) (ap (option_map other) is) in
    let own : Some ((other t).values) ≡ Some (told_on day n s (Some (rows_of_tables t.states)) (cell_value cells)) =
    subst (λ (z : Option Tables). values_told (option_map other z) ≡ option_map (λ (rows : List (List Row)). told_on day n s (Some rows) (cell_value cells)) (rows_told z)) is same in (
      seen.0,
      over_rows c.args.app.now s (rows_of_tables t.states) moment (cell_value cells) day info (option_map view c.args.item) seen.0 today c.requires.tables
          (subst (λ (z : Term). Visits tables z (around types (Some (told_on day n s (Some (rows_of_tables t.states)) (cell_value cells))) (outermost (option_map view c.args.item))) seen.0) c.requires.taken
          (subst (λ (o : Option (Source → Data)). Visits tables info.taken (around types o (outermost (option_map view c.args.item))) seen.0) own
          (subst (λ (rs : List Source). Visits tables info.taken (around (types_over n rs (told_on day n s None (cell_value cells))) (Some ((other t).values)) (outermost (option_map view c.args.item))) seen.0) c.as_slice.ensures
          (subst (λ (h : ScopeValues). Visits tables info.taken (around (types_over n c.as_slice.result.now (told_on day n s None (cell_value cells))) (Some ((other t).values)) h) seen.0) empty seen.1)))),
      seen.2,
    ))
