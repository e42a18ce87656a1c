use Rattle.session_views.proofs.Visiting.{heard_at, most_as, none_more, ok_both, or_else, or_none}
use Rattle.session_views.specs.Visits.{ControlVisits, TemplateVisits}
use Rattle.session_views.specs.Views.{is_in}
use Rattle.row_keeper.specs.Tables.{rows_of_tables}
use Rattle.std.proofs.Common.{Bool, subst, sym, ◌+◌, ◌∙◌, ◌≤◌, None, Some}
use Rattle.std.proofs.lemmas.Result.{IfOk-weaker}
use Rattle.session_views.specs.Bounds.{control_steps}
use Rattle.recalc.specs.app_semantics.Present.{present}
use Rattle.recalc.specs.fx_semantics.Around.{record_of}
use Rattle.recalc.specs.Values.{value_of}
use Rattle.session_views.proofs.Displays.{not_in}
use Rattle.session_views.proofs.templates.item_control.Goals as goal

pub template_control-requires-clause-within : goal.template_control-requires-clause-within
template_control-requires-clause-within g c = sym c.is_in.ensures ∙ c.if-is_in.true

pub returns-else-is_in-clause-shows : goal.returns-else-is_in-clause-shows
returns-else-is_in-clause-shows g c = λ moment tables today heard.
    not_in (present c.args.app.now c.args.session.now tables moment) (value_of c.args.valued.now) c.args.gallery (record_of c.args.row.now) c.args.number c.args.control.now (sym c.is_in.ensures ∙ c.if-is_in.false)

pub returns-then-is_in-clause-ticks : goal.returns-then-is_in-clause-ticks
returns-then-is_in-clause-ticks g c =
    IfOk-weaker c.template_control.result _ _ (λ o h.
    subst (λ (b : Bool). c.template_control.new.steps ≤ c.args.steps.now + control_steps c.args.app.now.names c.args.number b) (sym (sym c.is_in.ensures ∙ c.if-is_in.true)) h)
    c.template_control.ensures.ticks

pub returns-then-is_in-clause-visits : goal.returns-then-is_in-clause-visits
returns-then-is_in-clause-visits g c =
    ok_both c.template_control.result _ _ _ (λ o h w moment today t told.
    most_as (ControlVisits c.args.app.now c.args.session.now (rows_of_tables t.states) moment (value_of c.args.valued.now) (record_of c.args.row.now) c.args.number o) (TemplateVisits c.args.app.now c.args.session.now (rows_of_tables t.states) moment (value_of c.args.valued.now) c.args.gallery (record_of c.args.row.now) c.args.number c.args.control.now o) (g.K.Keeper.visited c.args.keeper.now) (g.K.Keeper.visited c.template_control.new.keeper)
    (λ n p. (w moment (Some (rows_of_tables t.states)) today (heard_at (g.K.Keeper.told c.template_control.new.keeper) t told), or_none (is_in c.args.gallery c.args.control.now.gallery) (ControlVisits c.args.app.now c.args.session.now (rows_of_tables t.states) moment (value_of c.args.valued.now) (record_of c.args.row.now) c.args.number o) n (sym c.is_in.ensures ∙ c.if-is_in.true) p)) (h moment today t told))
    c.template_control.ensures.visits c.template_control.ensures.shows

pub returns-else-is_in-clause-visits : goal.returns-else-is_in-clause-visits
returns-else-is_in-clause-visits g c = λ moment today t told.
    none_more (TemplateVisits c.args.app.now c.args.session.now (rows_of_tables t.states) moment (value_of c.args.valued.now) c.args.gallery (record_of c.args.row.now) c.args.number c.args.control.now None) (g.K.Keeper.visited c.args.keeper.now) (
      not_in (present c.args.app.now c.args.session.now (Some (rows_of_tables t.states)) moment) (value_of c.args.valued.now) c.args.gallery (record_of c.args.row.now) c.args.number c.args.control.now (sym c.is_in.ensures ∙ c.if-is_in.false),
      or_else (is_in c.args.gallery c.args.control.now.gallery) (ControlVisits c.args.app.now c.args.session.now (rows_of_tables t.states) moment (value_of c.args.valued.now) (record_of c.args.row.now) c.args.number None) (sym c.is_in.ensures ∙ c.if-is_in.false),
    )
