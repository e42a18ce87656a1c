use Rattle.std.proofs.Common.{◌≡◌, ◌∙◌, ap, length, sym}
use Rattle.std.proofs.lemmas.List.{length-map}
use Rattle.fx_types.specs.ValueView.{view}
use Rattle.fx_env.specs.Scopes.{ScopeValues}
use Rattle.fx_eval.proofs.Demanding.{asked_at}
use Rattle.fx_eval.proofs.Still.{none_asked}
use Rattle.fx_eval.proofs.queries.asked_here.Goals as goal

pub returns-in-Ok : goal.returns-in-Ok
returns-in-Ok g c =
    let deep : c.in-Ok.depth ≡ length c.args.scope.now.rows =
    c.in-Ok.ensures.1 ∙ c.len.ensures ∙ c.scope.inside.rows.ok.0 ∙ sym (length-map c.scope.inside.rows.items view) ∙ ap (λ (s : ScopeValues). length s.rows) c.scope.view_is in
    asked_at (g.E.Env.fixed c.args.env.now) (g.E.Env.told c.args.env.now) c.args.scope.now c.args.core.now c.in-Some.schema.now c.in-Ok.depth c.asked_under.result c.in-Some.ensures.0 deep
    c.in-Some.ensures.1 c.asked_under.ensures

pub returns-in-None : goal.returns-in-None
returns-in-None g c = none_asked (g.E.Env.fixed c.args.env.now).schema.tables (length c.args.scope.now.rows) c.args.core.now c.in-None.ensures
