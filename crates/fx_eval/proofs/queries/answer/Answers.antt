use Rattle.std.specs.Prelude.{map}
use Rattle.fx_types.specs.ValueView.{view}
use Rattle.fx_eval.proofs.Consumed.{plan_visits}
use Rattle.fx_eval.proofs.Visiting.{ok_always}
use Rattle.fx_eval.proofs.Demanding.{meets_so}
use Rattle.fx_eval.proofs.Queried.{plan_faultless}
use Rattle.fx_eval.proofs.queries.answer.Goals as goal

pub by_query-requires-clause-sound : goal.by_query-requires-clause-sound
by_query-requires-clause-sound g c = plan_faultless _ _ _ _ _ c.in_ok-query.ensures.plan c.requires.faultless

pub by_query-requires-clause-take : goal.by_query-requires-clause-take
by_query-requires-clause-take g c = meets_so _ _ _ _ _ _ c.in_ok-query.ensures.plan c.requires.take

pub returns-clause-visits : goal.returns-clause-visits
returns-clause-visits g c = ok_always c.by_query.result _
    (λ w e. plan_visits (g.E.Env.fixed c.args.env.now) c.args.asked.now.sketch (map view c.args.constants.now) _ c.in_ok-query.query (g.E.Env.told c.by_query.new.env) (g.E.Env.visited c.args.env.now) (g.E.Env.visited c.by_query.new.env)
    c.requires.plan c.in_ok-query.ensures.plan c.by_query.ensures.most w e)
