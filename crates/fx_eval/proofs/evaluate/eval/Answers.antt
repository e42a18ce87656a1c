use Rattle.std.proofs.lemmas.Result.{IfOk-weaker}
use Rattle.fx_types.specs.ValueView.{view}
use Rattle.fx_eval.proofs.Passing.{heard_told}
use Rattle.fx_env.specs.Scopes.{around}
use Rattle.fx_env.specs.Telling.{values_told}
use Rattle.fx_semantics.specs.Fresh.{IsValue}
use Rattle.fx_eval.proofs.evaluate.eval.Goals as goal

pub returns-clause-value : goal.returns-clause-value
returns-clause-value g c =
    IfOk-weaker c.tree.result _ (λ v. IsValue (around (g.E.Env.fixed c.args.env.now).types (values_told (g.E.Env.told c.tree.new.env)) c.args.scope.now) c.args.core.now (view v))
    (λ v k. k (values_told (g.E.Env.told c.tree.new.env)) (heard_told (values_told (g.E.Env.told c.tree.new.env))))
    c.tree.ensures.value
