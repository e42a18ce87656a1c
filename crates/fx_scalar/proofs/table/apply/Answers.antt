use Rattle.std.proofs.lemmas.Result.{IfOk-weaker}
use Rattle.fx_types.specs.ValueView.{view}
use Rattle.fx_scalar.specs.Arguments.{views}
use Rattle.fx_scalar.proofs.AnswerFits.{result_fits}
use Rattle.fx_scalar.proofs.table.apply.Goals as goal

pub returns-in-None-clause-fits : goal.returns-in-None-clause-fits
returns-in-None-clause-fits c =
    IfOk-weaker c.calculate.result _ _ (λ v r h. result_fits c.args.fun (views c.args.args.now) (view v) h r) c.calculate.ensures
