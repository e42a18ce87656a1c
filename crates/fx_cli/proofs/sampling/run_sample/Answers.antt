use Rattle.fx_cli.proofs.Samples.{sample_spoilt}
use Rattle.fx_cli.proofs.sampling.run_sample.Goals as goal

pub returns-clause-spoilt : goal.returns-clause-spoilt
returns-clause-spoilt g c = λ bs is.
    sample_spoilt c.one_app.ensures g.K.Keeper g.O.Sink c.args.n c.args.keeper.now c.put_sample-report.new.keeper c.put_sample-report.result c.say.result.0 c.args.out.now c.say.new.out
    c.put_sample-report.ensures.reports c.say.ensures.said bs is
