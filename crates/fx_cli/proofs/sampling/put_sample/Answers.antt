use Rattle.std.proofs.Common.{Err, subst}
use Rattle.office.specs.app_loader.Judged.{JudgedApp}
use Rattle.office.specs.app_loader.JudgedFormulas.{ReportsBreaks}
use Rattle.fx_cli.proofs.Samples.{sample_refused}
use Rattle.fx_cli.proofs.sampling.put_sample.Goals as goal

pub returns-in-Err-clause-reports : goal.returns-in-Err-clause-reports
returns-in-Err-clause-reports g c =
    sample_refused g.K.Keeper c.args.n c.args.keeper.now c.args.keeper.now c.in-Err.end c.refuse.result
    (subst (λ bs. ReportsBreaks (λ breaks. JudgedApp bs (Err breaks)) c.in-Err.end) c.app_text.ensures c.in-Err.ensures.refused) c.refuse.ensures
