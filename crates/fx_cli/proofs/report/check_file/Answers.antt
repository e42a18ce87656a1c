use Rattle.std.proofs.Common.{Some, Err, refl, subst}
use Rattle.office.specs.app_loader.JudgedFormulas.{ReportsBreaks}
use Rattle.fx_cli.specs.Report.{JudgedAs, MatchesFile, no_service, no_show}
use Rattle.fx_cli.specs.declared.words.Form.TheVariants.{Check}
use Rattle.fx_cli.proofs.Reported.{reports_checked, reports_refused}
use Rattle.fx_cli.proofs.report.check_file.Goals as goal

pub returns-clause-reports : goal.returns-clause-reports
returns-clause-reports g c =
    let taken : MatchesFile g.F.Files c.args.files.now c.read.new.self (Some (Check, c.args.name.now)) Check c.in-Ok.file.items = record {
      name = c.args.name.now;
      asks = record { is_wanted = refl; grown = c.in-Ok.ensures.asked };
      first = c.in-Ok.ensures.bytes;
    } in
    let tells = subst (λ bs. ReportsBreaks (λ breaks. JudgedAs Check bs (Err breaks)) c.in-Err.end) c.deref.ensures.value c.in-Err.ensures.refused in
    reports_refused g.F.Files c.args.files.now c.read.new.self no_show no_service
    Check c.args.name.now c.in-Ok.file.items c.in-Err.end c.refuse.result taken tells c.refuse.ensures

pub returns-in-Ok-load-clause-reports : goal.returns-in-Ok-load-clause-reports
returns-in-Ok-load-clause-reports g c =
    let taken : MatchesFile g.F.Files c.args.files.now c.read.new.self (Some (Check, c.args.name.now)) Check c.in-Ok.file.items = record {
      name = c.args.name.now;
      asks = record { is_wanted = refl; grown = c.in-Ok.ensures.asked };
      first = c.in-Ok.ensures.bytes;
    } in
    reports_checked g.F.Files c.args.files.now c.read.new.self
    c.args.name.now c.in-Ok.file.items c.in-Ok-load.app c.check.result taken (rw c.deref.ensures.value at c.in-Ok-load.ensures.app) c.check.ensures
