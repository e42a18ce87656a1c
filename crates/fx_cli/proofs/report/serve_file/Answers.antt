use Rattle.std.proofs.Common.{Some, Err, refl, subst}
use Rattle.office.specs.app_loader.JudgedFormulas.{ReportsBreaks}
use Rattle.fx_cli.specs.Conversations.{Serves, service_at}
use Rattle.fx_cli.specs.Report.{EndsOver, JudgedAs, MatchesFile, no_show}
use Rattle.fx_cli.specs.declared.words.Form.TheVariants.{Serve}
use Rattle.fx_cli.proofs.Reported.{reports_over, reports_refused}
use Rattle.fx_cli.proofs.report.serve_file.Goals as goal

pub returns-clause-reports : goal.returns-clause-reports
returns-clause-reports g c =
    let taken : MatchesFile g.F.Files c.args.files.now c.read.new.self (Some (Serve, c.args.name.now)) Serve c.in-Ok.file.items = record {
      name = c.args.name.now;
      asks = record { is_wanted = refl; grown = c.in-Ok.ensures.asked };
      first = c.in-Ok.ensures.bytes;
    } in
    let tells = subst (λ bs. ReportsBreaks (λ breaks. JudgedAs Serve bs (Err breaks)) c.in-Err.end) c.deref.ensures.value c.in-Err.ensures.refused in
    reports_refused g.F.Files c.args.files.now c.read.new.self no_show
    (EndsOver g.K.Keeper c.args.service.store.now c.args.keeper.now c.args.keeper.now (λ end a b. Serves c.args.service.port c.args.service.most (service_at g.D.Doors g.C.Clock a c.args.doors.now c.args.clock.now) (service_at g.D.Doors g.C.Clock b c.args.doors.now c.args.clock.now) end))
    Serve c.args.name.now c.in-Ok.file.items c.in-Err.end c.refuse.result taken tells c.refuse.ensures

pub returns-in-Ok-load-clause-reports : goal.returns-in-Ok-load-clause-reports
returns-in-Ok-load-clause-reports g c =
    let taken : MatchesFile g.F.Files c.args.files.now c.read.new.self (Some (Serve, c.args.name.now)) Serve c.in-Ok.file.items = record {
      name = c.args.name.now;
      asks = record { is_wanted = refl; grown = c.in-Ok.ensures.asked };
      first = c.in-Ok.ensures.bytes;
    } in
    reports_over g.F.Files g.K.Keeper c.args.service.store.now c.args.files.now c.read.new.self c.args.keeper.now c.serve_app.new.keeper
    (λ end a b. Serves c.args.service.port c.args.service.most (service_at g.D.Doors g.C.Clock a c.args.doors.now c.args.clock.now) (service_at g.D.Doors g.C.Clock b c.serve_app.new.doors c.serve_app.new.clock) end)
    c.args.name.now c.in-Ok.file.items c.in-Ok-load.app c.serve_app.result taken (rw c.deref.ensures.value at c.in-Ok-load.ensures.app) c.serve_app.ensures.ends

pub serve_app-requires-clause-loaded : goal.serve_app-requires-clause-loaded
serve_app-requires-clause-loaded g c = c.loaded_app.ensures c.deref.result.now c.in-Ok-load.app c.in-Ok-load.ensures.app
