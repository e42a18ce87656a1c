use Rattle.std.proofs.Common.{Some, refl, string_bytes, subst, sym}
use Rattle.app_cells.specs.declared.app.App.{App}
use Rattle.fx_cli.specs.Conversations.{Serves, service_at}
use Rattle.fx_cli.specs.Outside.{work_of, work_sight}
use Rattle.fx_cli.specs.Plain.{IsShownNow}
use Rattle.fx_cli.specs.Report.{EndsOver, LeavesKeeper, Reports, no_show}
use Rattle.fx_cli.specs.Words.{Service, service, wanted}
use Rattle.fx_cli.specs.declared.report.Report.{Report}
use Rattle.fx_cli.specs.declared.words.Form.TheVariants.{Check, Serve, View}
use Rattle.fx_cli.proofs.Reported.{checked_so, replayed_so, viewed}
use Rattle.fx_cli.proofs.Said.{checked_leaves, replayed_leaves, viewed_leaves}
use Rattle.fx_cli.proofs.report.carry_out.Goals as goal

pub returns-in-Some-View-default-clause-reports : goal.returns-in-Some-View-default-clause-reports
returns-in-Some-View-default-clause-reports g c =
    viewed g.F.Files c.args.files.now c.view_file.new.files (λ app text. IsShownNow (g.C.Clock.told c.args.clock.now) (g.C.Clock.told c.view_file.new.clock) app (string_bytes text))
    (EndsOver g.K.Keeper (service c.args.words.now).store c.args.keeper.now c.args.keeper.now (λ end a b. Serves (service c.args.words.now).port (service c.args.words.now).most (service_at g.D.Doors g.C.Clock a c.args.doors.now c.args.clock.now) (service_at g.D.Doors g.C.Clock b c.args.doors.now c.view_file.new.clock) end))
    (Some (View, c.in-Some-View-default.name.now)) (wanted c.args.words.now) c.view_file.result (rw c.in-Some-View-default.field-0-0-is at c.in-Some-View-default.ensures) c.view_file.ensures.reports

pub returns-in-Some-Serve-default-clause-reports : goal.returns-in-Some-Serve-default-clause-reports
returns-in-Some-Serve-default-clause-reports g c =
    let ends : Service → App → Report → Type 0 = λ s. EndsOver g.K.Keeper s.store c.args.keeper.now c.serve_file.new.keeper (λ end a b. Serves s.port s.most (service_at g.D.Doors g.C.Clock a c.args.doors.now c.args.clock.now) (service_at g.D.Doors g.C.Clock b c.serve_file.new.doors c.serve_file.new.clock) end) in
    let is = subst (λ (s : Service). Reports g.F.Files c.args.files.now c.serve_file.new.files no_show (ends s) (Some (Serve, c.in-Some-Serve-default.name.now)) c.serve_file.result)
    c.service_of.ensures c.serve_file.ensures.reports in
    replayed_so g.F.Files c.args.files.now c.serve_file.new.files (λ app text. IsShownNow (g.C.Clock.told c.args.clock.now) (g.C.Clock.told c.serve_file.new.clock) app (string_bytes text))
    (ends (service c.args.words.now)) (Some (Serve, c.in-Some-Serve-default.name.now)) (wanted c.args.words.now) c.serve_file.result (rw c.in-Some-Serve-default.field-0-0-is at c.in-Some-Serve-default.ensures) is

pub returns-in-Some-View-default-clause-leaves : goal.returns-in-Some-View-default-clause-leaves
returns-in-Some-View-default-clause-leaves g c =
    viewed_leaves (work_sight g.D.Doors g.K.Keeper g.F.Files g.C.Clock) c.args.words.now
    (work_of c.args.doors.now c.args.keeper.now c.args.files.now c.args.clock.now) (work_of c.args.doors.now c.args.keeper.now c.view_file.new.files c.view_file.new.clock)
    c.in-Some-View-default.name.now c.view_file.result (sym (rw c.in-Some-View-default.field-0-0-is at c.in-Some-View-default.ensures))
    (λ e. let none = rw e at c.view_file.ensures.reports in cc) refl c.view_file.ensures.timeless c.view_file.ensures.clock refl

pub returns-in-Some-Serve-default-clause-leaves : goal.returns-in-Some-Serve-default-clause-leaves
returns-in-Some-Serve-default-clause-leaves g c =
    let kept = subst (λ (s : Service). LeavesKeeper g.K.Keeper s.store c.args.keeper.now c.serve_file.new.keeper c.serve_file.result)
    c.service_of.ensures c.serve_file.ensures.unopened in
    replayed_leaves (work_sight g.D.Doors g.K.Keeper g.F.Files g.C.Clock) c.args.words.now
    (work_of c.args.doors.now c.args.keeper.now c.args.files.now c.args.clock.now) (work_of c.serve_file.new.doors c.serve_file.new.keeper c.serve_file.new.files c.serve_file.new.clock)
    c.in-Some-Serve-default.name.now c.serve_file.result (sym (rw c.in-Some-Serve-default.field-0-0-is at c.in-Some-Serve-default.ensures))
    (λ e. let none = rw e at c.serve_file.ensures.reports in cc) c.serve_file.ensures.unheld kept

pub returns-in-Some-Check-default-clause-reports : goal.returns-in-Some-Check-default-clause-reports
returns-in-Some-Check-default-clause-reports g c =
    checked_so g.F.Files c.args.files.now c.check_file.new.files (λ app text. IsShownNow (g.C.Clock.told c.args.clock.now) (g.C.Clock.told c.args.clock.now) app (string_bytes text))
    (EndsOver g.K.Keeper (service c.args.words.now).store c.args.keeper.now c.args.keeper.now (λ end a b. Serves (service c.args.words.now).port (service c.args.words.now).most (service_at g.D.Doors g.C.Clock a c.args.doors.now c.args.clock.now) (service_at g.D.Doors g.C.Clock b c.args.doors.now c.args.clock.now) end))
    (Some (Check, c.in-Some-Check-default.name.now)) (wanted c.args.words.now) c.check_file.result (rw c.in-Some-Check-default.field-0-0-is at c.in-Some-Check-default.ensures) c.check_file.ensures.reports

pub returns-in-Some-Check-default-clause-leaves : goal.returns-in-Some-Check-default-clause-leaves
returns-in-Some-Check-default-clause-leaves g c =
    checked_leaves (work_sight g.D.Doors g.K.Keeper g.F.Files g.C.Clock) c.args.words.now
    (work_of c.args.doors.now c.args.keeper.now c.args.files.now c.args.clock.now) (work_of c.args.doors.now c.args.keeper.now c.check_file.new.files c.args.clock.now)
    c.in-Some-Check-default.name.now c.check_file.result (sym (rw c.in-Some-Check-default.field-0-0-is at c.in-Some-Check-default.ensures))
    (λ e. let none = rw e at c.check_file.ensures.reports in cc) refl refl refl
