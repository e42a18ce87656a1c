use Rattle.std.proofs.Common.{option_map, subst, sym}
use Rattle.fx_base.specs.Silence.{SilenceCause}
use Rattle.fx_behave.specs.Writable.{MayWrite}
use Rattle.fx_types.specs.ValueView.{view}
use Rattle.recalc.specs.app_cells.declared.app.App.{App}
use Rattle.row_keeper.specs.Tables.{Tables}
use Rattle.session_requests.specs.Transactions.{GoesOn, IsUnderWay}
use Rattle.session_requests.specs.WrittenWhole.{FormulaWrites, IsInAll}
use Rattle.session_requests.proofs.Cuts.{cut_same, on_any}
use Rattle.session_requests.proofs.Transactions.{goes_on_here}
use Rattle.session_requests.proofs.WorldEnding.{left_alone}
use Rattle.session_requests.proofs.Writable.{only_same}
use Rattle.session_requests.proofs.performing.perform.Goals as goal

pub perform_over-requires-clause-under_way : goal.perform_over-requires-clause-under_way
perform_over-requires-clause-under_way g c =
    subst (λ (a : App). IsUnderWay g.K.Keeper a c.args.moment c.args.before.now c.args.session.now c.args.cache.now c.args.keeper.now c.args.wrote.now.items) (sym c.new-accepted.ensures) c.requires.under_way

pub returns-in_err-day-clause-leaves : goal.returns-in_err-day-clause-leaves
returns-in_err-day-clause-leaves g c = left_alone (SilenceCause (g.K.Keeper.marks c.args.keeper.now) (g.K.Keeper.marks c.args.keeper.now)) c.args.app.now c.args.moment c.args.session.now (g.K.Keeper.told c.args.keeper.now)

pub returns-in_err-day-clause-only : goal.returns-in_err-day-clause-only
returns-in_err-day-clause-only g c =
    only_same (SilenceCause (g.K.Keeper.marks c.args.keeper.now) (g.K.Keeper.marks c.args.keeper.now)) (MayWrite c.args.info.now.core) c.args.wrote.now.items (g.K.Keeper.told c.args.keeper.now)

pub returns-in_err-day-clause-cut : goal.returns-in_err-day-clause-cut
returns-in_err-day-clause-cut g c =
    on_any _ (cut_same (SilenceCause (g.K.Keeper.marks c.args.keeper.now) (g.K.Keeper.marks c.args.keeper.now)) (λ (t : Tables). IsInAll (FormulaWrites c.args.app.now c.args.moment c.args.info.now (option_map view c.args.item) t c.args.session.now)) c.args.wrote.now.items
    (g.K.Keeper.told c.args.keeper.now))

pub returns-in_err-day-clause-goes_on : goal.returns-in_err-day-clause-goes_on
returns-in_err-day-clause-goes_on g c =
    goes_on_here g.K.Keeper c.args.app.now c.args.cache.now c.args.keeper.now c.args.wrote.now.items

pub returns-clause-under_way : goal.returns-clause-under_way
returns-clause-under_way g c =
    let o = c.perform_over.new in
    subst (λ (a : App). IsUnderWay g.K.Keeper a c.args.moment c.args.before.now o.session o.cache o.keeper o.wrote.items) c.new-accepted.ensures c.perform_over.ensures.under_way

pub returns-clause-goes_on : goal.returns-clause-goes_on
returns-clause-goes_on g c =
    let o = c.perform_over.new in
    subst (λ (a : App). GoesOn g.K.Keeper a c.args.cache.now o.cache c.args.keeper.now o.keeper c.args.wrote.now.items o.wrote.items) c.new-accepted.ensures c.perform_over.ensures.goes_on
