use Rattle.std.proofs.Common.{drop, length, option_map, sym}
use Rattle.std.proofs.lemmas.Result.{IfOk-weaker, on_err_weaker}
use Rattle.fx_base.specs.Silence.{SilenceCause}
use Rattle.fx_types.specs.ValueView.{view}
use Rattle.session_requests.proofs.Written.{none_written, some_written}
use Rattle.session_requests.specs.Triggers.{cell_at}
use Rattle.session_requests.proofs.RequestFitting.{is_acting, item_fits, there_at}
use Rattle.fx_behave.specs.Writable.{MayWrite}
use Rattle.session_requests.proofs.Writable.{only_more, only_same, trigger_may}
use Rattle.session_requests.specs.Writable.{TriggerMayWrite}
use Rattle.row_keeper.specs.Tables.{Tables}
use Rattle.session_requests.proofs.Cuts.{cut_more, trigger_in}
use Rattle.session_requests.specs.Scenes.{scene}
use Rattle.session_requests.specs.WrittenWhole.{FormulaWrites, IsInAll, TriggerWrites}
use Rattle.session_requests.proofs.Transactions.{goes_on_here}
use Rattle.session_requests.proofs.running.act.Goals as goal

pub perform-requires-clause-acting : goal.perform-requires-clause-acting
perform-requires-clause-acting g c =
    is_acting c.all_typings_are_lawful.ensures c.args.app.now c.args.trigger c.in-Some.place c.index-as_slice-place.result c.requires.sound (sym c.in-Some.ensures.place)
    (there_at c.args.app.now.cells c.as_slice.result.now c.in-Some.place c.index-as_slice-place.result c.as_slice.ensures c.in-Some.ensures.within c.index-as_slice-place.is)

pub perform-requires-clause-item : goal.perform-requires-clause-item
perform-requires-clause-item g c =
    item_fits c.args.app.now c.args.trigger (option_map view c.args.item) c.in-Some.place c.index-as_slice-place.result c.requires.sound (sym c.in-Some.ensures.place)
    (there_at c.args.app.now.cells c.as_slice.result.now c.in-Some.place c.index-as_slice-place.result c.as_slice.ensures c.in-Some.ensures.within c.index-as_slice-place.is)
    c.requires.item

pub returns-in-Some-clause-wrote : goal.returns-in-Some-clause-wrote
returns-in-Some-clause-wrote g c =
    let told = g.K.Keeper.told in
    let marks = g.K.Keeper.marks in
    IfOk-weaker c.perform.result _ _ (λ v h.
    some_written c.args.app.now c.args.moment (cell_at c.args.trigger c.args.app.now) (option_map view c.args.item) c.in-Some.place c.index-as_slice-place.result c.args.session.now c.perform.new.session
    (view v) (drop (length c.args.wrote.now.items) c.perform.new.wrote.items) (SilenceCause (marks c.args.keeper.now) (marks c.perform.new.keeper)) (told c.args.keeper.now) (told c.perform.new.keeper)
    (sym c.in-Some.ensures.place)
    (there_at c.args.app.now.cells c.as_slice.result.now c.in-Some.place c.index-as_slice-place.result c.as_slice.ensures c.in-Some.ensures.within c.index-as_slice-place.is)
    h) c.perform.ensures.acted

pub returns-in-None-clause-wrote : goal.returns-in-None-clause-wrote
returns-in-None-clause-wrote g c =
    none_written c.args.app.now c.args.moment (cell_at c.args.trigger c.args.app.now) (option_map view c.args.item) c.args.session.now c.args.wrote.now.items
    (SilenceCause (g.K.Keeper.marks c.args.keeper.now) (g.K.Keeper.marks c.args.keeper.now)) (g.K.Keeper.told c.args.keeper.now) (sym c.in-None.ensures.place)

pub returns-in-Some-clause-only : goal.returns-in-Some-clause-only
returns-in-Some-clause-only g c =
    let told = g.K.Keeper.told in
    let marks = g.K.Keeper.marks in
    let info = c.index-as_slice-place.result in
    only_more (SilenceCause (marks c.args.keeper.now) (marks c.perform.new.keeper)) (MayWrite info.core) (TriggerMayWrite c.args.app.now c.args.trigger) (drop (length c.args.wrote.now.items) c.perform.new.wrote.items) (told c.args.keeper.now) (told c.perform.new.keeper)
    (trigger_may c.args.app.now (cell_at c.args.trigger c.args.app.now) c.in-Some.place info (sym c.in-Some.ensures.place)
    (there_at c.args.app.now.cells c.as_slice.result.now c.in-Some.place info c.as_slice.ensures c.in-Some.ensures.within c.index-as_slice-place.is)) c.perform.ensures.only

pub returns-in-None-clause-only : goal.returns-in-None-clause-only
returns-in-None-clause-only g c =
    only_same (SilenceCause (g.K.Keeper.marks c.args.keeper.now) (g.K.Keeper.marks c.args.keeper.now)) (TriggerMayWrite c.args.app.now c.args.trigger) c.args.wrote.now.items (g.K.Keeper.told c.args.keeper.now)

pub returns-in-Some-clause-cut : goal.returns-in-Some-clause-cut
returns-in-Some-clause-cut g c =
    let told = g.K.Keeper.told in
    let marks = g.K.Keeper.marks in
    let info = c.index-as_slice-place.result in
    let item = option_map view c.args.item in
    on_err_weaker c.perform.result
    (cut_more (SilenceCause (marks c.args.keeper.now) (marks c.perform.new.keeper)) (λ (t : Tables). IsInAll (FormulaWrites c.args.app.now c.args.moment info item t c.args.session.now))
    (λ (t : Tables). IsInAll (TriggerWrites c.args.app.now c.args.moment c.args.trigger item (scene t c.args.session.now))) (drop (length c.args.wrote.now.items) c.perform.new.wrote.items) (told c.args.keeper.now) (told c.perform.new.keeper)
    (trigger_in c.args.app.now c.args.moment c.args.trigger item c.in-Some.place info c.args.session.now (sym c.in-Some.ensures.place)
    (there_at c.args.app.now.cells c.as_slice.result.now c.in-Some.place info c.as_slice.ensures c.in-Some.ensures.within c.index-as_slice-place.is))) c.perform.ensures.cut

pub returns-in-None-clause-goes_on : goal.returns-in-None-clause-goes_on
returns-in-None-clause-goes_on g c =
    goes_on_here g.K.Keeper c.args.app.now c.args.cache.now c.args.keeper.now c.args.wrote.now.items
