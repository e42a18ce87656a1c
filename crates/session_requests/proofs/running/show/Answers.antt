use Rattle.std.proofs.Common.{◌∙◌, ap, drop, length}
use Rattle.fx_base.specs.Silence.{SilenceCause}
use Rattle.session_state.specs.Sessions.{SessionState}
use Rattle.session_requests.proofs.Written.{shown_written}
use Rattle.session_requests.proofs.Writable.{only_more}
use Rattle.session_requests.specs.Writable.{ScreenMayWrite, TriggerMayWrite}
use Rattle.session_requests.specs.declared.trigger.Trigger.TheVariants.{OnVisible}
use Rattle.std.proofs.Common.{None}
use Rattle.row_keeper.specs.Tables.{Tables}
use Rattle.session_requests.proofs.Cuts.{cut_more, on_any, screen_in}
use Rattle.session_requests.specs.Scenes.{scene}
use Rattle.session_requests.specs.WrittenWhole.{IsInAll, ScreenWrites, TriggerWrites}
use Rattle.session_requests.proofs.Transactions.{arrived_under_way}
use Rattle.session_requests.proofs.running.show.Goals as goal

pub returns-clause-wrote : goal.returns-clause-wrote
returns-clause-wrote g c =
    shown_written c.args.app.now c.args.moment c.screen.result c.args.session.now c.take_navigated.new.self c.act.new.session c.take_navigated-2.new.self _ (drop (length c.args.wrote.now.items) c.act.new.wrote.items)
    (SilenceCause (g.K.Keeper.marks c.args.keeper.now) (g.K.Keeper.marks c.act.new.keeper)) (g.K.Keeper.told c.args.keeper.now) (g.K.Keeper.told c.act.new.keeper) c.take_navigated.ensures.taken c.take_navigated-2.ensures.taken
    (c.screen.ensures ∙ ap (λ (s : SessionState). s.screen) c.take_navigated.ensures.taken) c.in_ok-act.ensures.wrote

pub returns-in_err-act-clause-only : goal.returns-in_err-act-clause-only
returns-in_err-act-clause-only g c =
    only_more (SilenceCause (g.K.Keeper.marks c.args.keeper.now) (g.K.Keeper.marks c.act.new.keeper)) (TriggerMayWrite c.args.app.now (OnVisible c.screen.result)) (ScreenMayWrite c.args.app.now) (drop (length c.args.wrote.now.items) c.act.new.wrote.items)
    (g.K.Keeper.told c.args.keeper.now) (g.K.Keeper.told c.act.new.keeper) (λ x h. (c.screen.result, h)) c.act.ensures.only

pub returns-clause-only : goal.returns-clause-only
returns-clause-only g c =
    only_more (SilenceCause (g.K.Keeper.marks c.args.keeper.now) (g.K.Keeper.marks c.act.new.keeper)) (TriggerMayWrite c.args.app.now (OnVisible c.screen.result)) (ScreenMayWrite c.args.app.now) (drop (length c.args.wrote.now.items) c.act.new.wrote.items)
    (g.K.Keeper.told c.args.keeper.now) (g.K.Keeper.told c.act.new.keeper) (λ x h. (c.screen.result, h)) c.act.ensures.only

pub returns-in_err-act-clause-cut : goal.returns-in_err-act-clause-cut
returns-in_err-act-clause-cut g c =
    let told = g.K.Keeper.told in
    let marks = g.K.Keeper.marks in
    on_any _ (cut_more (SilenceCause (marks c.args.keeper.now) (marks c.act.new.keeper)) (λ (t : Tables). IsInAll (TriggerWrites c.args.app.now c.args.moment (OnVisible c.screen.result) None (scene t c.take_navigated.new.self)))
    (λ (t : Tables). IsInAll (ScreenWrites c.args.app.now c.args.moment (scene t c.args.session.now))) (drop (length c.args.wrote.now.items) c.act.new.wrote.items) (told c.args.keeper.now) (told c.act.new.keeper)
    (screen_in c.args.app.now c.args.moment c.screen.result c.args.session.now c.take_navigated.new.self c.take_navigated.ensures.taken (c.screen.ensures ∙ ap (λ (s : SessionState). s.screen) c.take_navigated.ensures.taken)) c.in_err-act.ensures.cut)

pub act-requires-clause-under_way : goal.act-requires-clause-under_way
act-requires-clause-under_way g c =
    arrived_under_way g.K.Keeper c.args.app.now c.args.moment c.args.before.now c.args.session.now c.take_navigated.new.self c.args.cache.now c.args.keeper.now c.args.wrote.now.items c.requires.sound
    c.take_navigated.ensures.taken c.requires.under_way

pub returns-clause-under_way : goal.returns-clause-under_way
returns-clause-under_way g c =
    arrived_under_way g.K.Keeper c.args.app.now c.args.moment c.args.before.now c.act.new.session c.take_navigated-2.new.self c.act.new.cache c.act.new.keeper c.act.new.wrote.items c.requires.sound
    c.take_navigated-2.ensures.taken c.act.ensures.under_way
