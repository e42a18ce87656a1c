use Rattle.std.proofs.Common.{◌∙◌, drop, inl, inr, length, option_map, sym}
use Rattle.fx_base.specs.Silence.{SilenceCause}
use Rattle.fx_types.specs.ValueView.{view}
use Rattle.session_requests.proofs.Written.{alone_written, arrived_same_as, both_written}
use Rattle.session_requests.proofs.Writable.{only_more, only_two}
use Rattle.session_requests.specs.Writable.{RequestMayWrite, ScreenMayWrite, TriggerMayWrite}
use Rattle.row_keeper.specs.Tables.{Tables}
use Rattle.session_requests.proofs.Cuts.{cut_more, cut_shown, on_any, request_in}
use Rattle.session_requests.specs.Scenes.{scene}
use Rattle.session_requests.specs.WrittenWhole.{IsInAll, RequestWrites, TriggerWrites}
use Rattle.session_requests.proofs.Transactions.{arrived_under_way, goes_on_then}
use Rattle.session_requests.proofs.running.run.Goals as goal

pub returns-then-not-take_navigated-clause-wrote : goal.returns-then-not-take_navigated-clause-wrote
returns-then-not-take_navigated-clause-wrote g c =
    let off = sym c.take_navigated.ensures.navigated ∙ c.if-not-take_navigated.true in
    alone_written (SilenceCause (g.K.Keeper.marks c.args.keeper.now) (g.K.Keeper.marks c.act.new.keeper)) c.args.app.now c.args.moment c.args.trigger (option_map view c.args.item) c.args.session.now c.act.new.session c.take_navigated.new.self (view c.in_ok-value.value)
    (drop (length c.args.wrote.now.items) c.act.new.wrote.items) (g.K.Keeper.told c.args.keeper.now) (g.K.Keeper.told c.act.new.keeper) off (arrived_same_as c.act.new.session c.take_navigated.new.self off c.take_navigated.ensures.taken) c.in_ok-value.ensures.wrote

pub returns-clause-wrote : goal.returns-clause-wrote
returns-clause-wrote g c =
    let told = g.K.Keeper.told in
    let marks = g.K.Keeper.marks in
    both_written (marks c.args.keeper.now) (marks c.act.new.keeper) (marks c.show.new.keeper) c.args.app.now c.args.moment c.args.trigger (option_map view c.args.item) c.args.session.now c.act.new.session c.take_navigated.new.self c.show.new.session (view c.in_ok-value.value)
    c.args.wrote.now.items c.act.new.wrote.items c.show.new.wrote.items (told c.args.keeper.now) (told c.act.new.keeper) (told c.show.new.keeper) c.act.ensures.cause.later c.show.ensures.cause.later
    (sym c.take_navigated.ensures.navigated ∙ c.if-not-take_navigated.false) c.take_navigated.ensures.taken c.act.ensures.goes_on.prefix c.show.ensures.goes_on.prefix c.in_ok-value.ensures.wrote c.in_ok-show.ensures.wrote

pub returns-in_err-value-clause-only : goal.returns-in_err-value-clause-only
returns-in_err-value-clause-only g c =
    only_more (SilenceCause (g.K.Keeper.marks c.args.keeper.now) (g.K.Keeper.marks c.act.new.keeper)) (TriggerMayWrite c.args.app.now c.args.trigger) (RequestMayWrite c.args.app.now c.args.trigger) (drop (length c.args.wrote.now.items) c.act.new.wrote.items)
    (g.K.Keeper.told c.args.keeper.now) (g.K.Keeper.told c.act.new.keeper) (λ x h. inl h) c.act.ensures.only

pub returns-then-not-take_navigated-clause-only : goal.returns-then-not-take_navigated-clause-only
returns-then-not-take_navigated-clause-only g c =
    only_more (SilenceCause (g.K.Keeper.marks c.args.keeper.now) (g.K.Keeper.marks c.act.new.keeper)) (TriggerMayWrite c.args.app.now c.args.trigger) (RequestMayWrite c.args.app.now c.args.trigger) (drop (length c.args.wrote.now.items) c.act.new.wrote.items)
    (g.K.Keeper.told c.args.keeper.now) (g.K.Keeper.told c.act.new.keeper) (λ x h. inl h) c.act.ensures.only

pub returns-in_err-show-clause-only : goal.returns-in_err-show-clause-only
returns-in_err-show-clause-only g c =
    let told = g.K.Keeper.told in
    let marks = g.K.Keeper.marks in
    only_two (marks c.args.keeper.now) (marks c.act.new.keeper) (marks c.show.new.keeper) (TriggerMayWrite c.args.app.now c.args.trigger) (ScreenMayWrite c.args.app.now) (RequestMayWrite c.args.app.now c.args.trigger)
    c.args.wrote.now.items c.act.new.wrote.items c.show.new.wrote.items (told c.args.keeper.now) (told c.act.new.keeper) (told c.show.new.keeper) (λ x h. inl h) (λ x h. inr h) c.act.ensures.cause.later c.show.ensures.cause.later
    c.act.ensures.goes_on.prefix c.show.ensures.goes_on.prefix c.act.ensures.only c.show.ensures.only

pub returns-clause-only : goal.returns-clause-only
returns-clause-only g c =
    let told = g.K.Keeper.told in
    let marks = g.K.Keeper.marks in
    only_two (marks c.args.keeper.now) (marks c.act.new.keeper) (marks c.show.new.keeper) (TriggerMayWrite c.args.app.now c.args.trigger) (ScreenMayWrite c.args.app.now) (RequestMayWrite c.args.app.now c.args.trigger)
    c.args.wrote.now.items c.act.new.wrote.items c.show.new.wrote.items (told c.args.keeper.now) (told c.act.new.keeper) (told c.show.new.keeper) (λ x h. inl h) (λ x h. inr h) c.act.ensures.cause.later c.show.ensures.cause.later
    c.act.ensures.goes_on.prefix c.show.ensures.goes_on.prefix c.act.ensures.only c.show.ensures.only

pub returns-in_err-value-clause-cut : goal.returns-in_err-value-clause-cut
returns-in_err-value-clause-cut g c =
    let told = g.K.Keeper.told in
    let marks = g.K.Keeper.marks in
    let item = option_map view c.args.item in
    on_any _ (cut_more (SilenceCause (marks c.args.keeper.now) (marks c.act.new.keeper)) (λ (t : Tables). IsInAll (TriggerWrites c.args.app.now c.args.moment c.args.trigger item (scene t c.args.session.now)))
    (λ (t : Tables). IsInAll (RequestWrites c.args.app.now c.args.moment c.args.trigger item (scene t c.args.session.now))) (drop (length c.args.wrote.now.items) c.act.new.wrote.items) (told c.args.keeper.now) (told c.act.new.keeper)
    (request_in c.args.app.now c.args.moment c.args.trigger item c.args.session.now) c.in_err-value.ensures.cut)

pub returns-in_err-show-clause-cut : goal.returns-in_err-show-clause-cut
returns-in_err-show-clause-cut g c =
    let told = g.K.Keeper.told in
    let marks = g.K.Keeper.marks in
    on_any _ (cut_shown c.one_acting.ensures (marks c.args.keeper.now) (marks c.act.new.keeper) (marks c.show.new.keeper) c.args.app.now c.args.moment c.args.trigger (option_map view c.args.item) c.args.session.now c.act.new.session c.take_navigated.new.self (view c.in_ok-value.value)
    c.args.wrote.now.items c.act.new.wrote.items c.show.new.wrote.items (told c.args.keeper.now) (told c.act.new.keeper) (told c.show.new.keeper) c.act.ensures.cause.later c.show.ensures.cause.later
    (sym c.take_navigated.ensures.navigated ∙ c.if-not-take_navigated.false) c.take_navigated.ensures.taken c.act.ensures.goes_on.prefix c.show.ensures.goes_on.prefix c.in_ok-value.ensures.wrote c.in_err-show.ensures.cut)

pub show-requires-clause-under_way : goal.show-requires-clause-under_way
show-requires-clause-under_way g c =
    arrived_under_way g.K.Keeper c.args.app.now c.args.moment c.args.before.now c.act.new.session c.take_navigated.new.self c.act.new.cache c.act.new.keeper c.act.new.wrote.items c.requires.sound
    c.take_navigated.ensures.taken c.act.ensures.under_way

pub returns-then-not-take_navigated-clause-under_way : goal.returns-then-not-take_navigated-clause-under_way
returns-then-not-take_navigated-clause-under_way g c =
    arrived_under_way g.K.Keeper c.args.app.now c.args.moment c.args.before.now c.act.new.session c.take_navigated.new.self c.act.new.cache c.act.new.keeper c.act.new.wrote.items c.requires.sound
    c.take_navigated.ensures.taken c.act.ensures.under_way

pub returns-in_err-show-clause-goes_on : goal.returns-in_err-show-clause-goes_on
returns-in_err-show-clause-goes_on g c =
    goes_on_then g.K.Keeper c.args.app.now c.args.cache.now c.act.new.cache c.show.new.cache c.args.keeper.now c.act.new.keeper c.show.new.keeper c.args.wrote.now.items c.act.new.wrote.items c.show.new.wrote.items
    c.act.ensures.cause.later c.show.ensures.cause.later c.act.ensures.goes_on c.show.ensures.goes_on

pub returns-clause-goes_on : goal.returns-clause-goes_on
returns-clause-goes_on g c =
    goes_on_then g.K.Keeper c.args.app.now c.args.cache.now c.act.new.cache c.show.new.cache c.args.keeper.now c.act.new.keeper c.show.new.keeper c.args.wrote.now.items c.act.new.wrote.items c.show.new.wrote.items
    c.act.ensures.cause.later c.show.ensures.cause.later c.act.ensures.goes_on c.show.ensures.goes_on
