use Rattle.std.proofs.Common.{sym}
use Rattle.recalc.proofs.Asked.{heard_told}
use Rattle.recalc.specs.app_semantics.Present.{present}
use Rattle.row_keeper.specs.Tables.{rows_told}
use Rattle.session_requests.proofs.Posted.{is_target, let_through, refused, still_target}
use Rattle.session_requests.proofs.posting.judge_event.Goals as goal

pub is_shown_for-requires-clause-target : goal.is_shown_for-requires-clause-target
is_shown_for-requires-clause-target g c =
    is_target c.args.app.now.names c.args.session.now c.args.event.now c.as_slice.result.now c.args.valued.now c.event_target.result c.in-Ok.target
    c.as_slice.ensures (c.event_target.ensures.is c.args.session.now (sym c.screen.ensures)) c.in-Ok.is

pub returns-in-Ok-clause-judged : goal.returns-in-Ok-clause-judged
returns-in-Ok-clause-judged g c = λ moment today.
    let told = g.K.Keeper.told c.is_shown_for.new.keeper in
    let_through (present c.args.app.now c.args.session.now (rows_told told) moment) c.args.app.now.names c.args.session.now c.args.event.now c.as_slice.result.now c.args.valued.now c.event_target.result c.in-Ok.target c.in_ok-shown-in-Ok.shown c.unless_hidden.result
    c.as_slice.ensures (c.event_target.ensures.is c.args.session.now (sym c.screen.ensures)) c.in-Ok.is
    (c.in_ok-shown-in-Ok.ensures.shows moment (rows_told told) today (heard_told told)) c.unless_hidden.ensures.is

pub returns-in-Ok-clause-target : goal.returns-in-Ok-clause-target
returns-in-Ok-clause-target g c =
    still_target c.args.app.now.names c.args.valued.now c.in-Ok.target c.in_ok-shown-in-Ok.shown c.unless_hidden.result
    (is_target c.args.app.now.names c.args.session.now c.args.event.now c.as_slice.result.now c.args.valued.now c.event_target.result c.in-Ok.target
    c.as_slice.ensures (c.event_target.ensures.is c.args.session.now (sym c.screen.ensures)) c.in-Ok.is)
    c.unless_hidden.ensures.is

pub returns-clause-judged : goal.returns-clause-judged
returns-clause-judged g c = λ moment today.
    refused (present c.args.app.now c.args.session.now (rows_told (g.K.Keeper.told c.args.keeper.now)) moment) c.args.app.now.names c.args.session.now c.args.event.now c.as_slice.result.now c.args.valued.now c.event_target.result c.in-Err.refusal
    c.as_slice.ensures (c.event_target.ensures.is c.args.session.now (sym c.screen.ensures)) c.in-Err.is
