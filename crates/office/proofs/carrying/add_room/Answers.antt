use Rattle.std.proofs.Common.{◌≡◌, ◌∙◌, ap, get_or, set, sym}
use Rattle.std.proofs.lemmas.List.Edits.{map_over_more}
use Rattle.numbered_requests.specs.declared.directory.Named.{Named}
use Rattle.session_state.specs.Sessions.{SessionState}
use Rattle.std.proofs.Common.{map}
use Rattle.office.specs.Rooms.{with_room, without_room}
use Rattle.office.proofs.Rooms.{put_back, without_any}
use Rattle.office.proofs.carrying.add_room.Goals as goal

pub loop-session-preserved : goal.loop-session-preserved
loop-session-preserved c =
    let at : Named SessionState = get_or c.loop-session.sessions c.loop-session.session-index c.session-item.result in
    let put : record { name = at.name; it = c.make_room.new.self } ≡ with_room c.args.names.now at = λ i. record { name = at.name; it = c.in_ok-make_room.ensures.made i } in
    ap (set c.loop-session.sessions c.loop-session.session-index) (put ∙ ap (with_room c.args.names.now) (sym c.session-item.is))
    ∙ map_over_more (with_room c.args.names.now) c.args.sessions.now c.loop-session.sessions c.loop-session.session-index c.session-item.result c.loop-session-test.true c.loop-session.invariant c.session-item.is

pub returns-in_err-make_room-clause-others : goal.returns-in_err-make_room-clause-others
returns-in_err-make_room-clause-others c =
    let at : Named SessionState = get_or c.loop-session.sessions c.loop-session.session-index c.session-item.result in
    let put : record { name = at.name; it = c.make_room.new.self } ≡ at = λ i. record { name = at.name; it = c.in_err-make_room.ensures.err i } in
    ap (λ (s : Named SessionState). map without_room (set c.loop-session.sessions c.loop-session.session-index s)) (put ∙ sym c.session-item.is)
    ∙ ap (map without_room) (put_back c.loop-session.sessions c.loop-session.session-index c.session-item.result c.session-item.is ∙ c.loop-session.invariant)
    ∙ without_any c.args.names.now c.args.sessions.now c.loop-session.session-index

pub returns-clause-others : goal.returns-clause-others
returns-clause-others c = ap (map without_room) c.loop-session.invariant ∙ without_any c.args.names.now c.args.sessions.now c.loop-session.session-index
