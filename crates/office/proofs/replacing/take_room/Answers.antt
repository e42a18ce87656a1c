use Rattle.std.proofs.Common.{List, arith, refl, subst, sym}
use Rattle.std.proofs.lemmas.Result.{IfOk-weaker, on_err_weaker}
use Rattle.numbered_requests.specs.declared.directory.Named.{Named}
use Rattle.session_state.specs.Sessions.{SessionState}
use Rattle.office.specs.Rooms.{HaveNoRoom}
use Rattle.office.proofs.Leaving.{ok_always}
use Rattle.office.proofs.Served.{room_same}
use Rattle.office.proofs.Writing.{roomy, unroomy}
use Rattle.office.proofs.replacing.take_room.Goals as goal

pub make_room-requires : goal.make_room-requires
make_room-requires c = subst (λ (l : List (Named SessionState)). HaveNoRoom l) (sym c.deref_mut.ensures.value) c.requires

pub returns-clause-sessions : goal.returns-clause-sessions
returns-clause-sessions c =
    IfOk-weaker c.make_room.result _ _ (λ x made.
    roomy c.args.sessions.now.len c.args.coming.now.names c.args.sessions.now.items c.deref_mut.result.now c.make_room.new.sessions _
    c.args.sessions.now.ok.0 c.deref_mut.ensures.value made refl) c.make_room.ensures.made

pub returns-clause-stopped : goal.returns-clause-stopped
returns-clause-stopped c =
    on_err_weaker c.make_room.result (λ left.
    unroomy c.args.sessions.now.len c.args.sessions.now.items c.deref_mut.result.now c.make_room.new.sessions c.args.sessions.now.ok.0 c.deref_mut.ensures.value left) c.make_room.ensures.stopped

pub returns-clause-rooms : goal.returns-clause-rooms
returns-clause-rooms c = ok_always c.make_room.result _ (λ x. c.in_ok-make_rooms.ensures.made)

pub returns-clause-room : goal.returns-clause-room
returns-clause-room c = ok_always c.make_room.result _ (λ x. omega (arith, c.in_ok-reserve.ensures.ok))

-- there is no memory for the desk
pub returns-in_err-reserve-clause-caches : goal.returns-in_err-reserve-clause-caches
returns-in_err-reserve-clause-caches c = room_same c.args.caches.now.items
