use Rattle.std.proofs.Common.{ℕ, List, Option, subst, sym}
use Rattle.recalc.specs.Carrying.{AreOldCells}
use Rattle.row_keeper.specs.Tables.{Tables}
use Rattle.numbered_requests.specs.declared.directory.Named.{Named}
use Rattle.session_state.specs.Sessions.{SessionState}
use Rattle.office.specs.Caches.{AreKept}
use Rattle.office.specs.Rooms.{HaveNoRoom, HaveRoom}
use Rattle.office.proofs.GoingOver.{carried_from, each_over, each_roomed, edit_of, kept_order, kept_over, kept_room}
use Rattle.office.proofs.Leaving.{err_always}
use Rattle.office.proofs.Rooms.{have_none, have_room}
use Rattle.office.proofs.Writing.{carried_all, roomy, unroomy}
use Rattle.office.proofs.posting.carry_over.Goals as goal

pub make_room-requires : goal.make_room-requires
make_room-requires c =
    subst (λ (l : List (Named SessionState)). HaveNoRoom l) (sym c.deref_mut.ensures.value) (have_none c.args.app.now.names c.args.sessions.now.items c.requires.fit)

pub carry-requires : goal.carry-requires
carry-requires c =
    let read = roomy c.args.sessions.now.len c.args.edited.now.names c.args.sessions.now.items c.deref_mut.result.now c.make_room.new.sessions c.deref_mut-2.result.now
    c.args.sessions.now.ok.0 c.deref_mut.ensures.value c.in_ok-make_room.ensures.made c.deref_mut-2.ensures.value in
    subst (λ (l : List (Named SessionState)). HaveRoom c.args.edited.now.names l) (sym read) (have_room c.args.edited.now.names c.args.sessions.now.items)

pub carry_all-requires-clause-edit : goal.carry_all-requires-clause-edit
carry_all-requires-clause-edit c = edit_of c.args.app.now c.args.edited.now c.requires.frame

pub carry_all-requires-clause-cells : goal.carry_all-requires-clause-cells
carry_all-requires-clause-cells c = subst (λ (l : List (Option ℕ)). AreOldCells c.args.app.now c.args.edited.now l) (sym c.deref.ensures.value) c.in_ok-cells.ensures

pub carry_all-requires-clause-order : goal.carry_all-requires-clause-order
carry_all-requires-clause-order c =
    kept_order c.args.app.now c.requires.cached.0 c.requires.cached.1 c.args.sessions.now.items c.make_rooms.new.caches.items
    (kept_room c.args.app.now c.requires.cached.0 c.requires.cached.1 c.args.sessions.now.items c.args.caches.now.items c.make_rooms.new.caches.items c.make_rooms.ensures.rooms c.requires.cached.2)

pub carry_all-requires-clause-rooms : goal.carry_all-requires-clause-rooms
carry_all-requires-clause-rooms c = c.in_ok-make_rooms.ensures.made

-- there is no memory for room
pub returns-in_err-make_rooms-clause-stayed : goal.returns-in_err-make_rooms-clause-stayed
returns-in_err-make_rooms-clause-stayed c =
    let stays : (told : Option Tables) (moment : ℕ) → AreKept c.args.app.now told moment c.args.sessions.now.items c.args.caches.now.items → AreKept c.args.app.now told moment c.args.sessions.now.items c.make_rooms.new.caches.items
    = λ told moment kept. kept_room c.args.app.now told moment c.args.sessions.now.items c.args.caches.now.items c.make_rooms.new.caches.items c.make_rooms.ensures.rooms kept in
    err_always _ _ stays

pub returns-in_err-make_rooms-clause-left : goal.returns-in_err-make_rooms-clause-left
returns-in_err-make_rooms-clause-left c = err_always _ _ (each_roomed c.args.app.now c.args.caches.now.items c.make_rooms.new.caches.items c.make_rooms.ensures.rooms)

pub returns-in_err-make_room-clause-stopped : goal.returns-in_err-make_room-clause-stopped
returns-in_err-make_room-clause-stopped c =
    err_always _ _ (unroomy c.args.sessions.now.len c.args.sessions.now.items c.deref_mut.result.now c.make_room.new.sessions c.args.sessions.now.ok.0 c.deref_mut.ensures.value c.in_err-make_room.ensures.stopped)

pub returns-in_err-make_room-clause-stayed : goal.returns-in_err-make_room-clause-stayed
returns-in_err-make_room-clause-stayed c =
    let stays : (told : Option Tables) (moment : ℕ) → AreKept c.args.app.now told moment c.args.sessions.now.items c.args.caches.now.items → AreKept c.args.app.now told moment c.args.sessions.now.items c.make_rooms.new.caches.items
    = λ told moment kept. kept_room c.args.app.now told moment c.args.sessions.now.items c.args.caches.now.items c.make_rooms.new.caches.items c.make_rooms.ensures.rooms kept in
    let sessions = unroomy c.args.sessions.now.len c.args.sessions.now.items c.deref_mut.result.now c.make_room.new.sessions c.args.sessions.now.ok.0 c.deref_mut.ensures.value c.in_err-make_room.ensures.stopped in
    err_always _ _
    (subst (λ (l : List (Named SessionState)). (told : Option Tables) (moment : ℕ) → AreKept c.args.app.now told moment c.args.sessions.now.items c.args.caches.now.items → AreKept c.args.app.now told moment l c.make_rooms.new.caches.items)
    (sym sessions) stays)

pub returns-in_err-make_room-clause-left : goal.returns-in_err-make_room-clause-left
returns-in_err-make_room-clause-left c = err_always _ _ (each_roomed c.args.app.now c.args.caches.now.items c.make_rooms.new.caches.items c.make_rooms.ensures.rooms)

pub returns-clause-sessions : goal.returns-clause-sessions
returns-clause-sessions c =
    let read = roomy c.args.sessions.now.len c.args.edited.now.names c.args.sessions.now.items c.deref_mut.result.now c.make_room.new.sessions c.deref_mut-2.result.now
    c.args.sessions.now.ok.0 c.deref_mut.ensures.value c.in_ok-make_room.ensures.made c.deref_mut-2.ensures.value in
    carried_all c.args.sessions.now.len c.args.app.now.names c.args.edited.now.names c.args.sessions.now.items c.deref_mut-2.result.now _ c.carry.new.sessions
    c.args.sessions.now.ok.0 read c.carry.ensures

pub returns-clause-kept : goal.returns-clause-kept
returns-clause-kept c = λ told moment kept.
    let read = roomy c.args.sessions.now.len c.args.edited.now.names c.args.sessions.now.items c.deref_mut.result.now c.make_room.new.sessions c.deref_mut-2.result.now
    c.args.sessions.now.ok.0 c.deref_mut.ensures.value c.in_ok-make_room.ensures.made c.deref_mut-2.ensures.value in
    let sessions = carried_all c.args.sessions.now.len c.args.app.now.names c.args.edited.now.names c.args.sessions.now.items c.deref_mut-2.result.now _ c.carry.new.sessions
    c.args.sessions.now.ok.0 read c.carry.ensures in
    subst (λ (l : List (Named SessionState)). AreKept c.args.edited.now told moment l c.carry_all.new.caches.items) (sym sessions)
    (kept_over c.args.app.now c.args.edited.now told moment c.args.sessions.now.items c.make_rooms.new.caches.items c.carry_all.new.caches.items c.requires.fit
    (kept_room c.args.app.now told moment c.args.sessions.now.items c.args.caches.now.items c.make_rooms.new.caches.items c.make_rooms.ensures.rooms kept) c.carry_all.ensures)

pub returns-clause-over : goal.returns-clause-over
returns-clause-over c =
    each_over c.args.app.now c.args.edited.now c.args.caches.now.items c.carry_all.new.caches.items
    (carried_from c.args.app.now c.args.edited.now c.args.caches.now.items c.make_rooms.new.caches.items c.carry_all.new.caches.items c.make_rooms.ensures.rooms c.carry_all.ensures)
