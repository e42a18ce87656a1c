use Rattle.std.proofs.Common.{List, inl, inr, refl, ap, sym, ◌∙◌, subst}
use Rattle.fx_base.specs.Silence.{MayFallSilent}
use Rattle.app_moves.specs.Places.{table_moves}
use Rattle.app_moves.specs.declared.moves.Move.{Move}
use Rattle.numbered_requests.specs.Replies.{IsReply, said}
use Rattle.numbered_requests.specs.declared.directory.Named.{Named}
use Rattle.row_keeper.specs.MovedTables.{Reshapes}
use Rattle.row_keeper.specs.declared.rows.Reshaped.{Reshaped}
use Rattle.row_keeper.specs.declared.rows.Reshaped.TheVariants.{Done, Broken}
use Rattle.session_state.specs.Sessions.{SessionState}
use Rattle.office.specs.Rooms.{HaveRoom}
use Rattle.office.specs.Served.{silence}
use Rattle.office.specs.State.{schema_of}
use Rattle.office.proofs.Leaving.{err_always}
use Rattle.office.proofs.MoveReplies.{table_there}
use Rattle.office.proofs.Rooms.{have_none, have_room, sessions_back}
use Rattle.office.proofs.Served.{anew_from, broken_stays, replaced_so, stays_same, stays_so}
use Rattle.office.proofs.StepLemmas.{still}
use Rattle.office.proofs.replacing.move_over.Goals as goal

-- there is no memory
pub returns-in_err-accepted-clause-stopped : goal.returns-in_err-accepted-clause-stopped
returns-in_err-accepted-clause-stopped g c = err_always _ _ (stays_same _ _ c.requires.ready.0 c.requires.ready.1)

pub take_room-requires : goal.take_room-requires
take_room-requires g c = have_none c.args.app.now.names c.args.sessions.now.items c.requires.ready.1.fit

pub returns-in_err-take_room-clause-stopped : goal.returns-in_err-take_room-clause-stopped
returns-in_err-take_room-clause-stopped g c =
    let told = g.K.Keeper.told c.args.keeper.now in
    err_always _ _ (stays_so _ _ _ refl (still _ told told refl) c.in_err-take_room.ensures.stopped c.take_room.ensures.desks c.take_room.ensures.caches c.requires.ready.1.idle refl)

-- the tables move
pub move_tables-requires-clause-idle : goal.move_tables-requires-clause-idle
move_tables-requires-clause-idle g c = c.requires.ready.1.idle

pub move_tables-requires-clause-shaped : goal.move_tables-requires-clause-shaped
move_tables-requires-clause-shaped g c = c.requires.ready.1.shaped

pub move_tables-requires-clause-lawful : goal.move_tables-requires-clause-lawful
move_tables-requires-clause-lawful g c = (c.requires.ready.1.accepted.names.schema, c.requires.accepted.sound.names.schema)

pub settle-requires-clause-sessions : goal.settle-requires-clause-sessions
settle-requires-clause-sessions g c =
    let names = c.args.coming.names in
    subst (λ (l : List (Named SessionState)). HaveRoom names l) (sym {A = List (Named SessionState)} c.in_ok-take_room.ensures.sessions) (have_room names c.args.sessions.now.items)

pub settle-requires-clause-screens : goal.settle-requires-clause-screens
settle-requires-clause-screens g c = c.requires.accepted.sound.names.screens

pub settle-requires-clause-caches : goal.settle-requires-clause-caches
settle-requires-clause-caches g c = c.in_ok-take_room.ensures.rooms

pub settle-requires-clause-desks : goal.settle-requires-clause-desks
settle-requires-clause-desks g c = c.in_ok-take_room.ensures.room

pub returns-in-Ok-Done-clause-done : goal.returns-in-Ok-Done-clause-done
returns-in-Ok-Done-clause-done g c =
    let told = g.K.Keeper.told in
    let olds = (schema_of c.args.app.now).tables in
    let schema = schema_of c.args.coming in
    let moved = subst (λ (ms : List Move). MayFallSilent (silence g.K.Keeper c.args.keeper.now c.move_tables.new.keeper) (Reshapes schema (table_moves olds ms schema.tables) Done) (told c.args.keeper.now) (told c.move_tables.new.keeper)) c.as_slice.ensures
    (rw c.in-Ok-Done.field-0-is at c.in-Ok-Done.ensures.done) in
    let state = replaced_so c.args.name.now c.args.body.now c.in_ok-accepted.accepted.name c.in_ok-accepted.accepted.body.items c.in_ok-accepted.accepted.kept.items c.args.asked.now.seq c.args.coming c.settle.new.app (told c.move_tables.new.keeper)
    (record { app = c.args.app.now; tables = told c.args.keeper.now; sessions = c.args.sessions.now.items; desks = c.args.desks.now.items })
    c.take_room.new.sessions.items c.settle.new.sessions.items c.take_room.new.desks.items c.settle.new.desks.items c.settle.ensures.app c.in_ok-take_room.ensures.sessions c.settle.ensures.sessions
    c.in_ok-accepted.ensures.name c.in_ok-accepted.ensures.body c.in_ok-accepted.ensures.kept c.take_room.ensures.desks c.settle.ensures.desks in
    (Done, moved, (ap said c.settle.ensures.reply ∙ c.in_ok-accepted.ensures.reply, state))

pub returns-in-Ok-Done-clause-whole : goal.returns-in-Ok-Done-clause-whole
returns-in-Ok-Done-clause-whole g c = subst IsReply (sym c.settle.ensures.reply) c.in_ok-accepted.ensures.whole

pub returns-in-Ok-Done-clause-becomes : goal.returns-in-Ok-Done-clause-becomes
returns-in-Ok-Done-clause-becomes g c =
    let told = g.K.Keeper.told in
    let olds = (schema_of c.args.app.now).tables in
    let schema = schema_of c.args.coming in
    let moved = subst (λ (ms : List Move). MayFallSilent (silence g.K.Keeper c.args.keeper.now c.move_tables.new.keeper) (Reshapes schema (table_moves olds ms schema.tables) Done) (told c.args.keeper.now) (told c.move_tables.new.keeper)) c.as_slice.ensures
    (rw c.in-Ok-Done.field-0-is at c.in-Ok-Done.ensures.done) in
    let state = replaced_so c.args.name.now c.args.body.now c.in_ok-accepted.accepted.name c.in_ok-accepted.accepted.body.items c.in_ok-accepted.accepted.kept.items c.args.asked.now.seq c.args.coming c.settle.new.app (told c.move_tables.new.keeper)
    (record { app = c.args.app.now; tables = told c.args.keeper.now; sessions = c.args.sessions.now.items; desks = c.args.desks.now.items })
    c.take_room.new.sessions.items c.settle.new.sessions.items c.take_room.new.desks.items c.settle.new.desks.items c.settle.ensures.app c.in_ok-take_room.ensures.sessions c.settle.ensures.sessions
    c.in_ok-accepted.ensures.name c.in_ok-accepted.ensures.body c.in_ok-accepted.ensures.kept c.take_room.ensures.desks c.settle.ensures.desks in
    inr (
      c.args.coming,
      c.requires.accepted,
      record {
        fine = c.requires.fine;
        moved = moved;
        state = state;
        anew = anew_from c.args.coming c.args.caches.now.items c.take_room.new.caches.items c.settle.new.caches.items c.take_room.ensures.caches c.settle.ensures.caches;
        idle = c.move_tables.ensures.idle;
        shape = rw c.in-Ok-Done.field-0-is at c.in-Ok-Done.ensures.shaped;
      },
    )

-- a moved row breaks a rule
pub refuse_rows-requires : goal.refuse_rows-requires
refuse_rows-requires g c = table_there (schema_of c.args.coming).tables c.in-Ok-Broken.table c.in-Ok-Broken.broken (rw c.in-Ok-Broken.field-0-is at c.in-Ok-Broken.ensures.sound)

pub returns-in_ok-refuse_rows-in-Ok-Broken-clause-done : goal.returns-in_ok-refuse_rows-in-Ok-Broken-clause-done
returns-in_ok-refuse_rows-in-Ok-Broken-clause-done g c =
    let told = g.K.Keeper.told in
    let olds = (schema_of c.args.app.now).tables in
    let schema = schema_of c.args.coming in
    let outcome : Reshaped = Broken c.in-Ok-Broken.table c.in-Ok-Broken.broken in
    let moved = subst (λ (ms : List Move). MayFallSilent (silence g.K.Keeper c.args.keeper.now c.move_tables.new.keeper) (Reshapes schema (table_moves olds ms schema.tables) outcome) (told c.args.keeper.now) (told c.move_tables.new.keeper)) c.as_slice.ensures
    (rw c.in-Ok-Broken.field-0-is at c.in-Ok-Broken.ensures.done) in
    let back = sessions_back c.args.app.now.names c.args.coming.names c.args.sessions.now.items c.take_room.new.sessions.items c.give_room_back.new.sessions.items c.requires.ready.1.fit c.in_ok-take_room.ensures.sessions c.give_room_back.ensures in (
      outcome,
      moved,
      (c.in_ok-refuse_rows-in-Ok-Broken.ensures.said, λ i. record { app = c.args.app.now; tables = told c.move_tables.new.keeper; sessions = back i; desks = c.take_room.ensures.desks i }),
    )

pub returns-in_ok-refuse_rows-in-Ok-Broken-clause-becomes : goal.returns-in_ok-refuse_rows-in-Ok-Broken-clause-becomes
returns-in_ok-refuse_rows-in-Ok-Broken-clause-becomes g c =
    let told = g.K.Keeper.told in
    let schema = schema_of c.args.coming in
    let lost = silence g.K.Keeper c.args.keeper.now c.move_tables.new.keeper in
    let moved = rw c.in-Ok-Broken.field-0-is at c.in-Ok-Broken.ensures.done in
    let back = sessions_back c.args.app.now.names c.args.coming.names c.args.sessions.now.items c.take_room.new.sessions.items c.give_room_back.new.sessions.items c.requires.ready.1.fit c.in_ok-take_room.ensures.sessions c.give_room_back.ensures in
    let shape = rw c.in-Ok-Broken.field-0-is at c.in-Ok-Broken.ensures.shaped in
    inl (stays_so lost _ _ refl (broken_stays lost schema _ c.in-Ok-Broken.table c.in-Ok-Broken.broken (told c.args.keeper.now) (told c.move_tables.new.keeper) moved) back c.take_room.ensures.desks c.take_room.ensures.caches
    c.move_tables.ensures.idle (shape ∙ sym c.requires.ready.1.shaped))

pub returns-in_err-refuse_rows-in-Ok-Broken-clause-stopped : goal.returns-in_err-refuse_rows-in-Ok-Broken-clause-stopped
returns-in_err-refuse_rows-in-Ok-Broken-clause-stopped g c =
    let told = g.K.Keeper.told in
    let schema = schema_of c.args.coming in
    let lost = silence g.K.Keeper c.args.keeper.now c.move_tables.new.keeper in
    let moved = rw c.in-Ok-Broken.field-0-is at c.in-Ok-Broken.ensures.done in
    let back = sessions_back c.args.app.now.names c.args.coming.names c.args.sessions.now.items c.take_room.new.sessions.items c.give_room_back.new.sessions.items c.requires.ready.1.fit c.in_ok-take_room.ensures.sessions c.give_room_back.ensures in
    let shape = rw c.in-Ok-Broken.field-0-is at c.in-Ok-Broken.ensures.shaped in
    err_always _ _ (stays_so lost _ _ refl (broken_stays lost schema _ c.in-Ok-Broken.table c.in-Ok-Broken.broken (told c.args.keeper.now) (told c.move_tables.new.keeper) moved) back c.take_room.ensures.desks c.take_room.ensures.caches
    c.move_tables.ensures.idle (shape ∙ sym c.requires.ready.1.shaped))

-- it stopped
pub returns-in-Err-clause-stopped : goal.returns-in-Err-clause-stopped
returns-in-Err-clause-stopped g c =
    let lost = silence g.K.Keeper c.args.keeper.now c.move_tables.new.keeper in
    let back = sessions_back c.args.app.now.names c.args.coming.names c.args.sessions.now.items c.take_room.new.sessions.items c.give_room_back-in-Err.new.sessions.items c.requires.ready.1.fit c.in_ok-take_room.ensures.sessions c.give_room_back-in-Err.ensures in
    stays_so lost _ _ refl c.in-Err.ensures.stopped back c.take_room.ensures.desks c.take_room.ensures.caches c.move_tables.ensures.idle c.in-Err.ensures.stays
