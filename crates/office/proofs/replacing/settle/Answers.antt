use Rattle.std.proofs.Common.{List, subst, sym}
use Rattle.numbered_requests.specs.declared.directory.Named.{Named}
use Rattle.session_state.specs.Sessions.{SessionState}
use Rattle.office.specs.Rooms.{HaveRoom}
use Rattle.office.proofs.Writing.{over_all}
use Rattle.office.proofs.replacing.settle.Goals as goal

pub carry_over-requires-clause-room : goal.carry_over-requires-clause-room
carry_over-requires-clause-room c = subst (λ (l : List (Named SessionState)). HaveRoom c.args.coming.names l) (sym c.deref_mut.ensures.value) c.requires.sessions

pub returns-clause-sessions : goal.returns-clause-sessions
returns-clause-sessions c =
    over_all c.args.sessions.now.len c.args.app.now.names c.args.coming.names c.args.sessions.now.items c.deref_mut.result.now c.carry_over.new.sessions
    c.args.sessions.now.ok.0 c.deref_mut.ensures.value c.carry_over.ensures
