-- Room beside sessions, while an app is edited.
use Rattle.std.specs.Prelude.{◌≡◌, List, map}
use Rattle.std.specs.List.{AllByRecursion}
use Rattle.fx_core.specs.declared.names.Names.{Names}
use Rattle.numbered_requests.specs.declared.directory.Named.{Named}
use Rattle.session_state.specs.Sessions.{HasSessionRoom, SessionState, no_session_room, room_with}

-- with as much room as the names want
abbrev pub with_room : Names → Named SessionState → Named SessionState
with_room n s = record s { it = record s.it { room = room_with n s.it.room } }

-- with none
abbrev pub without_room : Named SessionState → Named SessionState
without_room s = record s { it = record s.it { room = no_session_room } }

-- there is none beside any
abbrev pub HaveNoRoom : List (Named SessionState) → Type 0
HaveNoRoom sessions = map without_room sessions ≡ sessions

-- there is as much beside each as the names want
abbrev pub HaveRoom : Names → List (Named SessionState) → Type 0
HaveRoom n sessions = AllByRecursion (λ (s : Named SessionState). HasSessionRoom n s.it.room)
    sessions
