-- What formulas that act find and leave.
use Rattle.std.specs.Prelude.{[], false}
use Rattle.row_keeper.specs.Tables.{Tables}
use Rattle.session_state.specs.Once.{nobody}
use Rattle.session_state.specs.Sessions.{SessionState}

-- the tables, and a session
pub record TablesAndSession : Type 0 where
  pub tables : Tables
  pub session : SessionState

abbrev pub scene : Tables → SessionState → TablesAndSession
scene tables session = record { tables = tables; session = session }

-- a session as a request begins: nothing is notified yet, and no screen was navigated to
abbrev pub begun : SessionState → SessionState
begun s = record s { navigated = false; notices = [] }

-- the screen that was navigated to is shown
abbrev pub arrived : SessionState → SessionState
arrived s = record s { navigated = false }

-- what was notified is told, and none of it is kept
abbrev pub quiet : SessionState → SessionState
quiet s = record s { notices = [] }

-- nothing of it was asked yet
abbrev pub unasked : SessionState → SessionState
unasked s = record s { kept = nobody }
