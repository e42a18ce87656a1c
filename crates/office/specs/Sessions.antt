-- Sessions begin, end, and are shown the named formulas.
use Rattle.std.specs.Prelude.{◌≡◌, ℕ, List, Option, Some, None, IsSome, length, nat_le, not}
use Rattle.std.specs.Prelude.{if◌then◌else◌}
use Rattle.std.specs.List.{filter}
use Rattle.app_cells.specs.declared.app.App.{App}
use Rattle.app_loader.specs.app_semantics.Present.{present}
use Rattle.app_wire.specs.ReplyBytes.{refusal, reply}
use Rattle.fx_base.specs.Silence.{MayFallSilent}
use Rattle.fx_base.specs.Telling.{Stays}
use Rattle.fx_core.specs.declared.sources.Source.{Source}
use Rattle.row_keeper.specs.Tables.{Tables, rows_told}
use Rattle.session_requests.specs.Opening.{OpensNew}
use Rattle.session_requests.specs.Running.{OpensWriting}
use Rattle.session_requests.specs.Scenes.{scene}
use Rattle.session_state.specs.Sessions.{SessionState, opened}
use Rattle.view_text.specs.ReplyText.{ok_text}
use Rattle.numbered_requests.specs.Directory.{find, is_in_directory, is_named, put_named}
use Rattle.numbered_requests.specs.declared.directory.Named.{Named}
use Rattle.office.specs.NamedReply.{IsNamedBody}

-- the most sessions that live at a time
abbrev pub most_sessions : ℕ
most_sessions = 256

-- The checks before a session is opened, which call no keeper: one that is live stays as it is, and
-- a new one is refused (12) where as many live as may. Where there is no reply it is opened.
abbrev pub begin_checks : List ℕ → List (Named SessionState) → Option (List ℕ)
begin_checks name sessions =
    if is_in_directory name sessions then Some (reply 200 ok_text)
    else (if nat_le most_sessions (length sessions) then Some (refusal 12)
    else None)

-- a new session is opened, in one transaction
pub record OpensSession (lost : Type 0) (app : App) (moment : ℕ) (name : List ℕ)
    (tables : Option Tables) (sessions : List (Named SessionState)) (said : List ℕ)
    (tables' : Option Tables) (sessions' : List (Named SessionState)) : Type 0 where
  pub session : SessionState
  pub opens : OpensNew lost app moment tables tables' session
  pub replied : said ≡ reply 200 ok_text
  pub keeps : sessions' ≡ put_named name session sessions

-- which sources it writes
abbrev pub OpensSessionWriting : Type 0 → App → ℕ → List ℕ → Option Tables
    → List (Named SessionState) → List ℕ → Option Tables → List (Named SessionState) → List Source
    → Type 0
OpensSessionWriting lost app moment name tables sessions said tables' sessions' ws =
    (h : OpensSession lost app moment name tables sessions said tables' sessions')
    × MayFallSilent lost (λ (t u : Tables). OpensWriting app moment (scene t (opened app.names))
    (scene u h.opens.end) ws) tables tables'

-- after the checks: the first that breaks is the reply, and leaves all
abbrev pub BeginsChecked : Type 0 → App → ℕ → List ℕ → Option (List ℕ) → Option Tables
    → List (Named SessionState) → List ℕ → Option Tables → List (Named SessionState) → Type 0
BeginsChecked lost app moment name (Some words) tables sessions said tables' sessions'
    = (said ≡ words) × (tables' ≡ tables) × (sessions' ≡ sessions)
BeginsChecked lost app moment name None tables sessions said tables' sessions'
    = OpensSession lost app moment name tables sessions said tables' sessions'

-- THE route of sessions that begin
abbrev pub BeginsSession : Type 0 → App → ℕ → List ℕ → Option Tables → List (Named SessionState)
    → List ℕ → Option Tables → List (Named SessionState) → Type 0
BeginsSession lost app moment name tables sessions said tables' sessions' =
    BeginsChecked lost app moment name (begin_checks name sessions) tables sessions said tables'
    sessions'

-- the checks that call no keeper are passed: the session is new, and may live
abbrev pub ReachesBegin : List ℕ → List (Named SessionState) → Type 0
ReachesBegin name sessions = begin_checks name sessions ≡ None

-- the sessions but the one of this name
abbrev pub sessions_without : {T : Type 0} → List ℕ → List (Named T) → List (Named T)
sessions_without name list = filter (λ n. not (is_named name n)) list

-- to a live session, with what it holds, over the rows of tables, which stay; to no other (11)
abbrev pub ShowsNamedTo : Type 0 → App → ℕ → Option SessionState → Option Tables → List ℕ
    → Option Tables → Type 0
ShowsNamedTo lost app moment None tables said tables' = (said ≡ refusal 11) × (tables' ≡ tables)
ShowsNamedTo lost app moment (Some s) tables said tables' =
    ((body : List ℕ) × IsNamedBody (present app s (rows_told tables') moment) body
    × (said ≡ reply 200 body)) × MayFallSilent lost Stays tables tables'

-- The named formulas are shown to a live session, as they are at this moment.
abbrev pub ShowsNamed : Type 0 → ℕ → App → List ℕ → List (Named SessionState) → Option Tables
    → List ℕ → Option Tables → Type 0
ShowsNamed lost moment app name sessions tables said tables'
    = ShowsNamedTo lost app moment (find name sessions) tables said tables'

-- the check that calls no keeper is passed: the session is live
abbrev pub ReachesNamed : List ℕ → List (Named SessionState) → Type 0
ReachesNamed name sessions = IsSome (find name sessions)
