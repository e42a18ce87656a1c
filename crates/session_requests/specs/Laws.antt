-- Sessions' requests that come again, and other sessions.
use Rattle.std.specs.Prelude.{◌≡◌, ◌≢◌, ℕ, List, Option, Some}
use Rattle.recalc.specs.app_cells.declared.app.App.{App}
use Rattle.recalc.specs.app_semantics.Sound.{IsSoundApp}
use Rattle.fx_base.specs.Silence.{SilenceCause, Marks}
use Rattle.numbered_requests.specs.Checks.{IsLastAsked}
use Rattle.numbered_requests.specs.Directory.{find}
use Rattle.numbered_requests.specs.declared.directory.Named.{Named}
use Rattle.row_keeper.specs.Tables.{Tables}
use Rattle.row_requests.specs.Sound.{AreSound}
use Rattle.session_state.specs.Changes.{FitsNames}
use Rattle.session_state.specs.Once.{LastRequest}
use Rattle.session_state.specs.Sessions.{SessionState}
use Rattle.session_requests.specs.Bodies.{event_in, input_in}
use Rattle.session_requests.specs.Posting.{PostsEvent, PostsInput}
use Rattle.session_requests.specs.declared.event.Event.{Event}
use Rattle.session_requests.specs.declared.input.Input.{Input}

-- what is sent by a session leaves every other as it was
abbrev pub LeavesOthers : Type 0
LeavesOthers =
    (before now : Marks) (app : App) (moment : ℕ) (name other body said : List ℕ)
    (told told' : Option Tables) (sessions sessions' : List (Named SessionState)) → name ≢ other
    → (PostsInput (SilenceCause before now) app moment name body told sessions said told' sessions'
    → find other sessions' ≡ find other sessions)
    × (PostsEvent (SilenceCause before now) app moment name body told sessions said told' sessions'
    → find other sessions' ≡ find other sessions)

-- it is as it was
abbrev pub Repeats : LastRequest → List ℕ → Option Tables → Option Tables
    → List (Named SessionState) → List (Named SessionState) → Type 0
Repeats kept said told told' sessions sessions'
    = (said ≡ kept.reply) × (sessions' ≡ sessions) × (told' ≡ told)

-- the last accepted request of a session, when it comes again, gets the kept reply and leaves all
abbrev pub RequestActsOnce : Type 0
RequestActsOnce =
    (before now : Marks) (app : App) (moment : ℕ) (name said : List ℕ) (s : SessionState)
    (told told' : Option Tables) (sessions sessions' : List (Named SessionState))
    → find name sessions ≡ Some s
    → (IsLastAsked Input input_in (λ (i : Input). i.seq) s.kept
    → PostsInput (SilenceCause before now) app moment name s.kept.body told sessions said told'
    sessions' → Repeats s.kept said told told' sessions sessions')
    × (IsLastAsked Event event_in (λ (e : Event). e.seq) s.kept
    → PostsEvent (SilenceCause before now) app moment name s.kept.body told sessions said told'
    sessions' → Repeats s.kept said told told' sessions sessions')

-- What a session sends has one outcome, where tables are told: the app, the moment, the body, the
-- session's own record and the tables determine the reply and what becomes of tables, and with the
-- other sessions what becomes of them all.
abbrev pub IsOneOutcome : Type 0
IsOneOutcome =
    (before now before' now' : Marks) (app : App) (moment : ℕ) (name body said said' : List ℕ)
    (t u v : Tables) (sessions sessions' others others' : List (Named SessionState))
    → IsSoundApp app → ((s : SessionState) → find name sessions ≡ Some s → FitsNames app.names s)
    → find name sessions ≡ find name others → AreSound app.names.schema (Some t)
    → (PostsInput (SilenceCause before now) app moment name body (Some t) sessions said (Some u)
    sessions' → PostsInput (SilenceCause before' now') app moment name body (Some t) others said'
    (Some v) others'
    → (said ≡ said') × (u ≡ v) × (sessions ≡ others → sessions' ≡ others'))
    × (PostsEvent (SilenceCause before now) app moment name body (Some t) sessions said (Some u)
    sessions' → PostsEvent (SilenceCause before' now') app moment name body (Some t) others said'
    (Some v) others'
    → (said ≡ said') × (u ≡ v) × (sessions ≡ others → sessions' ≡ others'))
