-- Which cells of sessions a request leaves clean.
use Rattle.std.specs.Prelude.{◌≡◌, ◌≢◌, ◌⊎◌, ℕ, ◌/◌, true, List, [], IsSome, Option, None, Some}
use Rattle.std.specs.Prelude.{IfSome, Result, Ok, Err}
use Rattle.app_cells.specs.declared.app.App.{App}
use Rattle.app_wire.specs.Framing.{Asked}
use Rattle.app_wire.specs.ReplyBytes.{refusal}
use Rattle.app_wire.specs.Routing.{Routing}
use Rattle.app_wire.specs.declared.route.Route.{Route}
use Rattle.app_wire.specs.declared.route.Route.TheVariants.{Begin, End, View, Named as Formulas}
use Rattle.app_wire.specs.declared.route.Route.TheVariants.{Items, Event as OfEvent}
use Rattle.app_wire.specs.declared.route.Route.TheVariants.{Input as OfInput, Rows, Edit, Replace}
use Rattle.app_wire.specs.declared.route.Route.TheVariants.{Page}
use Rattle.app_wire.specs.declared.route.Route.TheVariants.{Plan, Graph}
use Rattle.fx_core.specs.Reads.{IsAmong}
use Rattle.fx_core.specs.declared.sources.Source.{Source}
use Rattle.fx_core.specs.declared.sources.Source.TheVariants as source
use Rattle.recalc.specs.Changes.{StaysCleanExcept}
use Rattle.recalc.specs.Kept.{CacheState, IsClean}
use Rattle.numbered_requests.specs.Checks.{checks, session_of}
use Rattle.numbered_requests.specs.Directory.{find}
use Rattle.numbered_requests.specs.declared.directory.Named.{Named}
use Rattle.row_keeper.specs.Tables.{Tables}
use Rattle.row_requests.specs.Written.{IsNamedBy}
use Rattle.session_requests.specs.Bodies.{event_in, input_in}
use Rattle.session_requests.specs.Posting.{SendsEventWriting, SendsInputWriting}
use Rattle.session_requests.specs.WrittenWhole.{EventWritesWhole, InputWritesWhole, IsInAll}
use Rattle.session_requests.specs.Writable.{EventMayWrite, InputMayWrite}
use Rattle.session_requests.specs.declared.event.Event.{Event}
use Rattle.session_requests.specs.declared.input.Input.{Input}
use Rattle.session_state.specs.Sessions.{SessionState}
use Rattle.office.specs.Caches.{EachCacheBecame, IsTurned, WentOver, is_table}
use Rattle.office.specs.Replacing.{IsReplaced}
use Rattle.office.specs.Sessions.{OpensSessionWriting, begin_checks}
use Rattle.office.specs.State.{OfficeState, schema_of}

-- what sources are written
abbrev pub Writing : Type 1
Writing = Source → Type 0

-- nothing is
abbrev pub nothing : Writing
nothing x = ⊥

-- or
abbrev pub either : Writing → Writing → Writing
either V W x = V x ⊎ W x

-- EACH CACHE IS LEFT SO: of these sources some changed, and the clean cells that reach none of
-- those stay clean.
abbrev pub AreEachLeft : App → Writing → List (Named CacheState) → List (Named CacheState) → Type 0
AreEachLeft a W old new = (xs : List Source) × ((x : Source) → IsAmong x xs → W x)
    × EachCacheBecame (λ k. StaysCleanExcept a xs) old new

-- the same of the sessions that live before and after
abbrev pub SessionsLeft : App → Writing → List (Named CacheState) → List (Named CacheState) → Type 0
SessionsLeft a W old new =
    (name : List ℕ) (c d : CacheState) → find name old ≡ Some c → find name new ≡ Some d
    → (xs : List Source) × ((x : Source) → IsAmong x xs → W x) × StaysCleanExcept a xs c d

-- and of all sessions but the one of a name
abbrev pub AreLeftBeside : App → List ℕ → Writing → List (Named CacheState)
    → List (Named CacheState) → Type 0
AreLeftBeside a one W old new =
    (name : List ℕ) (c d : CacheState) → one ≢ name → find name old ≡ Some c
    → find name new ≡ Some d → (xs : List Source) × ((x : Source) → IsAmong x xs → W x)
    × StaysCleanExcept a xs c d

-- any tables
abbrev pub any_table : Writing
any_table x = is_table x ≡ true

-- the day is another than at the moment before
abbrev pub day_turned : ℕ → ℕ → Writing
day_turned before now x = (x ≡ source.Today) × (now / 86400 ≢ before / 86400)

-- WHAT A MOMENT LEAVES OF CACHES: on the same day they are as they were, and on another one each is
-- told so
abbrev pub HaveTurned : ℕ → ℕ → List (Named CacheState) → List (Named CacheState) → Type 0
HaveTurned before now old new = ((now / 86400 ≡ before / 86400) × (new ≡ old))
    ⊎ ((now / 86400 ≢ before / 86400) × EachCacheBecame (λ k. IsTurned now) old new)

-- no cell of any session is clean
abbrev pub HaveNoneClean : App → List (Named CacheState) → Type 0
HaveNoneClean a new = (name : List ℕ) (d : CacheState) (k : ℕ) → find name new ≡ Some d
    → IsClean a d k → ⊥

-- of a replacement: where the office stays, all clean cells but those that reach what was written,
-- and where the app of the body is served, none
abbrev pub ReplacementLeaves : List ℕ → List ℕ → Writing → OfficeState → OfficeState
    → List (Named CacheState) → List (Named CacheState) → Type 0
ReplacementLeaves desk body V s t old new =
    ((t ≡ record s { tables = t.tables }) × SessionsLeft s.app V old new)
    ⊎ (IsReplaced desk body s t × HaveNoneClean t.app new)

-- THE cells that a route leaves clean in all sessions, beside what was written before: of posted
-- rows, those that reach no table that the changes name; of an edit, those that are carried over to
-- the edited app; of a replacement, all where it is refused, and none where it is accepted; and of
-- what a session is shown, and what begins nothing, all. Where something acts, all other sessions
-- keep those that reach no table; of the one that acts nothing is said here.
unfoldable pub LeavesBy : Route → Writing → List ℕ → OfficeState → OfficeState
    → List (Named CacheState) → List (Named CacheState) → Type 0
LeavesBy (Rows desk) V body s t old new = SessionsLeft s.app
    (either V (IsNamedBy (schema_of s.app).tables s.desks desk body)) old new
LeavesBy (Edit desk) V body s t old new = (cs : List (Named CacheState))
    × AreEachLeft s.app V old cs × EachCacheBecame (λ k. WentOver s.app t.app) cs new
LeavesBy (Replace desk) V body s t old new = ReplacementLeaves desk body V s t old new
LeavesBy (End name) V body s t old new = SessionsLeft s.app V old new
LeavesBy (View name) V body s t old new = SessionsLeft s.app V old new
LeavesBy (Formulas name) V body s t old new = SessionsLeft s.app V old new
LeavesBy (Items name gallery from) V body s t old new = SessionsLeft s.app V old new
LeavesBy (Page table after) V body s t old new = SessionsLeft s.app V old new
LeavesBy Plan V body s t old new = SessionsLeft s.app V old new
LeavesBy Graph V body s t old new = SessionsLeft s.app V old new
LeavesBy (Begin name) V body s t old new = AreLeftBeside s.app name (either V any_table) old new
LeavesBy (OfEvent name) V body s t old new = AreLeftBeside s.app name (either V any_table) old new
LeavesBy (OfInput name) V body s t old new = AreLeftBeside s.app name (either V any_table) old new

-- a request without a route leaves all clean cells so, and another one what its route leaves, but
-- for a new day
abbrev pub LeavesClean : OfficeState → ℕ → List (Named CacheState) → ℕ → Asked → OfficeState
    → List (Named CacheState) → Type 0
LeavesClean s before old moment request t new =
    SessionsLeft s.app (day_turned before moment) old new
    ⊎ ((route : Route) × Routing request.method request.path (Ok route)
    × LeavesBy route (day_turned before moment) request.body s t old new)

-- ---- what acts

-- the cache of one session, where it lives before and after
abbrev pub AreLeftAt : App → List ℕ → Writing → List (Named CacheState) → List (Named CacheState)
    → Type 0
AreLeftAt a one W old new = (c d : CacheState) → find one old ≡ Some c → find one new ≡ Some d
    → (xs : List Source) × ((x : Source) → IsAmong x xs → W x) × StaysCleanExcept a xs c d

-- these sources, and the tables among them
abbrev pub those : List Source → Writing
those ws x = IsAmong x ws

abbrev pub tables_of : List Source → Writing
tables_of ws x = IsAmong x ws × (is_table x ≡ true)

-- a session wrote these sources: its own cache is told of all, and the others of the tables
abbrev pub AreActed : App → List ℕ → Writing → List Source → List (Named CacheState)
    → List (Named CacheState) → Type 0
AreActed a one V ws old new = AreLeftAt a one (either V (those ws)) old new
    × AreLeftBeside a one (either V (tables_of ws)) old new

-- an event that was answered wrote what its performing writes by definition, and one that was
-- refused or comes again wrote nothing
abbrev pub EventLeaves : Type 0 → App → ℕ → List ℕ → Writing → List ℕ → Result Event (List ℕ)
    → Option Tables → List (Named SessionState) → List ℕ → Option Tables → List (Named SessionState)
    → List (Named CacheState) → List (Named CacheState) → Type 0
EventLeaves lost a m name V body (Err words) told sessions said told' sessions' old new
    = AreActed a name V [] old new
EventLeaves lost a m name V body (Ok e) told sessions said told' sessions' old new
    = (ws : List Source) × SendsEventWriting lost a m name body e told sessions said told' sessions'
    ws × AreActed a name V ws old new

-- and so did an input
abbrev pub InputLeaves : Type 0 → App → ℕ → List ℕ → Writing → List ℕ → Result Input (List ℕ)
    → Option Tables → List (Named SessionState) → List ℕ → Option Tables → List (Named SessionState)
    → List (Named CacheState) → List (Named CacheState) → Type 0
InputLeaves lost a m name V body (Err words) told sessions said told' sessions' old new
    = AreActed a name V [] old new
InputLeaves lost a m name V body (Ok i) told sessions said told' sessions' old new
    = (ws : List Source) × SendsInputWriting lost a m name body i told sessions said told' sessions'
    ws × AreActed a name V ws old new

-- A session that was opened wrote what its opening writes by definition, and all others keep what
-- reaches no table of it. Where none was opened all is kept.
abbrev pub BeginLeaves : Type 0 → App → ℕ → List ℕ → Writing → Option (List ℕ) → Option Tables
    → List (Named SessionState) → List ℕ → Option Tables → List (Named SessionState)
    → List (Named CacheState) → List (Named CacheState) → Type 0
BeginLeaves lost a m name V (Some words) told sessions said told' sessions' old new
    = SessionsLeft a V old new
BeginLeaves lost a m name V None told sessions said told' sessions' old new
    = (ws : List Source) × OpensSessionWriting lost a m name told sessions said told' sessions' ws
    × AreLeftBeside a name (either V (tables_of ws)) old new

-- THE cells that a request by which something acts leaves clean in all sessions: those that reach
-- nothing that it wrote.
unfoldable pub ActsClean : Type 0 → ℕ → Route → Writing → List ℕ → OfficeState → List ℕ
    → OfficeState → List (Named CacheState) → List (Named CacheState) → Type 0
ActsClean lost m (OfEvent name) V body s said t old new =
    EventLeaves lost s.app m name V body (checks event_in (λ (e : Event). e.seq)
    (session_of name s.sessions) body) s.tables s.sessions said t.tables t.sessions old new
ActsClean lost m (OfInput name) V body s said t old new =
    InputLeaves lost s.app m name V body (checks input_in (λ (i : Input). i.seq)
    (session_of name s.sessions) body) s.tables s.sessions said t.tables t.sessions old new
ActsClean lost m (Begin name) V body s said t old new =
    BeginLeaves lost s.app m name V (begin_checks name s.sessions) s.tables s.sessions said t.tables
    t.sessions old new
ActsClean lost m _ V body s said t old new = Unit {0}

-- so it is with a request that has a route
abbrev pub LeavesActed : Type 0 → OfficeState → ℕ → List (Named CacheState) → ℕ → Asked → List ℕ
    → OfficeState → List (Named CacheState) → Type 0
LeavesActed lost s before old moment request said t new =
    ((route : Route) × Routing request.method request.path (Ok route)
    × ActsClean lost moment route (day_turned before moment) request.body s said t old new)
    ⊎ ((said ≡ refusal 7) ⊎ (said ≡ refusal 8))

-- ---- what stops

-- A session's request was cut off: all others keep all clean cells so, and of its own it keeps
-- those that reach nothing of what it may have written, where the tables are still told.
abbrev pub AreStopped : App → List ℕ → Writing → Writing → Option Tables → List (Named CacheState)
    → List (Named CacheState) → Type 0
AreStopped a one V W told' old new = (IsSome told' → AreLeftAt a one (either V W) old new)
    × AreLeftBeside a one V old new

-- WHAT AN EVENT WROTE AT MOST THAT WAS CUT OFF: what its formulas may write, and nothing beside
-- what its whole performing writes over the tables and the sessions that were there before
abbrev pub EventCutOff : App → ℕ → List ℕ → Event → Option Tables → List (Named SessionState)
    → Writing
EventCutOff a m name e told sessions x = EventMayWrite a e x
    × IfSome told (λ t. IsInAll (EventWritesWhole a m name e t sessions) x)

-- and what an input did
abbrev pub InputCutOff : App → ℕ → List ℕ → Input → Option Tables → List (Named SessionState)
    → Writing
InputCutOff a m name i told sessions x = InputMayWrite a i x
    × IfSome told (λ t. IsInAll (InputWritesWhole a m name i t sessions) x)

-- where the event passed the checks of numbered requests; else nothing was written
abbrev pub event_cut : App → ℕ → List ℕ → Option Tables → List (Named SessionState)
    → Result Event (List ℕ) → Writing
event_cut a m name told sessions (Err words) = nothing
event_cut a m name told sessions (Ok e) = EventCutOff a m name e told sessions

-- and where the input did
abbrev pub input_cut : App → ℕ → List ℕ → Option Tables → List (Named SessionState)
    → Result Input (List ℕ) → Writing
input_cut a m name told sessions (Err words) = nothing
input_cut a m name told sessions (Ok i) = InputCutOff a m name i told sessions

-- THE cells that a request by which something acts leaves clean where it was cut off: those that
-- reach nothing that its whole performing writes, and in all other sessions all. So does all an
-- opening that was cut off. Of other routes `LeavesBy` says it.
unfoldable pub StopsClean : ℕ → Route → Writing → List ℕ → OfficeState → OfficeState
    → List (Named CacheState) → List (Named CacheState) → Type 0
StopsClean m (OfEvent name) V body s t old new =
    AreStopped s.app name V (event_cut s.app m name s.tables s.sessions
    (checks event_in (λ (e : Event). e.seq) (session_of name s.sessions) body)) t.tables old new
StopsClean m (OfInput name) V body s t old new =
    AreStopped s.app name V (input_cut s.app m name s.tables s.sessions
    (checks input_in (λ (i : Input). i.seq) (session_of name s.sessions) body)) t.tables old new
StopsClean m (Begin name) V body s t old new = SessionsLeft s.app V old new
StopsClean m _ V body s t old new = Unit {0}

-- so it is with a request that was cut off, before its route was taken or after
abbrev pub LeavesStopped : OfficeState → ℕ → List (Named CacheState) → ℕ → Asked → OfficeState
    → List (Named CacheState) → Type 0
LeavesStopped s before old moment request t new =
    SessionsLeft s.app (day_turned before moment) old new
    ⊎ ((route : Route) × Routing request.method request.path (Ok route)
    × StopsClean moment route (day_turned before moment) request.body s t old new)
