-- What one request does.
use Rattle.std.specs.Prelude.{◌≡◌, ◌⊎◌, ℕ, List, Some, Result, Ok, Err}
use Rattle.fx_base.specs.Faults.{Rose}
use Rattle.fx_base.specs.Silence.{MayFallSilent, SilenceCause, Marks}
use Rattle.fx_base.specs.Telling.{Stays}
use Rattle.app_loader.specs.Verdicts.{IsSameApp}
use Rattle.app_reports.specs.Graph.{graph_text}
use Rattle.app_reports.specs.Plans.{plan_text}
use Rattle.session_views.specs.Shows.{ReachesItems, ReachesView, ShowsItems, ShowsView}
use Rattle.row_keeper.specs.Tables.{Tables}
use Rattle.app_wire.specs.Framing.{Asked}
use Rattle.app_wire.specs.ReplyBytes.{refusal, reply}
use Rattle.app_wire.specs.Routing.{Routing}
use Rattle.app_wire.specs.declared.route.Route.{Route}
use Rattle.app_wire.specs.declared.route.Route.TheVariants.{Begin, End, View, Named, Items, Event}
use Rattle.app_wire.specs.declared.route.Route.TheVariants.{Input, Rows, Edit, Replace, Page}
use Rattle.app_wire.specs.declared.route.Route.TheVariants.{Plan, Graph}
use Rattle.app_wire.specs.declared.route.RouteEnd.{RouteEnd}
use Rattle.app_wire.specs.declared.route.RouteEnd.TheVariants.{NoRoute, WrongMethod, Memory}
use Rattle.office.specs.DeskEdits.{Parts, PostsEdit}
use Rattle.view_text.specs.ReplyText.{ok_text}
use Rattle.row_requests.specs.DeskRows.{PostsRows, ReachesRows}
use Rattle.row_requests.specs.Page.{ReachesPage, ShowsPage}
use Rattle.row_requests.specs.Sound.{AreSound}
use Rattle.session_requests.specs.Posting.{PostsEvent, PostsInput, ReachesEvent, ReachesInput}
use Rattle.office.specs.Editing.{AreSameRefusals, ChangesApp, KeepsApp}
use Rattle.office.specs.Ready.{IsSettledOffice}
use Rattle.office.specs.Replacing.{PostsApp, ReachesApp}
use Rattle.office.specs.Sessions.{BeginsSession, ReachesBegin, ReachesNamed, ShowsNamed}
use Rattle.office.specs.Sessions.{sessions_without}
use Rattle.office.specs.State.{OfficeState, schema_of}

-- those that an edit may change
abbrev pub office_parts : OfficeState → Parts
office_parts s = record { app = s.app; sessions = s.sessions; desks = s.desks }

-- THE step by a route, at a moment: what it says, and which parts of the state may change. All
-- others stay. `lost` is why the keeper may have fallen silent.
unfoldable pub RouteStep : Type 0 → ℕ → Route → List ℕ → OfficeState → List ℕ → OfficeState → Type 0
RouteStep lost moment (Begin name) body s said new =
    BeginsSession lost s.app moment name s.tables s.sessions said new.tables new.sessions
    × (new ≡ record s { tables = new.tables; sessions = new.sessions })
RouteStep lost moment (End name) body s said new =
    (said ≡ reply 200 ok_text) × (new ≡ record s { sessions = sessions_without name s.sessions })
RouteStep lost moment (View name) body s said new =
    ShowsView lost moment s.app name s.sessions s.tables said new.tables
    × (new ≡ record s { tables = new.tables })
RouteStep lost moment (Named name) body s said new =
    ShowsNamed lost moment s.app name s.sessions s.tables said new.tables
    × (new ≡ record s { tables = new.tables })
RouteStep lost moment (Items name gallery from) body s said new =
    ShowsItems lost moment s.app name gallery from s.sessions s.tables said new.tables
    × (new ≡ record s { tables = new.tables })
RouteStep lost moment (Event name) body s said new =
    PostsEvent lost s.app moment name body s.tables s.sessions said new.tables new.sessions
    × (new ≡ record s { tables = new.tables; sessions = new.sessions })
RouteStep lost moment (Input name) body s said new =
    PostsInput lost s.app moment name body s.tables s.sessions said new.tables new.sessions
    × (new ≡ record s { tables = new.tables; sessions = new.sessions })
RouteStep lost moment (Rows name) body s said new =
    PostsRows lost (schema_of s.app).tables name body s.tables s.desks said new.tables new.desks
    × (new ≡ record s { tables = new.tables; desks = new.desks })
RouteStep lost moment (Edit name) body s said new =
    PostsEdit name body (office_parts s) said (office_parts new)
    × (new ≡ record s { app = new.app; sessions = new.sessions; desks = new.desks })
    × KeepsApp s.app new.app
RouteStep lost moment (Replace name) body s said new = PostsApp lost name body s said new
RouteStep lost moment (Page table after) body s said new =
    ShowsPage lost (schema_of s.app).tables table after s.tables said new.tables
    × (new ≡ record s { tables = new.tables })
RouteStep lost moment Plan body s said new = (said ≡ reply 200 (plan_text s.app)) × (new ≡ s)
RouteStep lost moment Graph body s said new = (said ≡ reply 200 (graph_text s.app)) × (new ≡ s)

-- the same, where there may be no route (7), or one with another method (8)
unfoldable pub RoutedStep : Type 0 → ℕ → Result Route RouteEnd → List ℕ → OfficeState → List ℕ
    → OfficeState → Type 0
RoutedStep lost moment (Ok route) body s said new = RouteStep lost moment route body s said new
RoutedStep lost moment (Err NoRoute) body s said new = (said ≡ refusal 7) × (new ≡ s)
RoutedStep lost moment (Err WrongMethod) body s said new = (said ≡ refusal 8) × (new ≡ s)
RoutedStep lost moment (Err Memory) body s said new = ⊥

-- A request, whole at this moment, takes the office from old to new, and these bytes are the reply.
-- After a refusal new is old.
pub record Step (lost : Type 0) (old : OfficeState) (moment : ℕ) (request : Asked) (said : List ℕ)
    (new : OfficeState) : Type 0 where
  pub route : Result Route RouteEnd
  pub routed : Routing request.method request.path route
  pub does : RoutedStep lost moment route request.body old said new

-- the checks that call no keeper are passed
unfoldable pub PassesChecks : Route → List ℕ → OfficeState → Type 0
PassesChecks (Begin name) body s = ReachesBegin name s.sessions
PassesChecks (View name) body s = ReachesView name s.sessions
PassesChecks (Named name) body s = ReachesNamed name s.sessions
PassesChecks (Items name gallery from) body s = ReachesItems s.app name gallery s.sessions
PassesChecks (Event name) body s = ReachesEvent name body s.sessions
PassesChecks (Input name) body s = ReachesInput name body s.sessions
PassesChecks (Rows name) body s = ReachesRows name body s.desks
PassesChecks (Replace name) body s = ReachesApp name body s
PassesChecks (Page table after) body s = ReachesPage (schema_of s.app).tables table
PassesChecks _ body s = ⊥

-- the request calls the keeper: its route does, and what comes before is passed
pub record ReachesKeeper (old : OfficeState) (request : Asked) : Type 0 where
  pub route : Route
  pub routed : Routing request.method request.path (Ok route)
  pub reaches : PassesChecks route request.body old

-- all stays as it was, but that the keeper may have fallen silent
pub record Left (lost : Type 0) (old new : OfficeState) : Type 0 where
  pub tables : MayFallSilent lost Stays old.tables new.tables
  pub others : new ≡ record old { tables = new.tables }

-- THE answer: the step; or want of memory (26), or a fault of the keeper (25) that it counted in
-- this very request, either of which leaves the office as it was.
abbrev pub AnswersRequest : OfficeState → Marks → ℕ → Asked → List ℕ → Marks → OfficeState → Type 0
AnswersRequest old before moment request said now new =
    Step (SilenceCause before now) old moment request said new
    ⊎ ((said ≡ refusal 26) × Left (SilenceCause before now) old new)
    ⊎ ((said ≡ refusal 25) × Rose before.faults now.faults × ReachesKeeper old request
    × Left (SilenceCause before now) old new)

-- Two answers to a request are one: the same state and reply. An edit and a replacement make an app
-- that means the same, or are refused for the same breaks.
pub data AreOne (request : Asked) (old new new' : OfficeState) (said said' : List ℕ) : Type 0 where
  alike : new ≡ new' → said ≡ said' → AreOne request old new new' said said'
  edited : ChangesApp request → IsSameApp new.app new'.app → new' ≡ record new { app = new'.app }
      → said ≡ said' → AreOne request old new new' said said'
  refused : ChangesApp request → AreSameRefusals said said' → new ≡ old → new' ≡ old
      → AreOne request old new new' said said'

-- a request has one answer where the tables are told, and fit the schema
abbrev pub IsOneAnswer : Type 0
IsOneAnswer =
    (k l m n : Marks) (old new new' : OfficeState) (moment : ℕ) (request : Asked)
    (said said' : List ℕ) (t u u' : Tables)
    → IsSettledOffice old → AreSound (schema_of old.app) old.tables → old.tables ≡ Some t
    → new.tables ≡ Some u → new'.tables ≡ Some u'
    → Step (SilenceCause k l) old moment request said new
    → Step (SilenceCause m n) old moment request said' new' → AreOne request old new new' said said'
