-- What callers have to do with one another, and with requests that come again.
use Rattle.std.specs.Prelude.{◌≡◌, ◌≢◌, ◌⊎◌, ℕ, List, [], ◌∷◌, Option, Some, None, option_map, Ok}
use Rattle.app_loader.specs.app_semantics.Fresh.{AreKnown}
use Rattle.fx_base.specs.Silence.{SilenceCause, Marks}
use Rattle.row_keeper.specs.Tables.{Tables, rows_told}
use Rattle.row_requests.specs.Sound.{AreSound}
use Rattle.app_wire.specs.Framing.{Asked}
use Rattle.app_wire.specs.ReplyBytes.{refusal}
use Rattle.app_wire.specs.Routing.{Routing}
use Rattle.app_wire.specs.declared.head.Method.TheVariants.{Get, Post, Put}
use Rattle.app_wire.specs.declared.route.Route.{Route}
use Rattle.app_wire.specs.declared.route.Route.TheVariants.{Begin, End, View, Named, Items, Event}
use Rattle.app_wire.specs.declared.route.Route.TheVariants.{Input, Rows, Edit, Replace}
use Rattle.numbered_requests.specs.Directory.{find}
use Rattle.session_state.specs.CarriedOver.{carried_over}
use Rattle.session_state.specs.Carrying.{carried}
use Rattle.session_state.specs.Once.{LastRequest}
use Rattle.session_state.specs.Sessions.{SessionState}
use Rattle.office.specs.Answers.{Exchange, Plays}
use Rattle.office.specs.Editing.{IsEdit, IsReplacement}
use Rattle.office.specs.Ready.{IsSettledOffice}
use Rattle.office.specs.State.{OfficeState, schema_of}
use Rattle.office.specs.Step.{AnswersRequest, Left, Step}

-- who sends requests: a session or a desk, of a name
pub data Caller : Type 0 where
  session : List ℕ → Caller
  desk : List ℕ → Caller

-- whose request this is, by its route
abbrev pub caller_of : Route → Option Caller
caller_of (Begin name) = Some (session name)
caller_of (End name) = Some (session name)
caller_of (View name) = Some (session name)
caller_of (Named name) = Some (session name)
caller_of (Items name gallery from) = Some (session name)
caller_of (Event name) = Some (session name)
caller_of (Input name) = Some (session name)
caller_of (Rows name) = Some (desk name)
caller_of (Edit name) = Some (desk name)
caller_of (Replace name) = Some (desk name)
caller_of _ = None

-- a request of this caller
pub record IsOf (caller : Caller) (request : Asked) : Type 0 where
  pub route : Route
  pub routed : Routing request.method request.path (Ok route)
  pub caller_is : caller_of route ≡ Some caller

-- after an edit: a session goes over to the edited app
abbrev pub SessionIsCarried : OfficeState → OfficeState → List ℕ → Type 0
SessionIsCarried old new name = find name new.sessions
    ≡ option_map (carried old.app.names new.app.names) (find name old.sessions)

-- after a replacement: it goes over to the app that replaces the old one
abbrev pub SessionIsCarriedOver : OfficeState → OfficeState → List ℕ → Type 0
SessionIsCarriedOver old new name = find name new.sessions
    ≡ option_map (carried_over old.app.names new.app.names) (find name old.sessions)

-- Any request but those of a session leaves its record as it was, but that it goes over to an app
-- that a desk edits or puts in the place of the old one.
abbrev pub LeavesSession : Type 0
LeavesSession =
    (old new : OfficeState) (before now : Marks) (moment : ℕ) (request : Asked) (said name : List ℕ)
    → AnswersRequest old before moment request said now new → (IsOf (session name) request → ⊥)
    → (find name new.sessions ≡ find name old.sessions)
    ⊎ (IsEdit request × SessionIsCarried old new name)
    ⊎ (IsReplacement request × SessionIsCarriedOver old new name)

-- the same of a desk
abbrev pub LeavesDesk : Type 0
LeavesDesk =
    (old new : OfficeState) (before now : Marks) (moment : ℕ) (request : Asked) (said name : List ℕ)
    → AnswersRequest old before moment request said now new → (IsOf (desk name) request → ⊥)
    → find name new.desks ≡ find name old.desks

-- Offices with the same app, with the same tables and with the same record of a session or with
-- none, whose keepers tell their tables, answer its requests alike at one moment, PUT aside, which
-- counts sessions.
abbrev pub IsAlone : Type 0
IsAlone =
    (k l m n : Marks) (a b new new' : OfficeState) (moment : ℕ) (request : Asked)
    (said said' name : List ℕ) (t u u' : Tables)
    → IsOf (session name) request → request.method ≢ Put
    → IsSettledOffice a → AreSound (schema_of a.app) a.tables → a.app ≡ b.app
    → find name a.sessions ≡ find name b.sessions
    → a.tables ≡ Some t → b.tables ≡ Some t → new.tables ≡ Some u → new'.tables ≡ Some u'
    → Step (SilenceCause k l) a moment request said new
    → Step (SilenceCause m n) b moment request said' new' → said ≡ said'

-- So do offices of whose rows the same is told, which is all that the app's formulas read, where a
-- session asks to be shown something.
abbrev pub ReadsAlone : Type 0
ReadsAlone =
    (k l m n : Marks) (a b new new' : OfficeState) (moment : ℕ) (request : Asked)
    (said said' name : List ℕ)
    → IsOf (session name) request → request.method ≡ Get
    → IsSettledOffice a → a.app ≡ b.app → find name a.sessions ≡ find name b.sessions
    → AreKnown a.app (rows_told new.tables) → rows_told new.tables ≡ rows_told new'.tables
    → Step (SilenceCause k l) a moment request said new
    → Step (SilenceCause m n) b moment request said' new' → said ≡ said'

-- none of these exchanges is one of this caller
abbrev pub AreOfOthers : Caller → List Exchange → Type 0
AreOfOthers caller [] = Unit {0}
AreOfOthers caller (x ∷ xs) = (IsOf caller x.asked → ⊥) × AreOfOthers caller xs

-- what is kept of the requests of a caller
abbrev pub kept_of_session : Option SessionState → Option LastRequest
kept_of_session s = option_map (λ (x : SessionState). x.kept) s

abbrev pub last_request_of : Caller → OfficeState → Option LastRequest
last_request_of (session name) s = kept_of_session (find name s.sessions)
last_request_of (desk name) s = find name s.desks

-- a request that is posted
abbrev pub IsPosted : Asked → Type 0
IsPosted request = request.method ≡ Post

-- A posted request of a caller that was accepted, so that other things are kept of it, comes again
-- while these are kept still, whatever came between: it gets the same reply, or want of memory, and
-- acts no more.
abbrev pub ActsOnceKept : Type 0
ActsOnceKept =
    (s t u v : OfficeState) (k l m n : Marks) (moment moment' : ℕ) (request : Asked)
    (said said' : List ℕ) (caller : Caller)
    → IsOf caller request → IsPosted request
    → AnswersRequest s k moment request said l t
    → last_request_of caller t ≢ last_request_of caller s
    → last_request_of caller u ≡ last_request_of caller t
    → AnswersRequest u m moment' request said' n v
    → ((said' ≡ said) ⊎ (said' ≡ refusal 26)) × Left (SilenceCause m n) u v

-- So it is after any requests of others, which leave what is kept of it.
abbrev pub ActsOnce : Type 0
ActsOnce =
    (s t u v : OfficeState) (k l m n : Marks) (moment moment' : ℕ) (request : Asked)
    (said said' : List ℕ) (caller : Caller) (between : List Exchange)
    → IsOf caller request → IsPosted request
    → AnswersRequest s k moment request said l t
    → last_request_of caller t ≢ last_request_of caller s
    → Plays t l between u m → AreOfOthers caller between
    → AnswersRequest u m moment' request said' n v
    → ((said' ≡ said) ⊎ (said' ≡ refusal 26)) × Left (SilenceCause m n) u v
