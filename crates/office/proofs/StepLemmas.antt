-- The steps of the office.
use Rattle.std.proofs.Common.{◌≡◌, ℕ, Bool, List, Option, None, Some, Result, Ok, Err, refl, ap, sym, ◌∙◌, subst}
use Rattle.std.specs.Prelude.{OnErr}
use Rattle.fx_base.specs.Silence.{MayFallSilent, SilenceCause, Marks}
use Rattle.fx_base.specs.Telling.{Stays}
use Rattle.row_keeper.specs.Shaped.{Shaped}
use Rattle.row_keeper.specs.Tables.{Tables}
use Rattle.row_keeper.specs.declared.keeper.KeeperEnd.{KeeperEnd}
use Rattle.app_wire.specs.Framing.{Asked}
use Rattle.app_wire.specs.ReplyBytes.{refusal}
use Rattle.app_wire.specs.Routing.{Routing}
use Rattle.app_wire.specs.declared.route.Route.{Route}
use Rattle.session_views.specs.Shows.{ReachesItems, ReachesView}
use Rattle.app_wire.specs.declared.route.Route.TheVariants.{Event, Input, Items, Named, Page, Replace, View}
use Rattle.app_wire.specs.declared.route.RouteEnd.TheVariants.{NoRoute, WrongMethod}
use Rattle.app_cells.specs.declared.app.App.{App}
use Rattle.fx_core.specs.declared.schema.Schema.{Schema}
use Rattle.session_requests.specs.recalc.Asking.{HasRead, Keeping}
use Rattle.recalc.proofs.Asked.{read_none}
use Rattle.numbered_requests.specs.declared.directory.Named.{Named as Caller}
use Rattle.numbered_requests.specs.declared.reply.Reply.{Reply}
use Rattle.row_requests.specs.Page.{ReachesPage}
use Rattle.row_requests.proofs.Soundness.{sound_stays}
use Rattle.recalc.specs.Kept.{CacheState as Values}
use Rattle.session_state.specs.Once.{LastRequest}
use Rattle.session_state.specs.Sessions.{SessionState}
use Rattle.session_requests.specs.Posting.{PostsEvent, PostsInput, ReachesEvent, ReachesInput}
use Rattle.office.specs.Caches.{AreKept}
use Rattle.office.specs.Ready.{OfficeInvariant}
use Rattle.office.specs.Replacing.{PostsApp, ReachesApp}
use Rattle.office.specs.Sessions.{ReachesNamed}
use Rattle.office.specs.State.{OfficeView, OfficeState, schema_of}
use Rattle.office.specs.Step.{RouteStep, RoutedStep, Left, PassesChecks, Step}

-- a route was taken
pub routed : (lost : Type 0) (old new : OfficeState) (moment : ℕ) (request : Asked) (route : Route) (said : List ℕ)
    → Routing request.method request.path (Ok route) → RouteStep lost moment route request.body old said new → Step lost old moment request said new
unfolding RoutedStep
routed lost old new moment request route said is does = record { route = Ok route; routed = is; does = does }

-- it was taken by an office that went over to the moment
pub routed_then : (k l n : Marks) (s t new : OfficeState) (m moment : ℕ) (request : Asked) (route : Route) (said : List ℕ)
    → Routing request.method request.path (Ok route) → t ≡ s → l ≡ k → m ≡ moment → RouteStep (SilenceCause l n) m route request.body t said new → Step (SilenceCause k n) s moment request said new
routed_then k l n s t new m moment request route said is state marks at does =
    routed (SilenceCause k n) s new moment request route said is
    (subst (λ (x : ℕ). RouteStep (SilenceCause k n) x route request.body s said new) at
    (subst (λ (x : Marks). RouteStep (SilenceCause x n) m route request.body s said new) marks
    (subst (λ (x : OfficeState). RouteStep (SilenceCause l n) m route request.body x said new) state does)))

-- there is none
pub unrouted : (lost : Type 0) (old new : OfficeState) (moment : ℕ) (request : Asked) (said : List ℕ)
    → Routing request.method request.path (Err NoRoute) → said ≡ refusal 7 → new ≡ old → Step lost old moment request said new
unfolding RoutedStep
unrouted lost old new moment request said is replied same = record { route = Err NoRoute; routed = is; does = (replied, same) }

pub wrong_method : (lost : Type 0) (old new : OfficeState) (moment : ℕ) (request : Asked) (said : List ℕ)
    → Routing request.method request.path (Err WrongMethod) → said ≡ refusal 8 → new ≡ old → Step lost old moment request said new
unfolding RoutedStep
wrong_method lost old new moment request said is replied same = record { route = Err WrongMethod; routed = is; does = (replied, same) }

-- a keeper that is left stays as it is
pub still : (lost : Type 0) (x y : Option Tables) → y ≡ x → MayFallSilent lost Stays x y
still lost None y e = e
still lost (Some t) None e = cc
still lost (Some t) (Some u) e = cc

-- where all is as before, it is left
pub left_all : (lost : Type 0) (s new : OfficeState) → new ≡ s → Left lost s new
left_all lost s new e = record {
  tables = still lost s.tables new.tables (ap (λ (x : OfficeState). x.tables) e);
  others = e ∙ sym (ap (λ (t : Option Tables). record s { tables = t }) (ap (λ (x : OfficeState). x.tables) e));
}

-- rows of a table are asked of the keeper
pub reaches_page : (s : OfficeState) (app : App) (body : List ℕ) (route : Route) (table : List ℕ) (after : ℕ) (schema : Schema)
    → route ≡ Page table after → schema ≡ schema_of app → s.app ≡ app → ReachesPage schema.tables table → PassesChecks route body s
unfolding PassesChecks
reaches_page s app body route table after schema is same of reaches =
    subst (λ r. PassesChecks r body s) (sym is) (subst (λ (a : App). ReachesPage (schema_of a).tables table) (sym of) (subst (λ (x : Schema). ReachesPage x.tables table) same reaches))

-- so are those that formulas read
pub reaches_view : (s : OfficeState) (xs : List (Caller SessionState)) (body : List ℕ) (route : Route) (name : List ℕ) → route ≡ View name → s.sessions ≡ xs → ReachesView name xs → PassesChecks route body s
unfolding PassesChecks
reaches_view s xs body route name is of reaches = subst (λ r. PassesChecks r body s) (sym is) (subst (λ (l : List (Caller SessionState)). ReachesView name l) (sym of) reaches)

pub reaches_named : (s : OfficeState) (xs : List (Caller SessionState)) (body : List ℕ) (route : Route) (name : List ℕ) → route ≡ Named name → s.sessions ≡ xs → ReachesNamed name xs → PassesChecks route body s
unfolding PassesChecks
reaches_named s xs body route name is of reaches = subst (λ r. PassesChecks r body s) (sym is) (subst (λ (l : List (Caller SessionState)). ReachesNamed name l) (sym of) reaches)

pub reaches_items : (s : OfficeState) (app : App) (xs : List (Caller SessionState)) (body : List ℕ) (route : Route) (name gallery : List ℕ) (from : ℕ)
    → route ≡ Items name gallery from → s.app ≡ app → s.sessions ≡ xs → ReachesItems app name gallery xs → PassesChecks route body s
unfolding PassesChecks
reaches_items s app xs body route name gallery from is served of reaches =
    subst (λ r. PassesChecks r body s) (sym is) (subst (λ (a : App). ReachesItems a name gallery s.sessions) (sym served) (subst (λ (l : List (Caller SessionState)). ReachesItems app name gallery l) (sym of) reaches))

pub reaches_event : (s : OfficeState) (xs : List (Caller SessionState)) (body given : List ℕ) (route : Route) (name : List ℕ) → route ≡ Event name → s.sessions ≡ xs → given ≡ body → ReachesEvent name given xs → PassesChecks route body s
unfolding PassesChecks
reaches_event s xs body given route name is of same reaches =
    subst (λ r. PassesChecks r body s) (sym is) (subst (λ b. ReachesEvent name b s.sessions) same (subst (λ (l : List (Caller SessionState)). ReachesEvent name given l) (sym of) reaches))

pub reaches_input : (s : OfficeState) (xs : List (Caller SessionState)) (body given : List ℕ) (route : Route) (name : List ℕ) → route ≡ Input name → s.sessions ≡ xs → given ≡ body → ReachesInput name given xs → PassesChecks route body s
unfolding PassesChecks
reaches_input s xs body given route name is of same reaches =
    subst (λ r. PassesChecks r body s) (sym is) (subst (λ b. ReachesInput name b s.sessions) same (subst (λ (l : List (Caller SessionState)). ReachesInput name given l) (sym of) reaches))

pub reaches_replacement : (s made : OfficeState) (body given : List ℕ) (route : Route) (name : List ℕ) → route ≡ Replace name → made ≡ s → given ≡ body → ReachesApp name given made → PassesChecks route body s
unfolding PassesChecks
reaches_replacement s made body given route name is same equal reaches =
    subst (λ r. PassesChecks r body s) (sym is) (subst (λ b. ReachesApp name b s) equal (subst (λ (x : OfficeState). ReachesApp name given x) same reaches))

-- of the route that was taken
pub does_event : (route : Route) (name body given : List ℕ) (old made : OfficeView) (now : Marks) (tables : Option Tables) (sessions : List (Caller SessionState)) (said : List ℕ) → route ≡ Event name → made ≡ old → given ≡ body
    → PostsEvent (SilenceCause made.marks now) made.state.app made.moment name given made.state.tables made.state.sessions said tables sessions
    → RouteStep (SilenceCause old.marks now) old.moment route body old.state said (record made.state { tables = tables; sessions = sessions })
unfolding RouteStep
does_event route name body given old made now tables sessions said is same equal posts =
    let new : OfficeState = record made.state { tables = tables; sessions = sessions } in
    subst (λ (r : Route). RouteStep (SilenceCause old.marks now) old.moment r body old.state said new) (sym is)
    (subst (λ (s : OfficeView). RouteStep (SilenceCause s.marks now) s.moment (Event name) body s.state said new) same
    (subst (λ (b : List ℕ). RouteStep (SilenceCause made.marks now) made.moment (Event name) b made.state said new) equal (posts, refl)))

pub does_input : (route : Route) (name body given : List ℕ) (old made : OfficeView) (now : Marks) (tables : Option Tables) (sessions : List (Caller SessionState)) (said : List ℕ) → route ≡ Input name → made ≡ old → given ≡ body
    → PostsInput (SilenceCause made.marks now) made.state.app made.moment name given made.state.tables made.state.sessions said tables sessions
    → RouteStep (SilenceCause old.marks now) old.moment route body old.state said (record made.state { tables = tables; sessions = sessions })
unfolding RouteStep
does_input route name body given old made now tables sessions said is same equal posts =
    let new : OfficeState = record made.state { tables = tables; sessions = sessions } in
    subst (λ (r : Route). RouteStep (SilenceCause old.marks now) old.moment r body old.state said new) (sym is)
    (subst (λ (s : OfficeView). RouteStep (SilenceCause s.marks now) s.moment (Input name) body s.state said new) same
    (subst (λ (b : List ℕ). RouteStep (SilenceCause made.marks now) made.moment (Input name) b made.state said new) equal (posts, refl)))

pub does_replacement : (route : Route) (name body given : List ℕ) (old made : OfficeView) (now : Marks) (new : OfficeState) (said : List ℕ) → route ≡ Replace name → made ≡ old → given ≡ body
    → PostsApp (SilenceCause made.marks now) name given made.state said new → RouteStep (SilenceCause old.marks now) old.moment route body old.state said new
unfolding RouteStep
does_replacement route name body given old made now new said is same equal posts =
    subst (λ (r : Route). RouteStep (SilenceCause old.marks now) old.moment r body old.state said new) (sym is)
    (subst (λ (s : OfficeView). RouteStep (SilenceCause s.marks now) s.moment (Replace name) body s.state said new) same
    (subst (λ (b : List ℕ). RouteStep (SilenceCause made.marks now) made.moment (Replace name) b made.state said new) equal posts))

-- the office as it is seen is left
pub left_seen : (old made : OfficeView) (now : Marks) (new : OfficeState) → made ≡ old → Left (SilenceCause made.marks now) made.state new → Left (SilenceCause old.marks now) old.state new
left_seen old made now new same h = subst (λ (s : OfficeView). Left (SilenceCause s.marks now) s.state new) same h

-- where no rows are read, a keeper stays as it is
pub read_nothing : (a : Keeping) → HasRead a a
read_nothing a = read_none a

-- what is ready stays so where rows are read, and caches are right over them
pub still_ready : (app : App) (a b : Keeping) (sessions : List (Caller SessionState)) (desks : List (Caller LastRequest)) (caches later : List (Caller Values)) (moment : ℕ) → HasRead a b → AreKept app b.told moment sessions later
    → OfficeInvariant app a.in_transaction a.shaped a.told sessions desks caches moment → OfficeInvariant app b.in_transaction b.shaped b.told sessions desks later moment
still_ready app a b sessions desks caches later moment read kept ready = record {
  idle = read.mode ∙ ready.idle;
  shaped = read.shaped ∙ ready.shaped;
  sound = sound_stays (schema_of app) (SilenceCause a.marks b.marks) a.told b.told ready.sound read.told;
  kept = ready.kept;
  accepted = ready.accepted;
  loaded = ready.loaded;
  opens = ready.opens;
  fit = ready.fit;
  replies = ready.replies;
  cached = kept;
}

-- and with other caches at another moment
pub ready_then : (app : App) (in_transaction : Bool) (shape : Shaped) (told : Option Tables) (sessions : List (Caller SessionState)) (desks : List (Caller LastRequest)) (caches later : List (Caller Values)) (m n : ℕ)
    → OfficeInvariant app in_transaction shape told sessions desks caches m → AreKept app told n sessions later → OfficeInvariant app in_transaction shape told sessions desks later n
ready_then app in_transaction shape told sessions desks caches later m n ready kept = record {
  idle = ready.idle;
  shaped = ready.shaped;
  sound = ready.sound;
  kept = ready.kept;
  accepted = ready.accepted;
  loaded = ready.loaded;
  opens = ready.opens;
  fit = ready.fit;
  replies = ready.replies;
  cached = kept;
}

-- a keeper whose rows were read is left, with all beside it but caches
pub left_read : (a b : Keeping) (app : App) (sessions : List (Caller SessionState)) (desks : List (Caller LastRequest)) (caches : List (Caller Values)) (moment : ℕ) (old : OfficeView)
    → record { state = record { app = app; tables = a.told; sessions = sessions; desks = desks }; marks = a.marks; visited = a.visited; loan = a.loan; caches = caches; moment = moment } ≡ old → HasRead a b
    → Left (SilenceCause old.marks b.marks) old.state (record { app = app; tables = b.told; sessions = sessions; desks = desks })
left_read a b app sessions desks caches moment old is read =
    subst (λ (o : OfficeView). Left (SilenceCause o.marks b.marks) o.state (record { app = app; tables = b.told; sessions = sessions; desks = desks })) is (record { tables = read.told; others = refl })

-- what holds however a call ends holds where it stops
pub stopped : (r : Result Reply KeeperEnd) (P : Type 0) → P → OnErr r P
stopped (Ok x) P p = tt
stopped (Err e) P p = p
