-- What callers have to do with one another.
use Rattle.std.proofs.Common.{◌≡◌, ◌≢◌, ◌⊎◌, ℕ, inl, inr, List, [], ◌∷◌, Option, None, Some, Result, Ok, Err, refl, ap, sym, ◌∙◌, subst}
use Rattle.std.specs.Prelude.{option_map}
use Rattle.fx_base.specs.Silence.{SilenceCause, Marks}
use Rattle.app_cells.specs.declared.app.App.{App}
use Rattle.app_loader.specs.app_semantics.Fresh.{AreKnown}
use Rattle.app_loader.specs.app_semantics.Holding.{FittingHolds, HoldsFitting}
use Rattle.app_loader.specs.app_semantics.Laws.{OneFreshAt}
use Rattle.app_loader.specs.app_semantics.Present.{present}
use Rattle.app_loader.specs.app_semantics.Sound.{IsSoundApp}
use Rattle.session_views.specs.Laws.{OneItemsReply, OneViewReply}
use Rattle.session_views.specs.Shows.{ShowsItemsTo, ShowsViewTo}
use Rattle.app_wire.specs.Framing.{Asked}
use Rattle.app_wire.specs.ReplyBytes.{reply}
use Rattle.app_wire.specs.Routing.{IsOneRoute, Routing, method_of}
use Rattle.app_wire.specs.declared.head.Method.TheVariants.{Get}
use Rattle.app_wire.specs.declared.route.Route.{Route}
use Rattle.app_wire.specs.declared.route.Route.TheVariants.{Begin, End, View, Named as Shown, Items, Event, Input, Rows, Edit, Replace, Page, Plan, Graph}
use Rattle.app_wire.specs.declared.route.RouteEnd.{RouteEnd}
use Rattle.app_wire.specs.declared.route.RouteEnd.TheVariants.{NoRoute, WrongMethod, Memory}
use Rattle.row_keeper.specs.Tables.{Tables, rows_told}
use Rattle.row_queries.specs.declared.rows.Row.{Row}
use Rattle.session_state.specs.CarriedOver.{carried_over}
use Rattle.session_state.specs.Carrying.{carried}
use Rattle.session_state.specs.Changes.{FitsNames}
use Rattle.session_state.specs.Sessions.{SessionState}
use Rattle.row_requests.specs.DeskRows.{desk_checks}
use Rattle.numbered_requests.specs.Directory.{find}
use Rattle.numbered_requests.specs.declared.directory.Named.{Named}
use Rattle.office.specs.Answers.{Exchange, Plays}
use Rattle.office.specs.DeskEdits.{PostsEdit, all_carried}
use Rattle.office.specs.Replacing.{PostsApp}
use Rattle.office.specs.Editing.{IsEdit, IsReplacement}
use Rattle.office.specs.Isolation.{AreOfOthers, Caller, SessionIsCarried, SessionIsCarriedOver, IsOf, caller_of, desk, kept_of_session, session}
use Rattle.session_requests.specs.Laws.{LeavesOthers}
use Rattle.office.specs.NamedReply.{IsNamedBody}
use Rattle.office.specs.Ready.{IsSettledOffice}
use Rattle.office.specs.Sessions.{BeginsChecked, BeginsSession, ShowsNamedTo, begin_checks}
use Rattle.office.specs.State.{OfficeState, schema_of}
use Rattle.office.specs.Step.{AnswersRequest, RouteStep, RoutedStep, Step, office_parts}
use Rattle.office.proofs.Repeats.{carries_sessions, leaves_others as edits_leave}
use Rattle.office.proofs.Replacements.{desk_left, session_over}
use Rattle.row_requests.proofs.Again.{posts_others}
use Rattle.numbered_requests.proofs.Directories.{find_other}
use Rattle.office.proofs.Directories.{find_carried, find_without, found_fits}
use Rattle.office.proofs.Replies.{one_body}

-- ---- the records of others

begins_others : (lost : Type 0) (app : App) (moment : ℕ) (name other said : List ℕ) (told told' : Option Tables) (xs ys : List (Named SessionState)) → name ≢ other
    → BeginsSession lost app moment name told xs said told' ys → find other ys ≡ find other xs
begins_others lost app moment name other said told told' xs ys differ h = by (begin_checks name xs) h
  where
    by : (o : Option (List ℕ)) → BeginsChecked lost app moment name o told xs said told' ys → find other ys ≡ find other xs
    by (Some words) k = ap (find other) k.2
    by None k = ap (find other) k.keeps ∙ find_other SessionState name other k.session xs differ

sessions_of : (s new : OfficeState) → new ≡ s → new.sessions ≡ s.sessions
sessions_of s new e = ap (λ (x : OfficeState). x.sessions) e

desks_of : (s new : OfficeState) → new ≡ s → new.desks ≡ s.desks
desks_of s new e = ap (λ (x : OfficeState). x.desks) e

-- the route is that of edits
abbrev IsEditOf : Route → Type 0
IsEditOf route = (n : List ℕ) × (route ≡ Edit n)

-- or that of replacements
abbrev IsReplacementOf : Route → Type 0
IsReplacementOf route = (n : List ℕ) × (route ≡ Replace n)

-- a session is left, or goes over to the app that an edit makes, or that replaces the old one
abbrev IsLeft : Route → OfficeState → OfficeState → List ℕ → Type 0
IsLeft route s new name =
    (find name new.sessions ≡ find name s.sessions) ⊎ (IsEditOf route × SessionIsCarried s new name) ⊎ (IsReplacementOf route × SessionIsCarriedOver s new name)

edit_leaves : (n body : List ℕ) (s new : OfficeState) (said name : List ℕ) → PostsEdit n body (office_parts s) said (office_parts new) → IsLeft (Edit n) s new name
edit_leaves n body s new said name h = by (carries_sessions n body said (office_parts s) (office_parts new) h)
  where
    by : ((new.app ≡ s.app) × (new.sessions ≡ s.sessions)) ⊎ (new.sessions ≡ all_carried s.app.names new.app.names s.sessions) → IsLeft (Edit n) s new name
    by (inl e) = inl (ap (find name) e.1)
    by (inr e) = inr (inl ((n, refl), ap (find name) e ∙ find_carried s.app.names new.app.names name s.sessions))

replacement_leaves : (lost : Type 0) (n body : List ℕ) (s new : OfficeState) (said name : List ℕ) → PostsApp lost n body s said new → IsLeft (Replace n) s new name
replacement_leaves lost n body s new said name h = by (session_over lost n body s said new name h)
  where
    by : (find name new.sessions ≡ find name s.sessions) ⊎ SessionIsCarriedOver s new name → IsLeft (Replace n) s new name
    by (inl e) = inl e
    by (inr over) = inr (inr ((n, refl), over))

-- a route leaves the sessions but the one that it is of
pub does_session : LeavesOthers → (before now : Marks) (moment : ℕ) (route : Route) (body : List ℕ) (s new : OfficeState) (said name : List ℕ)
    → RouteStep (SilenceCause before now) moment route body s said new → caller_of route ≢ Some (session name) → IsLeft route s new name
unfolding RouteStep
does_session others before now moment (Begin n) body s new said name does other =
    inl (begins_others (SilenceCause before now) s.app moment n name said s.tables new.tables s.sessions new.sessions (λ e. other (ap (λ (m : List ℕ). Some (session m)) e)) does.0)
does_session others before now moment (End n) body s new said name does other = inl (ap (λ (x : OfficeState). find name x.sessions) does.1 ∙ find_without SessionState n name s.sessions (λ e. other (ap (λ (m : List ℕ). Some (session m)) e)))
does_session others before now moment (View n) body s new said name does other = inl (ap (λ (x : OfficeState). find name x.sessions) does.1)
does_session others before now moment (Shown n) body s new said name does other = inl (ap (λ (x : OfficeState). find name x.sessions) does.1)
does_session others before now moment (Items n gallery from) body s new said name does other = inl (ap (λ (x : OfficeState). find name x.sessions) does.1)
does_session others before now moment (Event n) body s new said name does other = inl ((others before now s.app moment n name body said s.tables new.tables s.sessions new.sessions (λ e. other (ap (λ (m : List ℕ). Some (session m)) e))).1 does.0)
does_session others before now moment (Input n) body s new said name does other = inl ((others before now s.app moment n name body said s.tables new.tables s.sessions new.sessions (λ e. other (ap (λ (m : List ℕ). Some (session m)) e))).0 does.0)
does_session others before now moment (Rows n) body s new said name does other = inl (ap (λ (x : OfficeState). find name x.sessions) does.1)
does_session others before now moment (Edit n) body s new said name does other = edit_leaves n body s new said name does.0
does_session others before now moment (Replace n) body s new said name does other = replacement_leaves (SilenceCause before now) n body s new said name does
does_session others before now moment (Page table after) body s new said name does other = inl (ap (λ (x : OfficeState). find name x.sessions) does.1)
does_session others before now moment Plan body s new said name does other = inl (ap (find name) (sessions_of s new does.1))
does_session others before now moment Graph body s new said name does other = inl (ap (find name) (sessions_of s new does.1))

-- and the desks but the one that it is of
pub does_desk : (lost : Type 0) (moment : ℕ) (route : Route) (body : List ℕ) (s new : OfficeState) (said name : List ℕ)
    → RouteStep lost moment route body s said new → caller_of route ≢ Some (desk name) → find name new.desks ≡ find name s.desks
unfolding RouteStep
does_desk lost moment (Begin n) body s new said name does other = ap (λ (x : OfficeState). find name x.desks) does.1
does_desk lost moment (End n) body s new said name does other = ap (λ (x : OfficeState). find name x.desks) does.1
does_desk lost moment (View n) body s new said name does other = ap (λ (x : OfficeState). find name x.desks) does.1
does_desk lost moment (Shown n) body s new said name does other = ap (λ (x : OfficeState). find name x.desks) does.1
does_desk lost moment (Items n gallery from) body s new said name does other = ap (λ (x : OfficeState). find name x.desks) does.1
does_desk lost moment (Event n) body s new said name does other = ap (λ (x : OfficeState). find name x.desks) does.1
does_desk lost moment (Input n) body s new said name does other = ap (λ (x : OfficeState). find name x.desks) does.1
does_desk lost moment (Rows n) body s new said name does other =
    posts_others lost (schema_of s.app).tables n name body (desk_checks s.desks n body) s.tables new.tables s.desks new.desks said
    (λ e. other (ap (λ (m : List ℕ). Some (desk m)) e)) does.0
does_desk lost moment (Edit n) body s new said name does other =
    edits_leave n name body said (office_parts s) (office_parts new) (λ e. other (ap (λ (m : List ℕ). Some (desk m)) e)) does.0
does_desk lost moment (Replace n) body s new said name does other =
    desk_left lost n body s said new name (λ e. other (ap (λ (m : List ℕ). Some (desk m)) e)) does
does_desk lost moment (Page table after) body s new said name does other = ap (λ (x : OfficeState). find name x.desks) does.1
does_desk lost moment Plan body s new said name does other = ap (find name) (desks_of s new does.1)
does_desk lost moment Graph body s new said name does other = ap (find name) (desks_of s new does.1)

-- the same of a request, whose route may be that of edits or of replacements
abbrev LeavesIt : OfficeState → OfficeState → Asked → List ℕ → Type 0
LeavesIt old new request name =
    (find name new.sessions ≡ find name old.sessions) ⊎ (IsEdit request × SessionIsCarried old new name) ⊎ (IsReplacement request × SessionIsCarriedOver old new name)

by_route : (route : Route) (request : Asked) (old new : OfficeState) (name : List ℕ) → Routing request.method request.path (Ok route) → IsLeft route old new name → LeavesIt old new request name
by_route route request old new name routed (inl e) = inl e
by_route route request old new name routed (inr (inl h)) = inr (inl ((h.0.0, subst (λ (r : Route). Routing request.method request.path (Ok r)) h.0.1 routed), h.1))
by_route route request old new name routed (inr (inr h)) = inr (inr ((h.0.0, subst (λ (r : Route). Routing request.method request.path (Ok r)) h.0.1 routed), h.1))

pub leaves_session : LeavesOthers → (old new : OfficeState) (before now : Marks) (moment : ℕ) (request : Asked) (said name : List ℕ)
    → AnswersRequest old before moment request said now new → (IsOf (session name) request → ⊥) → LeavesIt old new request name
unfolding RoutedStep
leaves_session law old new before now moment request said name (inl step) other = by step.route step.routed step.does
  where
    by : (r : Result Route RouteEnd) → Routing request.method request.path r → RoutedStep (SilenceCause before now) moment r request.body old said new → LeavesIt old new request name
    by (Ok route) routed does =
        by_route route request old new name routed
        (does_session law before now moment route request.body old new said name does (λ e. other (record { route = route; routed = routed; caller_is = e })))
    by (Err NoRoute) routed does = inl (ap (find name) (sessions_of old new does.1))
    by (Err WrongMethod) routed does = inl (ap (find name) (sessions_of old new does.1))
    by (Err Memory) routed does = absurd does
leaves_session law old new before now moment request said name (inr (inl h)) other = inl (ap (λ (x : OfficeState). find name x.sessions) h.1.others)
leaves_session law old new before now moment request said name (inr (inr h)) other = inl (ap (λ (x : OfficeState). find name x.sessions) h.3.others)

pub leaves_desk : (old new : OfficeState) (before now : Marks) (moment : ℕ) (request : Asked) (said name : List ℕ)
    → AnswersRequest old before moment request said now new → (IsOf (desk name) request → ⊥) → find name new.desks ≡ find name old.desks
unfolding RoutedStep
leaves_desk old new before now moment request said name (inl step) other = by step.route step.routed step.does
  where
    by : (r : Result Route RouteEnd) → Routing request.method request.path r → RoutedStep (SilenceCause before now) moment r request.body old said new → find name new.desks ≡ find name old.desks
    by (Ok route) routed does = does_desk (SilenceCause before now) moment route request.body old new said name does (λ e. other (record { route = route; routed = routed; caller_is = e }))
    by (Err NoRoute) routed does = ap (find name) (desks_of old new does.1)
    by (Err WrongMethod) routed does = ap (find name) (desks_of old new does.1)
    by (Err Memory) routed does = absurd does
leaves_desk old new before now moment request said name (inr (inl h)) other = ap (λ (x : OfficeState). find name x.desks) h.1.others
leaves_desk old new before now moment request said name (inr (inr h)) other = ap (λ (x : OfficeState). find name x.desks) h.3.others

-- and so do many requests of others
pub plays_leave_desk : (old : OfficeState) (before : Marks) (xs : List Exchange) (new : OfficeState) (now : Marks) (name : List ℕ)
    → Plays old before xs new now → AreOfOthers (desk name) xs → find name new.desks ≡ find name old.desks
plays_leave_desk old before [] new now name plays others = ap (find name) (desks_of old new plays.0)
plays_leave_desk old before (x ∷ xs) new now name plays others =
    plays_leave_desk x.state x.marks xs new now name plays.2 others.1
    ∙ leaves_desk old x.state before x.marks x.moment x.asked x.said name plays.1 others.0

-- what is kept of the requests of a session stays too, whatever it holds
keeps_kept : (old new : OfficeState) (request : Asked) (name : List ℕ) → LeavesIt old new request name → kept_of_session (find name new.sessions) ≡ kept_of_session (find name old.sessions)
keeps_kept old new request name (inl e) = ap kept_of_session e
keeps_kept old new request name (inr (inl h)) = ap kept_of_session h.1 ∙ still (find name old.sessions)
  where
    still : (o : Option SessionState) → kept_of_session (option_map (carried old.app.names new.app.names) o) ≡ kept_of_session o
    still None = refl
    still (Some s) = refl
keeps_kept old new request name (inr (inr h)) = ap kept_of_session h.1 ∙ still (find name old.sessions)
  where
    still : (o : Option SessionState) → kept_of_session (option_map (carried_over old.app.names new.app.names) o) ≡ kept_of_session o
    still None = refl
    still (Some s) = refl

pub plays_keep_session : LeavesOthers → (old : OfficeState) (before : Marks) (xs : List Exchange) (new : OfficeState) (now : Marks) (name : List ℕ)
    → Plays old before xs new now → AreOfOthers (session name) xs → kept_of_session (find name new.sessions) ≡ kept_of_session (find name old.sessions)
plays_keep_session law old before [] new now name plays others = ap (λ (l : List (Named SessionState)). kept_of_session (find name l)) (sessions_of old new plays.0)
plays_keep_session law old before (x ∷ xs) new now name plays others =
    plays_keep_session law x.state x.marks xs new now name plays.2 others.1
    ∙ keeps_kept old x.state x.asked name (leaves_session law old x.state before x.marks x.moment x.asked x.said name plays.1 others.0)

-- ---- a caller's route

-- a request of a caller that has a route has one of that caller
pub route_is : IsOneRoute → (caller : Caller) (request : Asked) (of : IsOf caller request) (r : Result Route RouteEnd) → r ≢ Err Memory
    → Routing request.method request.path r → r ≡ Ok of.route
route_is one caller request of r known routed = one request.method request.path r (Ok of.route) known (λ e. cc) routed of.routed

-- a step has a route that isn't want of memory
pub is_known : (lost : Type 0) (moment : ℕ) (r : Result Route RouteEnd) (body said : List ℕ) (s new : OfficeState) → RoutedStep lost moment r body s said new → r ≢ Err Memory
unfolding RoutedStep
is_known lost moment (Ok route) body said s new does = λ e. cc
is_known lost moment (Err NoRoute) body said s new does = λ e. cc
is_known lost moment (Err WrongMethod) body said s new does = λ e. cc
is_known lost moment (Err Memory) body said s new does = absurd does

-- what a step of a caller's request does
pub does_of : IsOneRoute → (lost : Type 0) (caller : Caller) (old new : OfficeState) (moment : ℕ) (request : Asked) (said : List ℕ) (of : IsOf caller request)
    → Step lost old moment request said new → RouteStep lost moment of.route request.body old said new
unfolding RoutedStep
does_of one lost caller old new moment request said of step =
    subst (λ r. RoutedStep lost moment r request.body old said new)
    (route_is one caller request of step.route (is_known lost moment step.route request.body said old new step.does) step.routed) step.does

-- ---- replies to sessions

-- what is shown of one app to one session, at one moment
pub shows_alike : OneFreshAt → FittingHolds → (lost lost' : Type 0) (moment : ℕ) (a : App) (o : Option SessionState) (k l m n : Option Tables) (said said' : List ℕ)
    → IsSoundApp a → ((s : SessionState) → o ≡ Some s → FitsNames a.names s) → AreKnown a (rows_told l) → rows_told l ≡ rows_told n
    → ShowsNamedTo lost a moment o k said l → ShowsNamedTo lost' a moment o m said' n → said ≡ said'
shows_alike once holds lost lost' moment a None k l m n said said' sound fit known same x y = x.0 ∙ sym y.0
shows_alike once holds lost lost' moment a (Some s) k l m n said said' sound fit known same x y =
    let second : IsNamedBody (present a s (rows_told l) moment) y.0.0 = subst (λ (r : Option (List (List Row))). IsNamedBody (present a s r moment) y.0.0) (sym same) y.0.1 in
    x.0.2 ∙ ap (reply 200) (one_body once (present a s (rows_told l) moment) x.0.0 y.0.0 sound (holds a.names s (fit s refl)) known x.0.1 second) ∙ sym y.0.2

-- a session that is found fits, and so it holds what fits
pub holds_found : FittingHolds → (a : OfficeState) (name : List ℕ) → IsSettledOffice a → (s : SessionState) → find name a.sessions ≡ Some s → HoldsFitting a.app.names s
holds_found holds a name settled s found = holds a.app.names s (found_fits a.app.names a.sessions name s settled.fit found)

-- what is known of what is shown to sessions
pub record ReplyLaws : Type 0 where
  pub fresh : OneFreshAt
  pub holds : FittingHolds
  pub view : OneViewReply
  pub items : OneItemsReply

-- what is said of one app and one record is said of the same
said_with : (Says : App → Option SessionState → Type 0) (app app' : App) (o o' : Option SessionState) → app ≡ app' → o ≡ o' → Says app' o' → Says app o
said_with Says app app' o o' e f h = subst (λ (x : Option SessionState). Says app x) (sym f) (subst (λ (x : App). Says x o') (sym e) h)

-- a route by which something is shown to a session
pub shows_one : ReplyLaws → (p p' q q' : Marks) (moment : ℕ) (route : Route) (body : List ℕ) (a b new new' : OfficeState) (said said' name : List ℕ)
    → caller_of route ≡ Some (session name) → method_of route ≡ Get → IsSettledOffice a → a.app ≡ b.app → find name a.sessions ≡ find name b.sessions → AreKnown a.app (rows_told new.tables) → rows_told new.tables ≡ rows_told new'.tables
    → RouteStep (SilenceCause p p') moment route body a said new → RouteStep (SilenceCause q q') moment route body b said' new' → said ≡ said'
unfolding RouteStep
shows_one laws p p' q q' moment (Begin n) body a b new new' said said' name is reads settled app same known rows h k = absurd cc
shows_one laws p p' q q' moment (End n) body a b new new' said said' name is reads settled app same known rows h k = absurd cc
shows_one laws p p' q q' moment (View n) body a b new new' said said' name is reads settled app same known rows h k =
    let named : name ≡ n = cc in
    laws.view p p' q q' a.app moment (find n a.sessions) a.tables new.tables b.tables new'.tables said said' settled.app (holds_found laws.holds a n settled) known rows h.0
    (said_with (λ x o. ShowsViewTo (SilenceCause q q') x moment o b.tables said' new'.tables) a.app b.app (find n a.sessions) (find n b.sessions) app (subst (λ m. find m a.sessions ≡ find m b.sessions) named same) k.0)
shows_one laws p p' q q' moment (Shown n) body a b new new' said said' name is reads settled app same known rows h k =
    let named : name ≡ n = cc in
    shows_alike laws.fresh laws.holds (SilenceCause p p') (SilenceCause q q') moment a.app (find n a.sessions) a.tables new.tables b.tables new'.tables said said' settled.app
    (λ s e. found_fits a.app.names a.sessions n s settled.fit e) known rows h.0
    (said_with (λ x o. ShowsNamedTo (SilenceCause q q') x moment o b.tables said' new'.tables) a.app b.app (find n a.sessions) (find n b.sessions) app (subst (λ m. find m a.sessions ≡ find m b.sessions) named same) k.0)
shows_one laws p p' q q' moment (Items n gallery from) body a b new new' said said' name is reads settled app same known rows h k =
    let named : name ≡ n = cc in
    laws.items p p' q q' a.app moment gallery from (find n a.sessions) a.tables new.tables b.tables new'.tables said said' settled.app (holds_found laws.holds a n settled) known rows h.0
    (said_with (λ x o. ShowsItemsTo (SilenceCause q q') x moment gallery from o b.tables said' new'.tables) a.app b.app (find n a.sessions) (find n b.sessions) app (subst (λ m. find m a.sessions ≡ find m b.sessions) named same) k.0)
shows_one laws p p' q q' moment (Event n) body a b new new' said said' name is reads settled app same known rows h k = absurd cc
shows_one laws p p' q q' moment (Input n) body a b new new' said said' name is reads settled app same known rows h k = absurd cc
shows_one laws p p' q q' moment (Rows n) body a b new new' said said' name is reads settled app same known rows h k = cc
shows_one laws p p' q q' moment (Edit n) body a b new new' said said' name is reads settled app same known rows h k = cc
shows_one laws p p' q q' moment (Replace n) body a b new new' said said' name is reads settled app same known rows h k = cc
shows_one laws p p' q q' moment (Page table after) body a b new new' said said' name is reads settled app same known rows h k = cc
shows_one laws p p' q q' moment Plan body a b new new' said said' name is reads settled app same known rows h k = cc
shows_one laws p p' q q' moment Graph body a b new new' said said' name is reads settled app same known rows h k = cc

pub reads_alone : ReplyLaws → IsOneRoute → (k l m n : Marks) (a b new new' : OfficeState) (moment : ℕ) (request : Asked) (said said' name : List ℕ)
    → IsOf (session name) request → request.method ≡ Get → IsSettledOffice a → a.app ≡ b.app → find name a.sessions ≡ find name b.sessions → AreKnown a.app (rows_told new.tables) → rows_told new.tables ≡ rows_told new'.tables
    → Step (SilenceCause k l) a moment request said new → Step (SilenceCause m n) b moment request said' new' → said ≡ said'
reads_alone laws one k l m n a b new new' moment request said said' name of reads settled app same known rows first second =
    shows_one laws k l m n moment of.route request.body a b new new' said said' name of.caller_is (of.routed.1 ∙ reads) settled app same known rows
    (does_of one (SilenceCause k l) (session name) a new moment request said of first) (does_of one (SilenceCause m n) (session name) b new' moment request said' of second)
