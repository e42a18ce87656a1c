-- What is refused leaves the office as it was.
use Rattle.std.proofs.Common.{◌≡◌, inl, inr, ℕ, List, Option, None, Some, Result, Ok, Err, ap, sym, ◌∙◌, subst}
use Rattle.fx_base.specs.Silence.{MayFallSilent, SilenceCause, Marks}
use Rattle.fx_base.specs.Telling.{Stays}
use Rattle.fx_base.proofs.Silences.{goes_weaker}
use Rattle.fx_types.specs.Values.{Data}
use Rattle.fx_core.specs.declared.broken.Broken.{Broken}
use Rattle.fx_core.specs.declared.schema.TableShape.{TableShape}
use Rattle.app_cells.specs.declared.app.App.{App}
use Rattle.app_reports.specs.Graph.{graph_text}
use Rattle.app_reports.specs.Plans.{plan_text}
use Rattle.app_wire.specs.Framing.{Asked}
use Rattle.app_wire.specs.declared.route.Route.{Route}
use Rattle.app_wire.specs.declared.route.Route.TheVariants.{Begin, End, View, Named as Shown, Items, Event, Input, Rows, Edit, Replace, Page, Plan, Graph}
use Rattle.app_wire.specs.declared.route.RouteEnd.{RouteEnd}
use Rattle.app_wire.specs.declared.route.RouteEnd.TheVariants.{NoRoute, WrongMethod, Memory}
use Rattle.numbered_requests.specs.Checks.{checks, session_of}
use Rattle.numbered_requests.specs.Directory.{find}
use Rattle.numbered_requests.specs.declared.directory.Named.{Named}
use Rattle.numbered_requests.specs.declared.edit.Edit.{Edit as Change}
use Rattle.row_keeper.specs.Tables.{Tables, columns_at}
use Rattle.row_requests.specs.Changes.{table_index}
use Rattle.row_requests.specs.DeskRows.{DeskTransaction, ChangesOutcome, PostsChecked, desk_checks, desks_after, outcome_reply}
use Rattle.row_requests.specs.Page.{Shows, ShowsTable}
use Rattle.row_requests.specs.declared.bodies.Change.{Change as RowChange}
use Rattle.row_requests.specs.declared.bodies.Posted.{Posted}
use Rattle.session_requests.specs.Acting.{EndsEvent, EndsInput}
use Rattle.session_requests.specs.Bodies.{event_in, input_in}
use Rattle.session_requests.specs.Posting.{PostsEventChecked, PostsInputChecked}
use Rattle.session_requests.specs.Targets.{InputValue as Value, input_target}
use Rattle.session_requests.specs.declared.event.Event.{Event as Sent}
use Rattle.session_requests.specs.declared.input.Input.{Input as Given}
use Rattle.session_requests.specs.declared.target.Target.{Target}
use Rattle.session_state.specs.Once.{LastRequest}
use Rattle.session_state.specs.Sessions.{SessionState}
use Rattle.view_text.specs.ReplyText.{ok_text}
use Rattle.view_text.specs.declared.refused.Refusal.{Refusal}
use Rattle.office.specs.DeskEdits.{EditEnds as Edited, Parts, EditsChecked as EditChecked, edit_checks}
use Rattle.office.specs.Refused.{IsRefused}
use Rattle.office.specs.Sessions.{BeginsChecked, begin_checks}
use Rattle.office.specs.State.{OfficeState, schema_of}
use Rattle.office.specs.Step.{AnswersRequest, RouteStep, RoutedStep, Left, office_parts}
use Rattle.office.proofs.OneAnswer.{items_go, named_goes, view_goes}
use Rattle.office.proofs.Replacements.{refused_left}
use Rattle.office.proofs.StepLemmas.{left_all, still}

-- the tables stay, and so do those of a name, who are sessions or desks
record AreLeft (T : Type 0) (lost : Type 0) (tables tables' : Option Tables) (xs ys : List (Named T)) : Type 0 where
  tables_are : MayFallSilent lost Stays tables tables'
  names_are : ys ≡ xs

-- ---- sessions that begin

begins : (lost : Type 0) (app : App) (moment : ℕ) (name said : List ℕ) (x y : Option Tables) (xs ys : List (Named SessionState)) (o : Option (List ℕ)) → IsRefused said
    → BeginsChecked lost app moment name o x xs said y ys → AreLeft SessionState lost x y xs ys
begins lost app moment name said x y xs ys (Some words) refused h = record { tables_are = still lost x y h.1; names_are = h.2 }
begins lost app moment name said x y xs ys None refused h = absurd (refused ok_text h.replied)

-- ---- events and inputs

event_ends : (lost : Type 0) (app : App) (moment : ℕ) (name body said : List ℕ) (seq : ℕ) (s : SessionState) (values : ℕ → Data) (x seen y : Option Tables) (xs ys : List (Named SessionState)) (v : Result Target Refusal)
    → IsRefused said → MayFallSilent lost Stays x seen → EndsEvent lost app moment name body seq s values v seen xs said y ys → AreLeft SessionState lost x y xs ys
event_ends lost app moment name body said seq s values x seen y xs ys (Err r) refused stays h = record { tables_are = subst (λ (t : Option Tables). MayFallSilent lost Stays x t) (sym h.2) stays; names_are = h.1 }
event_ends lost app moment name body said seq s values x seen y xs ys (Ok t) refused stays h = absurd (refused _ h.accepts.said_is)

events : (lost : Type 0) (app : App) (moment : ℕ) (name body said : List ℕ) (x y : Option Tables) (xs ys : List (Named SessionState)) (r : Result Sent (List ℕ)) → IsRefused said
    → PostsEventChecked lost app moment name body r x xs said y ys → AreLeft SessionState lost x y xs ys
events lost app moment name body said x y xs ys (Err words) refused h = record { tables_are = still lost x y h.2; names_are = h.1 }
events lost app moment name body said x y xs ys (Ok e) refused h = event_ends lost app moment name body said e.seq h.session h.values x h.seen y xs ys h.verdict refused h.stays h.ends

input_ends : (lost : Type 0) (app : App) (moment : ℕ) (name body said : List ℕ) (seq : ℕ) (s : SessionState) (values : ℕ → Data) (x seen y : Option Tables) (xs ys : List (Named SessionState)) (v : Result Value Refusal)
    → IsRefused said → MayFallSilent lost Stays x seen → EndsInput lost app moment name body seq s values v seen xs said y ys → AreLeft SessionState lost x y xs ys
input_ends lost app moment name body said seq s values x seen y xs ys (Err r) refused stays h = record { tables_are = subst (λ (t : Option Tables). MayFallSilent lost Stays x t) (sym h.2) stays; names_are = h.1 }
input_ends lost app moment name body said seq s values x seen y xs ys (Ok g) refused stays h = absurd (refused _ h.accepts.said_is)

inputs : (lost : Type 0) (app : App) (moment : ℕ) (name body said : List ℕ) (x y : Option Tables) (xs ys : List (Named SessionState)) (r : Result Given (List ℕ)) → IsRefused said
    → PostsInputChecked lost app moment name body r x xs said y ys → AreLeft SessionState lost x y xs ys
inputs lost app moment name body said x y xs ys (Err words) refused h = record { tables_are = still lost x y h.2; names_are = h.1 }
inputs lost app moment name body said x y xs ys (Ok i) refused h = input_ends lost app moment name body said i.seq h.session h.values x h.seen y xs ys (input_target app.names h.session h.values i) refused h.stays h.ends

-- ---- rows

rows_end : (lost : Type 0) (shapes : List TableShape) (changes : List RowChange) (name body said : List ℕ) (seq : ℕ) (x y : Option Tables) (xs ys : List (Named LastRequest)) (o : ChangesOutcome) → IsRefused said
    → MayFallSilent lost (DeskTransaction shapes changes o) x y → said ≡ outcome_reply seq o → ys ≡ desks_after name body seq o xs → AreLeft LastRequest lost x y xs ys
rows_end lost shapes changes name body said seq x y xs ys (Err r) refused acts replied keeps = record {
  tables_are = goes_weaker lost (DeskTransaction shapes changes (Err r)) Stays (λ a b done. done.1) x y acts;
  names_are = keeps;
}
rows_end lost shapes changes name body said seq x y xs ys (Ok ids) refused acts replied keeps = absurd (refused _ replied)

posts : (lost : Type 0) (shapes : List TableShape) (name body said : List ℕ) (x y : Option Tables) (xs ys : List (Named LastRequest)) (r : Result Posted (List ℕ)) → IsRefused said
    → PostsChecked lost shapes name body r x xs said y ys → AreLeft LastRequest lost x y xs ys
posts lost shapes name body said x y xs ys (Err words) refused h = record { tables_are = still lost x y h.1; names_are = h.2 }
posts lost shapes name body said x y xs ys (Ok p) refused h = rows_end lost shapes p.changes name body said p.seq x y xs ys h.outcome refused h.acts h.replied h.keeps

page_goes : (lost : Type 0) (shapes : List TableShape) (after : ℕ) (x y : Option Tables) (said : List ℕ) (o : Option ℕ) → ShowsTable lost shapes o after x said y → MayFallSilent lost Stays x y
page_goes lost shapes after x y said None h = still lost x y h.1
page_goes lost shapes after x y said (Some k) h = goes_weaker lost (Shows k after said (columns_at shapes k)) Stays (λ a b shown. shown.1) x y h.0

-- ---- edits

edit_ends : (name body said : List ℕ) (seq : ℕ) (p q : Parts) (v : Result App (List Broken)) → IsRefused said → Edited name body seq v p said q → q ≡ p
edit_ends name body said seq p q (Err bs) refused h = h.1
edit_ends name body said seq p q (Ok b) refused h = absurd (refused _ h.0)

edits : (name body said : List ℕ) (p q : Parts) (r : Result Change (List ℕ)) → IsRefused said → EditChecked name body r p said q → q ≡ p
edits name body said p q (Err words) refused h = h.1
edits name body said p q (Ok e) refused h = edit_ends name body said e.seq p q h.verdict refused h.ends

-- ---- all routes

-- sessions and tables alone may change, and don't
left_sessions : (lost : Type 0) (s new : OfficeState) → new ≡ record s { tables = new.tables; sessions = new.sessions } → AreLeft SessionState lost s.tables new.tables s.sessions new.sessions → Left lost s new
left_sessions lost s new is h = record { tables = h.tables_are; others = is ∙ ap (λ (xs : List (Named SessionState)). record s { tables = new.tables; sessions = xs }) h.names_are }

left_desks : (lost : Type 0) (s new : OfficeState) → new ≡ record s { tables = new.tables; desks = new.desks } → AreLeft LastRequest lost s.tables new.tables s.desks new.desks → Left lost s new
left_desks lost s new is h = record { tables = h.tables_are; others = is ∙ ap (λ (xs : List (Named LastRequest)). record s { tables = new.tables; desks = xs }) h.names_are }

does_leave : (lost : Type 0) (moment : ℕ) (route : Route) (body : List ℕ) (s new : OfficeState) (said : List ℕ) → IsRefused said → RouteStep lost moment route body s said new → Left lost s new
unfolding RouteStep
does_leave lost moment (Begin n) body s new said refused does = left_sessions lost s new does.1 (begins lost s.app moment n said s.tables new.tables s.sessions new.sessions (begin_checks n s.sessions) refused does.0)
does_leave lost moment (End n) body s new said refused does = absurd (refused ok_text does.0)
does_leave lost moment (View n) body s new said refused does = record { tables = view_goes lost s.app moment (find n s.sessions) s.tables new.tables said does.0; others = does.1 }
does_leave lost moment (Shown n) body s new said refused does = record { tables = named_goes lost s.app moment (find n s.sessions) s.tables new.tables said does.0; others = does.1 }
does_leave lost moment (Items n gallery from) body s new said refused does = record { tables = items_go lost s.app moment gallery from (find n s.sessions) s.tables new.tables said does.0; others = does.1 }
does_leave lost moment (Event n) body s new said refused does =
    left_sessions lost s new does.1 (events lost s.app moment n body said s.tables new.tables s.sessions new.sessions (checks event_in (λ (e : Sent). e.seq) (session_of n s.sessions) body) refused does.0)
does_leave lost moment (Input n) body s new said refused does =
    left_sessions lost s new does.1 (inputs lost s.app moment n body said s.tables new.tables s.sessions new.sessions (checks input_in (λ (i : Given). i.seq) (session_of n s.sessions) body) refused does.0)
does_leave lost moment (Rows n) body s new said refused does =
    left_desks lost s new does.1 (posts lost (schema_of s.app).tables n body said s.tables new.tables s.desks new.desks (desk_checks s.desks n body) refused does.0)
does_leave lost moment (Edit n) body s new said refused does =
    left_all lost s new (does.1 ∙ ap (λ (p : Parts). record s { app = p.app; sessions = p.sessions; desks = p.desks }) (edits n body said (office_parts s) (office_parts new) (edit_checks s.desks n body) refused does.0))
does_leave lost moment (Replace n) body s new said refused does = refused_left lost n body s said new refused does
does_leave lost moment (Page table after) body s new said refused does =
    record { tables = page_goes lost (schema_of s.app).tables after s.tables new.tables said (table_index table (schema_of s.app).tables) does.0; others = does.1 }
does_leave lost moment Plan body s new said refused does = absurd (refused (plan_text s.app) does.0)
does_leave lost moment Graph body s new said refused does = absurd (refused (graph_text s.app) does.0)

step_leaves : (lost : Type 0) (moment : ℕ) (route : Result Route RouteEnd) (body : List ℕ) (s new : OfficeState) (said : List ℕ) → IsRefused said → RoutedStep lost moment route body s said new → Left lost s new
unfolding RoutedStep
step_leaves lost moment (Ok route) body s new said refused does = does_leave lost moment route body s new said refused does
step_leaves lost moment (Err NoRoute) body s new said refused does = left_all lost s new does.1
step_leaves lost moment (Err WrongMethod) body s new said refused does = left_all lost s new does.1
step_leaves lost moment (Err Memory) body s new said refused does = absurd does

pub refused_leaves : (old new : OfficeState) (before now : Marks) (moment : ℕ) (request : Asked) (said : List ℕ) → AnswersRequest old before moment request said now new → IsRefused said → Left (SilenceCause before now) old new
refused_leaves old new before now moment request said (inl step) refused = step_leaves (SilenceCause before now) moment step.route request.body old new said refused step.does
refused_leaves old new before now moment request said (inr (inl h)) refused = h.1
refused_leaves old new before now moment request said (inr (inr h)) refused = h.3
