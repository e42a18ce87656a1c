-- A request has one answer.
use Rattle.std.proofs.Common.{◌≡◌, ◌⊎◌, inl, inr, ℕ, zero, suc, List, [], ◌∷◌, Option, Some, None, Result, Ok, Err, refl, ap, sym, ◌∙◌, subst}
use Rattle.app_loader.specs.app_semantics.Fresh.{AreKnown}
use Rattle.app_loader.specs.app_semantics.Holding.{HoldRows}
use Rattle.app_loader.specs.app_semantics.Present.{present}
use Rattle.session_views.specs.Galleries.{gallery_named}
use Rattle.session_views.specs.Shows.{SaysItemsOf, ShowsItemsTo, ShowsViewTo}
use Rattle.fx_base.specs.Silence.{MayFallSilent, SilenceCause, Marks}
use Rattle.fx_base.specs.Telling.{Stays}
use Rattle.std.specs.List.{All}
use Rattle.app_wire.specs.Framing.{Asked}
use Rattle.app_wire.specs.Routing.{IsOneRoute, Routing}
use Rattle.app_wire.specs.declared.route.Route.{Route}
use Rattle.app_wire.specs.declared.route.Route.TheVariants.{Begin, End, View, Named as Shown, Items, Event, Input, Rows, Edit, Replace, Page, Plan, Graph}
use Rattle.app_wire.specs.declared.route.RouteEnd.{RouteEnd}
use Rattle.app_wire.specs.declared.route.RouteEnd.TheVariants.{NoRoute, WrongMethod, Memory}
use Rattle.app_cells.specs.declared.app.App.{App}
use Rattle.app_loader.specs.Verdicts.{IsSameApp}
use Rattle.office.specs.DeskEdits.{Parts}
use Rattle.office.specs.DeskEditLaws.{RefusesAlike, IsOneEditOutcome}
use Rattle.fx_core.specs.declared.schema.TableShape.{TableShape}
use Rattle.fx_core.specs.declared.schema.Schema.{Schema}
use Rattle.row_keeper.specs.Tables.{AreStatesOf, TableState, Tables, rows_of_tables, rows_told, state_at}
use Rattle.row_queries.specs.TableRows.{IsRowOf, rows_at}
use Rattle.row_queries.specs.declared.rows.Row.{Row}
use Rattle.session_state.specs.Once.{LastRequest}
use Rattle.session_state.specs.Sessions.{SessionState, opened}
use Rattle.view_text.specs.declared.refused.Refusal.{Refusal}
use Rattle.row_requests.specs.Changes.{perform, table_index}
use Rattle.row_requests.specs.DeskRows.{DeskTransaction, ChangesOutcome, PostsChecked, PostsRows, desk_checks, desks_after, outcome_reply}
use Rattle.row_requests.specs.Page.{ShowsPage, ShowsTable}
use Rattle.row_requests.specs.declared.bodies.Change.{Change}
use Rattle.row_requests.specs.declared.bodies.Posted.{Posted}
use Rattle.numbered_requests.specs.Directory.{find, put_named}
use Rattle.numbered_requests.specs.declared.directory.Named.{Named}
use Rattle.row_requests.specs.Sound.{AreSound}
use Rattle.row_requests.proofs.Soundness.{state_is}
use Rattle.session_requests.specs.EventLaws.{OneOpening}
use Rattle.session_requests.specs.Scenes.{TablesAndSession, quiet, scene, unasked}
use Rattle.session_requests.specs.Laws.{IsOneOutcome}
use Rattle.session_requests.specs.Posting.{PostsEvent, PostsInput}
use Rattle.office.specs.Ready.{IsSettledOffice}
use Rattle.office.specs.Sessions.{BeginsChecked, BeginsSession, ShowsNamedTo, begin_checks}
use Rattle.office.specs.State.{OfficeState, schema_of}
use Rattle.office.specs.Step.{AreOne, RouteStep, RoutedStep, Step, alike, edited, office_parts, refused}
use Rattle.office.proofs.Directories.{found_fits}
use Rattle.office.proofs.Isolation.{ReplyLaws, holds_found, is_known, shows_alike}
use Rattle.office.proofs.Replacements.{replacements_alike}
use Rattle.office.proofs.StepLemmas.{still}

one_ok : (x y : List ℕ × Tables) (r : Result (List ℕ × Tables) Refusal) → r ≡ Ok x → r ≡ Ok y → x ≡ y
one_ok x y r h k = cc

one_err : (x y : Refusal) (r : Result (List ℕ × Tables) Refusal) → r ≡ Err x → r ≡ Err y → x ≡ y
one_err x y r h k = cc

not_both : (x : List ℕ × Tables) (y : Refusal) (r : Result (List ℕ × Tables) Refusal) → r ≡ Ok x → r ≡ Err y → ⊥
not_both x y r h k = cc

abbrev accepts : List ℕ × Tables → ChangesOutcome
accepts x = Ok x.0

abbrev refuses : Refusal → ChangesOutcome
refuses r = Err r

-- changes have one outcome, and leave one state of the tables
acts_alike : (shapes : List TableShape) (changes : List Change) (o o' : ChangesOutcome) (t u u' : Tables) → DeskTransaction shapes changes o t u → DeskTransaction shapes changes o' t u' → (o ≡ o') × (u ≡ u')
acts_alike shapes changes (Ok ids) (Ok ids') t u u' h k =
    let same = one_ok (ids, u) (ids', u') (perform shapes 0 changes t) h k in (ap accepts same, ap (λ (x : List ℕ × Tables). x.1) same)
acts_alike shapes changes (Err r) (Err r') t u u' h k = (ap refuses (one_err r r' (perform shapes 0 changes t) h.0 k.0), h.1 ∙ sym k.1)
acts_alike shapes changes (Ok ids) (Err r) t u u' h k = absurd (not_both (ids, u) r (perform shapes 0 changes t) h k.0)
acts_alike shapes changes (Err r) (Ok ids) t u u' h k = absurd (not_both (ids, u') r (perform shapes 0 changes t) k h.0)

-- the tables, the desks and the reply are the same
record AreSame (said said' : List ℕ) (tables tables' : Option Tables) (desks desks' : List (Named LastRequest)) : Type 0 where
  reply_is : said ≡ said'
  tables_are : tables ≡ tables'
  desks_are : desks ≡ desks'

posts_alike : (lost lost' : Type 0) (shapes : List TableShape) (name body : List ℕ) (t u u' : Tables) (desks desks' desks'' : List (Named LastRequest)) (said said' : List ℕ)
    → PostsRows lost shapes name body (Some t) desks said (Some u) desks' → PostsRows lost' shapes name body (Some t) desks said' (Some u') desks''
    → AreSame said said' (Some u) (Some u') desks' desks''
posts_alike lost lost' shapes name body t u u' desks desks' desks'' said said' = by (desk_checks desks name body)
  where
    by : (r : Result Posted (List ℕ)) → PostsChecked lost shapes name body r (Some t) desks said (Some u) desks' → PostsChecked lost' shapes name body r (Some t) desks said' (Some u') desks''
        → AreSame said said' (Some u) (Some u') desks' desks''
    by (Err words) h k = record { reply_is = h.0 ∙ sym k.0; tables_are = h.1 ∙ sym k.1; desks_are = h.2 ∙ sym k.2 }
    by (Ok p) h k =
        let same = acts_alike shapes p.changes h.outcome k.outcome t u u' h.acts k.acts in
        record {
          reply_is = h.replied ∙ ap (outcome_reply p.seq) same.0 ∙ sym k.replied;
          tables_are = ap (λ (x : Tables). Some x) same.1;
          desks_are = h.keeps ∙ ap (λ o. desks_after name body p.seq o desks) same.0 ∙ sym k.keeps;
        }

page_alike : (lost lost' : Type 0) (shapes : List TableShape) (name : List ℕ) (after : ℕ) (t u u' : Tables) (said said' : List ℕ)
    → ShowsPage lost shapes name after (Some t) said (Some u) → ShowsPage lost' shapes name after (Some t) said' (Some u') → (said ≡ said') × (Some u ≡ Some u')
page_alike lost lost' shapes name after t u u' said said' = by (table_index name shapes)
  where
    by : (o : Option ℕ) → ShowsTable lost shapes o after (Some t) said (Some u) → ShowsTable lost' shapes o after (Some t) said' (Some u') → (said ≡ said') × (Some u ≡ Some u')
    by None h k = (h.0 ∙ sym k.0, h.1 ∙ sym k.1)
    by (Some n) h k = (h.0.0 ∙ sym k.0.0, ap (λ (x : Tables). Some x) (h.0.1 ∙ sym k.0.1))

-- ---- rows that are read

-- where tables are told before and after a read, they are the same
pub told_same : (lost : Type 0) (x y : Option Tables) (t u : Tables) → x ≡ Some t → y ≡ Some u → MayFallSilent lost Stays x y → y ≡ x
told_same lost None y t u e f g = absurd cc
told_same lost (Some a) None t u e f g = absurd cc
told_same lost (Some a) (Some b) t u e f g = ap (λ (x : Tables). Some x) g

pub view_goes : (lost : Type 0) (app : App) (moment : ℕ) (o : Option SessionState) (x y : Option Tables) (said : List ℕ) → ShowsViewTo lost app moment o x said y → MayFallSilent lost Stays x y
view_goes lost app moment None x y said h = still lost x y h.1
view_goes lost app moment (Some s) x y said h = h.1

pub named_goes : (lost : Type 0) (app : App) (moment : ℕ) (o : Option SessionState) (x y : Option Tables) (said : List ℕ) → ShowsNamedTo lost app moment o x said y → MayFallSilent lost Stays x y
named_goes lost app moment None x y said h = still lost x y h.1
named_goes lost app moment (Some s) x y said h = h.1

pub items_go : (lost : Type 0) (app : App) (moment : ℕ) (gallery : List ℕ) (from : ℕ) (o : Option SessionState) (x y : Option Tables) (said : List ℕ)
    → ShowsItemsTo lost app moment gallery from o x said y → MayFallSilent lost Stays x y
items_go lost app moment gallery from None x y said h = still lost x y h.1
items_go lost app moment gallery from (Some s) x y said h = by (gallery_named gallery app.names) h
  where
    by : (g : Option ℕ) → SaysItemsOf lost (present app s (rows_told y) moment) from g x said y → MayFallSilent lost Stays x y
    by None h = still lost x y h.1
    by (Some g) h = h.1

-- ---- rows that are told

rows_are : (ss : List TableState) (k : ℕ) → (state_at ss k).rows ≡ rows_at (rows_of_tables ss) k
rows_are [] k = refl
rows_are (s ∷ ss) zero = refl
rows_are (s ∷ ss) (suc k) = rows_are ss k

hold : (schema : Schema) (t : Tables) → AreStatesOf schema.tables t.states → HoldRows schema (rows_told (Some t))
hold schema t are k shape e = subst (λ (rows : List Row). All (IsRowOf shape) rows) (rows_are t.states k) (state_is schema.tables t.states k shape are e).fit

-- all that formulas read is told
known_of : (app : App) (x : Option Tables) (t : Tables) → x ≡ Some t → AreSound (schema_of app) x → AreKnown app (rows_told x)
known_of app x t e sound = subst (λ (o : Option Tables). AreKnown app (rows_told o)) (sym e) (record {
  told = λ k c f. refl;
  fit = hold (schema_of app) t (subst (λ (o : Option Tables). AreSound (schema_of app) o) e sound);
})

-- over the same tables
pub known_after : (app : App) (x y : Option Tables) (t : Tables) → x ≡ Some t → AreSound (schema_of app) x → y ≡ x → AreKnown app (rows_told y)
known_after app x y t e sound same = subst (λ (o : Option Tables). AreKnown app (rows_told o)) (sym same) (known_of app x t e sound)

-- states that a read left are the same
alike_after : (s new new' : OfficeState) → new ≡ record s { tables = new.tables } → new' ≡ record s { tables = new'.tables } → new.tables ≡ new'.tables → new ≡ new'
alike_after s new new' h k e = h ∙ ap (λ (o : Option Tables). record s { tables = o }) e ∙ sym k

-- so are those with the same sessions
alike_with : (s new new' : OfficeState) → new ≡ record s { tables = new.tables; sessions = new.sessions } → new' ≡ record s { tables = new'.tables; sessions = new'.sessions }
    → new.tables ≡ new'.tables → new.sessions ≡ new'.sessions → new ≡ new'
alike_with s new new' h k e f =
    h ∙ ap (λ (o : Option Tables). record s { tables = o; sessions = new.sessions }) e
    ∙ ap (λ (x : List (Named SessionState)). record s { tables = new'.tables; sessions = x }) f ∙ sym k

-- ---- sessions that begin, and what they send

-- one is opened in one way, over tables that are told
begins_alike : OneOpening → (lost lost' : Type 0) (app : App) (moment : ℕ) (name said said' : List ℕ) (t u u' : Tables) (xs ys ys' : List (Named SessionState))
    → BeginsSession lost app moment name (Some t) xs said (Some u) ys → BeginsSession lost' app moment name (Some t) xs said' (Some u') ys' → (said ≡ said') × (u ≡ u') × (ys ≡ ys')
begins_alike opening lost lost' app moment name said said' t u u' xs ys ys' = by (begin_checks name xs)
  where
    by : (o : Option (List ℕ)) → BeginsChecked lost app moment name o (Some t) xs said (Some u) ys → BeginsChecked lost' app moment name o (Some t) xs said' (Some u') ys' → (said ≡ said') × (u ≡ u') × (ys ≡ ys')
    by (Some words) h k = let both : Some u ≡ Some u' = h.1 ∙ sym k.1 in (h.0 ∙ sym k.0, cc, h.2 ∙ sym k.2)
    by None h k =
        let one : scene u h.opens.end ≡ scene u' k.opens.end = opening app moment (scene t (opened app.names)) (scene u h.opens.end) (scene u' k.opens.end) h.opens.opens k.opens.opens in
        let session : h.session ≡ k.session = h.opens.left ∙ ap (λ (z : TablesAndSession). unasked (quiet z.session)) one ∙ sym k.opens.left in
        (h.replied ∙ sym k.replied, ap (λ (z : TablesAndSession). z.tables) one, h.keeps ∙ ap (λ (s : SessionState). put_named name s xs) session ∙ sym k.keeps)

-- tables that are told
pub told_begin : (lost : Type 0) (app : App) (moment : ℕ) (name said : List ℕ) (x y : Option Tables) (t u : Tables) (xs ys : List (Named SessionState)) → x ≡ Some t → y ≡ Some u
    → BeginsSession lost app moment name x xs said y ys → BeginsSession lost app moment name (Some t) xs said (Some u) ys
told_begin lost app moment name said x y t u xs ys e f h =
    subst (λ (o : Option Tables). BeginsSession lost app moment name o xs said (Some u) ys) e (subst (λ (o : Option Tables). BeginsSession lost app moment name x xs said o ys) f h)

pub told_event : (lost : Type 0) (app : App) (moment : ℕ) (name body said : List ℕ) (x y : Option Tables) (t u : Tables) (xs ys : List (Named SessionState)) → x ≡ Some t → y ≡ Some u
    → PostsEvent lost app moment name body x xs said y ys → PostsEvent lost app moment name body (Some t) xs said (Some u) ys
told_event lost app moment name body said x y t u xs ys e f h =
    subst (λ (o : Option Tables). PostsEvent lost app moment name body o xs said (Some u) ys) e (subst (λ (o : Option Tables). PostsEvent lost app moment name body x xs said o ys) f h)

pub told_input : (lost : Type 0) (app : App) (moment : ℕ) (name body said : List ℕ) (x y : Option Tables) (t u : Tables) (xs ys : List (Named SessionState)) → x ≡ Some t → y ≡ Some u
    → PostsInput lost app moment name body x xs said y ys → PostsInput lost app moment name body (Some t) xs said (Some u) ys
told_input lost app moment name body said x y t u xs ys e f h =
    subst (λ (o : Option Tables). PostsInput lost app moment name body o xs said (Some u) ys) e (subst (λ (o : Option Tables). PostsInput lost app moment name body x xs said o ys) f h)

-- tables that are told are those that are left where a request has one outcome
told_both : (x y : Option Tables) (u v : Tables) → x ≡ Some u → y ≡ Some v → u ≡ v → x ≡ y
told_both x y u v e f same = e ∙ ap (λ (z : Tables). Some z) same ∙ sym f

-- what is known of replies to sessions, of what they send, and of edits
pub record AnswerLaws : Type 0 where
  pub replies : ReplyLaws
  pub opening : OneOpening
  pub outcome : IsOneOutcome
  pub edit : IsOneEditOutcome

-- where an edit leaves its parts, all is as before
unedited : (s : OfficeState) (p : Parts) → p ≡ office_parts s → record s { app = p.app; sessions = p.sessions; desks = p.desks } ≡ s
unedited s p same = ap (λ (q : Parts). record s { app = q.app; sessions = q.sessions; desks = q.desks }) same

-- edits of an app have one outcome
edits_alike : (n : List ℕ) (request : Asked) (s new new' : OfficeState) (said said' : List ℕ) → Routing request.method request.path (Ok (Edit n))
    → new ≡ record s { app = new.app; sessions = new.sessions; desks = new.desks } → new' ≡ record s { app = new'.app; sessions = new'.sessions; desks = new'.desks }
    → ((said ≡ said') × (office_parts new' ≡ record (office_parts new) { app = new'.app }) × IsSameApp new.app new'.app) ⊎ RefusesAlike (office_parts s) said (office_parts new) said' (office_parts new')
    → AreOne request s new new' said said'
edits_alike n request s new new' said said' routed h k (inl e) =
    edited (inl (n, routed)) e.2
    (k ∙ ap (λ (p : Parts). record s { app = p.app; sessions = p.sessions; desks = p.desks }) e.1 ∙ sym (ap (λ (x : OfficeState). record x { app = new'.app }) h)) e.0
edits_alike n request s new new' said said' routed h k (inr e) =
    refused (inl (n, routed)) (record { breaks = e.breaks; breaks' = e.breaks'; same = e.same; first = e.first.0; second = e.second.0 })
    (h ∙ unedited s (office_parts new) e.first.1) (k ∙ unedited s (office_parts new') e.second.1)

-- a route does one thing
does_one : AnswerLaws → (p p' q q' : Marks) (moment : ℕ) (route : Route) (request : Asked) (s new new' : OfficeState) (said said' : List ℕ) (t u u' : Tables)
    → Routing request.method request.path (Ok route) → IsSettledOffice s → AreSound (schema_of s.app) s.tables → s.tables ≡ Some t → new.tables ≡ Some u → new'.tables ≡ Some u'
    → RouteStep (SilenceCause p p') moment route request.body s said new → RouteStep (SilenceCause q q') moment route request.body s said' new' → AreOne request s new new' said said'
unfolding RouteStep
does_one laws p p' q q' moment (Begin n) request s new new' said said' t u u' routed settled sound e f g h k =
    let same =
    begins_alike laws.opening (SilenceCause p p') (SilenceCause q q') s.app moment n said said' t u u' s.sessions new.sessions new'.sessions
    (told_begin (SilenceCause p p') s.app moment n said s.tables new.tables t u s.sessions new.sessions e f h.0)
    (told_begin (SilenceCause q q') s.app moment n said' s.tables new'.tables t u' s.sessions new'.sessions e g k.0) in
    alike (alike_with s new new' h.1 k.1 (told_both new.tables new'.tables u u' f g same.1) same.2) same.0
does_one laws p p' q q' moment (End n) request s new new' said said' t u u' routed settled sound e f g h k = alike (h.1 ∙ sym k.1) (h.0 ∙ sym k.0)
does_one laws p p' q q' moment (View n) request s new new' said said' t u u' routed settled sound e f g h k =
    let o = find n s.sessions in
    let x = told_same (SilenceCause p p') s.tables new.tables t u e f (view_goes (SilenceCause p p') s.app moment o s.tables new.tables said h.0) in
    let y = told_same (SilenceCause q q') s.tables new'.tables t u' e g (view_goes (SilenceCause q q') s.app moment o s.tables new'.tables said' k.0) in
    alike (alike_after s new new' h.1 k.1 (x ∙ sym y))
    (laws.replies.view p p' q q' s.app moment o s.tables new.tables s.tables new'.tables said said' settled.app (holds_found laws.replies.holds s n settled)
    (known_after s.app s.tables new.tables t e sound x) (ap rows_told (x ∙ sym y)) h.0 k.0)
does_one laws p p' q q' moment (Shown n) request s new new' said said' t u u' routed settled sound e f g h k =
    let o = find n s.sessions in
    let x = told_same (SilenceCause p p') s.tables new.tables t u e f (named_goes (SilenceCause p p') s.app moment o s.tables new.tables said h.0) in
    let y = told_same (SilenceCause q q') s.tables new'.tables t u' e g (named_goes (SilenceCause q q') s.app moment o s.tables new'.tables said' k.0) in
    alike (alike_after s new new' h.1 k.1 (x ∙ sym y))
    (shows_alike laws.replies.fresh laws.replies.holds (SilenceCause p p') (SilenceCause q q') moment s.app o s.tables new.tables s.tables new'.tables said said' settled.app
    (λ x' e'. found_fits s.app.names s.sessions n x' settled.fit e') (known_after s.app s.tables new.tables t e sound x) (ap rows_told (x ∙ sym y)) h.0 k.0)
does_one laws p p' q q' moment (Items n gallery from) request s new new' said said' t u u' routed settled sound e f g h k =
    let o = find n s.sessions in
    let x = told_same (SilenceCause p p') s.tables new.tables t u e f (items_go (SilenceCause p p') s.app moment gallery from o s.tables new.tables said h.0) in
    let y = told_same (SilenceCause q q') s.tables new'.tables t u' e g (items_go (SilenceCause q q') s.app moment gallery from o s.tables new'.tables said' k.0) in
    alike (alike_after s new new' h.1 k.1 (x ∙ sym y))
    (laws.replies.items p p' q q' s.app moment gallery from o s.tables new.tables s.tables new'.tables said said' settled.app (holds_found laws.replies.holds s n settled)
    (known_after s.app s.tables new.tables t e sound x) (ap rows_told (x ∙ sym y)) h.0 k.0)
does_one laws p p' q q' moment (Event n) request s new new' said said' t u u' routed settled sound e f g h k =
    let same =
    (laws.outcome p p' q q' s.app moment n request.body said said' t u u' s.sessions new.sessions s.sessions new'.sessions settled.app (λ x is. found_fits s.app.names s.sessions n x settled.fit is) refl
    (subst (λ (o : Option Tables). AreSound (schema_of s.app) o) e sound)).1
    (told_event (SilenceCause p p') s.app moment n request.body said s.tables new.tables t u s.sessions new.sessions e f h.0)
    (told_event (SilenceCause q q') s.app moment n request.body said' s.tables new'.tables t u' s.sessions new'.sessions e g k.0) in
    alike (alike_with s new new' h.1 k.1 (told_both new.tables new'.tables u u' f g same.1) (same.2 refl)) same.0
does_one laws p p' q q' moment (Input n) request s new new' said said' t u u' routed settled sound e f g h k =
    let same =
    (laws.outcome p p' q q' s.app moment n request.body said said' t u u' s.sessions new.sessions s.sessions new'.sessions settled.app (λ x is. found_fits s.app.names s.sessions n x settled.fit is) refl
    (subst (λ (o : Option Tables). AreSound (schema_of s.app) o) e sound)).0
    (told_input (SilenceCause p p') s.app moment n request.body said s.tables new.tables t u s.sessions new.sessions e f h.0)
    (told_input (SilenceCause q q') s.app moment n request.body said' s.tables new'.tables t u' s.sessions new'.sessions e g k.0) in
    alike (alike_with s new new' h.1 k.1 (told_both new.tables new'.tables u u' f g same.1) (same.2 refl)) same.0
does_one laws p p' q q' moment (Rows n) request s new new' said said' t u u' routed settled sound e f g h k =
    let shapes = (schema_of s.app).tables in
    let same = posts_alike (SilenceCause p p') (SilenceCause q q') shapes n request.body t u u' s.desks new.desks new'.desks said said'
    (subst (λ x. PostsRows (SilenceCause p p') shapes n request.body x s.desks said (Some u) new.desks) e (subst (λ x. PostsRows (SilenceCause p p') shapes n request.body s.tables s.desks said x new.desks) f h.0))
    (subst (λ x. PostsRows (SilenceCause q q') shapes n request.body x s.desks said' (Some u') new'.desks) e (subst (λ x. PostsRows (SilenceCause q q') shapes n request.body s.tables s.desks said' x new'.desks) g k.0)) in
    alike
    (h.1 ∙ ap (λ (x : Option Tables). record s { tables = x; desks = new.desks }) (f ∙ same.tables_are ∙ sym g)
    ∙ ap (λ (d : List (Named LastRequest)). record s { tables = new'.tables; desks = d }) same.desks_are ∙ sym k.1)
    same.reply_is
does_one laws p p' q q' moment (Edit n) request s new new' said said' t u u' routed settled sound e f g h k =
    edits_alike n request s new new' said said' routed h.1 k.1
    (laws.edit n request.body said said' (office_parts s) (office_parts new) (office_parts new') h.0 k.0)
does_one laws p p' q q' moment (Replace n) request s new new' said said' t u u' routed settled sound e f g h k =
    replacements_alike (SilenceCause p p') (SilenceCause q q') n request s new new' said said' t u u' routed e f g h k
does_one laws p p' q q' moment (Page table after) request s new new' said said' t u u' routed settled sound e f g h k =
    let shapes = (schema_of s.app).tables in
    let same = page_alike (SilenceCause p p') (SilenceCause q q') shapes table after t u u' said said'
    (subst (λ x. ShowsPage (SilenceCause p p') shapes table after x said (Some u)) e (subst (λ x. ShowsPage (SilenceCause p p') shapes table after s.tables said x) f h.0))
    (subst (λ x. ShowsPage (SilenceCause q q') shapes table after x said' (Some u')) e (subst (λ x. ShowsPage (SilenceCause q q') shapes table after s.tables said' x) g k.0)) in
    alike (h.1 ∙ ap (λ (x : Option Tables). record s { tables = x }) (f ∙ same.1 ∙ sym g) ∙ sym k.1) same.0
does_one laws p p' q q' moment Plan request s new new' said said' t u u' routed settled sound e f g h k = alike (h.1 ∙ sym k.1) (h.0 ∙ sym k.0)
does_one laws p p' q q' moment Graph request s new new' said said' t u u' routed settled sound e f g h k = alike (h.1 ∙ sym k.1) (h.0 ∙ sym k.0)

does_one_at : AnswerLaws → (p p' q q' : Marks) (moment : ℕ) (r : Result Route RouteEnd) (request : Asked) (s new new' : OfficeState) (said said' : List ℕ) (t u u' : Tables)
    → Routing request.method request.path r → IsSettledOffice s → AreSound (schema_of s.app) s.tables → s.tables ≡ Some t → new.tables ≡ Some u → new'.tables ≡ Some u'
    → RoutedStep (SilenceCause p p') moment r request.body s said new → RoutedStep (SilenceCause q q') moment r request.body s said' new' → AreOne request s new new' said said'
unfolding RoutedStep
does_one_at laws p p' q q' moment (Ok route) request s new new' said said' t u u' routed settled sound e f g h k =
    does_one laws p p' q q' moment route request s new new' said said' t u u' routed settled sound e f g h k
does_one_at laws p p' q q' moment (Err NoRoute) request s new new' said said' t u u' routed settled sound e f g h k = alike (h.1 ∙ sym k.1) (h.0 ∙ sym k.0)
does_one_at laws p p' q q' moment (Err WrongMethod) request s new new' said said' t u u' routed settled sound e f g h k = alike (h.1 ∙ sym k.1) (h.0 ∙ sym k.0)
does_one_at laws p p' q q' moment (Err Memory) request s new new' said said' t u u' routed settled sound e f g h k = absurd h

pub one_answer : AnswerLaws → IsOneRoute → (k l m n : Marks) (old new new' : OfficeState) (moment : ℕ) (request : Asked) (said said' : List ℕ) (t u u' : Tables)
    → IsSettledOffice old → AreSound (schema_of old.app) old.tables → old.tables ≡ Some t → new.tables ≡ Some u → new'.tables ≡ Some u'
    → Step (SilenceCause k l) old moment request said new → Step (SilenceCause m n) old moment request said' new' → AreOne request old new new' said said'
one_answer laws one k l m n old new new' moment request said said' t u u' settled sound e f g a b =
    let same = one request.method request.path a.route b.route (is_known (SilenceCause k l) moment a.route request.body said old new a.does)
    (is_known (SilenceCause m n) moment b.route request.body said' old new' b.does) a.routed b.routed in
    does_one_at laws k l m n moment b.route request old new new' said said' t u u' b.routed settled sound e f g
    (subst (λ r. RoutedStep (SilenceCause k l) moment r request.body old said new) same a.does) b.does
