-- What is said to a session depends on no other, where tables are told.
use Rattle.std.proofs.Common.{◌≡◌, ◌≢◌, ℕ, List, Option, Some, refl, ap, sym, ◌∙◌, subst}
use Rattle.app_cells.specs.declared.app.App.{App}
use Rattle.fx_base.specs.Silence.{SilenceCause, Marks}
use Rattle.app_wire.specs.Framing.{Asked}
use Rattle.app_wire.specs.Routing.{IsOneRoute, method_of}
use Rattle.app_wire.specs.declared.head.Method.TheVariants.{Put}
use Rattle.app_wire.specs.declared.route.Route.{Route}
use Rattle.app_wire.specs.declared.route.Route.TheVariants.{Begin, End, View, Named as Shown, Items, Event, Input, Rows, Edit, Replace, Page, Plan, Graph}
use Rattle.numbered_requests.specs.Directory.{find}
use Rattle.row_keeper.specs.Tables.{Tables, rows_told}
use Rattle.row_requests.specs.Sound.{AreSound}
use Rattle.session_requests.specs.Posting.{PostsEvent, PostsInput}
use Rattle.office.specs.Isolation.{IsOf, caller_of, session}
use Rattle.office.specs.Ready.{IsSettledOffice}
use Rattle.office.specs.State.{OfficeState, schema_of}
use Rattle.office.specs.Step.{RouteStep, Step}
use Rattle.office.proofs.Directories.{found_fits}
use Rattle.office.proofs.Isolation.{does_of, shows_one}
use Rattle.office.proofs.OneAnswer.{AnswerLaws, items_go, known_after, named_goes, told_event, told_input, told_same, view_goes}

-- rows that are told of tables that are the same
same_rows : (x x' y y' : Option Tables) (t : Tables) → x ≡ Some t → x' ≡ Some t → y ≡ x → y' ≡ x' → rows_told y ≡ rows_told y'
same_rows x x' y y' t e f g h = ap rows_told (g ∙ e ∙ sym f ∙ sym h)

-- what a session sends is answered alike
sends_event : AnswerLaws → (p p' q q' : Marks) (moment : ℕ) (body : List ℕ) (a b new new' : OfficeState) (said said' name : List ℕ) (t u u' : Tables)
    → IsSettledOffice a → AreSound (schema_of a.app) a.tables → a.app ≡ b.app → find name a.sessions ≡ find name b.sessions → a.tables ≡ Some t → b.tables ≡ Some t → new.tables ≡ Some u → new'.tables ≡ Some u'
    → PostsEvent (SilenceCause p p') a.app moment name body a.tables a.sessions said new.tables new.sessions → PostsEvent (SilenceCause q q') b.app moment name body b.tables b.sessions said' new'.tables new'.sessions → said ≡ said'
sends_event laws p p' q q' moment body a b new new' said said' name t u u' settled sound app same e f g i h k =
    ((laws.outcome p p' q q' a.app moment name body said said' t u u' a.sessions new.sessions b.sessions new'.sessions settled.app (λ s is. found_fits a.app.names a.sessions name s settled.fit is) same
    (subst (λ (o : Option Tables). AreSound (schema_of a.app) o) e sound)).1
    (told_event (SilenceCause p p') a.app moment name body said a.tables new.tables t u a.sessions new.sessions e g h)
    (told_event (SilenceCause q q') a.app moment name body said' b.tables new'.tables t u' b.sessions new'.sessions f i
    (subst (λ (x : App). PostsEvent (SilenceCause q q') x moment name body b.tables b.sessions said' new'.tables new'.sessions) (sym app) k))).0

sends_input : AnswerLaws → (p p' q q' : Marks) (moment : ℕ) (body : List ℕ) (a b new new' : OfficeState) (said said' name : List ℕ) (t u u' : Tables)
    → IsSettledOffice a → AreSound (schema_of a.app) a.tables → a.app ≡ b.app → find name a.sessions ≡ find name b.sessions → a.tables ≡ Some t → b.tables ≡ Some t → new.tables ≡ Some u → new'.tables ≡ Some u'
    → PostsInput (SilenceCause p p') a.app moment name body a.tables a.sessions said new.tables new.sessions → PostsInput (SilenceCause q q') b.app moment name body b.tables b.sessions said' new'.tables new'.sessions → said ≡ said'
sends_input laws p p' q q' moment body a b new new' said said' name t u u' settled sound app same e f g i h k =
    ((laws.outcome p p' q q' a.app moment name body said said' t u u' a.sessions new.sessions b.sessions new'.sessions settled.app (λ s is. found_fits a.app.names a.sessions name s settled.fit is) same
    (subst (λ (o : Option Tables). AreSound (schema_of a.app) o) e sound)).0
    (told_input (SilenceCause p p') a.app moment name body said a.tables new.tables t u a.sessions new.sessions e g h)
    (told_input (SilenceCause q q') a.app moment name body said' b.tables new'.tables t u' b.sessions new'.sessions f i
    (subst (λ (x : App). PostsInput (SilenceCause q q') x moment name body b.tables b.sessions said' new'.tables new'.sessions) (sym app) k))).0

does_alone : AnswerLaws → (p p' q q' : Marks) (moment : ℕ) (route : Route) (body : List ℕ) (a b new new' : OfficeState) (said said' name : List ℕ) (t u u' : Tables)
    → caller_of route ≡ Some (session name) → method_of route ≢ Put → IsSettledOffice a → AreSound (schema_of a.app) a.tables → a.app ≡ b.app → find name a.sessions ≡ find name b.sessions
    → a.tables ≡ Some t → b.tables ≡ Some t → new.tables ≡ Some u → new'.tables ≡ Some u'
    → RouteStep (SilenceCause p p') moment route body a said new → RouteStep (SilenceCause q q') moment route body b said' new' → said ≡ said'
unfolding RouteStep
does_alone laws p p' q q' moment (Begin n) body a b new new' said said' name t u u' is other settled sound app same e f g i h k = absurd (other refl)
does_alone laws p p' q q' moment (End n) body a b new new' said said' name t u u' is other settled sound app same e f g i h k = h.0 ∙ sym k.0
does_alone laws p p' q q' moment (View n) body a b new new' said said' name t u u' is other settled sound app same e f g i h k =
    let x = told_same (SilenceCause p p') a.tables new.tables t u e g (view_goes (SilenceCause p p') a.app moment (find n a.sessions) a.tables new.tables said h.0) in
    let y = told_same (SilenceCause q q') b.tables new'.tables t u' f i (view_goes (SilenceCause q q') b.app moment (find n b.sessions) b.tables new'.tables said' k.0) in
    shows_one laws.replies p p' q q' moment (View n) body a b new new' said said' name is refl settled app same (known_after a.app a.tables new.tables t e sound x)
    (same_rows a.tables b.tables new.tables new'.tables t e f x y) h k
does_alone laws p p' q q' moment (Shown n) body a b new new' said said' name t u u' is other settled sound app same e f g i h k =
    let x = told_same (SilenceCause p p') a.tables new.tables t u e g (named_goes (SilenceCause p p') a.app moment (find n a.sessions) a.tables new.tables said h.0) in
    let y = told_same (SilenceCause q q') b.tables new'.tables t u' f i (named_goes (SilenceCause q q') b.app moment (find n b.sessions) b.tables new'.tables said' k.0) in
    shows_one laws.replies p p' q q' moment (Shown n) body a b new new' said said' name is refl settled app same (known_after a.app a.tables new.tables t e sound x)
    (same_rows a.tables b.tables new.tables new'.tables t e f x y) h k
does_alone laws p p' q q' moment (Items n gallery from) body a b new new' said said' name t u u' is other settled sound app same e f g i h k =
    let x = told_same (SilenceCause p p') a.tables new.tables t u e g (items_go (SilenceCause p p') a.app moment gallery from (find n a.sessions) a.tables new.tables said h.0) in
    let y = told_same (SilenceCause q q') b.tables new'.tables t u' f i (items_go (SilenceCause q q') b.app moment gallery from (find n b.sessions) b.tables new'.tables said' k.0) in
    shows_one laws.replies p p' q q' moment (Items n gallery from) body a b new new' said said' name is refl settled app same (known_after a.app a.tables new.tables t e sound x)
    (same_rows a.tables b.tables new.tables new'.tables t e f x y) h k
does_alone laws p p' q q' moment (Event n) body a b new new' said said' name t u u' is other settled sound app same e f g i h k =
    let named : name ≡ n = cc in
    sends_event laws p p' q q' moment body a b new new' said said' n t u u' settled sound app (subst (λ m. find m a.sessions ≡ find m b.sessions) named same) e f g i h.0 k.0
does_alone laws p p' q q' moment (Input n) body a b new new' said said' name t u u' is other settled sound app same e f g i h k =
    let named : name ≡ n = cc in
    sends_input laws p p' q q' moment body a b new new' said said' n t u u' settled sound app (subst (λ m. find m a.sessions ≡ find m b.sessions) named same) e f g i h.0 k.0
does_alone laws p p' q q' moment (Rows n) body a b new new' said said' name t u u' is other settled sound app same e f g i h k = cc
does_alone laws p p' q q' moment (Edit n) body a b new new' said said' name t u u' is other settled sound app same e f g i h k = cc
does_alone laws p p' q q' moment (Replace n) body a b new new' said said' name t u u' is other settled sound app same e f g i h k = cc
does_alone laws p p' q q' moment (Page table after) body a b new new' said said' name t u u' is other settled sound app same e f g i h k = cc
does_alone laws p p' q q' moment Plan body a b new new' said said' name t u u' is other settled sound app same e f g i h k = cc
does_alone laws p p' q q' moment Graph body a b new new' said said' name t u u' is other settled sound app same e f g i h k = cc

pub is_alone : AnswerLaws → IsOneRoute → (k l m n : Marks) (a b new new' : OfficeState) (moment : ℕ) (request : Asked) (said said' name : List ℕ) (t u u' : Tables)
    → IsOf (session name) request → request.method ≢ Put → IsSettledOffice a → AreSound (schema_of a.app) a.tables → a.app ≡ b.app → find name a.sessions ≡ find name b.sessions
    → a.tables ≡ Some t → b.tables ≡ Some t → new.tables ≡ Some u → new'.tables ≡ Some u'
    → Step (SilenceCause k l) a moment request said new → Step (SilenceCause m n) b moment request said' new' → said ≡ said'
is_alone laws one k l m n a b new new' moment request said said' name t u u' of other settled sound app same e f g i first second =
    does_alone laws k l m n moment of.route request.body a b new new' said said' name t u u' of.caller_is (λ x. other (sym of.routed.1 ∙ x)) settled sound app same e f g i
    (does_of one (SilenceCause k l) (session name) a new moment request said of first) (does_of one (SilenceCause m n) (session name) b new' moment request said' of second)
