-- A present has one view, one list of items of a gallery, and one reply that says them, for which
-- one number of rows is visited.
use Rattle.std.specs.Prelude.{◌≡◌, ℕ, List, Option, Some}
use Rattle.recalc.specs.app_cells.declared.app.App.{App}
use Rattle.recalc.specs.app_semantics.Fresh.{AreKnown}
use Rattle.recalc.specs.app_semantics.Holding.{HoldsFitting}
use Rattle.recalc.specs.app_semantics.Present.{Present, present}
use Rattle.recalc.specs.app_semantics.Sound.{IsSoundApp}
use Rattle.session_views.specs.Looking.{AreFreshFor, is_it, is_on_screen}
use Rattle.session_views.specs.Ready.{IsGalleryOf}
use Rattle.session_views.specs.Shows.{ShowsItemsTo, ShowsViewTo}
use Rattle.session_views.specs.Views.{AreFreshItems, IsFreshView}
use Rattle.session_views.specs.Visits.{GivenItemsVisit, ScreenVisits}
use Rattle.fx_base.specs.Silence.{SilenceCause, Marks}
use Rattle.fx_types.specs.Values.{Data}
use Rattle.recalc.specs.fx_eval.Laws.{AreHeld}
use Rattle.row_keeper.specs.Tables.{Tables, rows_told}
use Rattle.row_queries.specs.declared.rows.Row.{Row}
use Rattle.session_state.specs.Sessions.{SessionState}
use Rattle.view_text.specs.declared.views.Items.{Items}
use Rattle.view_text.specs.declared.views.Shown.{Shown}
use Rattle.view_text.specs.declared.views.View.{View}

-- at a moment a session has one view, where all that formulas read is told
abbrev pub OneView : Type 0
OneView =
    (p : Present) (v w : View) → IsSoundApp p.app → HoldsFitting p.app.names p.session
    → AreKnown p.app p.tables → IsFreshView p v → IsFreshView p w → v ≡ w

-- and a gallery has one list of items from a position on
abbrev pub OneItems : Type 0
OneItems =
    (p : Present) (g from : ℕ) (o q : Option Items) → IsSoundApp p.app
    → HoldsFitting p.app.names p.session → AreKnown p.app p.tables → AreFreshItems p g from o
    → AreFreshItems p g from q → o ≡ q

-- ---- replies

-- a session, if there is one, that holds what fits an app
abbrev pub HoldsIfLive : App → Option SessionState → Type 0
HoldsIfLive app o = (s : SessionState) → o ≡ Some s → HoldsFitting app.names s

-- the app, the moment, the session and what is told of rows determine what its view says
abbrev pub OneViewReply : Type 0
OneViewReply =
    (k l m n : Marks) (app : App) (moment : ℕ) (o : Option SessionState) (s t u v : Option Tables)
    (said said' : List ℕ) → IsSoundApp app → HoldsIfLive app o
    → AreKnown app (rows_told t) → rows_told t ≡ rows_told v
    → ShowsViewTo (SilenceCause k l) app moment o s said t
    → ShowsViewTo (SilenceCause m n) app moment o u said' v → said ≡ said'

-- and what the items of a gallery say from a position on
abbrev pub OneItemsReply : Type 0
OneItemsReply =
    (k l m n : Marks) (app : App) (moment : ℕ) (gallery : List ℕ) (from : ℕ)
    (o : Option SessionState) (s t u v : Option Tables) (said said' : List ℕ) → IsSoundApp app
    → HoldsIfLive app o
    → AreKnown app (rows_told t) → rows_told t ≡ rows_told v
    → ShowsItemsTo (SilenceCause k l) app moment gallery from o s said t
    → ShowsItemsTo (SilenceCause m n) app moment gallery from o u said' v → said ≡ said'

-- ---- rows visited

-- the formulas of templates visit one number of rows for what a screen shows, where all that
-- formulas read is told, over whatever values are fresh where it looks
abbrev pub OneScreenVisits : Type 0
OneScreenVisits =
    (a : App) (s : SessionState) (rows : List (List Row)) (m : ℕ) (values others : ℕ → Data)
    (shown more : List Shown) (n l : ℕ) → IsSoundApp a → HoldsFitting a.names s
    → AreKnown a (Some rows)
    → AreHeld (record { shapes = a.names.schema.tables; rows = rows })
    → AreFreshFor (present a s (Some rows) m) values (is_on_screen a.names s.screen)
    → AreFreshFor (present a s (Some rows) m) others (is_on_screen a.names s.screen)
    → ScreenVisits a s rows m values shown n → ScreenVisits a s rows m others more l → n ≡ l

-- and for the items of a gallery from a position on, where these are given or none are
abbrev pub OneItemsVisit : Type 0
OneItemsVisit =
    (a : App) (s : SessionState) (rows : List (List Row)) (m : ℕ) (values others : ℕ → Data)
    (g from : ℕ) (o : Option Items) (n l : ℕ) → IsSoundApp a → HoldsFitting a.names s
    → AreKnown a (Some rows)
    → AreHeld (record { shapes = a.names.schema.tables; rows = rows }) → IsGalleryOf a.names g
    → AreFreshFor (present a s (Some rows) m) values (is_it g)
    → AreFreshFor (present a s (Some rows) m) others (is_it g)
    → GivenItemsVisit a s rows m values g from o n → GivenItemsVisit a s rows m others g from o l
    → n ≡ l
