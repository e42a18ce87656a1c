-- What is said to sessions that ask for their view, or for the items of a gallery.
use Rattle.std.specs.Prelude.{◌≡◌, ◌≤◌, ℕ, List, Option, Some, None, IsSome}
use Rattle.std.specs.List.{AllByRecursion}
use Rattle.recalc.specs.app_cells.declared.app.App.{App}
use Rattle.recalc.specs.app_semantics.Present.{Present, present}
use Rattle.session_views.specs.Bounds.{AreMade, AreSteps, items_steps, shown_steps}
use Rattle.session_views.specs.Galleries.{gallery_named}
use Rattle.session_views.specs.Looking.{is_it, is_on_screen}
use Rattle.session_views.specs.Views.{AreFreshItems, IsFreshView}
use Rattle.session_views.specs.Visits.{AreRowsVisited, GivenItemsVisit, ScreenVisits}
use Rattle.app_wire.specs.ReplyBytes.{refusal, reply}
use Rattle.fx_base.specs.Silence.{MayFallSilent}
use Rattle.fx_base.specs.Telling.{Stays}
use Rattle.fx_core.specs.declared.names.Names.{Names}
use Rattle.recalc.specs.Kept.{CacheState}
use Rattle.numbered_requests.specs.Directory.{find}
use Rattle.numbered_requests.specs.declared.directory.Named.{Named}
use Rattle.row_keeper.specs.Tables.{Tables, rows_told}
use Rattle.row_queries.specs.declared.rows.Row.{Row}
use Rattle.session_state.specs.Changes.{FitsNames}
use Rattle.session_state.specs.Sessions.{SessionState}
use Rattle.view_text.specs.ViewText.{items_text, view_text}
use Rattle.view_text.specs.declared.views.Items.{Items}
use Rattle.view_text.specs.declared.views.View.{View}

-- each session fits the names of an app
abbrev pub LiveSessionsFit : Names → List (Named SessionState) → Type 0
LiveSessionsFit n sessions = AllByRecursion (λ (x : Named SessionState). FitsNames n x.it) sessions

-- ---- views

-- a live session is shown its view at this moment, over the rows of tables, which stay; there is no
-- other (11)
abbrev pub ShowsViewTo : Type 0 → App → ℕ → Option SessionState → Option Tables → List ℕ
    → Option Tables → Type 0
ShowsViewTo lost app moment None tables said tables' = (said ≡ refusal 11) × (tables' ≡ tables)
ShowsViewTo lost app moment (Some s) tables said tables' =
    ((v : View) × ∥ IsFreshView (present app s (rows_told tables') moment) v ∥₁
    × (said ≡ reply 200 (view_text v))) × MayFallSilent lost Stays tables tables'

-- THE COST OF A VIEW: one step at most for each cell that is needed for it, wasn't clean, and isn't
-- cut off; and one for each formula of a template and item shown
abbrev pub CostsView : App → SessionState → CacheState → CacheState → ℕ → ℕ → List ℕ → Type 0
CostsView a s old new before after said =
    (v : View) × (said ≡ reply 200 (view_text v))
    × AreSteps a (is_on_screen a.names s.screen) old new (shown_steps a.names v.shown) before after

-- THE ROWS THAT A VIEW VISITS, where those of tables are these: of the same cells and formulas
abbrev pub VisitsView : App → SessionState → List (List Row) → ℕ → CacheState → CacheState → ℕ → ℕ
    → ℕ → List ℕ → Type 0
VisitsView a s rows m old new steps before now said =
    ∥ ((v : View) × (said ≡ reply 200 (view_text v))
    × AreRowsVisited a s rows m (is_on_screen a.names s.screen) old new
    (λ values. ScreenVisits a s rows m values v.shown) steps before now) ∥₁

-- THE route of views
abbrev pub ShowsView : Type 0 → ℕ → App → List ℕ → List (Named SessionState) → Option Tables
    → List ℕ → Option Tables → Type 0
ShowsView lost moment app name sessions tables said tables'
    = ShowsViewTo lost app moment (find name sessions) tables said tables'

-- the check that calls no keeper is passed: the session is live
abbrev pub ReachesView : List ℕ → List (Named SessionState) → Type 0
ReachesView name sessions = IsSome (find name sessions)

-- ---- items

-- the items that are given; where none are, the gallery isn't shown (17)
abbrev pub items_reply : Option Items → List ℕ
items_reply (Some i) = reply 200 (items_text i)
items_reply None = refusal 17

-- the items of the gallery of this number over what a present tells, if there is one (15). The rows
-- of tables stay.
abbrev pub SaysItemsOf : Type 0 → Present → ℕ → Option ℕ → Option Tables → List ℕ → Option Tables
    → Type 0
SaysItemsOf lost p from None tables said tables' = (said ≡ refusal 15) × (tables' ≡ tables)
SaysItemsOf lost p from (Some g) tables said tables'
    = ((o : Option Items) × ∥ AreFreshItems p g from o ∥₁ × (said ≡ items_reply o))
    × MayFallSilent lost Stays tables tables'

-- THE COST OF ITEMS, counted like that of a view: of the gallery of this number, if there is one
abbrev pub CostsItems : App → Option ℕ → CacheState → CacheState → ℕ → ℕ → List ℕ → Type 0
CostsItems a None old new before after said = (new ≡ old) × (after ≡ before)
CostsItems a (Some g) old new before after said
    = (o : Option Items) × (said ≡ items_reply o)
    × AreSteps a (is_it g) old new (items_steps a.names g o) before after

-- THE ROWS THAT ITEMS VISIT, likewise
abbrev pub VisitsItems : App → SessionState → List (List Row) → ℕ → ℕ → Option ℕ → CacheState
    → CacheState → ℕ → ℕ → ℕ → List ℕ → Type 0
VisitsItems a s rows m from None old new steps before now said = now ≤ before
VisitsItems a s rows m from (Some g) old new steps before now said =
    ∥ ((o : Option Items) × (said ≡ items_reply o)
    × AreRowsVisited a s rows m (is_it g) old new
    (λ values. GivenItemsVisit a s rows m values g from o) steps before now) ∥₁

-- the cells are clean to which the items look
abbrev pub MakesItems : App → Option ℕ → CacheState → Type 0
MakesItems a None c = Unit {0}
MakesItems a (Some g) c = AreMade a (is_it g) c

-- the items of the gallery of this name, from a position on
abbrev pub SaysItems : Type 0 → Present → List ℕ → ℕ → Option Tables → List ℕ → Option Tables
    → Type 0
SaysItems lost p gallery from tables said tables'
    = SaysItemsOf lost p from (gallery_named gallery p.app.names) tables said tables'

-- to a live session, as it is at this moment; there is no other (11)
abbrev pub ShowsItemsTo : Type 0 → App → ℕ → List ℕ → ℕ → Option SessionState → Option Tables
    → List ℕ → Option Tables → Type 0
ShowsItemsTo lost app moment gallery from None tables said tables'
    = (said ≡ refusal 11) × (tables' ≡ tables)
ShowsItemsTo lost app moment gallery from (Some s) tables said tables'
    = SaysItems lost (present app s (rows_told tables') moment) gallery from tables said tables'

-- THE route of items: no session (11), no gallery (15), a gallery that isn't shown (17), or its
-- items from a position on
abbrev pub ShowsItems : Type 0 → ℕ → App → List ℕ → List ℕ → ℕ → List (Named SessionState)
    → Option Tables → List ℕ → Option Tables → Type 0
ShowsItems lost moment app name gallery from sessions tables said tables'
    = ShowsItemsTo lost app moment gallery from (find name sessions) tables said tables'

-- the checks that call no keeper are passed: the session is live, and there is such a gallery
abbrev pub ReachesItems : App → List ℕ → List ℕ → List (Named SessionState) → Type 0
ReachesItems app name gallery sessions = IsSome (find name sessions)
    × IsSome (gallery_named gallery app.names)
