-- What answering a request costs: steps of evaluation, and rows that the keeper visits.
use Rattle.std.specs.Prelude.{◌≡◌, ◌⊎◌, ℕ, List, Option, Some, None, Ok}
use Rattle.app_cells.specs.declared.app.App.{App}
use Rattle.session_views.specs.Bounds.{AreMade}
use Rattle.session_views.specs.Galleries.{gallery_named}
use Rattle.session_views.specs.Looking.{is_on_screen}
use Rattle.session_views.specs.Shows.{CostsItems, CostsView, MakesItems, VisitsItems, VisitsView}
use Rattle.app_wire.specs.Framing.{Asked}
use Rattle.app_wire.specs.ReplyBytes.{refusal}
use Rattle.app_wire.specs.Routing.{Routing}
use Rattle.app_wire.specs.declared.route.Route.{Route}
use Rattle.app_wire.specs.declared.route.Route.TheVariants.{Begin, End, View, Named as Formulas}
use Rattle.app_wire.specs.declared.route.Route.TheVariants.{Items, Event, Input, Rows, Edit, Page}
use Rattle.app_wire.specs.declared.route.Route.TheVariants.{Plan, Graph, Replace}
use Rattle.recalc.specs.Kept.{HasNumbersLeft, CacheState}
use Rattle.recalc.specs.Steps.{KeepsClean, OncePerCell}
use Rattle.recalc.specs.Visits.{VisitsPerCell, WhereTold}
use Rattle.numbered_requests.specs.Directory.{find}
use Rattle.numbered_requests.specs.declared.directory.Named.{Named}
use Rattle.row_keeper.specs.Tables.{Tables}
use Rattle.row_requests.specs.Page.{VisitsPage}
use Rattle.session_state.specs.Sessions.{SessionState}
use Rattle.office.specs.Leaving.{HaveTurned}
use Rattle.office.specs.NamedReply.{AreNamedMade, named_cells}
use Rattle.office.specs.State.{OfficeState, schema_of}

-- how many steps were taken, and how many rows were visited, up to now
pub record Counts : Type 0 where
  pub steps : ℕ
  pub visited : ℕ

abbrev pub counts : ℕ → ℕ → Counts
counts steps visited = record { steps = steps; visited = visited }

-- no step is taken, and no row visited
abbrev pub IsFree : Counts → Counts → Type 0
IsFree before after = (after.steps ≡ before.steps) × (after.visited ≡ before.visited)

-- ---- what a session is shown

-- what showing something to a session costs, where this was kept for it before, and that is after
abbrev pub Cost : Type 1
Cost = SessionState → CacheState → CacheState → Counts → Counts → Type 0

-- A live session is shown something at this cost, over what is kept under its name; another one is
-- shown nothing, which is free.
abbrev pub CostsTo : Cost → List ℕ → Option SessionState → List (Named CacheState)
    → List (Named CacheState) → Counts → Counts → Type 0
CostsTo C name None old new before after = IsFree before after
CostsTo C name (Some s) old new before after = (c d : CacheState) × (find name old ≡ Some c)
    × (find name new ≡ Some d) × C s c d before after

-- its view: what is looked at is clean then; and, unless numbers run out, what was clean stays so,
-- and steps are bounded, and so are the rows visited, where the tables are told afterwards
abbrev pub CostOfView : App → Option Tables → ℕ → List ℕ → Cost
CostOfView a told m said s c d before after =
    AreMade a (is_on_screen a.names s.screen) d
    × (HasNumbersLeft c.last
    → KeepsClean a c d × CostsView a s c d before.steps after.steps said
    × WhereTold told (λ rows. VisitsView a s rows m c d before.steps before.visited after.visited
    said))

-- likewise the items of a gallery from a position on
abbrev pub CostOfItems : App → Option Tables → ℕ → ℕ → Option ℕ → List ℕ → Cost
CostOfItems a told m from gallery said s c d before after =
    MakesItems a gallery d
    × (HasNumbersLeft c.last
    → KeepsClean a c d × CostsItems a gallery c d before.steps after.steps said
    × WhereTold told (λ rows. VisitsItems a s rows m from gallery c d before.steps before.visited
    after.visited said))

-- and the named formulas
abbrev pub CostOfNamed : App → Option Tables → ℕ → Cost
CostOfNamed a told m s c d before after =
    AreNamedMade a d
    × (HasNumbersLeft c.last
    → KeepsClean a c d × OncePerCell a (named_cells a) c d before.steps after.steps
    × WhereTold told (λ rows. ∥ VisitsPerCell a s rows m (named_cells a) c d before.steps
    after.steps before.visited after.visited ∥₁))

-- ---- routes

-- THE COST of a route. Where nothing is evaluated no step is taken, and where the keeper isn't
-- asked no row is visited. Nothing is said of behaviour formulas.
unfoldable pub CostsBy : Route → ℕ → OfficeState → List ℕ → OfficeState → List (Named CacheState)
    → List (Named CacheState) → Counts → Counts → Type 0
CostsBy (View name) m s said t old new before after
    = CostsTo (CostOfView s.app t.tables m said) name (find name s.sessions) old new before after
CostsBy (Formulas name) m s said t old new before after
    = CostsTo (CostOfNamed s.app t.tables m) name (find name s.sessions) old new before after
CostsBy (Items name gallery from) m s said t old new before after =
    CostsTo (CostOfItems s.app t.tables m from (gallery_named gallery s.app.names) said) name
    (find name s.sessions) old new before after
CostsBy (Page table number) m s said t old new before after =
    (after.steps ≡ before.steps) × VisitsPage (schema_of s.app).tables table number t.tables
    before.visited after.visited
CostsBy (Rows desk) m s said t old new before after = after.steps ≡ before.steps
CostsBy (Edit desk) m s said t old new before after = IsFree before after
CostsBy (Replace desk) m s said t old new before after = after.steps ≡ before.steps
CostsBy (End name) m s said t old new before after = IsFree before after
CostsBy Plan m s said t old new before after = IsFree before after
CostsBy Graph m s said t old new before after = IsFree before after
CostsBy (Begin name) m s said t old new before after = Unit {0}
CostsBy (Event name) m s said t old new before after = Unit {0}
CostsBy (Input name) m s said t old new before after = Unit {0}

-- A request with a route costs what its route does, over what a new day left of the caches; and one
-- without is free.
abbrev pub CostsAnswered : OfficeState → ℕ → List (Named CacheState) → ℕ → Asked → List ℕ
    → OfficeState → List (Named CacheState) → Counts → Counts → Type 0
CostsAnswered s then old moment request said t new before after =
    ((route : Route) × (between : List (Named CacheState))
    × Routing request.method request.path (Ok route)
    × HaveTurned then moment old between
    × CostsBy route moment s said t between new before after)
    ⊎ (((said ≡ refusal 7) ⊎ (said ≡ refusal 8)) × IsFree before after)
