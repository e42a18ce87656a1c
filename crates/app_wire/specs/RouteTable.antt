-- The router's table, the place that it finds, and the parts that are read there.
use Rattle.std.specs.Prelude.{◌≡◌, ℕ, ◌≤◌, List, [], ◌∷◌, ◌++◌, Option, Some, None, length, map}
use Rattle.std.specs.Prelude.{codes, Result, Ok, Err}
use Rattle.std.specs.List.{AllZip}
use Rattle.matchit.specs.Rows.{RowsOf, param_token}
use Rattle.matchit.specs.Router.{RouteOf}
use Rattle.app_wire.specs.Routing.{IsCallerName, IsRouteNumber, IsTitle, HasPath, RoutePart}
use Rattle.app_wire.specs.Routing.{SaysPart, method_of, path_parts}
use Rattle.app_wire.specs.declared.head.Method.{Method}
use Rattle.app_wire.specs.declared.route.Place.{Place}
use Rattle.app_wire.specs.declared.route.Place.TheVariants as place
use Rattle.app_wire.specs.declared.route.Route.{Route}
use Rattle.app_wire.specs.declared.route.Route.TheVariants.{Begin, End, View, Named, Items, Event}
use Rattle.app_wire.specs.declared.route.Route.TheVariants.{Input, Rows, Edit, Replace}
use Rattle.app_wire.specs.declared.route.Route.TheVariants.{Page, Plan, Graph}
use Rattle.app_wire.specs.declared.route.RouteEnd.{RouteEnd}
use Rattle.app_wire.specs.declared.route.RouteEnd.TheVariants.{NoRoute, WrongMethod, Memory}

-- what stands in a part of a place: a word, or something of this kind
pub data Kind : Type 0 where
  text : List ℕ → Kind
  caller : Kind
  title : Kind
  number : Kind

-- the parts of a place behind the first slash
abbrev pub kinds : Place → List Kind
kinds place.Session = text (codes "s") ∷ caller ∷ []
kinds place.View = text (codes "s") ∷ caller ∷ text (codes "view") ∷ []
kinds place.Named = text (codes "s") ∷ caller ∷ text (codes "named") ∷ []
kinds place.Items = text (codes "s") ∷ caller ∷ text (codes "items") ∷ title ∷ number ∷ []
kinds place.Event = text (codes "s") ∷ caller ∷ text (codes "event") ∷ []
kinds place.Input = text (codes "s") ∷ caller ∷ text (codes "input") ∷ []
kinds place.Rows = text (codes "desk") ∷ caller ∷ text (codes "rows") ∷ []
kinds place.Edit = text (codes "desk") ∷ caller ∷ text (codes "edit") ∷ []
kinds place.Replace = text (codes "desk") ∷ caller ∷ text (codes "app") ∷ []
kinds place.Page = text (codes "rows") ∷ title ∷ number ∷ []
kinds place.Plan = text (codes "plan") ∷ []
kinds place.Graph = text (codes "graph") ∷ []

-- a place's pattern: a slash and a word or a parameter for each part
abbrev pub tokens : List Kind → List ℕ
tokens [] = []
tokens (text word ∷ rest) = 47 ∷ (word ++ tokens rest)
tokens (caller ∷ rest) = 47 ∷ param_token ∷ tokens rest
tokens (title ∷ rest) = 47 ∷ param_token ∷ tokens rest
tokens (number ∷ rest) = 47 ∷ param_token ∷ tokens rest

-- a place as the router's route is written, and where the names of its parameters stand in that
abbrev pub route_pattern : Place → List ℕ × List (ℕ × ℕ)
route_pattern place.Session = (codes "/s/{name}", (4, 8) ∷ [])
route_pattern place.View = (codes "/s/{name}/view", (4, 8) ∷ [])
route_pattern place.Named = (codes "/s/{name}/named", (4, 8) ∷ [])
route_pattern place.Items = (
  codes "/s/{name}/items/{gallery}/{from}",
  (4, 8) ∷ (17, 24) ∷ (27, 31)
      ∷ [],
)
route_pattern place.Event = (codes "/s/{name}/event", (4, 8) ∷ [])
route_pattern place.Input = (codes "/s/{name}/input", (4, 8) ∷ [])
route_pattern place.Rows = (codes "/desk/{name}/rows", (7, 11) ∷ [])
route_pattern place.Edit = (codes "/desk/{name}/edit", (7, 11) ∷ [])
route_pattern place.Replace = (codes "/desk/{name}/app", (7, 11) ∷ [])
route_pattern place.Page = (codes "/rows/{table}/{after}", (7, 12) ∷ (15, 20) ∷ [])
route_pattern place.Plan = (codes "/plan", [])
route_pattern place.Graph = (codes "/graph", [])

abbrev pub route_row : Place → RouteOf Place
route_row p = record {
  pattern = tokens (kinds p);
  text = (route_pattern p).0;
  names = (route_pattern p).1;
  value = p;
}

-- all places, in the router's order: a pattern stands after those that go on from it
abbrev pub places : List Place
places =
    place.Replace ∷ place.Edit ∷ place.Rows ∷ place.Graph ∷ place.Plan ∷ place.Page ∷ place.Event
    ∷ place.Input ∷ place.Items ∷ place.Named
    ∷ place.View ∷ place.Session ∷ []

-- the router's rows
unfoldable pub route_table : RowsOf (RouteOf Place)
route_table = map (λ p. (tokens (kinds p), route_row p)) places

-- the place of a row that was found
abbrev pub found_place : Option (RouteOf Place) → Option Place
found_place None = None
found_place (Some r) = Some r.value

-- the router takes these bytes there: a word as it is, and for anything else at least one byte
abbrev pub RoutePartTakes : List ℕ → Kind → Type 0
RoutePartTakes bytes (text word) = bytes ≡ word
RoutePartTakes bytes caller = 1 ≤ length bytes
RoutePartTakes bytes title = 1 ≤ length bytes
RoutePartTakes bytes number = 1 ≤ length bytes

-- the path is that of a place, or of none, whatever stands in its parts
abbrev pub Placed : List ℕ → Option Place → Type 0
Placed path (Some p) = AllZip RoutePartTakes (path_parts path) (text [] ∷ kinds p)
Placed path None = (p : Place) → AllZip RoutePartTakes (path_parts path) (text [] ∷ kinds p) → ⊥

-- the bytes are of this kind
abbrev pub Is : Kind → List ℕ → Type 0
Is (text word) bytes = bytes ≡ word
Is caller bytes = IsCallerName bytes
Is title bytes = IsTitle bytes
Is number bytes = IsRouteNumber bytes

-- a part is read: it says the value, or is not of its kind
abbrev pub RoutePartReads : {A : Type 0} → Kind → (A → RoutePart) → List ℕ → Result A RouteEnd
    → Type 0
RoutePartReads kind part bytes (Ok value) = SaysPart bytes (part value)
RoutePartReads kind part bytes (Err NoRoute) = Is kind bytes → ⊥
RoutePartReads kind part bytes (Err WrongMethod) = ⊥
RoutePartReads kind part bytes (Err Memory) = Unit {0}

-- the place of a route
abbrev pub route_index : Route → Place
route_index (Begin name) = place.Session
route_index (End name) = place.Session
route_index (View name) = place.View
route_index (Named name) = place.Named
route_index (Items name gallery from) = place.Items
route_index (Event name) = place.Event
route_index (Input name) = place.Input
route_index (Rows name) = place.Rows
route_index (Edit name) = place.Edit
route_index (Replace name) = place.Replace
route_index (Page name after) = place.Page
route_index Plan = place.Plan
route_index Graph = place.Graph

-- A route is read at its place: of the routes of this path the one with this method, where one has
-- it; or the path has none there.
abbrev pub RouterFinds : Place → Method → List ℕ → Result Route RouteEnd → Type 0
RouterFinds p method path (Ok route) =
    HasPath path route × (route_index route ≡ p)
    × ((other : Route) → route_index other ≡ p → method_of other ≡ method
    → method_of route ≡ method)
RouterFinds p method path (Err NoRoute) = (route : Route) → route_index route ≡ p
    → HasPath path route → ⊥
RouterFinds p method path (Err WrongMethod) = ⊥
RouterFinds p method path (Err Memory) = Unit {0}
