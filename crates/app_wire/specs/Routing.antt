-- Which route a request has.
use Rattle.std.specs.Prelude.{◌≡◌, ◌≢◌, ℕ, ◌<◌, ◌≤◌, ◌+◌, ◌==◌, ◌||◌, Bool, true, List, [], ◌∷◌}
use Rattle.std.specs.Prelude.{length, slice_index, codes, if◌then◌else◌, Result, Ok, Err}
use Rattle.std.specs.List.{AllZip, list_all}
use Rattle.std.specs.Char.{is_ascii_alphanumeric, is_ascii_digit, is_digit}
use Rattle.std.specs.Str.{IsUtf8}
use Rattle.std.specs.Str.Parse.{digits_value}
use Rattle.percent_encoding.specs.Percent.{percent_decode}
use Rattle.fx_types.specs.Words.{scalars_of}
use Rattle.app_wire.specs.declared.head.Method.{Method}
use Rattle.app_wire.specs.declared.head.Method.TheVariants.{Get, Put, Post, Delete}
use Rattle.app_wire.specs.declared.route.Route.{Route}
use Rattle.app_wire.specs.declared.route.Route.TheVariants.{Begin, End, View, Named, Items, Event}
use Rattle.app_wire.specs.declared.route.Route.TheVariants.{Input, Rows, Edit, Replace}
use Rattle.app_wire.specs.declared.route.Route.TheVariants.{Page, Plan, Graph}
use Rattle.app_wire.specs.declared.route.RouteEnd.{RouteEnd}
use Rattle.app_wire.specs.declared.route.RouteEnd.TheVariants.{NoRoute, WrongMethod, Memory}

-- The parts of a path: what stands between its slashes. The part before the first slash is one too.
abbrev pub with_byte : ℕ → List (List ℕ) → List (List ℕ)
with_byte b [] = (b ∷ []) ∷ []
with_byte b (part ∷ parts) = (b ∷ part) ∷ parts

abbrev pub path_parts : List ℕ → List (List ℕ)
path_parts [] = [] ∷ []
path_parts (b ∷ path) = if b == 47 then [] ∷ path_parts path else with_byte b (path_parts path)

-- A to Z, a to z, 0 to 9, `_` or `-`
abbrev pub is_name_byte : ℕ → Bool
is_name_byte b = is_ascii_alphanumeric b || (b == 95) || (b == 45)

-- a caller's name: 1 to 32 of them
pub record IsCallerName (name : List ℕ) : Type 0 where
  pub some : 1 ≤ length name
  pub few : length name ≤ 32
  pub bytes : list_all is_name_byte name ≡ true

-- each `%` has two hexadecimal digits behind it
abbrev pub HasWholeEscapes : List ℕ → Type 0
HasWholeEscapes bytes =
    (i : ℕ) → i < length bytes → slice_index bytes i ≡ 37
    → (i + 2 < length bytes) × (is_digit (slice_index bytes (i + 1)) 16 ≡ true)
    × (is_digit (slice_index bytes (i + 2)) 16 ≡ true)

-- The name of a gallery or a table, percent-encoded: at least one byte. It is UTF-8 as it stands,
-- and once it is decoded.
pub record IsTitle (bytes : List ℕ) : Type 0 where
  pub some : 1 ≤ length bytes
  pub escapes : HasWholeEscapes bytes
  pub text : IsUtf8 bytes
  pub decoded : IsUtf8 (percent_decode bytes)

-- a number: 1 to 10 digits, of 32 bits
pub record IsRouteNumber (bytes : List ℕ) : Type 0 where
  pub some : 1 ≤ length bytes
  pub few : length bytes ≤ 10
  pub digits : list_all is_ascii_digit bytes ≡ true
  pub within : digits_value 10 bytes ≤ 4294967295

-- what a part of a path may say: a word of the route, the name of a caller, that of a gallery or a
-- table, or a number
pub data RoutePart : Type 0 where
  word : List ℕ → RoutePart
  caller : List ℕ → RoutePart
  title : List ℕ → RoutePart
  number : ℕ → RoutePart

-- These bytes say it. A caller's name is taken as it stands, and a title is decoded once.
abbrev pub SaysPart : List ℕ → RoutePart → Type 0
SaysPart bytes (word text) = bytes ≡ text
SaysPart bytes (caller name) = IsCallerName bytes × (name ≡ bytes)
SaysPart bytes (title name) = IsTitle bytes × (name ≡ scalars_of (percent_decode bytes))
SaysPart bytes (number n) = IsRouteNumber bytes × (n ≡ digits_value 10 bytes)

-- THE routes: what their paths say, part by part behind the first slash
abbrev pub route_path : Route → List RoutePart
route_path (Begin name) = word (codes "s") ∷ caller name ∷ []
route_path (End name) = word (codes "s") ∷ caller name ∷ []
route_path (View name) = word (codes "s") ∷ caller name ∷ word (codes "view") ∷ []
route_path (Named name) = word (codes "s") ∷ caller name ∷ word (codes "named") ∷ []
route_path (Items name gallery from) = word (codes "s") ∷ caller name ∷ word (codes "items")
    ∷ title gallery ∷ number from ∷ []
route_path (Event name) = word (codes "s") ∷ caller name ∷ word (codes "event") ∷ []
route_path (Input name) = word (codes "s") ∷ caller name ∷ word (codes "input") ∷ []
route_path (Rows name) = word (codes "desk") ∷ caller name ∷ word (codes "rows") ∷ []
route_path (Edit name) = word (codes "desk") ∷ caller name ∷ word (codes "edit") ∷ []
route_path (Replace name) = word (codes "desk") ∷ caller name ∷ word (codes "app") ∷ []
route_path (Page name after) = word (codes "rows") ∷ title name ∷ number after ∷ []
route_path Plan = word (codes "plan") ∷ []
route_path Graph = word (codes "graph") ∷ []

-- the route is one of this path, whatever the method
abbrev pub HasPath : List ℕ → Route → Type 0
HasPath path route = AllZip SaysPart (path_parts path) (word [] ∷ route_path route)

-- and their methods
abbrev pub method_of : Route → Method
method_of (Begin name) = Put
method_of (End name) = Delete
method_of (View name) = Get
method_of (Named name) = Get
method_of (Items name gallery from) = Get
method_of (Event name) = Post
method_of (Input name) = Post
method_of (Rows name) = Post
method_of (Edit name) = Post
method_of (Replace name) = Post
method_of (Page name after) = Get
method_of Plan = Get
method_of Graph = Get

-- The answer to a method and a path: the route that has both; WrongMethod exactly where the path
-- has routes, none of them with this method; NoRoute exactly where it has none. Want of memory may
-- stand anywhere.
abbrev pub Routing : Method → List ℕ → Result Route RouteEnd → Type 0
Routing method path (Ok route) = HasPath path route × (method_of route ≡ method)
Routing method path (Err WrongMethod) = ((route : Route) × HasPath path route)
    × ((route : Route) → HasPath path route → method_of route ≢ method)
Routing method path (Err NoRoute) = (route : Route) → HasPath path route → ⊥
Routing method path (Err Memory) = Unit {0}

-- want of memory aside, a method and a path have one answer
abbrev pub IsOneRoute : Type 0
IsOneRoute =
    (method : Method) (path : List ℕ) (a b : Result Route RouteEnd)
    → a ≢ Err Memory → b ≢ Err Memory → Routing method path a → Routing method path b → a ≡ b
