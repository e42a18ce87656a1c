-- The variables and collections that formulas declare by giving them a value.
use Rattle.std.specs.Prelude.{ℕ, ◌++◌, List, [], ◌∷◌, Bool, true, false, ◌&&◌, not, Option, Some}
use Rattle.std.specs.Prelude.{None, option_map, map, flat_map, bytes_eq, encode_utf8_all}
use Rattle.std.specs.Prelude.{if◌then◌else◌}
use Rattle.std.specs.List.{filter, list_any}
use Rattle.fx_core.specs.declared.functions.Acting.TheVariants as acts
use Rattle.fx_core.specs.declared.signatures.SigShape.{SigShape}
use Rattle.fx_core.specs.declared.signatures.SigShape.TheVariants as sig
use Rattle.fx_core.specs.declared.signatures.Signature.{Signature}
use Rattle.fx_core.specs.Signatures.{signature_in}
use Rattle.fx_core.specs.declared.names.ControlName.{ControlName}
use Rattle.fx_core.specs.declared.schema.TableShape.{TableShape}
use Rattle.fx_typing.specs.Rounds.{is_same_screen}
use Rattle.app_cells.specs.declared.cell.Cell.{Cell}
use Rattle.app_cells.specs.declared.cell.Spot.{Spot}
use Rattle.app_cells.specs.declared.cell.Spot.TheVariants as spot
use Rattle.app_cells.specs.declared.frame.Frame.{Frame}
use Rattle.fx_core.specs.Tree.{Tree, node, Forest, none, more, Head}
use Rattle.fx_core.specs.Tree as tree
use Rattle.app_names.specs.declared.declarations.Declared.{Declared}
use Rattle.app_names.specs.declared.declarations.Thing.{Thing}
use Rattle.app_names.specs.declared.declarations.Thing.TheVariants as thing

-- what a function declares that names its target: `Set` a global variable, and `Collect` and
-- `ClearCollect` a collection
abbrev pub declared_by : Option SigShape → Option Thing
declared_by (Some (sig.Act acts.Set)) = Some (thing.Variable None)
declared_by (Some (sig.Act acts.Collect)) = Some thing.Collection
declared_by (Some (sig.Act acts.ClearCollect)) = Some thing.Collection
declared_by s = None

abbrev pub shape_called : List Signature → List ℕ → Option SigShape
shape_called functions f = option_map (λ (s : Signature). s.shape)
    (signature_in functions (encode_utf8_all f))

-- the name that stands first among the parts of a call, and the byte of the text at which it begins
abbrev pub first_name : Forest → Option (List ℕ × ℕ)
first_name (more (node at (tree.name x) ts) ks) = Some (x, at)
first_name (more (node at (tree.global x) ts) ks) = Some (x, at)
first_name ts = None

-- what a call declares stands at its name
abbrev pub declaration : Option Thing → Option (List ℕ × ℕ) → List Declared
declaration (Some k) (Some named) = record { thing = k; name = named.0; at = named.1 } ∷ []
declaration k named = []

-- fields of a record are variables of a screen, each at its name
abbrev pub variables_in : ℕ → List (List ℕ) → List ℕ → List Declared
variables_in s (x ∷ xs) (at ∷ ps) = record { thing = thing.Variable (Some s); name = x; at = at }
    ∷ variables_in s xs ps
variables_in s xs ps = []

-- what the first part of `UpdateContext` declares on a screen
abbrev pub declared_by_record : ℕ → Forest → List Declared
declared_by_record s (more (node at (tree.rec xs ps) ts) ks) = variables_in s xs ps
declared_by_record s ts = []

-- `UpdateContext` declares variables of the formula's screen
abbrev pub declared_on : Option ℕ → Option SigShape → Forest → List Declared
declared_on (Some s) (Some (sig.Act acts.UpdateContext)) ts = declared_by_record s ts
declared_on screen shape ts = declaration (declared_by shape) (first_name ts)

abbrev pub declared_at : List Signature → Option ℕ → Head → Forest → List Declared
declared_at functions screen (tree.call f) ts = declared_on screen (shape_called functions f) ts
declared_at functions screen h ts = []

abbrev mutual
  -- what a tree declares, by the functions of a table and on a screen: a node before its parts
  pub declared_in : List Signature → Option ℕ → Tree → List Declared
  declared_in functions screen (node at h ts)
      = declared_at functions screen h ts ++ declared_among functions screen ts

  pub declared_among : List Signature → Option ℕ → Forest → List Declared
  declared_among functions screen none = []
  declared_among functions screen (more t ts)
      = declared_in functions screen t ++ declared_among functions screen ts

-- a global thing: a variable of no screen, or a collection
abbrev pub is_global_thing : Thing → Bool
is_global_thing (thing.Variable (Some s)) = false
is_global_thing k = true

-- What a formula declares: never a global thing with a name that tables, screens, controls or named
-- formulas have.
abbrev pub is_declared : (List ℕ → Bool) → Declared → Bool
is_declared given d = not (is_global_thing d.thing && given d.name)

abbrev pub declared_of : List Signature → (List ℕ → Bool) → Cell → List Declared
declared_of functions given c = filter (is_declared given) (declared_in functions c.screen c.expr)

-- a variable and a collection of one name are two things, and so are variables of two screens
abbrev pub is_kind : Thing → Thing → Bool
is_kind (thing.Variable s) (thing.Variable r) = is_same_screen s r
is_kind thing.Collection thing.Collection = true
is_kind k l = false

abbrev pub is_thing : Declared → Declared → Bool
is_thing d e = is_kind d.thing e.thing && bytes_eq d.name e.name

-- the things that are declared here first, behind these
abbrev pub new_behind : List Declared → List Declared → List Declared
new_behind before [] = []
new_behind before (d ∷ ds) =
    if list_any (is_thing d) before then new_behind before ds else d
    ∷ new_behind (before ++ d ∷ []) ds

-- all things that cells declare behind these, in the order of their first declaration
abbrev pub things_behind : List Signature → (List ℕ → Bool) → List Declared → List Cell
    → List Declared
things_behind functions given before [] = before
things_behind functions given before (c ∷ cs) =
    things_behind functions given (before ++ new_behind before (declared_of functions given c)) cs

-- the names that no variable and no collection may have: of tables, screens, controls and named
-- formulas
abbrev pub own_names : Spot → List (List ℕ)
own_names (spot.Formula x) = x ∷ []
own_names s = []

abbrev pub formula_names : List Cell → List (List ℕ)
formula_names cs = flat_map (λ (c : Cell). own_names c.spot) cs

abbrev pub frame_table_names : Frame → List (List ℕ)
frame_table_names f = map (λ (t : TableShape). t.name) f.schema.tables

abbrev pub control_names : Frame → List (List ℕ)
control_names f = map (λ (c : ControlName). c.name) f.controls

abbrev pub given_names : Frame → List Cell → List (List ℕ)
given_names f cs = frame_table_names f ++ (f.screens ++ (control_names f ++ formula_names cs))

-- one of these names is this
abbrev pub is_name_among : List (List ℕ) → List ℕ → Bool
is_name_among xs x = list_any (λ y. bytes_eq y x) xs

abbrev pub things_of : List Signature → Frame → List Cell → List Declared
things_of functions f cells = things_behind functions (is_name_among (given_names f cells)) [] cells
