-- The types of variables, collections and formulas, by rounds.
use Rattle.std.specs.Prelude.{◌≡◌, ◌≢◌, ◌<◌, ℕ, zero, suc, List, [], ◌∷◌, ◌++◌, Bool, true, false}
use Rattle.std.specs.Prelude.{◌&&◌, nat_eq, map, length, replicate, codes, Option, Some, None}
use Rattle.std.specs.Prelude.{option_map, Result, Ok, Err, bytes_eq, slice_get}
use Rattle.fx_types.specs.TypeView.{shape}
use Rattle.fx_types.specs.Types.{Shape, blanks}
use Rattle.fx_value.specs.Join.{join_of}
use Rattle.fx_core.specs.declared.functions.Acting.TheVariants as acts
use Rattle.fx_core.specs.declared.signatures.SigShape.{SigShape}
use Rattle.fx_core.specs.declared.signatures.SigShape.TheVariants as sig
use Rattle.fx_core.specs.declared.names.Collection.{Collection}
use Rattle.fx_core.specs.declared.names.ControlName.{ControlName}
use Rattle.fx_core.specs.declared.names.FormulaName.{FormulaName}
use Rattle.fx_core.specs.declared.names.Names.{Names}
use Rattle.fx_core.specs.declared.names.Property.{Property}
use Rattle.fx_core.specs.declared.names.Variable.{Variable}
use Rattle.fx_core.specs.Tree.{Tree, node, Forest, none, more, Head}
use Rattle.fx_core.specs.Tree as tree
use Rattle.fx_core.specs.Term.{Term}
use Rattle.fx_typing.specs.Local.{value, label}
use Rattle.fx_typing.specs.Meaning.{Place, first_match}
use Rattle.fx_typing.specs.Deeds.{rows_collected}
use Rattle.fx_typing.specs.Typing.{judge, judge_whole, outermost_setting}
use Rattle.fx_typing.specs.Parts.{Grant, on_screen, JudgedPart, piece, target, Setting, part_count}
use Rattle.fx_typing.specs.Plans.{called_as, setting_at}

-- a formula of an app: its screen, the gallery whose item it sees, whether it acts, the type that
-- is wanted of it, and its tree
pub record Cell : Type 0 where
  pub screen : Option ℕ
  pub gallery : Option ℕ
  pub acts : Bool
  pub wanted : Option Shape
  pub formula : Tree

-- where a formula is judged under types that are settled, and in a round, where they aren't
abbrev pub place_in_round : Names → Cell → Place
place_in_round n c = record { names = n; screen = c.screen; gallery = c.gallery; settled = true }

abbrev pub placed_in_round : Names → Cell → Place
placed_in_round n c = record { names = n; screen = c.screen; gallery = c.gallery; settled = false }

-- a type that is given to a name: to a global variable, one of a screen, or a collection
pub data GivenType : Type 0 where
  to_global : List ℕ → Shape → GivenType
  to_screen : Option ℕ → List ℕ → Shape → GivenType
  to_collection : List ℕ → Shape → GivenType

-- a part that is broken is known to none of the others
abbrev pub or_unknown : Result JudgedPart (ℕ × ℕ) → JudgedPart
or_unknown (Ok q) = q
or_unknown (Err w) = piece (label [])

abbrev pub part_type : JudgedPart → Option (Term × Shape)
part_type (piece (value a c t)) = Some (c, t)
part_type q = None

-- what a node gives, by its parts
abbrev pub given_by_node : (Shape → GivenType) → Option Shape → List GivenType
given_by_node go (Some t) = go t ∷ []
given_by_node go None = []

abbrev pub value_given : (Shape → GivenType) → JudgedPart → List GivenType
value_given go q = given_by_node go (option_map (λ (x : Term × Shape). x.1) (part_type q))

abbrev pub rows_given_to : (Shape → GivenType) → List JudgedPart → List GivenType
rows_given_to go [] = []
rows_given_to go (q ∷ qs) = given_by_node go (option_map
    (λ (x : Term × Shape). (rows_collected x).1) (part_type q)) ++ rows_given_to go qs

abbrev pub fields_given : Option ℕ → List (List ℕ) → List JudgedPart → List GivenType
fields_given s (n ∷ ns) (q ∷ qs) = value_given (to_screen s n) q ++ fields_given s ns qs
fields_given s _ _ = []

abbrev pub call_gives : Option SigShape → List JudgedPart → List GivenType
call_gives (Some (sig.Act acts.Set)) (target a x ∷ q ∷ []) = value_given (to_global x) q
call_gives (Some (sig.Act acts.Collect)) (target a x ∷ qs) = rows_given_to (to_collection x) qs
call_gives (Some (sig.Act acts.ClearCollect)) (target a x ∷ qs) = rows_given_to (to_collection x) qs
call_gives s qs = []

abbrev pub record_gives : Option ℕ → Grant → List (List ℕ) → List JudgedPart → List GivenType
record_gives s (on_screen b) ns qs = fields_given s ns qs
record_gives s g ns qs = []

abbrev pub node_gives : Place → Setting → Head → List JudgedPart → List GivenType
node_gives p s (tree.call x) qs = call_gives (called_as p.names x) qs
node_gives p s (tree.rec ns ps) qs = record_gives p.screen s.grant ns qs
node_gives p s h qs = []

-- the parts behind the done ones, also where some are broken
abbrev pub seen_parts : Place → Setting → Head → ℕ → List JudgedPart → Forest → List JudgedPart
seen_parts p s h n done none = done
seen_parts p s h n done (more k ks) =
    seen_parts p s h n (done ++ or_unknown (judge p (setting_at p.names s h n done) k) ∷ []) ks

abbrev mutual
  -- what a tree gives, in the order of its text
  pub given_in : Place → Setting → Tree → List GivenType
  given_in p s (node at h ts) = node_gives p s h (seen_parts p s h (part_count ts) [] ts)
      ++ given_in_parts p s h (part_count ts) [] ts

  pub given_in_parts : Place → Setting → Head → ℕ → List JudgedPart → Forest → List GivenType
  given_in_parts p s h n done none = []
  given_in_parts p s h n done (more k ks) =
      given_in p (setting_at p.names s h n done) k
      ++ given_in_parts p s h n (done ++ or_unknown (judge p (setting_at p.names s h n done) k)
      ∷ []) ks

abbrev pub all_given : Names → List Cell → List GivenType
all_given n [] = []
all_given n (c ∷ cs) = given_in (placed_in_round n c) (outermost_setting c.acts) c.formula
    ++ all_given n cs

-- the join of what is given, from the left; a type that doesn't join is passed over
abbrev pub or_same : Shape → Option Shape → Shape
or_same t (Some u) = u
or_same t None = t

abbrev pub join_if : Bool → Shape → Shape → Shape
join_if true t u = or_same t (join_of t u)
join_if false t u = t

-- the same screen, or none for both
abbrev pub is_same_screen : Option ℕ → Option ℕ → Bool
is_same_screen (Some s) (Some r) = nat_eq s r
is_same_screen None None = true
is_same_screen s r = false

abbrev pub variable_join : Variable → Shape → List GivenType → Shape
variable_join v t [] = t
variable_join v t (to_global x u ∷ gs) = variable_join v
    (join_if (is_same_screen None v.screen && bytes_eq v.name x) t u) gs
variable_join v t (to_screen (Some s) x u ∷ gs)
    = variable_join v (join_if (is_same_screen (Some s) v.screen && bytes_eq v.name x) t u) gs
variable_join v t (g ∷ gs) = variable_join v t gs

abbrev pub collection_join : Collection → Shape → List GivenType → Shape
collection_join c t [] = t
collection_join c t (to_collection x u ∷ gs) = collection_join c (join_if (bytes_eq c.name x) t u)
    gs
collection_join c t (g ∷ gs) = collection_join c t gs

-- the type of a formula itself, before it comes to what is wanted of it, and Blank where it has
-- none
abbrev pub type_or_blank : Result (Term × Shape) (ℕ × ℕ) → Shape
type_or_blank (Ok x) = x.1
type_or_blank (Err w) = blanks

abbrev pub cell_type : Names → Option Cell → Shape
cell_type n (Some c) = type_or_blank (judge_whole (place_in_round n c) c.acts None c.formula)
cell_type n None = blanks

abbrev pub formula_type : Names → List Cell → FormulaName → Shape
formula_type n cs f = cell_type n (slice_get cs f.cell)

-- the type of a gallery's `Items` formula, and Blank for other controls and without a formula
abbrev pub items_formula : List Cell → Option (ℕ × Property) → Option Cell
items_formula cs (Some p) = slice_get cs p.1.cell
items_formula cs None = None

abbrev pub items_type : Names → List Cell → ℕ → Shape
items_type n cs k = cell_type n (items_formula cs
    (first_match (λ (p : Property). nat_eq p.control k && bytes_eq p.name (codes "Items")) 0
    n.properties))

abbrev pub items_types : Names → List Cell → ℕ → List ControlName → List Shape
items_types n cs k [] = []
items_types n cs k (c ∷ rest) = items_type n cs k ∷ items_types n cs (suc k) rest

-- the types that a round gives and changes: of variables, collections, formulas, items
pub record Types : Type 0 where
  pub variables : List Shape
  pub collections : List Shape
  pub formulas : List Shape
  pub items : List Shape

abbrev pub round_types : List Shape → List Shape → List Shape → List Shape → Types
round_types vs cs fs is = record { variables = vs; collections = cs; formulas = fs; items = is }

abbrev pub types_in : Names → Types
types_in n =
    round_types (map (λ (v : Variable). shape v.ty) n.variables)
    (map (λ (c : Collection). shape c.ty) n.collections)
    (map (λ (f : FormulaName). shape f.ty) n.formulas)
    (map (λ (c : ControlName). shape c.items) n.controls)

abbrev pub next_types : List Cell → Names → Types
next_types cs n =
    round_types (map (λ (v : Variable). variable_join v blanks (all_given n cs)) n.variables)
    (map (λ (c : Collection). collection_join c blanks (all_given n cs)) n.collections)
    (map (formula_type n cs) n.formulas)
    (items_types n cs 0 n.controls)

-- all types are Blank at first
abbrev pub first_types : Names → Types
first_types n =
    round_types (replicate (length n.variables) blanks) (replicate (length n.collections) blanks)
    (replicate (length n.formulas) blanks) (replicate (length n.controls) blanks)

-- the same names, whatever their types
abbrev pub SameVariable : Variable → Variable → Type 0
SameVariable v w = (v.name ≡ w.name) × (v.screen ≡ w.screen)

abbrev pub SameFormula : FormulaName → FormulaName → Type 0
SameFormula f g = (f.name ≡ g.name) × (f.cell ≡ g.cell)

abbrev pub SameCollection : Collection → Collection → Type 0
SameCollection c d = c.name ≡ d.name

abbrev pub SameControl : ControlName → ControlName → Type 0
SameControl c d = (c.name ≡ d.name) × (c.kind ≡ d.kind) × (c.screen ≡ d.screen)
    × (c.gallery ≡ d.gallery)

abbrev pub AllSame : {A : Type 0} → (A → A → Type 0) → List A → List A → Type 0
AllSame R [] [] = Unit {0}
AllSame R (a ∷ as_one) (b ∷ as_other) = R a b × AllSame R as_one as_other
AllSame R _ _ = ⊥

pub record SameNames (n : Names) (m : Names) : Type 0 where
  pub signatures : n.signatures ≡ m.signatures
  pub schema : n.schema ≡ m.schema
  pub screens : n.screens ≡ m.screens
  pub functions : n.functions ≡ m.functions
  pub properties : n.properties ≡ m.properties
  pub controls : AllSame SameControl n.controls m.controls
  pub formulas : AllSame SameFormula n.formulas m.formulas
  pub variables : AllSame SameVariable n.variables m.variables
  pub collections : AllSame SameCollection n.collections m.collections

-- the names with their types after so many rounds
abbrev pub AfterRounds : List Cell → Names → ℕ → Names → Type 0
AfterRounds cs n zero m = SameNames n m × (types_in m ≡ first_types n)
AfterRounds cs n (suc k) m = SameNames n m × (before : Names) × AfterRounds cs n k before
    × (types_in m ≡ next_types cs before)

-- the final types: those after fewer than 256 rounds that a further round keeps
abbrev pub AreFinalTypes : List Cell → Names → Names → Type 0
AreFinalTypes cs n m = (k : ℕ) × (k < 256) × AfterRounds cs n k m × (next_types cs m ≡ types_in m)

-- each of 256 rounds changes a type
abbrev pub StillChanges : List Cell → Names → Type 0
StillChanges cs n = (k : ℕ) → k < 256 → (m : Names) × AfterRounds cs n k m
    × (next_types cs m ≢ types_in m)
