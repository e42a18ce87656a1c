-- Formulas as rose trees: a position, a head, and the parts under it.
use Rattle.std.specs.Prelude.{ℕ, suc, ◌+◌, ℤ, Bool, List, [], ◌∷◌}
use Rattle.fx_core.specs.declared.expr.FieldName.{FieldName}
use Rattle.fx_core.specs.declared.expr.Op.{Op}

-- what stands at a node, without its parts; of the names of fields also the positions
pub data Head : Type 0 where
  num : ℤ → Head
  text : List ℕ → Head
  truth : Bool → Head
  name : List ℕ → Head
  global : List ℕ → Head
  dot : List ℕ → Head
  call : List ℕ → Head
  neg : Head
  opposite : Head
  percent : Head
  pair : Op → Head
  joined : Head
  all : Head
  any : Head
  chain : Head
  alias : List ℕ → Head
  rec : List (List ℕ) → List ℕ → Head
  list : Head
  woven : Head

mutual
  -- the position of the first token, the head, and the parts in order
  pub data Tree : Type 0 where
    node : ℕ → Head → Forest → Tree

  pub data Forest : Type 0 where
    none : Forest
    more : Tree → Forest → Forest

-- the parts, one after another
abbrev pub forest : List Tree → Forest
forest [] = none
forest (t ∷ ts) = more t (forest ts)

-- a field, with its name
abbrev pub NamedTree : Type 0
NamedTree = FieldName × Tree

-- the names of fields, in order
abbrev pub tree_field_names : List NamedTree → List (List ℕ)
tree_field_names [] = []
tree_field_names (f ∷ fs) = f.0.text ∷ tree_field_names fs

-- where they stand, in order
abbrev pub places_of : List NamedTree → List ℕ
places_of [] = []
places_of (f ∷ fs) = f.0.at ∷ places_of fs

-- the formulas of fields, in order
abbrev pub field_trees : List NamedTree → Forest
field_trees [] = none
field_trees (f ∷ fs) = more f.1 (field_trees fs)

-- how many nodes a tree has
abbrev mutual
  pub tree_size : Tree → ℕ
  tree_size (node at h ts) = suc (forest_size ts)

  pub forest_size : Forest → ℕ
  forest_size none = 0
  forest_size (more t ts) = suc (tree_size t) + forest_size ts
