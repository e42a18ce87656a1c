-- Trees of formulas, and the names in a set.
use Rattle.std.specs.Prelude.{ℕ, Bool, List, Option}
use Rattle.std.specs.BTreeSet.{BTreeSet, contains}
use Rattle.std.specs.Cmp.Lexicographic.{slice_cmp}
use Rattle.std.specs.Ordering.{nat_cmp}
use Rattle.fx_core.specs.declared.signatures.Signature.{Signature}
use Rattle.fx_core.specs.Tree.{Tree, node, Forest}
use Rattle.app_names.specs.declared.declarations.Declared.{Declared}
use Rattle.app_names.specs.Declarations.{declared_at}

-- the parts of a tree
abbrev pub below : Tree → Forest
below (node at h ts) = ts

-- what a tree declares at its top
abbrev pub declared_here : List Signature → Option ℕ → Tree → List Declared
declared_here functions screen (node at h ts) = declared_at functions screen h ts

-- the set has this name
abbrev pub is_name_in_set : BTreeSet (List ℕ) → List ℕ → Bool
is_name_in_set given = contains (slice_cmp nat_cmp) given
