-- The parts of a tree, and how deep it is.
use Rattle.std.specs.Prelude.{ℕ, zero, suc, max}
use Rattle.fx_core.specs.Tree.{Tree, node, Forest, none, more}

-- the parts under a node
abbrev pub forest_of : Tree → Forest
forest_of (node at h ts) = ts

-- the parts from a place on
abbrev pub forest_from : ℕ → Forest → Forest
forest_from zero ts = ts
forest_from (suc i) none = none
forest_from (suc i) (more k ks) = forest_from i ks

-- how many nodes stand above one another, at most
abbrev mutual
  pub tree_depth : Tree → ℕ
  tree_depth (node at h ts) = suc (forest_depth ts)

  pub forest_depth : Forest → ℕ
  forest_depth none = 0
  forest_depth (more t ts) = max (tree_depth t) (forest_depth ts)
