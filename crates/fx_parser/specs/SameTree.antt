-- Trees that differ in positions alone.
use Rattle.std.specs.Prelude.{◌≡◌, ℕ, List, []}
use Rattle.fx_core.specs.Tree.{Tree, node, Head, Forest, none, more}
use Rattle.fx_core.specs.Tree as tree
use Rattle.fx_grammar.specs.Formulas.{HasTree}

-- a head without the positions of names
abbrev pub unplaced_head : Head → Head
unplaced_head (tree.rec ns ps) = tree.rec ns []
unplaced_head h = h

-- the tree with 0 for each position
abbrev mutual
  pub unplaced : Tree → Tree
  unplaced (node at h ts) = node 0 (unplaced_head h) (all_unplaced ts)

  pub all_unplaced : Forest → Forest
  all_unplaced none = none
  all_unplaced (more t ts) = more (unplaced t) (all_unplaced ts)

-- the text is a formula of this tree, of any depth and up to positions
abbrev pub HasTreeLike : List ℕ → Tree → Type 0
HasTreeLike cs t = (n : ℕ) × (u : Tree) × (unplaced u ≡ unplaced t) × HasTree n cs u
