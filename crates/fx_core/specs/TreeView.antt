-- What a formula is seen as.
use Rattle.std.specs.Prelude.{ℕ}
use Rattle.fx_core.specs.Tree.{Tree, node, Forest, none, more, forest, tree_field_names, places_of}
use Rattle.fx_core.specs.Tree.{field_trees, Head}
use Rattle.fx_core.specs.Tree as tree
use Rattle.fx_core.specs.declared.expr.Node.{Node}
use Rattle.fx_core.specs.declared.expr.Node.TheVariants as n

-- a node at its position, with the trees of its parts
abbrev pub branch : ℕ → Node → Tree
branch at (n.Num z) = node at (tree.num z) none
branch at (n.Text cs) = node at (tree.text cs) none
branch at (n.Truth b) = node at (tree.truth b) none
branch at (n.Name x) = node at (tree.name x) none
branch at (n.Global x) = node at (tree.global x) none
branch at (n.Dot e x) = node at (tree.dot x) (more e.value none)
branch at (n.Call x es) = node at (tree.call x) (forest es)
branch at (n.Neg e) = node at tree.neg (more e.value none)
branch at (n.Not e) = node at tree.opposite (more e.value none)
branch at (n.Percent e) = node at tree.percent (more e.value none)
branch at (n.Pair o a b) = node at (tree.pair o) (more a.value (more b.value none))
branch at (n.Joined es) = node at tree.joined (forest es)
branch at (n.And es) = node at tree.all (forest es)
branch at (n.Or es) = node at tree.any (forest es)
branch at (n.Chain es) = node at tree.chain (forest es)
branch at (n.Alias e x) = node at (tree.alias x) (more e.value none)
branch at (n.Rec fs) = node at (tree.rec (tree_field_names fs) (places_of fs)) (field_trees fs)
branch at (n.List es) = node at tree.list (forest es)
branch at (n.Woven es) = node at tree.woven (forest es)
