-- What is in a formula is smaller than it.
use Rattle.std.specs.Prelude.{ℕ, ◌+◌, ◌≤◌, List, [], ◌∷◌}
use Rattle.std.proofs.Common.{arith}
use Rattle.fx_core.specs.Tree.{Tree, NamedTree, forest, field_trees, tree_size, forest_size}
use Rattle.fx_core.specs.TreeView.{branch}
use Rattle.fx_core.specs.declared.expr.Node.{Node}
use Rattle.fx_core.specs.declared.expr.Node.TheVariants as n
use Rattle.fx_core.specs.declared.expr.Args.TheDeep.{deep-Node}
use Rattle.fx_core.specs.declared.expr.Args.TheShapes.{weighed-Parts-items-at-2}
use denote.Param.Weighed.{most}

pub node_falls : (at : ℕ) (x : Node) → deep-Node x ≤ tree_size (branch at x)
node_falls at (n.Num z) = omega arith
node_falls at (n.Text cs) = omega arith
node_falls at (n.Truth b) = omega arith
node_falls at (n.Name x) = omega arith
node_falls at (n.Global x) = omega arith
node_falls at (n.Dot e x) = omega arith
node_falls at (n.Call x es) = omega arith
node_falls at (n.Neg e) = omega arith
node_falls at (n.Not e) = omega arith
node_falls at (n.Percent e) = omega arith
node_falls at (n.Pair o a b) = omega arith
node_falls at (n.Joined es) = omega arith
node_falls at (n.And es) = omega arith
node_falls at (n.Or es) = omega arith
node_falls at (n.Chain es) = omega arith
node_falls at (n.Alias e x) = omega arith
node_falls at (n.Rec fs) = omega arith
node_falls at (n.List es) = omega arith
node_falls at (n.Woven es) = omega arith

pub trees_fall : (ts : List Tree) → most (λ t. tree_size t + 1) ts ≤ forest_size (forest ts)
trees_fall [] = omega arith
trees_fall (t ∷ ts) = omega (arith, trees_fall ts)

-- how deep a field is, as the type's size has it
abbrev pub tree_field_depth : NamedTree → ℕ
tree_field_depth f = weighed-Parts-items-at-2.weight Tree (λ t. tree_size t + 1) f

field_depth-le : (f : NamedTree) → tree_field_depth f ≤ tree_size f.1 + 1
field_depth-le f = omega arith

pub tree_fields_fall : (fs : List NamedTree) → most tree_field_depth fs
    ≤ forest_size (field_trees fs)
tree_fields_fall [] = omega arith
tree_fields_fall (f ∷ fs) = omega (arith, field_depth-le f, tree_fields_fall fs)
