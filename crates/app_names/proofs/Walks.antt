-- What trees declare, part by part.
use Rattle.std.proofs.Common.{◌≡◌, ℕ, zero, suc, ◌<◌, List, [], ◌∷◌, length, get_or, ap, arith}
use Rattle.fx_core.specs.Tree.{Tree, NamedTree, forest, field_trees, tree_size, forest_size}

-- a part is smaller than all of them
pub part_is_smaller : (ts : List Tree) (i : ℕ) (t : Tree) → i < length ts → t ≡ get_or ts i t → tree_size t < forest_size (forest ts)
part_is_smaller [] i t below is = absurd (omega arith)
part_is_smaller (u ∷ us) zero t below is = rw is (omega arith)
part_is_smaller (u ∷ us) (suc i) t below is = omega (arith, part_is_smaller us i t (omega arith) is)

pub field_is_smaller : (fs : List NamedTree) (i : ℕ) (f : NamedTree) → i < length fs → f ≡ get_or fs i f → tree_size f.1 < forest_size (field_trees fs)
field_is_smaller [] i f below is = absurd (omega arith)
field_is_smaller (g ∷ gs) zero f below is = let e = ap (λ (x : NamedTree). tree_size x.1) is in omega arith
field_is_smaller (g ∷ gs) (suc i) f below is = omega (arith, field_is_smaller gs i f (omega arith) is)
