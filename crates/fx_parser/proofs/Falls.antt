-- Parts are smaller than what they are parts of.
use Rattle.std.proofs.Common.{◌≡◌, ℕ, zero, suc, ◌+◌, ◌*◌, ◌<◌, ◌≤◌, List, [], ◌∷◌, length, get_or, ap, arith}
use Rattle.fx_core.specs.Tree.{Tree, NamedTree, node, Head, forest, field_trees, tree_size, forest_size}

pub part_falls : (ps : List Tree) (i : ℕ) (d : Tree) → i < length ps → tree_size (get_or ps i d) + 1 ≤ forest_size (forest ps)
part_falls [] i d h = absurd (omega arith)
part_falls (p ∷ ps) zero d h = omega arith
part_falls (p ∷ ps) (suc i) d h = let k = part_falls ps i d (omega arith) in omega arith

pub field_falls : (fs : List NamedTree) (i : ℕ) (d : NamedTree) → i < length fs → tree_size (get_or fs i d).1 + 1 ≤ forest_size (field_trees fs)
field_falls [] i d h = absurd (omega arith)
field_falls (f ∷ fs) zero d h = omega arith
field_falls (f ∷ fs) (suc i) d h = let k = field_falls fs i d (omega arith) in omega arith

pub parts_fall : (at : ℕ) (h : Head) (t : Tree) (ps qs : List Tree) → node at h (forest qs) ≡ t → ps ≡ qs → 8 * forest_size (forest ps) + 7 < 8 * tree_size t
parts_fall at h t ps qs e f =
    let g = ap tree_size e in
    let k = ap (λ xs. forest_size (forest xs)) f in
    omega arith

pub fields_fall : (at : ℕ) (h : Head) (t : Tree) (fs gs : List NamedTree) → node at h (field_trees gs) ≡ t → fs ≡ gs → 8 * forest_size (field_trees fs) + 7 < 8 * tree_size t
fields_fall at h t fs gs e f =
    let g = ap tree_size e in
    let k = ap (λ xs. forest_size (field_trees xs)) f in
    omega arith
