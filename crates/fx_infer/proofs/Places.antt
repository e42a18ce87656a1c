-- The parts of a tree by their places.
use Rattle.std.proofs.Common.{◌≡◌, ◌≢◌, ℕ, zero, suc, ◌<◌, ◌≤◌, List, [], ◌∷◌, length, Some, slice_get, refl, ap, arith}
use Rattle.fx_core.specs.Tree.{Tree, NamedTree, node, Forest, none, more, forest, field_trees, tree_size, forest_size}
use Rattle.fx_typing.specs.Parts.{part_count}
use Rattle.fx_infer.specs.Below.{forest_of, forest_from, tree_depth, forest_depth}

pub none_from : (i : ℕ) → forest_from i none ≡ none
none_from zero = refl
none_from (suc i) = refl

-- behind the only part there is none
pub behind_one : (k : Tree) (i : ℕ) → i ≢ 0 → forest_from i (more k none) ≡ none
behind_one k zero h = absurd (h refl)
behind_one k (suc i) h = none_from i

pub args_in : (ts : List Tree) → part_count (forest ts) ≡ length ts
args_in [] = refl
args_in (t ∷ ts) = ap suc (args_in ts)

pub fields_in : (fs : List NamedTree) → part_count (field_trees fs) ≡ length fs
fields_in [] = refl
fields_in (f ∷ fs) = ap suc (fields_in fs)

pub args_end : (ts : List Tree) (i : ℕ) → length ts ≤ i → forest_from i (forest ts) ≡ none
args_end [] i h = none_from i
args_end (t ∷ ts) zero h = absurd (omega arith)
args_end (t ∷ ts) (suc i) h = args_end ts i (omega arith)

pub args_at : (ts : List Tree) (i : ℕ) (k : Tree) → slice_get ts i ≡ Some k → forest_from i (forest ts) ≡ more k (forest_from (suc i) (forest ts))
args_at [] i k e = absurd cc
args_at (t ∷ ts) zero k e = let q : t ≡ k = cc in ap (λ x. more x (forest ts)) q
args_at (t ∷ ts) (suc i) k e = args_at ts i k e

pub fields_end : (fs : List NamedTree) (i : ℕ) → length fs ≤ i → forest_from i (field_trees fs) ≡ none
fields_end [] i h = none_from i
fields_end (f ∷ fs) zero h = absurd (omega arith)
fields_end (f ∷ fs) (suc i) h = fields_end fs i (omega arith)

pub fields_at : (fs : List NamedTree) (i : ℕ) (k : NamedTree) → slice_get fs i ≡ Some k → forest_from i (field_trees fs) ≡ more k.1 (forest_from (suc i) (field_trees fs))
fields_at [] i k e = absurd cc
fields_at (f ∷ fs) zero k e = let q : f ≡ k = cc in ap (λ (x : NamedTree). more x.1 (field_trees fs)) q
fields_at (f ∷ fs) (suc i) k e = fields_at fs i k e

-- a part is smaller than the whole, less deep, and one of so many
pub part_smaller : (ts : Forest) (i : ℕ) (k : Tree) (ks : Forest) → forest_from i ts ≡ more k ks → tree_size k < forest_size ts
part_smaller none zero k ks e = absurd cc
part_smaller none (suc i) k ks e = absurd cc
part_smaller (more t ts) zero k ks e = let q : t ≡ k = cc in rw (← q) (omega arith)
part_smaller (more t ts) (suc i) k ks e = omega (arith, part_smaller ts i k ks e)

pub part_shallow : (ts : Forest) (i : ℕ) (k : Tree) (ks : Forest) → forest_from i ts ≡ more k ks → tree_depth k ≤ forest_depth ts
part_shallow none zero k ks e = absurd cc
part_shallow none (suc i) k ks e = absurd cc
part_shallow (more t ts) zero k ks e = let q : t ≡ k = cc in rw (← q) (omega arith)
part_shallow (more t ts) (suc i) k ks e = omega (arith, part_shallow ts i k ks e)

pub part_within : (ts : Forest) (i : ℕ) (k : Tree) (ks : Forest) → forest_from i ts ≡ more k ks → i < part_count ts
part_within none zero k ks e = absurd cc
part_within none (suc i) k ks e = absurd cc
part_within (more t ts) zero k ks e = omega arith
part_within (more t ts) (suc i) k ks e = omega (arith, part_within ts i k ks e)

pub size_is : (w : Tree) → tree_size w ≡ suc (forest_size (forest_of w))
size_is (node at h ts) = refl

pub depth_is : (w : Tree) → tree_depth w ≡ suc (forest_depth (forest_of w))
depth_is (node at h ts) = refl
