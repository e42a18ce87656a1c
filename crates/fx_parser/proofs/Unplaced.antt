-- Positions count nothing.
use Rattle.std.proofs.Common.{◌≡◌, ℕ, ◌+◌, Bool, true, false, cond, refl, ap, arith, leb}
use Rattle.fx_core.specs.declared.expr.Op.{Op}
use Rattle.fx_core.specs.Tree.{Tree, node, Head, Forest, none, more}
use Rattle.fx_core.specs.Tree as tree
use Rattle.fx_grammar.specs.declared.line.Join.TheVariants as join
use Rattle.fx_grammar.specs.declared.line.Left.TheVariants as left
use Rattle.fx_grammar.specs.declared.line.Line.{Line}
use Rattle.fx_grammar.specs.declared.line.Line.TheVariants.{Chain, Several, By, Prefix, Percent, Access, Atom}
use Rattle.fx_parser.specs.Printing.{looseness, left_line, right_line, is_several, line_of}
use Rattle.fx_parser.specs.SameTree.{unplaced, all_unplaced}
use Rattle.fx_parser.proofs.Weights.{extra, weight, weight_part, weight_pair, weight_parts, weight_further, weight_strands}

several_unplaced : (ts : Forest) → is_several (all_unplaced ts) ≡ is_several ts
several_unplaced none = refl
several_unplaced (more t none) = refl
several_unplaced (more t (more u us)) = refl

line_unplaced : (t : Tree) → line_of (unplaced t) ≡ line_of t
line_unplaced (node at tree.all ts) = ap (λ x. cond x (Several join.And) Atom) (several_unplaced ts)
line_unplaced (node at tree.any ts) = ap (λ x. cond x (Several join.Or) Atom) (several_unplaced ts)
line_unplaced (node at h ts) = refl

extra_unplaced : (b : ℕ) (l : Line) (t : Tree) → extra b l (unplaced t) ≡ extra b l t
extra_unplaced b l t = ap (λ k. cond (leb (looseness k) (looseness l)) 0 b) (line_unplaced t)

by_several : (x y : Bool) (p q r s : ℕ) → x ≡ y → p ≡ r → q ≡ s → cond x p q ≡ cond y r s
by_several true true p q r s e f g = f
by_several false false p q r s e f g = g
by_several true false p q r s e f g = absurd cc
by_several false true p q r s e f g = absurd cc

mutual
  pub weight_unplaced : (b c : ℕ) (t : Tree) → weight b c (unplaced t) ≡ weight b c t
  weight_unplaced b c (node at (tree.dot cs) ts) = part_unplaced b c Access ts
  weight_unplaced b c (node at (tree.call cs) ts) = ap (λ x. b + x) (parts_unplaced b c c Chain ts)
  weight_unplaced b c (node at tree.neg ts) = part_unplaced b c Prefix ts
  weight_unplaced b c (node at tree.opposite ts) = part_unplaced b c Prefix ts
  weight_unplaced b c (node at tree.percent ts) = part_unplaced b c Percent ts
  weight_unplaced b c (node at (tree.pair o) ts) = pair_unplaced b c o ts
  weight_unplaced b c (node at tree.joined ts) = parts_unplaced b c 0 (By left.Sum) ts
  weight_unplaced b c (node at tree.all ts) = by_several (is_several (all_unplaced ts)) (is_several ts) _ _ _ _ (several_unplaced ts) (parts_unplaced b c 0 (By left.Member) ts) (ap (λ x. b + x) (parts_unplaced b c c Chain ts))
  weight_unplaced b c (node at tree.any ts) = by_several (is_several (all_unplaced ts)) (is_several ts) _ _ _ _ (several_unplaced ts) (parts_unplaced b c 0 (Several join.And) ts) (ap (λ x. b + x) (parts_unplaced b c c Chain ts))
  weight_unplaced b c (node at tree.chain ts) = parts_unplaced b c 0 (Several join.Or) ts
  weight_unplaced b c (node at (tree.alias cs) ts) = part_unplaced b c Prefix ts
  weight_unplaced b c (node at (tree.rec ns ps) ts) = parts_unplaced b c c (Several join.Or) ts
  weight_unplaced b c (node at tree.list ts) = parts_unplaced b c c Chain ts
  weight_unplaced b c (node at tree.woven ts) = strands_unplaced b c ts
  weight_unplaced b c (node at h ts) = refl

  part_unplaced : (b c : ℕ) (l : Line) (ts : Forest) → weight_part b c l (all_unplaced ts) ≡ weight_part b c l ts
  part_unplaced b c l none = refl
  part_unplaced b c l (more t none) = let h = weight_unplaced b c t in let i = extra_unplaced b l t in omega (arith, h, i)
  part_unplaced b c l (more t (more u us)) = refl

  pair_unplaced : (b c : ℕ) (o : Op) (ts : Forest) → weight_pair b c o (all_unplaced ts) ≡ weight_pair b c o ts
  pair_unplaced b c o none = refl
  pair_unplaced b c o (more t none) = refl
  pair_unplaced b c o (more t (more u none)) =
      let h = weight_unplaced b c t in
      let i = extra_unplaced b (left_line o) t in
      let j = weight_unplaced b c u in
      let k = extra_unplaced b (right_line o) u in
      omega (arith, h, i, j, k)
  pair_unplaced b c o (more t (more u (more v vs))) = refl

  parts_unplaced : (b c k : ℕ) (l : Line) (ts : Forest) → weight_parts b c k l (all_unplaced ts) ≡ weight_parts b c k l ts
  parts_unplaced b c k l none = refl
  parts_unplaced b c k l (more t ts) = let h = weight_unplaced b c t in let i = extra_unplaced b l t in let j = further_unplaced b c k l ts in omega (arith, h, i, j)

  further_unplaced : (b c k : ℕ) (l : Line) (ts : Forest) → weight_further b c k l (all_unplaced ts) ≡ weight_further b c k l ts
  further_unplaced b c k l none = refl
  further_unplaced b c k l (more t ts) = let h = weight_unplaced b c t in let i = extra_unplaced b l t in let j = further_unplaced b c k l ts in omega (arith, h, i, j)

  strands_unplaced : (b c : ℕ) (ts : Forest) → weight_strands b c (all_unplaced ts) ≡ weight_strands b c ts
  strands_unplaced b c none = refl
  strands_unplaced b c (more t ts) = let h = weight_unplaced b c t in let j = strands_unplaced b c ts in omega (arith, h, j)
