-- How many brackets and commas the text of a tree has, where each `(` counts b and each `,` counts c.
use Rattle.std.proofs.Common.{◌≡◌, ℕ, ◌+◌, ◌<◌, ◌≤◌, Bool, true, false, cond, refl, Some, arith, leb}
use Rattle.std.proofs.lemmas.Bool.Decides.{nat_tests}
use Rattle.fx_lexer.specs.declared.token.Symbol.TheVariants as symbol
use Rattle.fx_core.specs.declared.expr.Op.{Op}
use Rattle.fx_core.specs.Tree.{Tree, node, Head, Forest, none, more}
use Rattle.fx_core.specs.Tree as tree
use Rattle.fx_grammar.specs.declared.item.Meaning.{Meaning}
use Rattle.fx_grammar.specs.declared.item.Meaning.TheVariants as m
use Rattle.fx_grammar.specs.declared.line.Join.TheVariants as join
use Rattle.fx_grammar.specs.declared.line.Separator.{Separator}
use Rattle.fx_grammar.specs.declared.line.Separator.TheVariants.{Between, Comma}
use Rattle.fx_grammar.specs.declared.line.Left.{Left}
use Rattle.fx_grammar.specs.declared.line.Left.TheVariants as left
use Rattle.fx_grammar.specs.declared.line.Line.{Line}
use Rattle.fx_grammar.specs.declared.line.Line.TheVariants.{Chain, Several, By, Prefix, Percent, Access}
use Rattle.fx_grammar.specs.Grammar.{separates, operator, sign, atom_head, callee}
use Rattle.fx_parser.specs.Printing.{looseness, left_line, right_line, is_several, line_of}
use Rattle.fx_parser.specs.Fewest.{token_weight}

-- a bracket pair where the tree's own line is looser
abbrev pub extra : ℕ → Line → Tree → ℕ
extra b l t = cond (leb (looseness (line_of t)) (looseness l)) 0 b

abbrev pub between_count : ℕ → Separator → ℕ
between_count c (Between j) = 0
between_count c Comma = c

abbrev mutual
  pub weight : ℕ → ℕ → Tree → ℕ
  weight b c (node at (tree.dot cs) ts) = weight_part b c Access ts
  weight b c (node at (tree.call cs) ts) = b + weight_parts b c c Chain ts
  weight b c (node at tree.neg ts) = weight_part b c Prefix ts
  weight b c (node at tree.opposite ts) = weight_part b c Prefix ts
  weight b c (node at tree.percent ts) = weight_part b c Percent ts
  weight b c (node at (tree.pair o) ts) = weight_pair b c o ts
  weight b c (node at tree.joined ts) = weight_parts b c 0 (By left.Sum) ts
  weight b c (node at tree.all ts) = cond (is_several ts) (weight_parts b c 0 (By left.Member) ts) (b + weight_parts b c c Chain ts)
  weight b c (node at tree.any ts) = cond (is_several ts) (weight_parts b c 0 (Several join.And) ts) (b + weight_parts b c c Chain ts)
  weight b c (node at tree.chain ts) = weight_parts b c 0 (Several join.Or) ts
  weight b c (node at (tree.alias cs) ts) = weight_part b c Prefix ts
  weight b c (node at (tree.rec ns ps) ts) = weight_parts b c c (Several join.Or) ts
  weight b c (node at tree.list ts) = weight_parts b c c Chain ts
  weight b c (node at tree.woven ts) = weight_strands b c ts
  weight b c (node at h ts) = 0

  pub weight_part : ℕ → ℕ → Line → Forest → ℕ
  weight_part b c l (more t none) = weight b c t + extra b l t
  weight_part b c l ts = 0

  pub weight_pair : ℕ → ℕ → Op → Forest → ℕ
  weight_pair b c o (more t (more u none)) = (weight b c t + extra b (left_line o) t) + (weight b c u + extra b (right_line o) u)
  weight_pair b c o ts = 0

  -- with a separator that counts k
  pub weight_parts : ℕ → ℕ → ℕ → Line → Forest → ℕ
  weight_parts b c k l none = 0
  weight_parts b c k l (more t ts) = (weight b c t + extra b l t) + weight_further b c k l ts

  pub weight_further : ℕ → ℕ → ℕ → Line → Forest → ℕ
  weight_further b c k l none = 0
  weight_further b c k l (more t ts) = k + ((weight b c t + extra b l t) + weight_further b c k l ts)

  pub weight_strands : ℕ → ℕ → Forest → ℕ
  weight_strands b c none = 0
  weight_strands b c (more t ts) = weight b c t + weight_strands b c ts

-- the same with the brackets that it has where this line stands
abbrev pub cost : ℕ → ℕ → Line → Tree → ℕ
cost b c l t = weight b c t + extra b l t

-- no brackets or commas
pub leaf_counts : (g : Meaning) (h : Head) (b c : ℕ) → atom_head g ≡ Some h → token_weight b c g ≡ 0
leaf_counts (m.Symbol s) h b c e = absurd cc
leaf_counts _ h b c e = refl

pub sign_counts : (g : Meaning) (h : Head) (b c : ℕ) → sign g ≡ Some h → token_weight b c g ≡ 0
sign_counts (m.Symbol symbol.OpenParen) h b c e = absurd cc
sign_counts (m.Symbol symbol.Comma) h b c e = absurd cc
sign_counts _ h b c e = refl

pub callee_counts : (g : Meaning) (h : Head) (b c : ℕ) → callee g ≡ Some h → token_weight b c g ≡ 0
callee_counts (m.Symbol s) h b c e = absurd cc
callee_counts _ h b c e = refl

pub operator_counts : (l : Left) (g : Meaning) (o : Op) (b c : ℕ) → operator l g ≡ Some o → token_weight b c g ≡ 0
operator_counts left.Member (m.Symbol symbol.OpenParen) o b c e = absurd cc
operator_counts left.Member (m.Symbol symbol.Comma) o b c e = absurd cc
operator_counts left.Comp (m.Symbol symbol.OpenParen) o b c e = absurd cc
operator_counts left.Comp (m.Symbol symbol.Comma) o b c e = absurd cc
operator_counts left.Sum (m.Symbol symbol.OpenParen) o b c e = absurd cc
operator_counts left.Sum (m.Symbol symbol.Comma) o b c e = absurd cc
operator_counts left.Prod (m.Symbol symbol.OpenParen) o b c e = absurd cc
operator_counts left.Prod (m.Symbol symbol.Comma) o b c e = absurd cc
operator_counts _ _ o b c e = refl

-- a separator
pub divider_counts : (s : Separator) (g : Meaning) (b c : ℕ) → separates s g ≡ true → token_weight b c g ≡ between_count c s
divider_counts Comma (m.Symbol symbol.Comma) b c e = refl
divider_counts Comma _ b c e = absurd cc
divider_counts (Between join.Chain) (m.Symbol symbol.OpenParen) b c e = absurd cc
divider_counts (Between join.Chain) (m.Symbol symbol.Comma) b c e = absurd cc
divider_counts (Between join.Or) (m.Symbol symbol.OpenParen) b c e = absurd cc
divider_counts (Between join.Or) (m.Symbol symbol.Comma) b c e = absurd cc
divider_counts (Between join.And) (m.Symbol symbol.OpenParen) b c e = absurd cc
divider_counts (Between join.And) (m.Symbol symbol.Comma) b c e = absurd cc
divider_counts (Between join.Cat) (m.Symbol symbol.OpenParen) b c e = absurd cc
divider_counts (Between join.Cat) (m.Symbol symbol.Comma) b c e = absurd cc
divider_counts (Between j) _ b c e = refl

-- brackets where lines stand
pub extra_within : (b : ℕ) (l : Line) (t : Tree) → extra b l t ≤ b
extra_within b l t = by (leb (looseness (line_of t)) (looseness l))
  where
    by : (d : Bool) → cond d 0 b ≤ b
    by true = omega arith
    by false = omega arith

pub extra_looser : (b : ℕ) (k l : Line) (t : Tree) → leb (looseness k) (looseness l) ≡ true → extra b l t ≤ extra b k t
extra_looser b k l t e = by (leb (looseness (line_of t)) (looseness l)) (leb (looseness (line_of t)) (looseness k)) refl refl
  where
    by : (d f : Bool) → leb (looseness (line_of t)) (looseness l) ≡ d → leb (looseness (line_of t)) (looseness k) ≡ f → cond d 0 b ≤ cond f 0 b
    by true f g h = omega arith
    by false false g h = omega arith
    by false true g h =
        let i : looseness (line_of t) ≤ looseness k = grind (arith, nat_tests, h) in
        let j : looseness k ≤ looseness l = grind (arith, nat_tests, e) in
        let o : looseness l < looseness (line_of t) = grind (arith, nat_tests, g) in
        absurd (omega (arith, i, j, o))
