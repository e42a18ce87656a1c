-- Each formula of a tree has as many commas as its text at least, or the same and as many brackets at least.
use Rattle.std.proofs.Common.{◌≡◌, ℕ, ◌+◌, ◌≤◌, true, false, List, [], ◌∷◌, ◌++◌, cond, refl, ap, ◌∙◌, subst, Some, arith, leb, le-leb}
use Rattle.fx_lexer.specs.declared.token.Symbol.TheVariants as symbol
use Rattle.fx_lexer.specs.declared.token.Word.TheVariants as word
use Rattle.fx_core.specs.declared.expr.Op.{Op}
use Rattle.fx_core.specs.declared.expr.Op.TheVariants as op
use Rattle.fx_core.specs.Tree.{Tree, NamedTree, node, Head, Forest, none, more, forest, tree_field_names, field_trees}
use Rattle.fx_core.specs.Tree as tree
use Rattle.fx_grammar.specs.declared.item.Item.{Item}
use Rattle.fx_grammar.specs.declared.item.Meaning.{Meaning}
use Rattle.fx_grammar.specs.declared.item.Meaning.TheVariants as m
use Rattle.fx_grammar.specs.declared.line.Join.{Join}
use Rattle.fx_grammar.specs.declared.line.Join.TheVariants as join
use Rattle.fx_grammar.specs.declared.line.Separator.{Separator}
use Rattle.fx_grammar.specs.declared.line.Separator.TheVariants.{Between}
use Rattle.fx_grammar.specs.declared.line.Left.{Left}
use Rattle.fx_grammar.specs.declared.line.Left.TheVariants as left
use Rattle.fx_grammar.specs.declared.line.Line.{Line}
use Rattle.fx_grammar.specs.declared.line.Line.TheVariants.{Chain, Several, By, Alias, Prefix, Power, Percent, Access, Atom}
use Rattle.fx_grammar.specs.Grammar.{first_byte, part_of, join_head, operator, sign, atom_head, callee, operand_line, Parses, plain, ended, one, many, first, next, no_alias, aliased, no_sign, signed, base, raised, no_percent, percent, no_dot, dotted, leaf, a_global, a_call, brackets, a_record, a_list, a_weave, Parts, alone, further, Args, no_args, some_args, Field, field, SomeFields, one_field, further_field, Fields, no_fields, some_fields, Strands, no_strands, piece, island}
use Rattle.fx_parser.specs.Printing.{looseness, line_of_op, left_line, right_line, line_of}
use Rattle.fx_parser.specs.Fewest.{token_weight, tokens_weight}
use Rattle.fx_parser.proofs.Weights.{extra, between_count, weight, weight_parts, weight_further, weight_strands, cost, sign_counts, leaf_counts, callee_counts, operator_counts, divider_counts, extra_within, extra_looser}

-- Before the tokens rest stand tokens that count so much at least: w 0 1 commas, and where there are no more, w 1 0 brackets.
pub record Least (w : ℕ → ℕ → ℕ) (ts rest : List Item) : Type 0 where
  pub commas : w 0 1 + tokens_weight 0 1 rest ≤ tokens_weight 0 1 ts
  pub opens : tokens_weight 0 1 ts ≤ w 0 1 + tokens_weight 0 1 rest → w 1 0 + tokens_weight 1 0 rest ≤ tokens_weight 1 0 ts

abbrev LeastIn : Line → List Item → Tree → List Item → Type 0
LeastIn l ts t rest = Least (λ b c. cost b c l t) ts rest

abbrev LeastParts : Separator → List Item → List Tree → List Item → Type 0
LeastParts s ts ps rest = Least (λ b c. weight_parts b c (between_count c s) (part_of s) (forest ps)) ts rest

abbrev LeastFields : List Item → List NamedTree → List Item → Type 0
LeastFields ts fs rest = Least (λ b c. weight_parts b c c (Several join.Or) (field_trees fs)) ts rest

abbrev LeastStrands : List Item → List Tree → List Item → Type 0
LeastStrands ts ps rest = Least (λ b c. weight_strands b c (forest ps)) ts rest

-- less is less
lower : {v w : ℕ → ℕ → ℕ} (ts rest : List Item) → Least v ts rest → ((b c : ℕ) → w b c ≤ v b c) → Least w ts rest
lower ts rest p h =
    let i = h 0 1 in
    let j = h 1 0 in
    let c = p.commas in
    record { commas = omega (arith, i, c); opens = λ e. let k = p.opens (omega (arith, e, i)) in omega (arith, j, k) }

-- a tighter line counts as much at least
looser : (k l : Line) (t : Tree) (ts rest : List Item) → leb (looseness k) (looseness l) ≡ true → LeastIn k ts t rest → LeastIn l ts t rest
looser k l t ts rest e p = lower ts rest p (λ b c. let h = extra_looser b k l t e in omega (arith, h))

-- further parts
further_joins : (b c k : ℕ) (l : Line) (ps : List Tree) (t : Tree) → weight_further b c k l (forest (ps ++ t ∷ [])) ≡ weight_further b c k l (forest ps) + (k + cost b c l t)
further_joins b c k l [] t = omega arith
further_joins b c k l (p ∷ ps) t = let h = further_joins b c k l ps t in omega (arith, h)

parts_join : (b c k : ℕ) (l : Line) (ps : List Tree) (t : Tree) → weight_parts b c k l (forest (ps ++ t ∷ [])) ≤ weight_parts b c k l (forest ps) + (k + cost b c l t)
parts_join b c k l [] t = omega arith
parts_join b c k l (p ∷ ps) t = let h = further_joins b c k l ps t in omega (arith, h)

further_fields_join : (b c k : ℕ) (l : Line) (fs : List NamedTree) (f : NamedTree) → weight_further b c k l (field_trees (fs ++ f ∷ [])) ≡ weight_further b c k l (field_trees fs) + (k + cost b c l f.1)
further_fields_join b c k l [] f = omega arith
further_fields_join b c k l (g ∷ fs) f = let h = further_fields_join b c k l fs f in omega (arith, h)

fields_join : (b c k : ℕ) (l : Line) (fs : List NamedTree) (f : NamedTree) → weight_parts b c k l (field_trees (fs ++ f ∷ [])) ≤ weight_parts b c k l (field_trees fs) + (k + cost b c l f.1)
fields_join b c k l [] f = omega arith
fields_join b c k l (g ∷ fs) f = let h = further_fields_join b c k l fs f in omega (arith, h)

strands_join : (b c : ℕ) (ps : List Tree) (t : Tree) → weight_strands b c (forest (ps ++ t ∷ [])) ≡ weight_strands b c (forest ps) + weight b c t
strands_join b c [] t = omega arith
strands_join b c (p ∷ ps) t = let h = strands_join b c ps t in omega (arith, h)

-- One more: parts before a token that counts k, and a part behind it.
joined : {u v w : ℕ → ℕ → ℕ} (k : ℕ → ℕ) (ts us rest : List Item) (x : Item) → ((b c : ℕ) → token_weight b c x.meaning ≡ k c) → Least u ts (x ∷ us) → Least v us rest
    → ((b c : ℕ) → w b c ≤ u b c + (k c + v b c)) → Least w ts rest
joined k ts us rest x f p q g =
    let a = f 0 1 in
    let b = f 1 0 in
    let c = g 0 1 in
    let d = g 1 0 in
    let e = p.commas in
    let h = q.commas in
    record {
      commas = omega (arith, a, c, e, h);
      opens = λ i.
          let j = p.opens (omega (arith, a, c, e, h, i)) in
          let l = q.opens (omega (arith, a, c, e, h, i)) in
          omega (arith, b, d, j, l);
    }

-- A token that counts nothing before, and one behind.
pub led : {v w : ℕ → ℕ → ℕ} (us rest : List Item) (x : Item) → ((b c : ℕ) → token_weight b c x.meaning ≡ 0) → Least v us rest → ((b c : ℕ) → w b c ≤ v b c) → Least w (x ∷ us) rest
led us rest x f p g =
    let a = f 0 1 in
    let b = f 1 0 in
    let c = g 0 1 in
    let d = g 1 0 in
    let e = p.commas in
    record { commas = omega (arith, a, c, e); opens = λ i. let j = p.opens (omega (arith, a, c, i)) in omega (arith, b, d, j) }

trailed : {w : ℕ → ℕ → ℕ} (ts rest : List Item) (x : Item) → ((b c : ℕ) → token_weight b c x.meaning ≡ 0) → Least w ts (x ∷ rest) → Least w ts rest
trailed ts rest x f p =
    let a = f 0 1 in
    let b = f 1 0 in
    let e = p.commas in
    record { commas = omega (arith, a, e); opens = λ i. let j = p.opens (omega (arith, a, i)) in omega (arith, b, j) }

-- behind `(`
opened : {v w : ℕ → ℕ → ℕ} (us rest : List Item) (x : Item) → x.meaning ≡ m.Symbol symbol.OpenParen → Least v us rest → ((b c : ℕ) → w b c ≤ b + v b c) → Least w (x ∷ us) rest
opened us rest x f p g =
    let a : token_weight 0 1 x.meaning ≡ 0 = ap (token_weight 0 1) f in
    let b : token_weight 1 0 x.meaning ≡ 1 = ap (token_weight 1 0) f in
    let c = g 0 1 in
    let d = g 1 0 in
    let e = p.commas in
    record { commas = omega (arith, a, c, e); opens = λ i. let j = p.opens (omega (arith, a, c, i)) in omega (arith, b, d, j) }

-- a token of this meaning
pub is : (x : Item) (g : Meaning) → x.meaning ≡ g → ((b c : ℕ) → token_weight b c g ≡ 0) → (b c : ℕ) → token_weight b c x.meaning ≡ 0
is x g e h b c = ap (token_weight b c) e ∙ h b c

-- conditions in a call have more commas than the same with operators between them
fewer : (k l : Line) (ts : Forest) → weight_further 0 1 0 l ts ≤ weight_further 0 1 1 k ts
fewer k l none = omega arith
fewer k l (more t ts) =
    let h = fewer k l ts in
    let i = extra_within 0 l t in
    omega (arith, h, i)

-- operators
record OperatorOf (l : Left) (o : Op) : Type 0 where
  in_line : line_of_op o ≡ By l
  on_left : left_line o ≡ By l
  on_right : right_line o ≡ operand_line l

operator_of : (l : Left) (g : Meaning) (o : Op) → operator l g ≡ Some o → OperatorOf l o
operator_of left.Member (m.Word word.In) o e = let f : op.In ≡ o = cc in subst (OperatorOf left.Member) f (record { in_line = refl; on_left = refl; on_right = refl })
operator_of left.Member (m.Word word.ExactIn) o e = let f : op.ExactIn ≡ o = cc in subst (OperatorOf left.Member) f (record { in_line = refl; on_left = refl; on_right = refl })
operator_of left.Comp (m.Symbol symbol.Equal) o e = let f : op.Eq ≡ o = cc in subst (OperatorOf left.Comp) f (record { in_line = refl; on_left = refl; on_right = refl })
operator_of left.Comp (m.Symbol symbol.NotEqual) o e = let f : op.Ne ≡ o = cc in subst (OperatorOf left.Comp) f (record { in_line = refl; on_left = refl; on_right = refl })
operator_of left.Comp (m.Symbol symbol.Less) o e = let f : op.Lt ≡ o = cc in subst (OperatorOf left.Comp) f (record { in_line = refl; on_left = refl; on_right = refl })
operator_of left.Comp (m.Symbol symbol.LessEqual) o e = let f : op.Le ≡ o = cc in subst (OperatorOf left.Comp) f (record { in_line = refl; on_left = refl; on_right = refl })
operator_of left.Comp (m.Symbol symbol.Greater) o e = let f : op.Gt ≡ o = cc in subst (OperatorOf left.Comp) f (record { in_line = refl; on_left = refl; on_right = refl })
operator_of left.Comp (m.Symbol symbol.GreaterEqual) o e = let f : op.Ge ≡ o = cc in subst (OperatorOf left.Comp) f (record { in_line = refl; on_left = refl; on_right = refl })
operator_of left.Sum (m.Symbol symbol.Plus) o e = let f : op.Add ≡ o = cc in subst (OperatorOf left.Sum) f (record { in_line = refl; on_left = refl; on_right = refl })
operator_of left.Sum (m.Symbol symbol.Minus) o e = let f : op.Sub ≡ o = cc in subst (OperatorOf left.Sum) f (record { in_line = refl; on_left = refl; on_right = refl })
operator_of left.Prod (m.Symbol symbol.Star) o e = let f : op.Mul ≡ o = cc in subst (OperatorOf left.Prod) f (record { in_line = refl; on_left = refl; on_right = refl })
operator_of left.Prod (m.Symbol symbol.Slash) o e = let f : op.Div ≡ o = cc in subst (OperatorOf left.Prod) f (record { in_line = refl; on_left = refl; on_right = refl })
operator_of _ _ o e = absurd cc

own_line : (b : ℕ) (l : Line) (t : Tree) → line_of t ≡ l → extra b l t ≡ 0
own_line b l t e =
    let f = ap looseness e in
    let h : leb (looseness (line_of t)) (looseness l) ≡ true = le-leb (looseness (line_of t)) (looseness l) (omega (arith, f)) in
    ap (λ x. cond x 0 b) h

next_is : (l : Left) (ts us rest : List Item) (t u : Tree) (x : Item) (o : Op) (at : ℕ) → operator l x.meaning ≡ Some o → LeastIn (By l) ts t (x ∷ us) → LeastIn (operand_line l) us u rest
    → LeastIn (By l) ts (node at (tree.pair o) (more t (more u none))) rest
next_is l ts us rest t u x o at e p q =
    let h = operator_of l x.meaning o e in
    joined (λ c. 0) ts us rest x (λ b c. operator_counts l x.meaning o b c e)
    p q
    (λ b c.
    let f = own_line b (By l) (node at (tree.pair o) (more t (more u none))) h.in_line in
    let g = ap (λ k. extra b k t) h.on_left in
    let i = ap (λ k. extra b k u) h.on_right in
    omega (arith, f, g, i))

-- heads
leaf_is : (g : Meaning) (h : Head) (at b c : ℕ) → atom_head g ≡ Some h → cost b c Atom (node at h none) ≡ 0
leaf_is (m.Number z) h at b c e = let f : tree.num z ≡ h = cc in subst (λ x. cost b c Atom (node at x none) ≡ 0) f (omega arith)
leaf_is (m.Text cs) h at b c e = let f : tree.text cs ≡ h = cc in subst (λ x. cost b c Atom (node at x none) ≡ 0) f (omega arith)
leaf_is (m.Name cs) h at b c e = let f : tree.name cs ≡ h = cc in subst (λ x. cost b c Atom (node at x none) ≡ 0) f (omega arith)
leaf_is (m.Word word.True) h at b c e = let f : tree.truth true ≡ h = cc in subst (λ x. cost b c Atom (node at x none) ≡ 0) f (omega arith)
leaf_is (m.Word word.False) h at b c e = let f : tree.truth false ≡ h = cc in subst (λ x. cost b c Atom (node at x none) ≡ 0) f (omega arith)
leaf_is _ h at b c e = absurd cc

sign_is : (g : Meaning) (h : Head) (at : ℕ) (t : Tree) (b c : ℕ) → sign g ≡ Some h → cost b c Prefix (node at h (more t none)) ≤ cost b c Prefix t
sign_is (m.Symbol symbol.Minus) h at t b c e = let f : tree.neg ≡ h = cc in subst (λ x. cost b c Prefix (node at x (more t none)) ≤ cost b c Prefix t) f (omega arith)
sign_is (m.Symbol symbol.Bang) h at t b c e = let f : tree.opposite ≡ h = cc in subst (λ x. cost b c Prefix (node at x (more t none)) ≤ cost b c Prefix t) f (omega arith)
sign_is (m.Word word.Not) h at t b c e = let f : tree.opposite ≡ h = cc in subst (λ x. cost b c Prefix (node at x (more t none)) ≤ cost b c Prefix t) f (omega arith)
sign_is _ h at t b c e = absurd cc

one_is : (j : Join) (ts : List Item) (t : Tree) (rest : List Item) → LeastIn (part_of (Between j)) ts t rest → LeastIn (Several j) ts t rest
one_is join.Chain ts t rest p = looser (Several join.Or) (Several join.Chain) t ts rest refl p
one_is join.Or ts t rest p = looser (Several join.And) (Several join.Or) t ts rest refl p
one_is join.And ts t rest p = looser (By left.Member) (Several join.And) t ts rest refl p
one_is join.Cat ts t rest p = looser (By left.Sum) (Several join.Cat) t ts rest refl p

many_is : (j : Join) (ts : List Item) (p q : Tree) (ps : List Tree) (rest : List Item) (at : ℕ) → LeastParts (Between j) ts (p ∷ q ∷ ps) rest → LeastIn (Several j) ts (node at (join_head j) (forest (p ∷ q ∷ ps))) rest
many_is join.Chain ts p q ps rest at h = lower ts rest h (λ b c. omega arith)
many_is join.Or ts p q ps rest at h = lower ts rest h (λ b c. omega arith)
many_is join.And ts p q ps rest at h = lower ts rest h (λ b c. omega arith)
many_is join.Cat ts p q ps rest at h = lower ts rest h (λ b c. omega arith)

first_is : (l : Left) (ts : List Item) (t : Tree) (rest : List Item) → LeastIn (operand_line l) ts t rest → LeastIn (By l) ts t rest
first_is left.Member ts t rest p = looser (By left.Comp) (By left.Member) t ts rest refl p
first_is left.Comp ts t rest p = looser (Several join.Cat) (By left.Comp) t ts rest refl p
first_is left.Sum ts t rest p = looser (By left.Prod) (By left.Sum) t ts rest refl p
first_is left.Prod ts t rest p = looser Alias (By left.Prod) t ts rest refl p

-- calls
abbrev LeastArgs : List Item → List Tree → List Item → Type 0
LeastArgs ts ps rest = Least (λ b c. weight_parts b c c Chain (forest ps)) ts rest

call_is : {w : ℕ → ℕ → ℕ} (x y z : Item) (us rest : List Item) (ps : List Tree) → ((b c : ℕ) → token_weight b c x.meaning ≡ 0) → y.meaning ≡ m.Symbol symbol.OpenParen → z.meaning ≡ m.Symbol symbol.CloseParen
    → ((b c : ℕ) → w b c ≤ b + weight_parts b c c Chain (forest ps)) → LeastArgs us ps (z ∷ rest) → Least w (x ∷ y ∷ us) rest
call_is {w = w} x y z us rest ps f g h e p =
    let i : Least w (y ∷ us) rest = opened us rest y g (trailed us rest z (is z (m.Symbol symbol.CloseParen) h (λ b c. refl)) p) e in
    led (y ∷ us) rest x f i (λ b c. omega arith)

-- two conditions or more in a call have a comma more than with operators
long_call : {w : ℕ → ℕ → ℕ} (k : Line) (x y z : Item) (us rest : List Item) (p q : Tree) (ps : List Tree) → ((b c : ℕ) → token_weight b c x.meaning ≡ 0) → y.meaning ≡ m.Symbol symbol.OpenParen → z.meaning ≡ m.Symbol symbol.CloseParen
    → w 0 1 ≤ weight_parts 0 1 0 k (forest (p ∷ q ∷ ps)) → LeastArgs us (p ∷ q ∷ ps) (z ∷ rest) → Least w (x ∷ y ∷ us) rest
long_call k x y z us rest p q ps f g h e args =
    let a = f 0 1 in
    let b : token_weight 0 1 y.meaning ≡ 0 = ap (token_weight 0 1) g in
    let c : token_weight 0 1 z.meaning ≡ 0 = ap (token_weight 0 1) h in
    let i = args.commas in
    let j = extra_within 0 k p in
    let l = extra_within 0 k q in
    let o = fewer Chain k (forest ps) in
    record { commas = omega (arith, a, b, c, e, i, j, l, o); opens = λ n. absurd (omega (arith, a, b, c, e, i, j, l, o, n)) }

abbrev Calls : Head → ℕ → Item → Item → List Item → List Tree → List Item → Type 0
Calls h at x y us ps rest = LeastIn Atom (x ∷ y ∷ us) (node at h (forest ps)) rest

all_is : (x y z : Item) (us rest : List Item) (ps : List Tree) (at : ℕ) → ((b c : ℕ) → token_weight b c x.meaning ≡ 0) → y.meaning ≡ m.Symbol symbol.OpenParen → z.meaning ≡ m.Symbol symbol.CloseParen
    → LeastArgs us ps (z ∷ rest) → Calls tree.all at x y us ps rest
all_is x y z us rest [] at f g h p = call_is x y z us rest [] f g h (λ b c. omega arith) p
all_is x y z us rest (t ∷ []) at f g h p = call_is x y z us rest (t ∷ []) f g h (λ b c. omega arith) p
all_is x y z us rest (t ∷ u ∷ ps) at f g h p = long_call (By left.Member) x y z us rest t u ps f g h (omega arith) p

any_is : (x y z : Item) (us rest : List Item) (ps : List Tree) (at : ℕ) → ((b c : ℕ) → token_weight b c x.meaning ≡ 0) → y.meaning ≡ m.Symbol symbol.OpenParen → z.meaning ≡ m.Symbol symbol.CloseParen
    → LeastArgs us ps (z ∷ rest) → Calls tree.any at x y us ps rest
any_is x y z us rest [] at f g h p = call_is x y z us rest [] f g h (λ b c. omega arith) p
any_is x y z us rest (t ∷ []) at f g h p = call_is x y z us rest (t ∷ []) f g h (λ b c. omega arith) p
any_is x y z us rest (t ∷ u ∷ ps) at f g h p = long_call (Several join.And) x y z us rest t u ps f g h (omega arith) p

a_call_is : (n : Meaning) (k : Head) (x y z : Item) (us rest : List Item) (ps : List Tree) (at : ℕ) → callee n ≡ Some k → ((b c : ℕ) → token_weight b c x.meaning ≡ 0) → y.meaning ≡ m.Symbol symbol.OpenParen → z.meaning ≡ m.Symbol symbol.CloseParen
    → LeastArgs us ps (z ∷ rest) → Calls k at x y us ps rest
a_call_is (m.Name cs) k x y z us rest ps at e f g h p = let i : tree.call cs ≡ k = cc in subst (λ l. Calls l at x y us ps rest) i (call_is x y z us rest ps f g h (λ b c. omega arith) p)
a_call_is (m.Word word.And) k x y z us rest ps at e f g h p = let i : tree.all ≡ k = cc in subst (λ l. Calls l at x y us ps rest) i (all_is x y z us rest ps at f g h p)
a_call_is (m.Word word.Or) k x y z us rest ps at e f g h p = let i : tree.any ≡ k = cc in subst (λ l. Calls l at x y us ps rest) i (any_is x y z us rest ps at f g h p)
a_call_is _ k x y z us rest ps at e f g h p = absurd cc

none_is : {w : ℕ → ℕ → ℕ} (ts : List Item) → ((b c : ℕ) → w b c ≡ 0) → Least w ts ts
none_is ts e = let a = e 0 1 in let b = e 1 0 in record { commas = omega (arith, a); opens = λ i. omega (arith, b) }

mutual
  pub least : {l : Line} {d : ℕ} {ts : List Item} {t : Tree} {rest : List Item} → Parses l d ts t rest → LeastIn l ts t rest
  least (plain d ts t rest p) = looser (Several join.Chain) Chain t ts rest refl (least p)
  least (ended d ts t x rest p e) = trailed ts rest x (is x (m.Symbol symbol.Semicolon) e (λ b c. refl)) (looser (Several join.Chain) Chain t ts (x ∷ rest) refl (least p))
  least (one j d ts t rest p) = one_is j ts t rest (least p)
  least (many j d ts p q ps rest h) = many_is j ts p q ps rest (first_byte ts) (least_parts h)
  least (first l d ts t rest p) = first_is l ts t rest (least p)
  least (next l d e ts t x us o u rest p f q) = next_is l ts us rest t u x o (first_byte ts) f (least p) (least q)
  least (no_alias d ts t rest p) = looser Prefix Alias t ts rest refl (least p)
  least (aliased d ts t x y cs rest p e f) =
      trailed ts rest y (is y (m.Name cs) f (λ b c. refl)) (trailed ts (y ∷ rest) x (is x (m.Word word.As) e (λ b c. refl)) (lower ts (x ∷ y ∷ rest) (least p) (λ b c. omega arith)))
  least (no_sign d ts t rest p) = looser Power Prefix t ts rest refl (least p)
  least (signed d x h us t rest e p) = led us rest x (λ b c. sign_counts x.meaning h b c e) (least p) (λ b c. sign_is x.meaning h x.at t b c e)
  least (base d ts t rest p) = looser Percent Power t ts rest refl (least p)
  least (raised d e ts t x us u rest p f q) = joined (λ c. 0) ts us rest x (is x (m.Symbol symbol.Caret) f (λ b c. refl)) (least p) (least q) (λ b c. omega arith)
  least (no_percent d ts t rest p) = looser Access Percent t ts rest refl (least p)
  least (percent d ts t x rest p e) = trailed ts rest x (is x (m.Symbol symbol.Percent) e (λ b c. refl)) (lower ts (x ∷ rest) (least p) (λ b c. omega arith))
  least (no_dot d ts t rest p) = looser Atom Access t ts rest refl (least p)
  least (dotted d ts t x y cs rest p e f) =
      trailed ts rest y (is y (m.Name cs) f (λ b c. refl)) (trailed ts (y ∷ rest) x (is x (m.Symbol symbol.Dot) e (λ b c. refl)) (lower ts (x ∷ y ∷ rest) (least p) (λ b c. omega arith)))
  least (leaf x h rest e) = led rest rest x (λ b c. leaf_counts x.meaning h b c e) (none_is {w = λ b c. 0} rest (λ b c. refl)) (λ b c. let f = leaf_is x.meaning h x.at b c e in omega (arith, f))
  least (a_global x y z cs rest e f g) =
      let i : Least (λ b c. 0) (z ∷ rest) rest = led rest rest z (is z (m.Symbol symbol.CloseBracket) g (λ b c. refl)) (none_is {w = λ b c. 0} rest (λ b c. refl)) (λ b c. omega arith) in
      let j : Least (λ b c. 0) (y ∷ z ∷ rest) rest = led (z ∷ rest) rest y (is y (m.Name cs) f (λ b c. refl)) i (λ b c. omega arith) in
      led (y ∷ z ∷ rest) rest x (is x (m.Symbol symbol.OpenBracketAt) e (λ b c. refl)) j (λ b c. omega arith)
  least (a_call d x y h us ps z rest e f p g) = a_call_is x.meaning h x y z us rest ps x.at e (λ b c. callee_counts x.meaning h b c e) f g (least_args p)
  least (brackets d x us t y rest e p f) =
      opened us rest x e (trailed us rest y (is y (m.Symbol symbol.CloseParen) f (λ b c. refl)) (least p)) (λ b c. let g = extra_within b Atom t in omega (arith, g))
  least (a_record d x us fs y rest e p f) = led us rest x (is x (m.Symbol symbol.OpenBrace) e (λ b c. refl)) (trailed us rest y (is y (m.Symbol symbol.CloseBrace) f (λ b c. refl)) (least_fields p)) (λ b c. omega arith)
  least (a_list d x us ps y rest e p f) = led us rest x (is x (m.Symbol symbol.OpenBracket) e (λ b c. refl)) (trailed us rest y (is y (m.Symbol symbol.CloseBracket) f (λ b c. refl)) (least_args p)) (λ b c. omega arith)
  least (a_weave d x us ps y rest e p f) = led us rest x (is x m.Opening e (λ b c. refl)) (trailed us rest y (is y m.Closing f (λ b c. refl)) (least_strands p)) (λ b c. omega arith)

  least_parts : {s : Separator} {d : ℕ} {ts : List Item} {ps : List Tree} {rest : List Item} → Parts s d ts ps rest → LeastParts s ts ps rest
  least_parts (alone s d ts t rest p) = lower ts rest (least p) (λ b c. omega arith)
  least_parts (further s d e ts ps x us t rest p f q) =
      joined (λ c. between_count c s) ts us rest x (λ b c. divider_counts s x.meaning b c f) (least_parts p) (least q) (λ b c. parts_join b c (between_count c s) (part_of s) ps t)

  least_args : {d : ℕ} {ts : List Item} {ps : List Tree} {rest : List Item} → Args d ts ps rest → LeastArgs ts ps rest
  least_args (no_args ts) = none_is ts (λ b c. refl)
  least_args (some_args d ts ps rest p) = least_parts p

  least_field : {d : ℕ} {ts : List Item} {f : NamedTree} {rest : List Item} → Field d ts f rest → LeastIn (Several join.Or) ts f.1 rest
  least_field (field d x y cs us t rest e f p) =
      let i : LeastIn (Several join.Or) (y ∷ us) t rest = led us rest y (is y (m.Symbol symbol.Colon) f (λ b c. refl)) (least p) (λ b c. omega arith) in
      led (y ∷ us) rest x (is x (m.Name cs) e (λ b c. refl)) i (λ b c. omega arith)

  least_some_fields : {d : ℕ} {ts : List Item} {fs : List NamedTree} {rest : List Item} → SomeFields d ts fs rest → LeastFields ts fs rest
  least_some_fields (one_field d ts f rest p) = lower ts rest (least_field p) (λ b c. omega arith)
  least_some_fields (further_field d e ts fs x us f rest p g q) =
      joined (λ c. c) ts us rest x (λ b c. ap (token_weight b c) g) (least_some_fields p) (least_field q) (λ b c. fields_join b c c (Several join.Or) fs f)

  least_fields : {d : ℕ} {ts : List Item} {fs : List NamedTree} {rest : List Item} → Fields d ts fs rest → LeastFields ts fs rest
  least_fields (no_fields ts) = none_is ts (λ b c. refl)
  least_fields (some_fields d ts fs rest p) = least_some_fields p

  least_strands : {d : ℕ} {ts : List Item} {ps : List Tree} {rest : List Item} → Strands d ts ps rest → LeastStrands ts ps rest
  least_strands (no_strands ts) = none_is ts (λ b c. refl)
  least_strands (piece d ts ps x cs rest p e) =
      trailed ts rest x (is x (m.Piece cs) e (λ b c. refl)) (lower ts (x ∷ rest) (least_strands p) (λ b c. let h = strands_join b c ps (node x.at (tree.text cs) none) in omega (arith, h)))
  least_strands (island d e ts ps x us t y rest p f q g) =
      joined (λ c. 0) ts us rest x (is x (m.Symbol symbol.OpenBrace) f (λ b c. refl)) (least_strands p) (trailed us rest y (is y (m.Symbol symbol.CloseBrace) g (λ b c. refl)) (least q)) (λ b c. let h = strands_join b c ps t in omega (arith, h))
