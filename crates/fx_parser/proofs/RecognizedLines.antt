-- What a line gives, also where it begins with more.
use Rattle.std.proofs.Common.{◌≡◌, ◌⊎◌, inl, inr, ℕ, suc, max, true, List, [], ◌∷◌, ◌++◌, refl, Some}
use Rattle.fx_lexer.specs.declared.token.Symbol.TheVariants as symbol
use Rattle.fx_lexer.specs.declared.token.Word.TheVariants as word
use Rattle.fx_core.specs.declared.expr.Op.{Op}
use Rattle.fx_core.specs.declared.expr.Op.TheVariants as op
use Rattle.fx_core.specs.Tree.{Tree}
use Rattle.fx_grammar.specs.declared.item.Item.{Item}
use Rattle.fx_grammar.specs.declared.item.Meaning.{Meaning}
use Rattle.fx_grammar.specs.declared.item.Meaning.TheVariants as m
use Rattle.fx_grammar.specs.declared.line.Join.{Join}
use Rattle.fx_grammar.specs.declared.line.Join.TheVariants as join
use Rattle.fx_grammar.specs.declared.line.Separator.{Separator}
use Rattle.fx_grammar.specs.declared.line.Separator.TheVariants.{Between}
use Rattle.fx_grammar.specs.declared.line.Left.{Left}
use Rattle.fx_grammar.specs.declared.line.Left.TheVariants as left
use Rattle.fx_grammar.specs.declared.line.Line.{Line}
use Rattle.fx_grammar.specs.declared.line.Line.TheVariants.{Chain, Several, By, Alias, Prefix}
use Rattle.fx_grammar.specs.Grammar.{separates, part_of, operator, operand_line, Parses, plain, ended, one, many, first, next, no_alias, aliased, Parts, alone, further}
use Rattle.fx_parser.specs.declared.state.Follow.TheVariants as follow
use Rattle.fx_parser.specs.Machine.{follow_of}

abbrev pub Has : Line → List Item → List Item → Type 0
Has l ts rest = (d : ℕ) × (t : Tree) × Parses l d ts t rest

abbrev pub HasParts : Separator → List Item → List Item → Type 0
HasParts s ts rest = (d : ℕ) × (ps : List Tree) × Parts s d ts ps rest

-- what us gives in this line, ts gives too
abbrev pub Onto : Line → List Item → List Item → Type 0
Onto l us ts = (mid : List Item) → Has l us mid → Has l ts mid

-- parts and lines of parts
append_some : (ps : List Tree) (t : Tree) → ps ++ t ∷ [] ≡ [] → ⊥
append_some [] t e = cc
append_some (p ∷ ps) t e = cc

not_empty : {s : Separator} {d : ℕ} {ts : List Item} {ps : List Tree} {rest : List Item} → Parts s d ts ps rest → ps ≡ [] → ⊥
not_empty (alone s d ts t rest p) e = cc
not_empty (further s d e ts ps x us t rest h f p) g = append_some ps t g

two_parts : (j : Join) (ps : List Tree) (d e : ℕ) (ts : List Item) (x : Item) (us : List Item) (t : Tree) (rest : List Item) → Parts (Between j) d ts ps (x ∷ us) → separates (Between j) x.meaning ≡ true → Parses (part_of (Between j)) e us t rest → Has (Several j) ts rest
two_parts j [] d e ts x us t rest h f p = absurd (not_empty h refl)
two_parts j (q ∷ []) d e ts x us t rest h f p = (suc (max d e), _, many j (max d e) ts q t [] rest (further (Between j) d e ts (q ∷ []) x us t rest h f p))
two_parts j (q ∷ r ∷ ps) d e ts x us t rest h f p = (suc (max d e), _, many j (max d e) ts q r (ps ++ t ∷ []) rest (further (Between j) d e ts (q ∷ r ∷ ps) x us t rest h f p))

pub several_of : {j : Join} {d : ℕ} {ts : List Item} {ps : List Tree} {rest : List Item} → Parts (Between j) d ts ps rest → Has (Several j) ts rest
several_of {j} (alone s d ts t rest p) = (d, t, one j d ts t rest p)
several_of {j} (further s d e ts ps x us t rest h f p) = two_parts j ps d e ts x us t rest h f p

pub parts_in : {j : Join} {d : ℕ} {ts : List Item} {t : Tree} {rest : List Item} → Parses (Several j) d ts t rest → HasParts (Between j) ts rest
parts_in (one j d ts t rest p) = (d, t ∷ [], alone (Between j) d ts t rest p)
parts_in (many j d ts p q ps rest h) = (d, p ∷ q ∷ ps, h)

-- another beginning
onto_alias : {d : ℕ} {us : List Item} {t : Tree} {mid : List Item} → Parses Alias d us t mid → (ts : List Item) → Onto Prefix us ts → Has Alias ts mid
onto_alias (no_alias d us t rest p) ts f = let g = f rest (d, t, p) in (g.0, g.1, no_alias g.0 ts g.1 rest g.2)
onto_alias (aliased d us t x y cs rest p e h) ts f = let g = f (x ∷ y ∷ rest) (d, t, p) in (suc g.0, _, aliased g.0 ts g.1 x y cs rest g.2 e h)

onto_by : {l : Left} {d : ℕ} {us : List Item} {t : Tree} {mid : List Item} → Parses (By l) d us t mid → (ts : List Item) → Onto (operand_line l) us ts → Has (By l) ts mid
onto_by (first l d us t rest p) ts f = let g = f rest (d, t, p) in (g.0, g.1, first l g.0 ts g.1 rest g.2)
onto_by (next l d e us t x vs o u rest p h q) ts f = let g = onto_by p ts f in (suc (max g.0 e), _, next l g.0 e ts g.1 x vs o u rest g.2 h q)

pub onto_parts : {s : Separator} {d : ℕ} {us : List Item} {ps : List Tree} {mid : List Item} → Parts s d us ps mid → (ts : List Item) → Onto (part_of s) us ts → HasParts s ts mid
onto_parts (alone s d us t rest p) ts f = let g = f rest (d, t, p) in (g.0, g.1 ∷ [], alone s g.0 ts g.1 rest g.2)
onto_parts (further s d e us ps x vs t rest h i p) ts f = let g = onto_parts h ts f in (max g.0 e, g.1 ++ t ∷ [], further s g.0 e ts g.1 x vs t rest g.2 i p)

onto_chain : {d : ℕ} {us : List Item} {t : Tree} {mid : List Item} → Parses Chain d us t mid → (ts : List Item) → Onto (Several join.Chain) us ts → Has Chain ts mid
onto_chain (plain d us t rest p) ts f = let g = f rest (d, t, p) in (g.0, g.1, plain g.0 ts g.1 rest g.2)
onto_chain (ended d us t x rest p e) ts f = let g = f (x ∷ rest) (d, t, p) in (g.0, g.1, ended g.0 ts g.1 x rest g.2 e)

pub up_alias : (us ts : List Item) → Onto Prefix us ts → Onto Alias us ts
up_alias us ts f mid h = onto_alias h.2 ts f

pub up_by : (l : Left) (us ts : List Item) → Onto (operand_line l) us ts → Onto (By l) us ts
up_by l us ts f mid h = onto_by h.2 ts f

pub up_several : (j : Join) (us ts : List Item) → Onto (part_of (Between j)) us ts → Onto (Several j) us ts
up_several j us ts f mid h = let g = parts_in h.2 in let k = onto_parts g.2 ts f in several_of k.2

pub up_chain : (us ts : List Item) → Onto (Several join.Chain) us ts → Onto Chain us ts
up_chain us ts f mid h = onto_chain h.2 ts f

-- from each line up to the parts of a chain
pub member_up : (us ts : List Item) → Onto (By left.Member) us ts → Onto (Several join.Or) us ts
member_up us ts f = up_several join.Or us ts (up_several join.And us ts f)

pub comp_up : (us ts : List Item) → Onto (By left.Comp) us ts → Onto (Several join.Or) us ts
comp_up us ts f = member_up us ts (up_by left.Member us ts f)

pub cat_up : (us ts : List Item) → Onto (Several join.Cat) us ts → Onto (Several join.Or) us ts
cat_up us ts f = comp_up us ts (up_by left.Comp us ts f)

pub sum_up : (us ts : List Item) → Onto (By left.Sum) us ts → Onto (Several join.Or) us ts
sum_up us ts f = cat_up us ts (up_several join.Cat us ts f)

pub prod_up : (us ts : List Item) → Onto (By left.Prod) us ts → Onto (Several join.Or) us ts
prod_up us ts f = sum_up us ts (up_by left.Sum us ts f)

pub prefix_up : (us ts : List Item) → Onto Prefix us ts → Onto (Several join.Or) us ts
prefix_up us ts f = prod_up us ts (up_by left.Prod us ts (up_alias us ts f))

left_up : (l : Left) (us ts : List Item) → Onto (By l) us ts → Onto (Several join.Or) us ts
left_up left.Member us ts f = member_up us ts f
left_up left.Comp us ts f = comp_up us ts f
left_up left.Sum us ts f = sum_up us ts f
left_up left.Prod us ts f = prod_up us ts f

-- the joins of operators
abbrev pub IsInner : Join → Type 0
IsInner join.Chain = ⊥
IsInner _ = Unit {0}

join_up : (j : Join) (us ts : List Item) → IsInner j → Onto (Several j) us ts → Onto (Several join.Or) us ts
join_up join.Chain us ts i f = absurd i
join_up join.Or us ts i f = f
join_up join.And us ts i f = up_several join.Or us ts f
join_up join.Cat us ts i f = cat_up us ts f

-- an operand by itself, in each line
lift_by : (l : Left) (ts rest : List Item) → Has (operand_line l) ts rest → Has (By l) ts rest
lift_by l ts rest h = (h.0, h.1, first l h.0 ts h.1 rest h.2)

pub lift_several : (j : Join) (ts rest : List Item) → Has (part_of (Between j)) ts rest → Has (Several j) ts rest
lift_several j ts rest h = (h.0, h.1, one j h.0 ts h.1 rest h.2)

to_left : (l : Left) (ts rest : List Item) → Has Alias ts rest → Has (By l) ts rest
to_left left.Prod ts rest h = lift_by left.Prod ts rest h
to_left left.Sum ts rest h = lift_by left.Sum ts rest (lift_by left.Prod ts rest h)
to_left left.Comp ts rest h = lift_by left.Comp ts rest (lift_several join.Cat ts rest (lift_by left.Sum ts rest (lift_by left.Prod ts rest h)))
to_left left.Member ts rest h = lift_by left.Member ts rest (lift_by left.Comp ts rest (lift_several join.Cat ts rest (lift_by left.Sum ts rest (lift_by left.Prod ts rest h))))

to_join : (j : Join) (ts rest : List Item) → Has Alias ts rest → Has (Several j) ts rest
to_join join.Cat ts rest h = lift_several join.Cat ts rest (to_left left.Sum ts rest h)
to_join join.And ts rest h = lift_several join.And ts rest (to_left left.Member ts rest h)
to_join join.Or ts rest h = lift_several join.Or ts rest (lift_several join.And ts rest (to_left left.Member ts rest h))
to_join join.Chain ts rest h = lift_several join.Chain ts rest (lift_several join.Or ts rest (lift_several join.And ts rest (to_left left.Member ts rest h)))

pub to_or : (ts rest : List Item) → Has Alias ts rest → Has (Several join.Or) ts rest
to_or ts rest h = to_join join.Or ts rest h

pub to_series : (ts rest : List Item) → Has Alias ts rest → Has (Several join.Chain) ts rest
to_series ts rest h = to_join join.Chain ts rest h

-- more of the same line
more_by : {l : Left} {d : ℕ} {us : List Item} {t : Tree} {mid : List Item} → Parses (By l) d us t mid → (ts : List Item) (x : Item) (o : Op) → operator l x.meaning ≡ Some o → Has (By l) ts (x ∷ us) → Has (By l) ts mid
more_by (first l d us t rest p) ts x o e h = (suc (max h.0 d), _, next l h.0 d ts h.1 x us o t rest h.2 e p)
more_by (next l d e us t y vs o u rest p f q) ts x a g h = let k = more_by p ts x a g h in (suc (max k.0 e), _, next l k.0 e ts k.1 y vs o u rest k.2 f q)

pub more_parts : {s : Separator} {d : ℕ} {us : List Item} {ps : List Tree} {mid : List Item} → Parts s d us ps mid → (ts : List Item) (x : Item) → separates s x.meaning ≡ true → HasParts s ts (x ∷ us) → HasParts s ts mid
more_parts (alone s d us t rest p) ts x e h = (max h.0 d, _, further s h.0 d ts h.1 x us t rest h.2 e p)
more_parts (further s d e us ps y vs t rest p f q) ts x g h = let k = more_parts p ts x g h in (max k.0 e, _, further s k.0 e ts k.1 y vs t rest k.2 f q)

pub more_several : (j : Join) (us ts : List Item) (x : Item) → separates (Between j) x.meaning ≡ true → Has (Several j) ts (x ∷ us) → Onto (Several j) us ts
more_several j us ts x e h mid g = let a = parts_in g.2 in let b = parts_in h.2 in let k = more_parts a.2 ts x e b in several_of k.2

-- what an operator is
abbrev pub IsOperator : Meaning → Type 0
IsOperator k = ((l : Left) × (o : Op) × (operator l k ≡ Some o)) ⊎ ((j : Join) × IsInner j × (separates (Between j) k ≡ true))

pub operator_is : (k : Meaning) → follow_of k ≡ follow.Operator → IsOperator k
operator_is (m.Symbol symbol.Plus) e = inl (left.Sum, op.Add, refl)
operator_is (m.Symbol symbol.Minus) e = inl (left.Sum, op.Sub, refl)
operator_is (m.Symbol symbol.Star) e = inl (left.Prod, op.Mul, refl)
operator_is (m.Symbol symbol.Slash) e = inl (left.Prod, op.Div, refl)
operator_is (m.Symbol symbol.Ampersand) e = inr (join.Cat, tt, refl)
operator_is (m.Symbol symbol.DoubleAmpersand) e = inr (join.And, tt, refl)
operator_is (m.Symbol symbol.DoubleBar) e = inr (join.Or, tt, refl)
operator_is (m.Symbol symbol.Equal) e = inl (left.Comp, op.Eq, refl)
operator_is (m.Symbol symbol.NotEqual) e = inl (left.Comp, op.Ne, refl)
operator_is (m.Symbol symbol.Less) e = inl (left.Comp, op.Lt, refl)
operator_is (m.Symbol symbol.LessEqual) e = inl (left.Comp, op.Le, refl)
operator_is (m.Symbol symbol.Greater) e = inl (left.Comp, op.Gt, refl)
operator_is (m.Symbol symbol.GreaterEqual) e = inl (left.Comp, op.Ge, refl)
operator_is (m.Word word.And) e = inr (join.And, tt, refl)
operator_is (m.Word word.Or) e = inr (join.Or, tt, refl)
operator_is (m.Word word.In) e = inl (left.Member, op.In, refl)
operator_is (m.Word word.ExactIn) e = inl (left.Member, op.ExactIn, refl)
operator_is _ e = cc

operator_by : (us ts : List Item) (x : Item) → IsOperator x.meaning → Has Alias ts (x ∷ us) → Onto (Several join.Or) us ts
operator_by us ts x (inl (l, o, e)) h = left_up l us ts (λ mid g. more_by g.2 ts x o e (to_left l ts (x ∷ us) h))
operator_by us ts x (inr (j, i, e)) h = join_up j us ts i (more_several j us ts x e (to_join j ts (x ∷ us) h))

-- an operand and an operator before an operand
pub operator_onto : (us ts : List Item) (x : Item) → follow_of x.meaning ≡ follow.Operator → Has Alias ts (x ∷ us) → Onto (Several join.Or) us ts
operator_onto us ts x e h = operator_by us ts x (operator_is x.meaning e) h
