-- A text is one list of named formulas at most, or it is none.
use Rattle.std.proofs.Common.{◌≡◌, ℕ, zero, suc, ◌+◌, ◌<◌, ◌≤◌, List, [], ◌∷◌, ◌++◌, length, map, refl, ap, sym, ◌∙◌, subst, arith, length-append, append-nil, Option, Some, None}
use Rattle.std.proofs.lemmas.List.{append_cancel_right}
use Rattle.std.specs.Str.{chars}
use Rattle.fx_lexer.specs.declared.token.Symbol.TheVariants as symbol
use Rattle.fx_lexer.specs.Lexed.{Lexed, token_of}
use Rattle.fx_lexer.specs.declared.token.LexErr.{LexErr}
use Rattle.fx_lexer.specs.declared.token.Token.{Token}
use Rattle.fx_core.specs.Tree.{Tree}
use Rattle.fx_grammar.specs.declared.item.Item.{Item}
use Rattle.fx_grammar.specs.declared.item.Meaning.{Meaning}
use Rattle.fx_grammar.specs.declared.item.Meaning.TheVariants as m
use Rattle.fx_grammar.specs.declared.line.Join.TheVariants as join
use Rattle.fx_grammar.specs.declared.line.Line.TheVariants.{Several}
use Rattle.fx_grammar.specs.Formulas.{NamedFormula, named_formula, AreNamed, no_entries, last_entry, further_entry, AreDeeper, AreEntriesOf, HasItems, HasTree, IsDeeper}
use Rattle.fx_grammar.specs.Reading.{Parsed, line_at}
use Rattle.fx_grammar.proofs.Complete.{complete}
use Rattle.fx_grammar.proofs.Meanings.{one_items}
use Rattle.fx_parser.specs.declared.entries.Named.{Named}
use Rattle.fx_parser.specs.Texts.{AreNamedEnd, IsFormulaEnd, IsNamedText, named_of}
use Rattle.fx_parser.specs.declared.end.ParseEnd.{ParseEnd}
use Rattle.fx_parser.specs.declared.end.ParseEnd.TheVariants.{Lex, Syntax, TooDeep, Memory}
use Rattle.fx_parser.specs.Trees.{HasEntries, HasFormula}
use Rattle.fx_parser.proofs.Firsts.{semicolon_below}

-- a name and `=`, and the tokens behind them
head_by : Meaning → Meaning → List Item → Option (List ℕ × List Item)
head_by (m.Name cs) (m.Symbol symbol.Equal) us = Some (cs, us)
head_by _ _ us = None

head : List Item → Option (List ℕ × List Item)
head [] = None
head (x ∷ []) = None
head (x ∷ y ∷ us) = head_by x.meaning y.meaning us

-- the tokens behind a `;`, or none at the end
next : List Item → List Item
next [] = []
next (x ∷ us) = us

-- The first of named formulas, with the tokens of the others.
record Begun (ts : List Item) (es : List NamedFormula) : Type 0 where
  name : List ℕ
  formula : List Item
  rest : List Item
  is_head : head ts ≡ Some (name, formula ++ rest)
  tree : Tree
  depth : ℕ
  is_tree : line_at 64 (Several join.Or) (formula ++ rest) ≡ Some (tree, depth, rest)
  entries : List NamedFormula
  is : es ≡ named_formula name formula tree ∷ entries
  others : AreEntriesOf 64 (next rest) entries
  shorter : length (next rest) < length ts

begun : {ts : List Item} {d : ℕ} {es : List NamedFormula} → AreNamed ts d es → d ≤ 64 → 0 < length ts → Begun ts es
unfolding head head_by next
begun no_entries h n = absurd (omega arith)
begun (last_entry x y cs ts d t e f p) h n = record {
  name = cs;
  formula = ts;
  rest = [];
  is_head = (λ i. head_by (e i) (f i) ts) ∙ ap (λ us. Some (cs, us)) (sym (append-nil ts));
  tree = t;
  depth = d;
  is_tree = ap (line_at 64 (Several join.Or)) (append-nil ts) ∙ complete p 63 h tt;
  entries = [];
  is = refl;
  others = (0, omega arith, no_entries);
  shorter = omega arith;
}
begun (further_entry x y cs ts d t z rest e es f g p k q) h n = record {
  name = cs;
  formula = ts;
  rest = z ∷ rest;
  is_head = λ i. head_by (f i) (g i) (ts ++ z ∷ rest);
  tree = t;
  depth = d;
  is_tree = complete p 63 (omega arith) (semicolon_below z rest k);
  entries = es;
  is = refl;
  others = (e, omega arith, q);
  shorter = omega (arith, length-append ts (z ∷ rest));
}

-- no tokens are no named formulas
IsEmpty : List Item → List NamedFormula → Type 0
IsEmpty [] es = es ≡ []
IsEmpty (x ∷ us) es = Unit {0}

empty : {ts : List Item} {d : ℕ} {es : List NamedFormula} → AreNamed ts d es → IsEmpty ts es
unfolding IsEmpty
empty no_entries = refl
empty (last_entry x y cs ts d t e f p) = tt
empty (further_entry x y cs ts d t z rest e es f g p k q) = tt

same_pair : (a b : List ℕ) (us vs : List Item) → ◌≡◌ {A = Option (List ℕ × List Item)} (Some (a, us)) (Some (b, vs)) → (a ≡ b) × (us ≡ vs)
same_pair a b us vs e =
    let f : ◌≡◌ {A = List ℕ × List Item} (a, us) (b, vs) = cc in
    (ap (λ (z : List ℕ × List Item). z.0) f, ap (λ (z : List ℕ × List Item). z.1) f)

same_seen : (t u : Tree) (d e : ℕ) (us vs : List Item) → ◌≡◌ {A = Option (Parsed Tree)} (Some (t, d, us)) (Some (u, e, vs)) → (t ≡ u) × (us ≡ vs)
same_seen t u d e us vs h =
    let f : ◌≡◌ {A = Parsed Tree} (t, d, us) (u, e, vs) = cc in
    (ap (λ (z : Parsed Tree). z.0) f, ap (λ (z : Parsed Tree). z.2) f)

entries_one : (k : ℕ) (ts : List Item) (es fs : List NamedFormula) → length ts < k → AreEntriesOf 64 ts es → AreEntriesOf 64 ts fs → es ≡ fs
unfolding IsEmpty
entries_one zero ts es fs few p q = absurd (omega arith)
entries_one (suc k) [] es fs few p q = let a : es ≡ [] = empty p.2 in let b : fs ≡ [] = empty q.2 in a ∙ sym b
entries_one (suc k) (x ∷ us) es fs few p q =
    let a = begun p.2 p.1 (omega arith) in
    let b = begun q.2 q.1 (omega arith) in
    let heads = same_pair a.name b.name (a.formula ++ a.rest) (b.formula ++ b.rest) (sym a.is_head ∙ b.is_head) in
    let trees = same_seen a.tree b.tree a.depth b.depth a.rest b.rest (sym a.is_tree ∙ ap (line_at 64 (Several join.Or)) heads.1 ∙ b.is_tree) in
    let formulas = append_cancel_right a.formula b.formula b.rest (ap (λ r. a.formula ++ r) (sym trees.1) ∙ heads.1) in
    let a_short = a.shorter in
    let rests = entries_one k (next a.rest) a.entries b.entries (omega arith) a.others (subst (λ r. AreEntriesOf 64 (next r) b.entries) (sym trees.1) b.others) in
    a.is ∙ (λ i. named_formula (heads.0 i) (formulas i) (trees.0 i) ∷ rests i) ∙ sym b.is

-- tokens are one list of named formulas at most
one_named : (ts : List Item) (es fs : List NamedFormula) → AreEntriesOf 64 ts es → AreEntriesOf 64 ts fs → es ≡ fs
one_named ts es fs p q = entries_one (length ts + 1) ts es fs (omega arith) p q

pub one_text : (source : List ℕ) (ns ms : List Named) → IsNamedText 64 source ns → IsNamedText 64 source ms → ns ≡ ms
one_text source ns ms p q =
    let items = one_items (chars source) p.1.0 q.1.0 p.1.1 q.1.1 in
    let entries = one_named q.1.0 p.0 q.0 (subst (λ xs. AreEntriesOf 64 xs p.0) items p.1.2) q.1.2 in
    p.2 ∙ ap (map (named_of source)) entries ∙ sym q.2

-- a text with meanings has tokens
pub lexed_of : (source : List ℕ) (xs : List Item) → HasItems (chars source) xs → (ts : List Token) × Lexed (chars source) ts
lexed_of source xs h = (map token_of h.0, (h.0, h.1, refl))

-- a text that is named formulas has no end of another kind
pub not_named : (source : List ℕ) (ns : List Named) (e : ParseEnd) → IsNamedText 64 source ns → AreNamedEnd source e → (e ≡ Memory → ⊥) → ⊥
not_named source ns (Lex bad) p h other = let l = lexed_of source p.1.0 p.1.1 in h.1 l.0 l.1
not_named source ns (Syntax at) p h other =
    let items = one_items (chars source) p.1.0 h.0 p.1.1 h.1 in
    let are = p.1.2 in
    h.2.stops.none (subst HasEntries items (are.0, p.0, are.2))
not_named source ns (TooDeep at) p h other =
    let items = one_items (chars source) p.1.0 h.0 p.1.1 h.1 in
    let are = p.1.2 in
    let deep = subst (AreDeeper 64) (sym items) h.2.deeper are.0 p.0 are.2 in
    let flat = are.1 in
    omega arith
not_named source ns Memory p h other = other refl

-- and a text that is a formula has none
pub not_formula : (source : List ℕ) (t : Tree) (e : ParseEnd) → HasTree 64 (chars source) t → IsFormulaEnd source e → (e ≡ Memory → ⊥) → ⊥
not_formula source t (Lex bad) p h other = let l = lexed_of source p.0 p.1 in h.1 l.0 l.1
not_formula source t (Syntax at) p h other =
    let items = one_items (chars source) p.0 h.0 p.1 h.1 in
    let is = p.2 in
    h.2.stops.none (subst HasFormula items (is.0, t, is.2))
not_formula source t (TooDeep at) p h other =
    let items = one_items (chars source) p.0 h.0 p.1 h.1 in
    let is = p.2 in
    let deep = subst (IsDeeper 64) (sym items) h.2.deeper is.0 t is.2 in
    let flat = is.1 in
    omega arith
not_formula source t Memory p h other = other refl

pub not_memory_lex : (bad : LexErr) → Lex bad ≡ Memory → ⊥
not_memory_lex bad e = cc

pub not_memory_syntax : (at : ℕ) → Syntax at ≡ Memory → ⊥
not_memory_syntax at e = cc

pub not_memory_deep : (at : ℕ) → TooDeep at ≡ Memory → ⊥
not_memory_deep at e = cc
