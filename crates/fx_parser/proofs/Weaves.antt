-- Weaves: how their text is read, and that `@` begins no formula.
use Rattle.std.proofs.Common.{◌≡◌, ℕ, suc, ◌+◌, max, arith, Bool, true, false, List, [], ◌∷◌, ◌++◌, cond, refl, ap, sym, ◌∙◌, subst, None, eqb-true, append-nil, append_assoc}
use Rattle.fx_lexer.specs.declared.token.Symbol.TheVariants as symbol
use Rattle.fx_lexer.specs.declared.token.TokenKind.TheVariants as kind
use Rattle.fx_lexer.specs.declared.element.Element.{Element}
use Rattle.fx_lexer.specs.declared.element.Element.TheVariants.{Skip, Token}
use Rattle.fx_lexer.specs.declared.element.Enclosing.{Enclosing}
use Rattle.fx_lexer.specs.declared.element.Enclosing.TheVariants as around
use Rattle.fx_lexer.specs.declared.element.Mode.{Mode}
use Rattle.fx_lexer.specs.declared.element.Mode.TheVariants.{Formula}
use Rattle.fx_lexer.specs.Spelling.{class_at, is_mark, doubled, begins_with, IsElement}
use Rattle.fx_lexer.specs.Lexed.{Lexeme, width, mode_in, enclosing_after, LexesTo, stop, skip, token}
use Rattle.fx_lexer.specs.Scan.{weave_run, element_at}
use Rattle.fx_core.specs.Tree.{Tree, node, Head, Forest, none, more, forest, tree_field_names, field_trees}
use Rattle.fx_core.specs.Tree as tree
use Rattle.fx_grammar.specs.declared.item.Item.{Item}
use Rattle.fx_grammar.specs.declared.item.Meaning.TheVariants as m
use Rattle.fx_grammar.specs.declared.line.Line.TheVariants.{Chain, Atom}
use Rattle.fx_grammar.specs.Grammar.{a_weave, Strands, no_strands, piece, island}
use Rattle.fx_parser.specs.Printing.{line_of, is_text, printed_piece, island_text, strand_text, shown, shown_strands}
use Rattle.fx_parser.specs.SameTree.{all_unplaced}
use Rattle.fx_parser.specs.Fewest.{tokens_weight}
use Rattle.fx_lexer.proofs.Follows.{piece_ends}
use Rattle.fx_lexer.proofs.Judge.{none_found}
use Rattle.fx_parser.proofs.Ahead.{Rest, tok, space_then, sign_then, opening_then, closing_then, island_then, piece_then, safe_brace}
use Rattle.fx_parser.proofs.Weights.{weight}
use Rattle.fx_parser.proofs.Steps.{Weight, Says, Speaks, says_text, loosened, highest}

-- In a weave's text these tokens go on a list of strands with strands that are these trees up to positions.
pub record GoesStrands (w : Weight) (xs : List Item) (ts : Forest) (n : ℕ → List Item) : Type 0 where
  pub to : ℕ
  pub trees : List Tree
  pub same : all_unplaced (forest trees) ≡ all_unplaced ts
  pub joins : (d : ℕ) (ws : List Item) (ps : List Tree) → Strands d ws ps xs → (e : ℕ) × Strands e ws (ps ++ trees) (n to)
  pub counted : (i j : ℕ) → tokens_weight i j xs ≡ w i j + tokens_weight i j (n to)

pub record SaysStrands (w : Weight) (es : List Enclosing) (cs : List ℕ) (ts : Forest) (n : ℕ → List Item) : Type 0 where
  pub items : ℕ → List Item
  pub rest : Rest (around.Weave ∷ es) cs items
  pub goes : (at : ℕ) → GoesStrands w (items at) ts n

-- before the closing quote
abbrev pub SpeaksStrands : Weight → List Enclosing → List ℕ → Forest → Type 0
SpeaksStrands w es v ts = (k : List ℕ) (n : ℕ → List Item) → begins_with 34 k ≡ false → Rest (around.Weave ∷ es) (34 ∷ k) n → SaysStrands w es (v ++ 34 ∷ k) ts n

pub no_strands_is : (es : List Enclosing) → SpeaksStrands (λ i j. 0) es [] none
no_strands_is es k n f r = record {
  items = n;
  rest = r;
  goes = λ at. record { to = at; trees = []; same = refl; joins = λ d ws ps p. (d, subst (λ x. Strands d ws x (n at)) (sym (append-nil ps)) p); counted = λ i j. omega arith };
}

pub piece_is : {x : Weight} (es : List Enclosing) (a c : ℕ) (cs w : List ℕ) (us ts : Forest) → us ≡ none → ((k : List ℕ) → begins_with 34 k ≡ false → weave_run (w ++ 34 ∷ k) ≡ 0) → SpeaksStrands x es w ts
    → SpeaksStrands (λ i j. 0 + x i j) es (doubled is_mark (c ∷ cs) ++ w) (more (node a (tree.text (c ∷ cs)) us) ts)
piece_is {x = m1} es a c cs w us ts e ends q k n f r =
    let v = doubled is_mark (c ∷ cs) in
    let y = q k n f r in
    let on : SaysStrands (λ i j. 0 + m1 i j) es (v ++ (w ++ 34 ∷ k)) (more (node a (tree.text (c ∷ cs)) us) ts) n = record {
      items = λ at. tok kind.Piece v (m.Piece (c ∷ cs)) at ∷ y.items (at + width v);
      rest = piece_then es c cs (w ++ 34 ∷ k) y.items (ends k f) y.rest;
      goes = λ at.
          let i = y.goes (at + width v) in
          let x = tok kind.Piece v (m.Piece (c ∷ cs)) at in
          record {
            to = i.to;
            trees = node at (tree.text (c ∷ cs)) none ∷ i.trees;
            same = λ j. more (node 0 (tree.text (c ∷ cs)) (all_unplaced (sym e j))) (i.same j);
            joins = λ d ws ps u.
                let b = i.joins (max d 1) ws (ps ++ node at (tree.text (c ∷ cs)) none ∷ []) (piece d ws ps x (c ∷ cs) (y.items (at + width v)) u refl) in
                (b.0, subst (λ l. Strands b.0 ws l (n i.to)) (append_assoc ps (node at (tree.text (c ∷ cs)) none ∷ []) i.trees) b.1);
            counted = λ o p. let u = i.counted o p in omega (arith, u);
          };
    } in
    subst (λ l. SaysStrands (λ i j. 0 + m1 i j) es l (more (node a (tree.text (c ∷ cs)) us) ts) n) (sym (append_assoc v w (34 ∷ k))) on

-- the text of an island, maybe with a space before it
abbrev inner : Bool → List ℕ → List ℕ
inner b v = cond b (32 ∷ v) v

braceless : (v k : List ℕ) → begins_with 123 v ≡ false → begins_with 123 (v ++ 125 ∷ k) ≡ false
braceless [] k e = refl
braceless (c ∷ v) k e = e

inner_braceless : (b : Bool) (v k : List ℕ) → begins_with 123 v ≡ b → begins_with 123 (inner b v ++ 125 ∷ k) ≡ false
inner_braceless true v k e = refl
inner_braceless false v k e = braceless v k e

abbrev Inner : Weight → List Enclosing → List ℕ → Tree → (ℕ → List Item) → Type 0
Inner w es cs t n = Says w Chain (around.Brace ∷ around.Weave ∷ es) cs t n

inner_is : {w : Weight} (b : Bool) (es : List Enclosing) (v k : List ℕ) (t : Tree) (n : ℕ → List Item) → Inner w es (v ++ k) t n → Inner w es (inner b v ++ k) t n
inner_is true es v k t n p = record {
  items = λ at. p.items (at + width (32 ∷ []));
  rest = space_then (around.Brace ∷ around.Weave ∷ es) (v ++ k) p.items refl p.rest;
  told = λ at. p.told (at + width (32 ∷ []));
}
inner_is false es v k t n p = p

pub island_is : {x y : Weight} (es : List Enclosing) (v w : List ℕ) (t : Tree) (ts : Forest) → Speaks x (line_of t) (around.Brace ∷ around.Weave ∷ es) v t → SpeaksStrands y es w ts → SpeaksStrands (λ i j. x i j + y i j) es (island_text v ++ w) (more t ts)
island_is {x = m1} {y = m2} es v w t ts p q k n f r = by (begins_with 123 v) refl
  where
    by : (b : Bool) → begins_with 123 v ≡ b → SaysStrands (λ i j. m1 i j + m2 i j) es ((123 ∷ (inner b v ++ 125 ∷ []) ++ w) ++ 34 ∷ k) (more t ts) n
    by b e =
        let fs = around.Brace ∷ around.Weave ∷ es in
        let y = q k n f r in
        let o = w ++ 34 ∷ k in
        let z = p (125 ∷ o) _ (safe_brace o) (sign_then symbol.CloseBrace fs (around.Weave ∷ es) o y.items refl refl tt y.rest) in
        let x = inner_is b es v (125 ∷ o) t _ (loosened Chain (line_of t) fs (v ++ 125 ∷ o) t _ (highest (line_of t)) z) in
        let on : SaysStrands (λ i j. m1 i j + m2 i j) es (123 ∷ (inner b v ++ 125 ∷ o)) (more t ts) n = record {
          items = _;
          rest = island_then es (inner b v ++ 125 ∷ o) x.items (inner_braceless b v o e) x.rest;
          goes = λ at.
              let j = at + width (123 ∷ []) in
              let g = x.told j in
              let i = y.goes (g.to + width (125 ∷ [])) in
              record {
                to = i.to;
                trees = g.seen ∷ i.trees;
                same = λ l. more (g.same l) (i.same l);
                joins = λ d ws ps u.
                    let c = i.joins (max d g.depth) ws (ps ++ g.seen ∷ []) (island d g.depth ws ps (tok (kind.Symbol symbol.OpenBrace) (123 ∷ []) (m.Symbol symbol.OpenBrace) at) (x.items j) g.seen (tok (kind.Symbol symbol.CloseBrace) (125 ∷ []) (m.Symbol symbol.CloseBrace) g.to) (y.items (g.to + width (125 ∷ []))) u refl g.parses refl) in
                    (c.0, subst (λ l. Strands c.0 ws l (n i.to)) (append_assoc ps (g.seen ∷ []) i.trees) c.1);
                counted = λ a c. let u = g.counted a c in let d = i.counted a c in omega (arith, u, d);
              };
        } in
        let h : (123 ∷ (inner b v ++ 125 ∷ []) ++ w) ++ 34 ∷ k ≡ 123 ∷ (inner b v ++ 125 ∷ o) = ap (λ l. 123 ∷ l) (append_assoc (inner b v ++ 125 ∷ []) w (34 ∷ k) ∙ append_assoc (inner b v) (125 ∷ []) o) in
        subst (λ l. SaysStrands (λ i j. m1 i j + m2 i j) es l (more t ts) n) (sym h) on

-- an island, and the closing quote, end a piece
island_mark : (v o : List ℕ) → weave_run (island_text v ++ o) ≡ 0
island_mark v o = by (begins_with 123 v) refl
  where
    by : (b : Bool) → begins_with 123 v ≡ b → weave_run (123 ∷ (inner b v ++ 125 ∷ []) ++ o) ≡ 0
    by b e = piece_ends 123 ((inner b v ++ 125 ∷ []) ++ o) refl (subst (λ l. begins_with 123 l ≡ false) (sym (append_assoc (inner b v) (125 ∷ []) o)) (inner_braceless b v o e))

pub text_ended : (ts : Forest) (k : List ℕ) → begins_with 34 k ≡ false → weave_run (shown_strands true ts ++ 34 ∷ k) ≡ 0
text_ended none k f = piece_ends 34 k refl f
text_ended (more t ts) k f = subst (λ l. weave_run l ≡ 0) (sym (append_assoc (island_text (shown t)) (shown_strands (is_text t) ts) (34 ∷ k))) (island_mark (shown t) (shown_strands (is_text t) ts ++ 34 ∷ k))

pub woven_is : {w : Weight} (es : List Enclosing) (a : ℕ) (v : List ℕ) (ts : Forest) → mode_in es ≡ Formula → SpeaksStrands w es v ts → Speaks w Atom es (36 ∷ 34 ∷ (v ++ 34 ∷ [])) (node a tree.woven ts)
woven_is {w = m1} es a v ts h p k n f r =
    let q = p k _ f.text (closing_then es k n f.text r) in
    let b = opening_then es (v ++ 34 ∷ k) q.items h q.rest in
    let z : Says m1 Atom es (36 ∷ 34 ∷ (v ++ 34 ∷ k)) (node a tree.woven ts) n = record {
      items = _;
      rest = b;
      told = λ at.
          let i = at + width (36 ∷ 34 ∷ []) in
          let x = q.goes i in
          let c = x.joins 0 (q.items i) [] (no_strands (q.items i)) in
          record {
            to = x.to + width (34 ∷ []);
            depth = suc c.0;
            seen = node at tree.woven (forest x.trees);
            same = ap (node 0 tree.woven) x.same;
            parses = a_weave c.0 (tok kind.Opening (36 ∷ 34 ∷ []) m.Opening at) (q.items i) x.trees (tok kind.Closing (34 ∷ []) m.Closing x.to) (n (x.to + width (34 ∷ []))) refl c.1 refl;
            counted = λ g j. let u = x.counted g j in omega (arith, u);
          };
    } in
    says_text Atom es _ (36 ∷ 34 ∷ (v ++ 34 ∷ k)) _ n (ap (λ x. 36 ∷ 34 ∷ x) (append_assoc v (34 ∷ []) k)) z

-- a part of a weave is a piece or an island
pub data Strand : Bool → Tree → Type 0 where
  as_piece : (a c : ℕ) (cs : List ℕ) (us : Forest) → Strand false (node a (tree.text (c ∷ cs)) us)
  as_island : (after : Bool) (t : Tree) → printed_piece after t ≡ None → Strand after t

pub strand_of : (after : Bool) (t : Tree) → Strand after t
strand_of true t = as_island true t refl
strand_of false (node a (tree.text []) us) = as_island false (node a (tree.text []) us) refl
strand_of false (node a (tree.text (c ∷ cs)) us) = as_piece a c cs us
strand_of false (node a h us) = as_island false (node a h us) refl

-- a text has no parts
abbrev pub IsLeafText : Tree → Type 0
IsLeafText (node a (tree.text cs) us) = us ≡ none
IsLeafText t = Unit {0}

pub strand_is : {w : Weight} (es : List Enclosing) (after : Bool) (t : Tree) (ts : Forest) → Strand after t → IsLeafText t → Speaks (λ i j. weight i j t) (line_of t) (around.Brace ∷ around.Weave ∷ es) (shown t) t → SpeaksStrands w es (shown_strands (is_text t) ts) ts
    → SpeaksStrands (λ i j. weight i j t + w i j) es (strand_text (printed_piece after t) (shown t) ++ shown_strands (is_text t) ts) (more t ts)
strand_is {w = w} es after t ts (as_piece a c cs us) h p q = piece_is es a c cs (shown_strands true ts) us ts h (text_ended ts) q
strand_is {w = w} es after t ts (as_island b u e) h p q = subst (λ o. SpeaksStrands (λ i j. weight i j t + w i j) es (strand_text o (shown t) ++ shown_strands (is_text t) ts) (more t ts)) (sym e) (island_is es (shown t) (shown_strands (is_text t) ts) t ts p q)

-- `@` begins no element of a formula
at_none : (cs : List ℕ) → element_at Formula (64 ∷ cs) ≡ None
unfolding class_at
at_none cs = refl

at_bad : (mode : Mode) (e : Element) (xs rest : List ℕ) (cs : List ℕ) → mode ≡ Formula → IsElement mode e xs rest → cs ≡ xs ++ rest → begins_with 64 cs ≡ true → ⊥
at_bad mode e xs rest [] h p f g = cc
at_bad mode e xs rest (c ∷ cs) h p f g =
    let i : element_at Formula (c ∷ cs) ≡ None = subst (λ x. element_at Formula (x ∷ cs) ≡ None) (sym (eqb-true c 64 g)) (at_none cs) in
    none_found Formula (c ∷ cs) i e xs rest f (subst (λ x. IsElement x e xs rest) h p)

no_at_by : (mode : Mode) (e : Element) (xs rest : List ℕ) → mode ≡ Formula → IsElement mode e xs rest → begins_with 64 (xs ++ rest) ≡ false
no_at_by mode e xs rest h p = by (begins_with 64 (xs ++ rest)) refl
  where
    by : (b : Bool) → begins_with 64 (xs ++ rest) ≡ b → b ≡ false
    by true f = absurd (at_bad mode e xs rest (xs ++ rest) h p refl f)
    by false f = refl

pub no_at : {es : List Enclosing} {at : ℕ} {cs : List ℕ} {ls : List Lexeme} {fs : List Enclosing} {upto : ℕ} {rest : List ℕ} → LexesTo es at cs ls fs upto rest → rest ≡ [] → mode_in es ≡ Formula → begins_with 64 cs ≡ false
no_at (stop es at cs) e h = ap (begins_with 64) e
no_at (skip es at xs cs ls fs upto rest p r) e h = no_at_by (mode_in es) Skip xs cs h p
no_at (token es at k xs cs ls fs upto rest p r) e h = no_at_by (mode_in es) (Token k) xs cs h p
