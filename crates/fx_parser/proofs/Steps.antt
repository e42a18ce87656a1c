-- The steps by which the text of a tree is read: what each form is made of.
use Rattle.std.proofs.Common.{◌≡◌, ℕ, suc, ◌+◌, max, Bool, true, false, List, [], ◌∷◌, ◌++◌, cond, refl, ap, sym, ◌∙◌, subst, Some, arith, leb, le-leb, append_assoc}
use Rattle.fx_lexer.specs.declared.token.Symbol.{Symbol}
use Rattle.fx_lexer.specs.declared.token.Symbol.TheVariants as symbol
use Rattle.fx_lexer.specs.declared.token.Word.{Word}
use Rattle.fx_lexer.specs.declared.token.Word.TheVariants as word
use Rattle.fx_lexer.specs.declared.token.TokenKind.{TokenKind}
use Rattle.fx_lexer.specs.declared.token.TokenKind.TheVariants as kind
use Rattle.fx_lexer.specs.declared.element.Enclosing.{Enclosing}
use Rattle.fx_lexer.specs.declared.element.Mode.TheVariants.{Formula}
use Rattle.fx_lexer.specs.Spelling.{in_name, word_spelling, symbol_spelling}
use Rattle.fx_lexer.specs.Lexed.{width, mode_in, enclosing_after}
use Rattle.fx_lexer.specs.Scan.{run_length}
use Rattle.fx_core.specs.declared.expr.Op.{Op}
use Rattle.fx_core.specs.declared.expr.Op.TheVariants as op
use Rattle.fx_core.specs.Tree.{Tree, node, Head, Forest, none, more, forest, tree_field_names, field_trees}
use Rattle.fx_core.specs.Tree as tree
use Rattle.fx_grammar.specs.declared.item.Item.{Item}
use Rattle.fx_grammar.specs.declared.item.Meaning.{Meaning}
use Rattle.fx_grammar.specs.declared.item.Meaning.TheVariants as m
use Rattle.fx_grammar.specs.declared.line.Join.TheVariants as join
use Rattle.fx_grammar.specs.declared.line.Left.TheVariants as left
use Rattle.fx_grammar.specs.declared.line.Line.{Line}
use Rattle.fx_grammar.specs.declared.line.Line.TheVariants.{Chain, Several, By, Alias, Prefix, Power, Percent, Access, Atom}
use Rattle.fx_grammar.specs.Grammar.{first_byte, operator, sign, atom_head, Parses, next, aliased, signed, raised, percent, dotted, leaf, a_global, brackets}
use Rattle.fx_parser.specs.Printing.{looseness, line_of_op, left_line, right_line, operator_spelling, spaced, name_text, line_of, printed_within, shown}
use Rattle.fx_parser.specs.SameTree.{unplaced, unplaced_head}
use Rattle.fx_parser.specs.Fewest.{token_weight, tokens_weight}
use Rattle.fx_lexer.proofs.Follows.{SymbolEnds}
use Rattle.fx_parser.proofs.Ahead.{Rest, tok, space_then, sign_then, word_then, name_then, name_no_digit, Safe, safe_space, safe_close, safe_bracket, safe_percent, safe_dot}
use Rattle.fx_parser.proofs.PrintedLines.{holds}
use Rattle.fx_parser.proofs.Weights.{weight, cost, leaf_counts, sign_counts}

-- what brackets and commas count, as they count b and c
abbrev pub Weight : Type 0
Weight = ℕ → ℕ → ℕ

-- These tokens are, in this line, the tree up to positions, before the tokens that n has from some byte; their brackets and commas count w.
pub record Told (w : Weight) (l : Line) (xs : List Item) (t : Tree) (n : ℕ → List Item) : Type 0 where
  pub to : ℕ
  pub depth : ℕ
  pub seen : Tree
  pub same : unplaced seen ≡ unplaced t
  pub parses : Parses l depth xs seen (n to)
  pub counted : (i j : ℕ) → tokens_weight i j xs ≡ w i j + tokens_weight i j (n to)

-- these characters are read as tokens of the tree before n
pub record Says (w : Weight) (l : Line) (es : List Enclosing) (cs : List ℕ) (t : Tree) (n : ℕ → List Item) : Type 0 where
  pub items : ℕ → List Item
  pub rest : Rest es cs items
  pub told : (at : ℕ) → Told w l (items at) t n

-- the text s is read as the tree, before whatever may follow it
abbrev pub Speaks : Weight → Line → List Enclosing → List ℕ → Tree → Type 0
Speaks w l es s t = (k : List ℕ) (n : ℕ → List Item) → Safe k → Rest es k n → Says w l es (s ++ k) t n

pub says_text : {w : Weight} (l : Line) (es : List Enclosing) (cs ds : List ℕ) (t : Tree) (n : ℕ → List Item) → cs ≡ ds → Says w l es ds t n → Says w l es cs t n
says_text {w = w} l es cs ds t n e p = subst (λ x. Says w l es x t n) (sym e) p

pub recounted : {v w : Weight} (l : Line) (es : List Enclosing) (cs : List ℕ) (t : Tree) (n : ℕ → List Item) → ((i j : ℕ) → v i j ≡ w i j) → Says v l es cs t n → Says w l es cs t n
recounted {v = v} {w = w} l es cs t n e p = record {
  items = p.items;
  rest = p.rest;
  told = λ at. let q = p.told at in record { to = q.to; depth = q.depth; seen = q.seen; same = q.same; parses = q.parses; counted = λ i j. q.counted i j ∙ ap (λ x. x + tokens_weight i j (n q.to)) (e i j) };
}

pub loosened : {w : Weight} (l k : Line) (es : List Enclosing) (cs : List ℕ) (t : Tree) (n : ℕ → List Item) → leb (looseness k) (looseness l) ≡ true → Says w k es cs t n → Says w l es cs t n
loosened l k es cs t n e p = record {
  items = p.items;
  rest = p.rest;
  told = λ at. let q = p.told at in record { to = q.to; depth = q.depth; seen = q.seen; same = q.same; parses = holds q.depth (p.items at) q.seen (n q.to) l k e q.parses; counted = q.counted };
}

pub highest : (k : Line) → leb (looseness k) 14 ≡ true
highest Atom = refl
highest Access = refl
highest Percent = refl
highest Power = refl
highest Prefix = refl
highest Alias = refl
highest (By left.Prod) = refl
highest (By left.Sum) = refl
highest (By left.Comp) = refl
highest (By left.Member) = refl
highest (Several join.Cat) = refl
highest (Several join.And) = refl
highest (Several join.Or) = refl
highest (Several join.Chain) = refl
highest Chain = refl

lowest : (l : Line) → leb 0 (looseness l) ≡ true
lowest l = le-leb 0 (looseness l) (omega arith)

-- a part where a line stands, in brackets where its own is looser
pub within_is : (l : Line) (es : List Enclosing) (t : Tree) → mode_in es ≡ Formula → Speaks (λ i j. weight i j t) (line_of t) es (shown t) t → Speaks (λ i j. cost i j l t) l es (printed_within l t (shown t)) t
within_is l es t h f k n s r = by (leb (looseness (line_of t)) (looseness l)) refl
  where
    by : (b : Bool) → leb (looseness (line_of t)) (looseness l) ≡ b → Says (λ x y. weight x y t + cond b 0 x) l es (cond b (shown t) (40 ∷ (shown t ++ 41 ∷ [])) ++ k) t n
    by true e = recounted l es (shown t ++ k) t n (λ x y. omega arith) (loosened l (line_of t) es (shown t ++ k) t n e (f k n s r))
    by false e =
        let j : ℕ → List Item = λ at. tok (kind.Symbol symbol.CloseParen) (41 ∷ []) (m.Symbol symbol.CloseParen) at ∷ n (at + width (41 ∷ [])) in
        let q = f (41 ∷ k) j (safe_close k) (sign_then symbol.CloseParen es es k n h refl tt r) in
        let i : ℕ → List Item = λ at. tok (kind.Symbol symbol.OpenParen) (40 ∷ []) (m.Symbol symbol.OpenParen) at ∷ q.items (at + width (40 ∷ [])) in
        let p : Says (λ x y. weight x y t + x) Atom es (40 ∷ (shown t ++ 41 ∷ k)) t n = record {
          items = i;
          rest = sign_then symbol.OpenParen es es (shown t ++ 41 ∷ k) q.items h refl tt q.rest;
          told = λ at. let g = q.told (at + width (40 ∷ [])) in record {
            to = g.to + width (41 ∷ []);
            depth = suc g.depth;
            seen = g.seen;
            same = g.same;
            parses = brackets g.depth (tok (kind.Symbol symbol.OpenParen) (40 ∷ []) (m.Symbol symbol.OpenParen) at) (q.items (at + width (40 ∷ []))) g.seen (tok (kind.Symbol symbol.CloseParen) (41 ∷ []) (m.Symbol symbol.CloseParen) g.to) (n (g.to + width (41 ∷ []))) refl
                (holds g.depth (q.items (at + width (40 ∷ []))) g.seen (j g.to) Chain (line_of t) (highest (line_of t)) g.parses) refl;
            counted = λ x y. let h = g.counted x y in omega (arith, h);
          };
        } in
        says_text l es _ (40 ∷ (shown t ++ 41 ∷ k)) t n (ap (λ x. 40 ∷ x) (append_assoc (shown t) (41 ∷ []) k)) (loosened l Atom es (40 ∷ (shown t ++ 41 ∷ k)) t n (lowest l) p)

-- a token that is an atom by itself
pub leaf_is : (es : List Enclosing) (cs : List ℕ) (a : ℕ) (h : Head) (k : TokenKind) (xs : List ℕ) (g : Meaning) (n : ℕ → List Item) → atom_head g ≡ Some h
    → Rest es cs (λ at. tok k xs g at ∷ n (at + width xs)) → Says (λ i j. 0) Atom es cs (node a h none) n
leaf_is es cs a h k xs g n e r = record {
  items = λ at. tok k xs g at ∷ n (at + width xs);
  rest = r;
  told = λ at. record { to = at + width xs; depth = 1; seen = node at h none; same = refl; parses = leaf (tok k xs g at) h (n (at + width xs)) e; counted = λ i j. let c = leaf_counts g h i j e in omega (arith, c) };
}

-- operators between two operands
abbrev pub operator_meaning : Op → Meaning
operator_meaning op.Add = m.Symbol symbol.Plus
operator_meaning op.Sub = m.Symbol symbol.Minus
operator_meaning op.Mul = m.Symbol symbol.Star
operator_meaning op.Div = m.Symbol symbol.Slash
operator_meaning op.Pow = m.Symbol symbol.Caret
operator_meaning op.Eq = m.Symbol symbol.Equal
operator_meaning op.Ne = m.Symbol symbol.NotEqual
operator_meaning op.Lt = m.Symbol symbol.Less
operator_meaning op.Le = m.Symbol symbol.LessEqual
operator_meaning op.Gt = m.Symbol symbol.Greater
operator_meaning op.Ge = m.Symbol symbol.GreaterEqual
operator_meaning op.In = m.Word word.In
operator_meaning op.ExactIn = m.Word word.ExactIn

meaning_counts : (o : Op) (b c : ℕ) → token_weight b c (operator_meaning o) ≡ 0
meaning_counts op.Add b c = refl
meaning_counts _ b c = refl

pub record Led (g : Meaning) (es : List Enclosing) (cs : List ℕ) (n : ℕ → List Item) : Type 0 where
  pub front : ℕ → Item
  pub go : ℕ → ℕ
  pub rest : Rest es cs (λ at. front at ∷ n (go at))
  pub means : (at : ℕ) → (front at).meaning ≡ g

pub symbol_led : (s : Symbol) (es : List Enclosing) (cs : List ℕ) (n : ℕ → List Item) → mode_in es ≡ Formula → enclosing_after (kind.Symbol s) es ≡ es → SymbolEnds s cs → Rest es cs n → Led (m.Symbol s) es (symbol_spelling s ++ cs) n
symbol_led s es cs n h e ends r = record { front = tok (kind.Symbol s) (symbol_spelling s) (m.Symbol s); go = λ at. at + width (symbol_spelling s); rest = sign_then s es es cs n h e ends r; means = λ at. refl }

word_led : (w : Word) (es : List Enclosing) (cs : List ℕ) (n : ℕ → List Item) → mode_in es ≡ Formula → run_length in_name cs ≡ 0 → Rest es cs n → Led (m.Word w) es (word_spelling w ++ cs) n
word_led w es cs n h ends r = record { front = tok (kind.Word w) (word_spelling w) (m.Word w); go = λ at. at + width (word_spelling w); rest = word_then w es cs n h ends r; means = λ at. refl }

pub spaced_led : (g : Meaning) (es : List Enclosing) (cs : List ℕ) (n : ℕ → List Item) → mode_in es ≡ Formula → Led g es cs n → Led g es (32 ∷ cs) n
spaced_led g es cs n h p = record { front = λ at. p.front (at + width (32 ∷ [])); go = λ at. p.go (at + width (32 ∷ [])); rest = space_then es cs (λ at. p.front at ∷ n (p.go at)) h p.rest; means = λ at. p.means (at + width (32 ∷ [])) }

pub after_space : (g : Meaning) (es : List Enclosing) (cs : List ℕ) (n : ℕ → List Item) → Led g es cs (λ at. n (at + width (32 ∷ []))) → Led g es cs n
after_space g es cs n p = record { front = p.front; go = λ at. p.go at + width (32 ∷ []); rest = p.rest; means = p.means }

operator_led : (o : Op) (es : List Enclosing) (cs : List ℕ) (n : ℕ → List Item) → mode_in es ≡ Formula → Rest es (32 ∷ cs) n → Led (operator_meaning o) es (operator_spelling o ++ 32 ∷ cs) n
operator_led op.Add es cs n h r = symbol_led symbol.Plus es (32 ∷ cs) n h refl tt r
operator_led op.Sub es cs n h r = symbol_led symbol.Minus es (32 ∷ cs) n h refl tt r
operator_led op.Mul es cs n h r = symbol_led symbol.Star es (32 ∷ cs) n h refl tt r
operator_led op.Div es cs n h r = symbol_led symbol.Slash es (32 ∷ cs) n h refl (refl, refl) r
operator_led op.Pow es cs n h r = symbol_led symbol.Caret es (32 ∷ cs) n h refl tt r
operator_led op.Eq es cs n h r = symbol_led symbol.Equal es (32 ∷ cs) n h refl tt r
operator_led op.Ne es cs n h r = symbol_led symbol.NotEqual es (32 ∷ cs) n h refl tt r
operator_led op.Lt es cs n h r = symbol_led symbol.Less es (32 ∷ cs) n h refl (refl, refl) r
operator_led op.Le es cs n h r = symbol_led symbol.LessEqual es (32 ∷ cs) n h refl tt r
operator_led op.Gt es cs n h r = symbol_led symbol.Greater es (32 ∷ cs) n h refl refl r
operator_led op.Ge es cs n h r = symbol_led symbol.GreaterEqual es (32 ∷ cs) n h refl tt r
operator_led op.In es cs n h r = let s = safe_space cs in word_led word.In es (32 ∷ cs) n h s.name r
operator_led op.ExactIn es cs n h r = let s = safe_space cs in word_led word.ExactIn es (32 ∷ cs) n h s.name r

-- an operator with its spaces
between_led : (o : Op) (es : List Enclosing) (cs : List ℕ) (n : ℕ → List Item) → mode_in es ≡ Formula → Rest es cs n → Led (operator_meaning o) es (spaced (operator_spelling o) ++ cs) n
between_led o es cs n h r =
    let p = spaced_led (operator_meaning o) es (operator_spelling o ++ 32 ∷ cs) _ h (operator_led o es cs (λ at. n (at + width (32 ∷ []))) h (space_then es cs n h r)) in
    let q = after_space (operator_meaning o) es (32 ∷ (operator_spelling o ++ 32 ∷ cs)) n p in
    subst (λ x. Led (operator_meaning o) es x n) (sym (ap (λ x. 32 ∷ x) (append_assoc (operator_spelling o) (32 ∷ []) cs))) q

pair_parses : (o : Op) (d e : ℕ) (ts : List Item) (t : Tree) (x : Item) (us : List Item) (u : Tree) (rest : List Item) → Parses (left_line o) d ts t (x ∷ us) → x.meaning ≡ operator_meaning o → Parses (right_line o) e us u rest
    → Parses (line_of_op o) (suc (max d e)) ts (node (first_byte ts) (tree.pair o) (more t (more u none))) rest
pair_parses op.Add d e ts t x us u rest p f q = next left.Sum d e ts t x us op.Add u rest p (ap (operator left.Sum) f) q
pair_parses op.Sub d e ts t x us u rest p f q = next left.Sum d e ts t x us op.Sub u rest p (ap (operator left.Sum) f) q
pair_parses op.Mul d e ts t x us u rest p f q = next left.Prod d e ts t x us op.Mul u rest p (ap (operator left.Prod) f) q
pair_parses op.Div d e ts t x us u rest p f q = next left.Prod d e ts t x us op.Div u rest p (ap (operator left.Prod) f) q
pair_parses op.Pow d e ts t x us u rest p f q = raised d e ts t x us u rest p f q
pair_parses op.Eq d e ts t x us u rest p f q = next left.Comp d e ts t x us op.Eq u rest p (ap (operator left.Comp) f) q
pair_parses op.Ne d e ts t x us u rest p f q = next left.Comp d e ts t x us op.Ne u rest p (ap (operator left.Comp) f) q
pair_parses op.Lt d e ts t x us u rest p f q = next left.Comp d e ts t x us op.Lt u rest p (ap (operator left.Comp) f) q
pair_parses op.Le d e ts t x us u rest p f q = next left.Comp d e ts t x us op.Le u rest p (ap (operator left.Comp) f) q
pair_parses op.Gt d e ts t x us u rest p f q = next left.Comp d e ts t x us op.Gt u rest p (ap (operator left.Comp) f) q
pair_parses op.Ge d e ts t x us u rest p f q = next left.Comp d e ts t x us op.Ge u rest p (ap (operator left.Comp) f) q
pair_parses op.In d e ts t x us u rest p f q = next left.Member d e ts t x us op.In u rest p (ap (operator left.Member) f) q
pair_parses op.ExactIn d e ts t x us u rest p f q = next left.Member d e ts t x us op.ExactIn u rest p (ap (operator left.Member) f) q

pub pair_is : {x y : Weight} (o : Op) (es : List Enclosing) (a : ℕ) (v w : List ℕ) (t u : Tree) → mode_in es ≡ Formula → Speaks x (left_line o) es v t → Speaks y (right_line o) es w u
    → Speaks (λ i j. x i j + y i j) (line_of_op o) es (v ++ (spaced (operator_spelling o) ++ w)) (node a (tree.pair o) (more t (more u none)))
pair_is {x = c} {y = d} o es a v w t u h f g k n s r =
    let q = g k n s r in
    let b = between_led o es (w ++ k) q.items h q.rest in
    let p = f (spaced (operator_spelling o) ++ (w ++ k)) (λ at. b.front at ∷ q.items (b.go at)) (safe_space ((operator_spelling o ++ 32 ∷ []) ++ (w ++ k))) b.rest in
    let z : Says (λ i j. c i j + d i j) (line_of_op o) es (v ++ (spaced (operator_spelling o) ++ (w ++ k))) (node a (tree.pair o) (more t (more u none))) n = record {
      items = p.items;
      rest = p.rest;
      told = λ at.
          let x = p.told at in
          let y = q.told (b.go x.to) in
          record {
            to = y.to;
            depth = suc (max x.depth y.depth);
            seen = node (first_byte (p.items at)) (tree.pair o) (more x.seen (more y.seen none));
            same = λ i. node 0 (tree.pair o) (more (x.same i) (more (y.same i) none));
            parses = pair_parses o x.depth y.depth (p.items at) x.seen (b.front x.to) (q.items (b.go x.to)) y.seen (n y.to) x.parses (b.means x.to) y.parses;
            counted = λ i j.
                let e = x.counted i j in
                let f = y.counted i j in
                let g : token_weight i j (b.front x.to).meaning ≡ 0 = ap (token_weight i j) (b.means x.to) ∙ meaning_counts o i j in
                omega (arith, e, f, g);
          };
    } in
    says_text (line_of_op o) es _ (v ++ (spaced (operator_spelling o) ++ (w ++ k))) _ n (append_assoc v (spaced (operator_spelling o) ++ w) k ∙ ap (λ x. v ++ x) (append_assoc (spaced (operator_spelling o)) w k)) z

-- `-` and `!`
pub sign_is : {w : Weight} (y : Symbol) (hd : Head) (es : List Enclosing) (a : ℕ) (v : List ℕ) (t : Tree) → mode_in es ≡ Formula → sign (m.Symbol y) ≡ Some hd → enclosing_after (kind.Symbol y) es ≡ es → ((cs : List ℕ) → SymbolEnds y cs)
    → Speaks w Prefix es v t → Speaks w Prefix es (symbol_spelling y ++ v) (node a hd (more t none))
sign_is {w = c} y hd es a v t h e f ends p k n s r =
    let q = p k n s r in
    let z : Says c Prefix es (symbol_spelling y ++ (v ++ k)) (node a hd (more t none)) n = record {
      items = λ at. tok (kind.Symbol y) (symbol_spelling y) (m.Symbol y) at ∷ q.items (at + width (symbol_spelling y));
      rest = sign_then y es es (v ++ k) q.items h f (ends (v ++ k)) q.rest;
      told = λ at. let x = q.told (at + width (symbol_spelling y)) in record {
        to = x.to;
        depth = suc x.depth;
        seen = node at hd (more x.seen none);
        same = λ i. node 0 (unplaced_head hd) (more (x.same i) none);
        parses = signed x.depth (tok (kind.Symbol y) (symbol_spelling y) (m.Symbol y) at) hd (q.items (at + width (symbol_spelling y))) x.seen (n x.to) e x.parses;
        counted = λ i j.
            let a = x.counted i j in
            let b = sign_counts (m.Symbol y) hd i j e in
            omega (arith, a, b);
      };
    } in
    says_text Prefix es _ (symbol_spelling y ++ (v ++ k)) _ n (append_assoc (symbol_spelling y) v k) z

pub percent_is : {w : Weight} (es : List Enclosing) (a : ℕ) (v : List ℕ) (t : Tree) → mode_in es ≡ Formula → Speaks w Percent es v t → Speaks w Percent es (v ++ 37 ∷ []) (node a tree.percent (more t none))
percent_is {w = c} es a v t h p k n s r =
    let q = p (37 ∷ k) _ (safe_percent k) (sign_then symbol.Percent es es k n h refl tt r) in
    let z : Says c Percent es (v ++ 37 ∷ k) (node a tree.percent (more t none)) n = record {
      items = q.items;
      rest = q.rest;
      told = λ at. let x = q.told at in record {
        to = x.to + width (37 ∷ []);
        depth = suc x.depth;
        seen = node (first_byte (q.items at)) tree.percent (more x.seen none);
        same = λ i. node 0 tree.percent (more (x.same i) none);
        parses = percent x.depth (q.items at) x.seen (tok (kind.Symbol symbol.Percent) (37 ∷ []) (m.Symbol symbol.Percent) x.to) (n (x.to + width (37 ∷ []))) x.parses refl;
        counted = λ i j. let a = x.counted i j in omega (arith, a);
      };
    } in
    says_text Percent es _ (v ++ 37 ∷ k) _ n (append_assoc v (37 ∷ []) k) z

pub dot_is : {w : Weight} (es : List Enclosing) (a c : ℕ) (cs v : List ℕ) (t : Tree) → mode_in es ≡ Formula → Speaks w Access es v t → Speaks w Access es (v ++ (46 ∷ name_text (c ∷ cs))) (node a (tree.dot (c ∷ cs)) (more t none))
dot_is {w = d} es a c cs v t h p k n s r =
    let w = name_text (c ∷ cs) in
    let q = p (46 ∷ (w ++ k)) _ (safe_dot (w ++ k) (name_no_digit c cs k)) (sign_then symbol.Dot es es (w ++ k) _ h refl tt (name_then es c cs k n h s r)) in
    let z : Says d Access es (v ++ 46 ∷ (w ++ k)) (node a (tree.dot (c ∷ cs)) (more t none)) n = record {
      items = q.items;
      rest = q.rest;
      told = λ at. let x = q.told at in record {
        to = (x.to + width (46 ∷ [])) + width w;
        depth = suc x.depth;
        seen = node (first_byte (q.items at)) (tree.dot (c ∷ cs)) (more x.seen none);
        same = λ i. node 0 (tree.dot (c ∷ cs)) (more (x.same i) none);
        parses = dotted x.depth (q.items at) x.seen (tok (kind.Symbol symbol.Dot) (46 ∷ []) (m.Symbol symbol.Dot) x.to) (tok kind.Name w (m.Name (c ∷ cs)) (x.to + width (46 ∷ []))) (c ∷ cs) (n ((x.to + width (46 ∷ [])) + width w)) x.parses refl refl;
        counted = λ i j. let a = x.counted i j in omega (arith, a);
      };
    } in
    says_text Access es _ (v ++ 46 ∷ (w ++ k)) _ n (append_assoc v (46 ∷ w) k) z

pub alias_is : {w : Weight} (es : List Enclosing) (a c : ℕ) (cs v : List ℕ) (t : Tree) → mode_in es ≡ Formula → Speaks w Prefix es v t → Speaks w Alias es (v ++ (spaced (word_spelling word.As) ++ name_text (c ∷ cs))) (node a (tree.alias (c ∷ cs)) (more t none))
alias_is {w = d} es a c cs v t h p k n s r =
    let w = name_text (c ∷ cs) in
    let j = safe_space (w ++ k) in
    let b = space_then es (65 ∷ 115 ∷ 32 ∷ (w ++ k)) _ h (word_then word.As es (32 ∷ (w ++ k)) _ h j.name (space_then es (w ++ k) _ h (name_then es c cs k n h s r))) in
    let q = p (32 ∷ 65 ∷ 115 ∷ 32 ∷ (w ++ k)) _ (safe_space (65 ∷ 115 ∷ 32 ∷ (w ++ k))) b in
    let z : Says d Alias es (v ++ 32 ∷ 65 ∷ 115 ∷ 32 ∷ (w ++ k)) (node a (tree.alias (c ∷ cs)) (more t none)) n = record {
      items = q.items;
      rest = q.rest;
      told = λ at. let x = q.told at in
          let i = x.to + width (32 ∷ []) in
          let j = (i + width (65 ∷ 115 ∷ [])) + width (32 ∷ []) in record {
            to = j + width w;
            depth = suc x.depth;
            seen = node (first_byte (q.items at)) (tree.alias (c ∷ cs)) (more x.seen none);
            same = λ i. node 0 (tree.alias (c ∷ cs)) (more (x.same i) none);
            parses = aliased x.depth (q.items at) x.seen (tok (kind.Word word.As) (65 ∷ 115 ∷ []) (m.Word word.As) i) (tok kind.Name w (m.Name (c ∷ cs)) j) (c ∷ cs) (n (j + width w)) x.parses refl refl;
            counted = λ i j. let a = x.counted i j in omega (arith, a);
          };
    } in
    says_text Alias es _ (v ++ 32 ∷ 65 ∷ 115 ∷ 32 ∷ (w ++ k)) _ n (append_assoc v (32 ∷ 65 ∷ 115 ∷ 32 ∷ w) k) z

pub global_is : (es : List Enclosing) (a c : ℕ) (cs : List ℕ) → mode_in es ≡ Formula → Speaks (λ i j. 0) Atom es (91 ∷ 64 ∷ (name_text (c ∷ cs) ++ 93 ∷ [])) (node a (tree.global (c ∷ cs)) none)
global_is es a c cs h k n s r =
    let w = name_text (c ∷ cs) in
    let b = sign_then symbol.OpenBracketAt es es (w ++ 93 ∷ k) _ h refl tt (name_then es c cs (93 ∷ k) _ h (safe_bracket k) (sign_then symbol.CloseBracket es es k n h refl tt r)) in
    let z : Says (λ i j. 0) Atom es (91 ∷ 64 ∷ (w ++ 93 ∷ k)) (node a (tree.global (c ∷ cs)) none) n = record {
      items = _;
      rest = b;
      told = λ at.
          let i = at + width (91 ∷ 64 ∷ []) in
          let j = i + width w in record {
            to = j + width (93 ∷ []);
            depth = 1;
            seen = node at (tree.global (c ∷ cs)) none;
            same = refl;
            parses = a_global (tok (kind.Symbol symbol.OpenBracketAt) (91 ∷ 64 ∷ []) (m.Symbol symbol.OpenBracketAt) at) (tok kind.Name w (m.Name (c ∷ cs)) i) (tok (kind.Symbol symbol.CloseBracket) (93 ∷ []) (m.Symbol symbol.CloseBracket) j) (c ∷ cs) (n (j + width (93 ∷ []))) refl refl refl;
            counted = λ i j. omega arith;
          };
    } in
    says_text Atom es _ (91 ∷ 64 ∷ (w ++ 93 ∷ k)) _ n (ap (λ x. 91 ∷ 64 ∷ x) (append_assoc w (93 ∷ []) k)) z
