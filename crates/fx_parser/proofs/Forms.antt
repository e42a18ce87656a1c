-- The forms of many parts: how their text is read, and what they are made of.
use Rattle.std.proofs.Common.{◌≡◌, ℕ, suc, ◌+◌, max, arith, true, List, [], ◌∷◌, ◌++◌, refl, ap, sym, ◌∙◌, subst, Some, append-nil, append_assoc}
use Rattle.fx_lexer.specs.declared.token.Symbol.{Symbol}
use Rattle.fx_lexer.specs.declared.token.Symbol.TheVariants as symbol
use Rattle.fx_lexer.specs.declared.token.TokenKind.{TokenKind}
use Rattle.fx_lexer.specs.declared.token.TokenKind.TheVariants as kind
use Rattle.fx_lexer.specs.declared.element.Enclosing.{Enclosing}
use Rattle.fx_lexer.specs.declared.element.Enclosing.TheVariants as around
use Rattle.fx_lexer.specs.declared.element.Mode.TheVariants.{Formula}
use Rattle.fx_lexer.specs.Spelling.{symbol_spelling}
use Rattle.fx_lexer.specs.Lexed.{width, mode_in, enclosing_after}
use Rattle.fx_core.specs.declared.expr.FieldName.{FieldName}
use Rattle.fx_core.specs.Tree.{Tree, NamedTree, node, Head, Forest, none, more, forest, tree_field_names, places_of, field_trees}
use Rattle.fx_core.specs.Tree as tree
use Rattle.fx_grammar.specs.declared.item.Item.{Item}
use Rattle.fx_grammar.specs.declared.item.Meaning.{Meaning}
use Rattle.fx_grammar.specs.declared.item.Meaning.TheVariants as m
use Rattle.fx_grammar.specs.declared.line.Join.{Join}
use Rattle.fx_grammar.specs.declared.line.Join.TheVariants as join
use Rattle.fx_grammar.specs.declared.line.Separator.{Separator}
use Rattle.fx_grammar.specs.declared.line.Separator.TheVariants.{Between, Comma}
use Rattle.fx_grammar.specs.declared.line.Line.TheVariants.{Several, Atom}
use Rattle.fx_grammar.specs.Grammar.{field_name, first_byte, separates, part_of, join_head, callee, Parses, many, a_call, a_record, a_list, Parts, alone, further, Args, no_args, some_args, Field, field, SomeFields, one_field, further_field, Fields, no_fields, some_fields}
use Rattle.fx_parser.specs.Printing.{spaced, name_text, and_text, or_text, cat_text, comma_text, chain_text, label_text, in_brackets}
use Rattle.fx_parser.specs.SameTree.{unplaced, all_unplaced, unplaced_head}
use Rattle.fx_parser.specs.Fewest.{tokens_weight}
use Rattle.fx_lexer.proofs.Follows.{SymbolEnds}
use Rattle.fx_parser.proofs.Ahead.{Rest, tok, space_then, sign_then, name_then, Safe, safe_space, safe_open, safe_close, safe_comma, safe_colon, safe_semicolon, safe_bracket, safe_brace}
use Rattle.fx_parser.proofs.Weaves.{no_at}
use Rattle.fx_parser.proofs.Steps.{Weight, Says, Speaks, says_text, Led, symbol_led, spaced_led, after_space}
use Rattle.fx_parser.proofs.Weights.{between_count, callee_counts, divider_counts}

-- These tokens go on a list of parts with parts that are these trees up to positions.
pub record Goes (w : Weight) (s : Separator) (xs : List Item) (ts : Forest) (n : ℕ → List Item) : Type 0 where
  pub to : ℕ
  pub trees : List Tree
  pub same : all_unplaced (forest trees) ≡ all_unplaced ts
  pub joins : (d : ℕ) (ws : List Item) (ps : List Tree) → Parts s d ws ps xs → (e : ℕ) × Parts s e ws (ps ++ trees) (n to)
  pub counted : (i j : ℕ) → tokens_weight i j xs ≡ w i j + tokens_weight i j (n to)

pub record SaysOn (w : Weight) (s : Separator) (es : List Enclosing) (cs : List ℕ) (ts : Forest) (n : ℕ → List Item) : Type 0 where
  pub items : ℕ → List Item
  pub rest : Rest es cs items
  pub goes : (at : ℕ) → Goes w s (items at) ts n

abbrev pub SpeaksOn : Weight → Separator → List Enclosing → List ℕ → Forest → Type 0
SpeaksOn w s es v ts = (k : List ℕ) (n : ℕ → List Item) → Safe k → Rest es k n → SaysOn w s es (v ++ k) ts n

-- what stands between parts is read as a separator
pub record Divided (s : Separator) (es : List Enclosing) (cs : List ℕ) (n : ℕ → List Item) : Type 0 where
  pub front : ℕ → Item
  pub go : ℕ → ℕ
  pub rest : Rest es cs (λ at. front at ∷ n (go at))
  pub divides : (at : ℕ) → separates s (front at).meaning ≡ true

pub record Divides (s : Separator) (between : List ℕ) (es : List Enclosing) : Type 0 where
  pub safe : (cs : List ℕ) → Safe (between ++ cs)
  pub divided : (cs : List ℕ) (n : ℕ → List Item) → Rest es cs n → Divided s es (between ++ cs) n

led_divided : (s : Separator) (g : Meaning) (es : List Enclosing) (cs : List ℕ) (n : ℕ → List Item) → separates s g ≡ true → Led g es cs n → Divided s es cs n
led_divided s g es cs n e p = record { front = p.front; go = p.go; rest = p.rest; divides = λ at. ap (separates s) (p.means at) ∙ e }

-- a symbol with spaces around, and one with a space behind
spaced_divides : (s : Separator) (y : Symbol) (es : List Enclosing) → mode_in es ≡ Formula → enclosing_after (kind.Symbol y) es ≡ es → ((cs : List ℕ) → SymbolEnds y (32 ∷ cs)) → separates s (m.Symbol y) ≡ true → Divides s (spaced (symbol_spelling y)) es
spaced_divides s y es h f ends e = record {
  safe = λ cs. safe_space ((symbol_spelling y ++ 32 ∷ []) ++ cs);
  divided = λ cs n r.
      let p = symbol_led y es (32 ∷ cs) (λ at. n (at + width (32 ∷ []))) h f (ends cs) (space_then es cs n h r) in
      let q = after_space (m.Symbol y) es (32 ∷ (symbol_spelling y ++ 32 ∷ cs)) n (spaced_led (m.Symbol y) es (symbol_spelling y ++ 32 ∷ cs) _ h p) in
      led_divided s (m.Symbol y) es _ n e (subst (λ x. Led (m.Symbol y) es x n) (sym (ap (λ x. 32 ∷ x) (append_assoc (symbol_spelling y) (32 ∷ []) cs))) q);
}

ended_divides : (s : Separator) (y : Symbol) (es : List Enclosing) → mode_in es ≡ Formula → enclosing_after (kind.Symbol y) es ≡ es → ((cs : List ℕ) → SymbolEnds y (32 ∷ cs)) → separates s (m.Symbol y) ≡ true → ((cs : List ℕ) → Safe ((symbol_spelling y ++ 32 ∷ []) ++ cs)) → Divides s (symbol_spelling y ++ 32 ∷ []) es
ended_divides s y es h f ends e safe = record {
  safe = safe;
  divided = λ cs n r.
      let p = symbol_led y es (32 ∷ cs) (λ at. n (at + width (32 ∷ []))) h f (ends cs) (space_then es cs n h r) in
      let q = after_space (m.Symbol y) es (symbol_spelling y ++ 32 ∷ cs) n p in
      led_divided s (m.Symbol y) es _ n e (subst (λ x. Led (m.Symbol y) es x n) (sym (append_assoc (symbol_spelling y) (32 ∷ []) cs)) q);
}

pub commas : (es : List Enclosing) → mode_in es ≡ Formula → Divides Comma comma_text es
commas es h = ended_divides Comma symbol.Comma es h refl (λ cs. tt) refl (λ cs. safe_comma (32 ∷ cs))

pub semicolons : (es : List Enclosing) → mode_in es ≡ Formula → Divides (Between join.Chain) chain_text es
semicolons es h = ended_divides (Between join.Chain) symbol.Semicolon es h refl (λ cs. tt) refl (λ cs. safe_semicolon (32 ∷ cs))

pub ands : (es : List Enclosing) → mode_in es ≡ Formula → Divides (Between join.And) and_text es
ands es h = spaced_divides (Between join.And) symbol.DoubleAmpersand es h refl (λ cs. tt) refl

pub ors : (es : List Enclosing) → mode_in es ≡ Formula → Divides (Between join.Or) or_text es
ors es h = spaced_divides (Between join.Or) symbol.DoubleBar es h refl (λ cs. tt) refl

pub cats : (es : List Enclosing) → mode_in es ≡ Formula → Divides (Between join.Cat) cat_text es
cats es h = spaced_divides (Between join.Cat) symbol.Ampersand es h refl (λ cs. refl) refl

on_text : {w : Weight} (s : Separator) (es : List Enclosing) (cs ds : List ℕ) (ts : Forest) (n : ℕ → List Item) → cs ≡ ds → SaysOn w s es ds ts n → SaysOn w s es cs ts n
on_text {w = w} s es cs ds ts n e p = subst (λ x. SaysOn w s es x ts n) (sym e) p

pub no_more_is : (s : Separator) (es : List Enclosing) → SpeaksOn (λ i j. 0) s es [] none
no_more_is s es k n f r = record {
  items = n;
  rest = r;
  goes = λ at. record { to = at; trees = []; same = refl; joins = λ d ws ps p. (d, subst (λ x. Parts s d ws x (n at)) (sym (append-nil ps)) p); counted = λ i j. omega arith };
}

pub more_is : {x y : Weight} (s : Separator) (between : List ℕ) (es : List Enclosing) (v w : List ℕ) (t : Tree) (ts : Forest) → Divides s between es → ((k : List ℕ) → Safe k → Safe (w ++ k)) → Speaks x (part_of s) es v t → SpeaksOn y s es w ts → SpeaksOn (λ i j. between_count j s + (x i j + y i j)) s es (between ++ (v ++ w)) (more t ts)
more_is {x = a} {y = e} s between es v w t ts b safe p q k n f r =
    let y = q k n f r in
    let x = p (w ++ k) y.items (safe k f) y.rest in
    let z = b.divided (v ++ (w ++ k)) x.items x.rest in
    let on : SaysOn (λ i j. between_count j s + (a i j + e i j)) s es (between ++ (v ++ (w ++ k))) (more t ts) n = record {
      items = λ at. z.front at ∷ x.items (z.go at);
      rest = z.rest;
      goes = λ at.
          let g = x.told (z.go at) in
          let i = y.goes g.to in
          record {
            to = i.to;
            trees = g.seen ∷ i.trees;
            same = λ j. more (g.same j) (i.same j);
            joins = λ d ws ps u.
                let c = i.joins (max d g.depth) ws (ps ++ g.seen ∷ []) (further s d g.depth ws ps (z.front at) (x.items (z.go at)) g.seen (y.items g.to) u (z.divides at) g.parses) in
                (c.0, subst (λ l. Parts s c.0 ws l (n i.to)) (append_assoc ps (g.seen ∷ []) i.trees) c.1);
            counted = λ o c.
                let h = g.counted o c in
                let l = i.counted o c in
                let r = divider_counts s (z.front at).meaning o c (z.divides at) in
                omega (arith, h, l, r);
          };
    } in
    on_text s es _ (between ++ (v ++ (w ++ k))) (more t ts) n (append_assoc between (v ++ w) k ∙ ap (λ l. between ++ l) (append_assoc v w k)) on

-- one part or more
pub record ToldParts (w : Weight) (s : Separator) (xs : List Item) (ts : Forest) (n : ℕ → List Item) : Type 0 where
  pub to : ℕ
  pub depth : ℕ
  pub trees : List Tree
  pub same : all_unplaced (forest trees) ≡ all_unplaced ts
  pub parts : Parts s depth xs trees (n to)
  pub counted : (i j : ℕ) → tokens_weight i j xs ≡ w i j + tokens_weight i j (n to)

pub record SaysParts (w : Weight) (s : Separator) (es : List Enclosing) (cs : List ℕ) (ts : Forest) (n : ℕ → List Item) : Type 0 where
  pub items : ℕ → List Item
  pub rest : Rest es cs items
  pub told : (at : ℕ) → ToldParts w s (items at) ts n

abbrev pub SpeaksParts : Weight → Separator → List Enclosing → List ℕ → Forest → Type 0
SpeaksParts w s es v ts = (k : List ℕ) (n : ℕ → List Item) → Safe k → Rest es k n → SaysParts w s es (v ++ k) ts n

pub parts_is : {x y : Weight} (s : Separator) (es : List Enclosing) (v w : List ℕ) (t : Tree) (ts : Forest) → ((k : List ℕ) → Safe k → Safe (w ++ k)) → Speaks x (part_of s) es v t → SpeaksOn y s es w ts → SpeaksParts (λ i j. x i j + y i j) s es (v ++ w) (more t ts)
parts_is {x = a} {y = e} s es v w t ts safe p q k n f r =
    let y = q k n f r in
    let x = p (w ++ k) y.items (safe k f) y.rest in
    let on : SaysParts (λ i j. a i j + e i j) s es (v ++ (w ++ k)) (more t ts) n = record {
      items = x.items;
      rest = x.rest;
      told = λ at.
          let g = x.told at in
          let i = y.goes g.to in
          let c = i.joins g.depth (x.items at) (g.seen ∷ []) (alone s g.depth (x.items at) g.seen (y.items g.to) g.parses) in
          record { to = i.to; depth = c.0; trees = g.seen ∷ i.trees; same = λ j. more (g.same j) (i.same j); parts = c.1; counted = λ o r. let h = g.counted o r in let l = i.counted o r in omega (arith, h, l) };
    } in
    subst (λ l. SaysParts (λ i j. a i j + e i j) s es l (more t ts) n) (sym (append_assoc v w k)) on

-- two parts or more make one node
several : (j : Join) (d : ℕ) (xs : List Item) (ps : List Tree) (t u : Tree) (us : Forest) (rest : List Item) → all_unplaced (forest ps) ≡ all_unplaced (more t (more u us)) → Parts (Between j) d xs ps rest
    → Parses (Several j) (suc d) xs (node (first_byte xs) (join_head j) (forest ps)) rest
several j d xs [] t u us rest e p = absurd cc
several j d xs (x ∷ []) t u us rest e p = absurd cc
several j d xs (x ∷ y ∷ ps) t u us rest e p = many j d xs x y ps rest p

pub several_is : {w : Weight} (j : Join) (es : List Enclosing) (a : ℕ) (v : List ℕ) (t u : Tree) (us : Forest) → SpeaksParts w (Between j) es v (more t (more u us)) → Speaks w (Several j) es v (node a (join_head j) (more t (more u us)))
several_is j es a v t u us p k n f r =
    let x = p k n f r in record {
      items = x.items;
      rest = x.rest;
      told = λ at. let g = x.told at in record {
        to = g.to;
        depth = suc g.depth;
        seen = node (first_byte (x.items at)) (join_head j) (forest g.trees);
        same = by j (first_byte (x.items at)) a (forest g.trees) (more t (more u us)) g.same;
        parses = several j g.depth (x.items at) g.trees t u us (n g.to) g.same g.parts;
        counted = g.counted;
      };
    }
  where
    by : (j : Join) (a b : ℕ) (ts us : Forest) → all_unplaced ts ≡ all_unplaced us → unplaced (node a (join_head j) ts) ≡ unplaced (node b (join_head j) us)
    by j a b ts us e = ap (node 0 (unplaced_head (join_head j))) e

-- arguments, which there may be none of
pub record ToldArgs (w : Weight) (xs : List Item) (ts : Forest) (n : ℕ → List Item) : Type 0 where
  pub to : ℕ
  pub depth : ℕ
  pub trees : List Tree
  pub same : all_unplaced (forest trees) ≡ all_unplaced ts
  pub args : Args depth xs trees (n to)
  pub counted : (i j : ℕ) → tokens_weight i j xs ≡ w i j + tokens_weight i j (n to)

pub record SaysArgs (w : Weight) (es : List Enclosing) (cs : List ℕ) (ts : Forest) (n : ℕ → List Item) : Type 0 where
  pub items : ℕ → List Item
  pub rest : Rest es cs items
  pub told : (at : ℕ) → ToldArgs w (items at) ts n

abbrev pub SpeaksArgs : Weight → List Enclosing → List ℕ → Forest → Type 0
SpeaksArgs w es v ts = (k : List ℕ) (n : ℕ → List Item) → Safe k → Rest es k n → SaysArgs w es (v ++ k) ts n

pub no_args_is : (es : List Enclosing) → SpeaksArgs (λ i j. 0) es [] none
no_args_is es k n f r = record { items = n; rest = r; told = λ at. record { to = at; depth = 0; trees = []; same = refl; args = no_args (n at); counted = λ i j. omega arith } }

pub some_args_is : {w : Weight} (es : List Enclosing) (v : List ℕ) (ts : Forest) → SpeaksParts w Comma es v ts → SpeaksArgs w es v ts
some_args_is es v ts p k n f r = let x = p k n f r in record {
  items = x.items;
  rest = x.rest;
  told = λ at. let g = x.told at in record { to = g.to; depth = g.depth; trees = g.trees; same = g.same; args = some_args g.depth (x.items at) g.trees (n g.to) g.parts; counted = g.counted };
}

-- a call
pub call_is : {w : Weight} (es : List Enclosing) (a : ℕ) (j : TokenKind) (xs : List ℕ) (g : Meaning) (hd : Head) (v : List ℕ) (ts : Forest) → mode_in es ≡ Formula → callee g ≡ Some hd
    → ((cs : List ℕ) (n : ℕ → List Item) → Safe cs → Rest es cs n → Rest es (xs ++ cs) (λ at. tok j xs g at ∷ n (at + width xs))) → SpeaksArgs w es v ts → Speaks (λ i j. i + w i j) Atom es (xs ++ in_brackets v) (node a hd ts)
call_is {w = c} es a j xs g hd v ts h e lead p k n f r =
    let q = p (41 ∷ k) _ (safe_close k) (sign_then symbol.CloseParen es es k n h refl tt r) in
    let b = lead (40 ∷ (v ++ 41 ∷ k)) _ (safe_open (v ++ 41 ∷ k)) (sign_then symbol.OpenParen es es (v ++ 41 ∷ k) q.items h refl tt q.rest) in
    let z : Says (λ i j. i + c i j) Atom es (xs ++ 40 ∷ (v ++ 41 ∷ k)) (node a hd ts) n = record {
      items = _;
      rest = b;
      told = λ at.
          let i = at + width xs in
          let x = q.told (i + width (40 ∷ [])) in record {
            to = x.to + width (41 ∷ []);
            depth = suc x.depth;
            seen = node at hd (forest x.trees);
            same = ap (node 0 (unplaced_head hd)) x.same;
            parses = a_call x.depth (tok j xs g at) (tok (kind.Symbol symbol.OpenParen) (40 ∷ []) (m.Symbol symbol.OpenParen) i) hd (q.items (i + width (40 ∷ []))) x.trees (tok (kind.Symbol symbol.CloseParen) (41 ∷ []) (m.Symbol symbol.CloseParen) x.to) (n (x.to + width (41 ∷ []))) e refl x.args refl;
            counted = λ i j. let o = x.counted i j in let u = callee_counts g hd i j e in omega (arith, o, u);
          };
    } in
    says_text Atom es _ (xs ++ 40 ∷ (v ++ 41 ∷ k)) _ n (append_assoc xs (40 ∷ (v ++ 41 ∷ [])) k ∙ ap (λ x. xs ++ 40 ∷ x) (append_assoc v (41 ∷ []) k)) z

-- `[` is read before what does not begin with `@`, as no formula does
pub list_is : {w : Weight} (es : List Enclosing) (a : ℕ) (v : List ℕ) (ts : Forest) → mode_in es ≡ Formula → SpeaksArgs w es v ts → Speaks w Atom es (91 ∷ (v ++ 93 ∷ [])) (node a tree.list ts)
list_is {w = c} es a v ts h p k n f r =
    let q = p (93 ∷ k) _ (safe_bracket k) (sign_then symbol.CloseBracket es es k n h refl tt r) in
    let b = sign_then symbol.OpenBracket es es (v ++ 93 ∷ k) q.items h refl (no_at (q.rest 0).reads refl h) q.rest in
    let z : Says c Atom es (91 ∷ (v ++ 93 ∷ k)) (node a tree.list ts) n = record {
      items = _;
      rest = b;
      told = λ at.
          let i = at + width (91 ∷ []) in
          let x = q.told i in record {
            to = x.to + width (93 ∷ []);
            depth = suc x.depth;
            seen = node at tree.list (forest x.trees);
            same = ap (node 0 tree.list) x.same;
            parses = a_list x.depth (tok (kind.Symbol symbol.OpenBracket) (91 ∷ []) (m.Symbol symbol.OpenBracket) at) (q.items i) x.trees (tok (kind.Symbol symbol.CloseBracket) (93 ∷ []) (m.Symbol symbol.CloseBracket) x.to) (n (x.to + width (93 ∷ []))) refl x.args refl;
            counted = λ i j. let o = x.counted i j in omega (arith, o);
          };
    } in
    says_text Atom es _ (91 ∷ (v ++ 93 ∷ k)) _ n (ap (λ x. 91 ∷ x) (append_assoc v (93 ∷ []) k)) z

-- fields
pub record ToldField (w : Weight) (xs : List Item) (name : List ℕ) (t : Tree) (n : ℕ → List Item) : Type 0 where
  pub to : ℕ
  pub depth : ℕ
  pub seen : Tree
  pub same : unplaced seen ≡ unplaced t
  pub label : FieldName
  pub labelled : label.text ≡ name
  pub parses : Field depth xs (label, seen) (n to)
  pub counted : (i j : ℕ) → tokens_weight i j xs ≡ w i j + tokens_weight i j (n to)

pub record SaysField (w : Weight) (es : List Enclosing) (cs : List ℕ) (name : List ℕ) (t : Tree) (n : ℕ → List Item) : Type 0 where
  pub items : ℕ → List Item
  pub rest : Rest es cs items
  pub told : (at : ℕ) → ToldField w (items at) name t n

field_is : {x : Weight} (es : List Enclosing) (c : ℕ) (cs v : List ℕ) (t : Tree) → mode_in es ≡ Formula → Speaks x (Several join.Or) es v t
    → (k : List ℕ) (n : ℕ → List Item) → Safe k → Rest es k n → SaysField x es (label_text (c ∷ cs) ++ (v ++ k)) (c ∷ cs) t n
field_is {x = a} es c cs v t h p k n f r =
    let w = name_text (c ∷ cs) in
    let q = p k n f r in
    let b = name_then es c cs (58 ∷ 32 ∷ (v ++ k)) _ h (safe_colon (32 ∷ (v ++ k))) (sign_then symbol.Colon es es (32 ∷ (v ++ k)) _ h refl tt (space_then es (v ++ k) q.items h q.rest)) in
    let z : SaysField a es (w ++ 58 ∷ 32 ∷ (v ++ k)) (c ∷ cs) t n = record {
      items = _;
      rest = b;
      told = λ at.
          let i = at + width w in
          let j = (i + width (58 ∷ [])) + width (32 ∷ []) in
          let x = q.told j in record {
            to = x.to;
            depth = x.depth;
            seen = x.seen;
            same = x.same;
            label = field_name (tok kind.Name w (m.Name (c ∷ cs)) at) (c ∷ cs);
            labelled = refl;
            parses = field x.depth (tok kind.Name w (m.Name (c ∷ cs)) at) (tok (kind.Symbol symbol.Colon) (58 ∷ []) (m.Symbol symbol.Colon) i) (c ∷ cs) (q.items j) x.seen (n x.to) refl refl x.parses;
            counted = λ g l. let o = x.counted g l in omega (arith, o);
          };
    } in
    subst (λ x. SaysField a es x (c ∷ cs) t n) (sym (append_assoc w (58 ∷ 32 ∷ []) (v ++ k))) z

pub record GoesFields (w : Weight) (xs : List Item) (ns : List (List ℕ)) (ts : Forest) (n : ℕ → List Item) : Type 0 where
  pub to : ℕ
  pub fields : List NamedTree
  pub names : tree_field_names fields ≡ ns
  pub same : all_unplaced (field_trees fields) ≡ all_unplaced ts
  pub joins : (d : ℕ) (ws : List Item) (fs : List NamedTree) → SomeFields d ws fs xs → (e : ℕ) × SomeFields e ws (fs ++ fields) (n to)
  pub counted : (i j : ℕ) → tokens_weight i j xs ≡ w i j + tokens_weight i j (n to)

pub record SaysOnFields (w : Weight) (es : List Enclosing) (cs : List ℕ) (ns : List (List ℕ)) (ts : Forest) (n : ℕ → List Item) : Type 0 where
  pub items : ℕ → List Item
  pub rest : Rest es cs items
  pub goes : (at : ℕ) → GoesFields w (items at) ns ts n

abbrev pub SpeaksOnFields : Weight → List Enclosing → List ℕ → List (List ℕ) → Forest → Type 0
SpeaksOnFields w es v ns ts = (k : List ℕ) (n : ℕ → List Item) → Safe k → Rest es k n → SaysOnFields w es (v ++ k) ns ts n

pub no_more_fields_is : (es : List Enclosing) → SpeaksOnFields (λ i j. 0) es [] [] none
no_more_fields_is es k n f r = record {
  items = n;
  rest = r;
  goes = λ at. record { to = at; fields = []; names = refl; same = refl; joins = λ d ws fs p. (d, subst (λ x. SomeFields d ws x (n at)) (sym (append-nil fs)) p); counted = λ i j. omega arith };
}

pub more_fields_is : {x y : Weight} (es : List Enclosing) (c : ℕ) (cs v w : List ℕ) (ns : List (List ℕ)) (t : Tree) (ts : Forest) → mode_in es ≡ Formula → ((k : List ℕ) → Safe k → Safe (w ++ k)) → Speaks x (Several join.Or) es v t → SpeaksOnFields y es w ns ts
    → SpeaksOnFields (λ i j. j + (x i j + y i j)) es (comma_text ++ (label_text (c ∷ cs) ++ (v ++ w))) ((c ∷ cs) ∷ ns) (more t ts)
more_fields_is {x = m1} {y = m2} es c cs v w ns t ts h safe p q k n f r =
    let l = label_text (c ∷ cs) in
    let y = q k n f r in
    let x = field_is es c cs v t h p (w ++ k) y.items (safe k f) y.rest in
    let b = commas es h in
    let z = b.divided (l ++ (v ++ (w ++ k))) x.items x.rest in
    let on : SaysOnFields (λ i j. j + (m1 i j + m2 i j)) es (comma_text ++ (l ++ (v ++ (w ++ k)))) ((c ∷ cs) ∷ ns) (more t ts) n = record {
      items = λ at. z.front at ∷ x.items (z.go at);
      rest = z.rest;
      goes = λ at.
          let g = x.told (z.go at) in
          let i = y.goes g.to in
          let one : NamedTree = (g.label, g.seen) in
          record {
            to = i.to;
            fields = one ∷ i.fields;
            names = λ j. g.labelled j ∷ i.names j;
            same = λ j. more (g.same j) (i.same j);
            joins = λ d ws fs u.
                let a = i.joins (max d g.depth) ws (fs ++ one ∷ []) (further_field d g.depth ws fs (z.front at) (x.items (z.go at)) one (y.items g.to) u (is_comma (z.front at).meaning (z.divides at)) g.parses) in
                (a.0, subst (λ e. SomeFields a.0 ws e (n i.to)) (append_assoc fs (one ∷ []) i.fields) a.1);
            counted = λ o a.
                let u = g.counted o a in
                let e = i.counted o a in
                let f = divider_counts Comma (z.front at).meaning o a (z.divides at) in
                omega (arith, u, e, f);
          };
    } in
    subst (λ a. SaysOnFields (λ i j. j + (m1 i j + m2 i j)) es a ((c ∷ cs) ∷ ns) (more t ts) n) (sym (ap (λ a. comma_text ++ a) (append_assoc l (v ++ w) k ∙ ap (λ a. l ++ a) (append_assoc v w k)))) on
  where
    is_comma : (g : Meaning) → separates Comma g ≡ true → g ≡ m.Symbol symbol.Comma
    is_comma (m.Symbol symbol.Comma) e = refl
    is_comma _ e = cc

pub record ToldFields (w : Weight) (xs : List Item) (ns : List (List ℕ)) (ts : Forest) (n : ℕ → List Item) : Type 0 where
  pub to : ℕ
  pub depth : ℕ
  pub fields : List NamedTree
  pub names : tree_field_names fields ≡ ns
  pub same : all_unplaced (field_trees fields) ≡ all_unplaced ts
  pub parses : Fields depth xs fields (n to)
  pub counted : (i j : ℕ) → tokens_weight i j xs ≡ w i j + tokens_weight i j (n to)

pub record SaysFields (w : Weight) (es : List Enclosing) (cs : List ℕ) (ns : List (List ℕ)) (ts : Forest) (n : ℕ → List Item) : Type 0 where
  pub items : ℕ → List Item
  pub rest : Rest es cs items
  pub told : (at : ℕ) → ToldFields w (items at) ns ts n

abbrev pub SpeaksFields : Weight → List Enclosing → List ℕ → List (List ℕ) → Forest → Type 0
SpeaksFields w es v ns ts = (k : List ℕ) (n : ℕ → List Item) → Safe k → Rest es k n → SaysFields w es (v ++ k) ns ts n

pub no_fields_is : (es : List Enclosing) → SpeaksFields (λ i j. 0) es [] [] none
no_fields_is es k n f r = record { items = n; rest = r; told = λ at. record { to = at; depth = 0; fields = []; names = refl; same = refl; parses = no_fields (n at); counted = λ i j. omega arith } }

pub some_fields_is : {x y : Weight} (es : List Enclosing) (c : ℕ) (cs v w : List ℕ) (ns : List (List ℕ)) (t : Tree) (ts : Forest) → mode_in es ≡ Formula → ((k : List ℕ) → Safe k → Safe (w ++ k)) → Speaks x (Several join.Or) es v t → SpeaksOnFields y es w ns ts
    → SpeaksFields (λ i j. x i j + y i j) es (label_text (c ∷ cs) ++ (v ++ w)) ((c ∷ cs) ∷ ns) (more t ts)
some_fields_is {x = m1} {y = m2} es c cs v w ns t ts h safe p q k n f r =
    let l = label_text (c ∷ cs) in
    let y = q k n f r in
    let x = field_is es c cs v t h p (w ++ k) y.items (safe k f) y.rest in
    let on : SaysFields (λ i j. m1 i j + m2 i j) es (l ++ (v ++ (w ++ k))) ((c ∷ cs) ∷ ns) (more t ts) n = record {
      items = x.items;
      rest = x.rest;
      told = λ at.
          let g = x.told at in
          let i = y.goes g.to in
          let one : NamedTree = (g.label, g.seen) in
          let a = i.joins g.depth (x.items at) (one ∷ []) (one_field g.depth (x.items at) one (y.items g.to) g.parses) in
          record { to = i.to; depth = a.0; fields = one ∷ i.fields; names = λ j. g.labelled j ∷ i.names j; same = λ j. more (g.same j) (i.same j); parses = some_fields a.0 (x.items at) (one ∷ i.fields) (n i.to) a.1; counted = λ o r. let u = g.counted o r in let v = i.counted o r in omega (arith, u, v) };
    } in
    subst (λ a. SaysFields (λ i j. m1 i j + m2 i j) es a ((c ∷ cs) ∷ ns) (more t ts) n) (sym (append_assoc l (v ++ w) k ∙ ap (λ a. l ++ a) (append_assoc v w k))) on

pub record_is : {w : Weight} (es : List Enclosing) (a : ℕ) (v : List ℕ) (ns : List (List ℕ)) (ps : List ℕ) (ts : Forest) → mode_in es ≡ Formula → SpeaksFields w (around.Brace ∷ es) v ns ts → Speaks w Atom es (123 ∷ (v ++ 125 ∷ [])) (node a (tree.rec ns ps) ts)
record_is {w = c} es a v ns ps ts h p k n f r =
    let q = p (125 ∷ k) _ (safe_brace k) (sign_then symbol.CloseBrace (around.Brace ∷ es) es k n refl refl tt r) in
    let b = sign_then symbol.OpenBrace es (around.Brace ∷ es) (v ++ 125 ∷ k) q.items h refl tt q.rest in
    let z : Says c Atom es (123 ∷ (v ++ 125 ∷ k)) (node a (tree.rec ns ps) ts) n = record {
      items = _;
      rest = b;
      told = λ at.
          let i = at + width (123 ∷ []) in
          let x = q.told i in record {
            to = x.to + width (125 ∷ []);
            depth = suc x.depth;
            seen = node at (tree.rec (tree_field_names x.fields) (places_of x.fields)) (field_trees x.fields);
            same = λ j. node 0 (tree.rec (x.names j) []) (x.same j);
            parses = a_record x.depth (tok (kind.Symbol symbol.OpenBrace) (123 ∷ []) (m.Symbol symbol.OpenBrace) at) (q.items i) x.fields (tok (kind.Symbol symbol.CloseBrace) (125 ∷ []) (m.Symbol symbol.CloseBrace) x.to) (n (x.to + width (125 ∷ []))) refl x.parses refl;
            counted = λ i j. let o = x.counted i j in omega (arith, o);
          };
    } in
    says_text Atom es _ (123 ∷ (v ++ 125 ∷ k)) _ n (ap (λ x. 123 ∷ x) (append_assoc v (125 ∷ []) k)) z
