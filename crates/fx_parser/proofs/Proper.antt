-- The trees that a parse gives: what their heads hold, and how many parts they have.
use Rattle.std.proofs.Common.{◌≡◌, ℕ, ◌<◌, ◌≤◌, pos, Bool, true, false, List, [], ◌∷◌, ◌++◌, length, refl, ap, sym, ◌∙◌, subst, Option, Some, arith}
use Rattle.fx_lexer.specs.declared.token.Symbol.TheVariants as symbol
use Rattle.fx_lexer.specs.declared.token.Word.TheVariants as word
use Rattle.fx_lexer.specs.declared.token.TokenKind.{TokenKind}
use Rattle.fx_lexer.specs.declared.token.TokenKind.TheVariants as kind
use Rattle.fx_lexer.specs.declared.element.Element.{Element}
use Rattle.fx_lexer.specs.declared.element.Element.TheVariants.{Token}
use Rattle.fx_lexer.specs.declared.element.Enclosing.{Enclosing}
use Rattle.fx_lexer.specs.declared.element.Mode.{Mode}
use Rattle.fx_lexer.specs.Spelling.{class_at, is_quote, doubled}
use Rattle.fx_lexer.specs.Lexed.{Lexeme, mode_in, LexesTo, stop, skip, token}
use Rattle.fx_core.specs.declared.expr.Op.{Op}
use Rattle.fx_core.specs.declared.expr.Op.TheVariants as op
use Rattle.fx_core.specs.Tree.{Tree, NamedTree, node, Head, Forest, none, more, forest, tree_field_names, places_of, field_trees}
use Rattle.fx_core.specs.Tree as tree
use Rattle.fx_grammar.specs.declared.item.Item.{Item}
use Rattle.fx_grammar.specs.declared.item.Meaning.{Meaning}
use Rattle.fx_grammar.specs.declared.item.Meaning.TheVariants as m
use Rattle.fx_grammar.specs.declared.line.Join.{Join}
use Rattle.fx_grammar.specs.declared.line.Join.TheVariants as join
use Rattle.fx_grammar.specs.declared.line.Separator.{Separator}
use Rattle.fx_grammar.specs.declared.line.Line.{Line}
use Rattle.fx_grammar.specs.Means.{between_quotes, TokenMeans, AllMean, no_more, one_more}
use Rattle.fx_grammar.specs.Means as means
use Rattle.fx_grammar.specs.Grammar.{first_byte, join_head, sign, atom_head, callee, Parses, plain, ended, one, many, first, next, no_alias, aliased, no_sign, signed, base, raised, no_percent, percent, no_dot, dotted, leaf, a_global, a_call, brackets, a_record, a_list, a_weave, Parts, alone, further, Args, no_args, some_args, Field, field, SomeFields, one_field, further_field, Fields, no_fields, some_fields, Strands, no_strands, piece, island}
use Rattle.fx_number.specs.Decimal.{greatest}
use Rattle.fx_number.specs.Spelling.{decimal_units}
use Rattle.fx_lexer.specs.Spelling.{Spelt, white, line_comment, block_comment, number, text, name, quoted_name, word as a_word, symbol as a_symbol, opening, closing, piece as a_piece, island as an_island}
use Rattle.fx_lexer.proofs.Judge.{spelt_long}
use Rattle.fx_lexer.proofs.Covers.{quoted_long}
use Rattle.fx_grammar.specs.Grammar.{IsFormula, bare, marked}
use Rattle.fx_grammar.proofs.Spoken.{quote_class}

abbrev pub HasSome : List ℕ → Type 0
HasSome [] = ⊥
HasSome (c ∷ cs) = Unit {0}

mutual
  pub data Proper : Tree → Type 0 where
    proper_number : (a n : ℕ) → n ≤ greatest → Proper (node a (tree.num (pos n)) none)
    proper_text : (a : ℕ) (cs : List ℕ) → Proper (node a (tree.text cs) none)
    proper_truth : (a : ℕ) (b : Bool) → Proper (node a (tree.truth b) none)
    proper_name : (a : ℕ) (cs : List ℕ) → HasSome cs → Proper (node a (tree.name cs) none)
    proper_global : (a : ℕ) (cs : List ℕ) → HasSome cs → Proper (node a (tree.global cs) none)
    proper_dot : (a : ℕ) (cs : List ℕ) (t : Tree) → HasSome cs → Proper t → Proper (node a (tree.dot cs) (more t none))
    proper_call : (a : ℕ) (cs : List ℕ) (ts : Forest) → HasSome cs → AllProper ts → Proper (node a (tree.call cs) ts)
    proper_neg : (a : ℕ) (t : Tree) → Proper t → Proper (node a tree.neg (more t none))
    proper_opposite : (a : ℕ) (t : Tree) → Proper t → Proper (node a tree.opposite (more t none))
    proper_percent : (a : ℕ) (t : Tree) → Proper t → Proper (node a tree.percent (more t none))
    proper_pair : (a : ℕ) (o : Op) (t u : Tree) → Proper t → Proper u → Proper (node a (tree.pair o) (more t (more u none)))
    proper_joined : (a : ℕ) (t u : Tree) (us : Forest) → Proper t → AllProper (more u us) → Proper (node a tree.joined (more t (more u us)))
    proper_no_all : (a : ℕ) → Proper (node a tree.all none)
    proper_one_all : (a : ℕ) (t : Tree) → AllProper (more t none) → Proper (node a tree.all (more t none))
    proper_all : (a : ℕ) (t u : Tree) (us : Forest) → Proper t → AllProper (more u us) → Proper (node a tree.all (more t (more u us)))
    proper_no_any : (a : ℕ) → Proper (node a tree.any none)
    proper_one_any : (a : ℕ) (t : Tree) → AllProper (more t none) → Proper (node a tree.any (more t none))
    proper_any : (a : ℕ) (t u : Tree) (us : Forest) → Proper t → AllProper (more u us) → Proper (node a tree.any (more t (more u us)))
    proper_chain : (a : ℕ) (t u : Tree) (us : Forest) → Proper t → AllProper (more u us) → Proper (node a tree.chain (more t (more u us)))
    proper_alias : (a : ℕ) (cs : List ℕ) (t : Tree) → HasSome cs → Proper t → Proper (node a (tree.alias cs) (more t none))
    proper_record : (a : ℕ) (ns : List (List ℕ)) (ps : List ℕ) (ts : Forest) → ProperFields ns ts → Proper (node a (tree.rec ns ps) ts)
    proper_list : (a : ℕ) (ts : Forest) → AllProper ts → Proper (node a tree.list ts)
    proper_woven : (a : ℕ) (ts : Forest) → AllProper ts → Proper (node a tree.woven ts)

  pub data AllProper : Forest → Type 0 where
    proper_none : AllProper none
    proper_more : (t : Tree) (ts : Forest) → Proper t → AllProper ts → AllProper (more t ts)

  pub data ProperFields : List (List ℕ) → Forest → Type 0 where
    proper_no_fields : ProperFields [] none
    proper_more_fields : (cs : List ℕ) (ns : List (List ℕ)) (t : Tree) (ts : Forest) → HasSome cs → Proper t → ProperFields ns ts → ProperFields (cs ∷ ns) (more t ts)

abbrev Split : Forest → Type 0
Split none = Unit {0}
Split (more t ts) = Proper t × AllProper ts

split : {ts : Forest} → AllProper ts → Split ts
split proper_none = tt
split (proper_more t ts h k) = (h, k)

abbrev SplitFields : List (List ℕ) → Forest → Type 0
SplitFields (n ∷ ns) (more t ts) = HasSome n × Proper t × ProperFields ns ts
SplitFields ns ts = Unit {0}

split_fields : {ns : List (List ℕ)} {ts : Forest} → ProperFields ns ts → SplitFields ns ts
split_fields proper_no_fields = tt
split_fields (proper_more_fields cs ns t ts g h k) = (g, h, k)

push : (ps : List Tree) (t : Tree) → AllProper (forest ps) → Proper t → AllProper (forest (ps ++ t ∷ []))
push [] t p h = proper_more t none h proper_none
push (u ∷ ps) t p h = let s = split p in proper_more u (forest (ps ++ t ∷ [])) s.0 (push ps t s.1 h)

push_field : (fs : List NamedTree) (f : NamedTree) → ProperFields (tree_field_names fs) (field_trees fs) → HasSome f.0.text → Proper f.1 → ProperFields (tree_field_names (fs ++ f ∷ [])) (field_trees (fs ++ f ∷ []))
push_field [] f p g h = proper_more_fields f.0.text [] f.1 none g h proper_no_fields
push_field (e ∷ fs) f p g h = let s = split_fields p in proper_more_fields e.0.text (tree_field_names (fs ++ f ∷ [])) e.1 (field_trees (fs ++ f ∷ [])) s.0 s.1 (push_field fs f s.2 g h)

all_is : (a : ℕ) (ts : Forest) → AllProper ts → Proper (node a tree.all ts)
all_is a none p = proper_no_all a
all_is a (more t none) p = proper_one_all a t p
all_is a (more t (more u us)) p = let s = split p in proper_all a t u us s.0 s.1

any_is : (a : ℕ) (ts : Forest) → AllProper ts → Proper (node a tree.any ts)
any_is a none p = proper_no_any a
any_is a (more t none) p = proper_one_any a t p
any_is a (more t (more u us)) p = let s = split p in proper_any a t u us s.0 s.1

join_is : (j : Join) (a : ℕ) (t u : Tree) (us : Forest) → AllProper (more t (more u us)) → Proper (node a (join_head j) (more t (more u us)))
join_is join.Chain a t u us p = let s = split p in proper_chain a t u us s.0 s.1
join_is join.Or a t u us p = any_is a (more t (more u us)) p
join_is join.And a t u us p = all_is a (more t (more u us)) p
join_is join.Cat a t u us p = let s = split p in proper_joined a t u us s.0 s.1

-- what a token may mean
abbrev pub Good : Meaning → Type 0
Good (m.Number z) = (n : ℕ) × (z ≡ pos n) × (n ≤ greatest)
Good (m.Name cs) = HasSome cs
Good g = Unit {0}

abbrev pub AllGood : List Item → Type 0
AllGood [] = Unit {0}
AllGood (x ∷ xs) = Good x.meaning × AllGood xs

headed : (a : ℕ) (h k : Head) (ts : Forest) → ◌≡◌ {A = Option Head} (Some h) (Some k) → Proper (node a h ts) → Proper (node a k ts)
headed a h k ts e p = let f : h ≡ k = cc in subst (λ x. Proper (node a x ts)) f p

leaf_proper : (a : ℕ) (g : Meaning) (h : Head) → Good g → atom_head g ≡ Some h → Proper (node a h none)
leaf_proper a (m.Number z) h b e = headed a (tree.num z) h none e (subst (λ x. Proper (node a (tree.num x) none)) (sym b.1) (proper_number a b.0 b.2))
leaf_proper a (m.Text cs) h b e = headed a (tree.text cs) h none e (proper_text a cs)
leaf_proper a (m.Name cs) h b e = headed a (tree.name cs) h none e (proper_name a cs b)
leaf_proper a (m.Word word.True) h b e = headed a (tree.truth true) h none e (proper_truth a true)
leaf_proper a (m.Word word.False) h b e = headed a (tree.truth false) h none e (proper_truth a false)
leaf_proper a _ h b e = absurd cc

callee_proper : (a : ℕ) (g : Meaning) (h : Head) (ts : Forest) → Good g → callee g ≡ Some h → AllProper ts → Proper (node a h ts)
callee_proper a (m.Name cs) h ts b e p = headed a (tree.call cs) h ts e (proper_call a cs ts b p)
callee_proper a (m.Word word.And) h ts b e p = headed a tree.all h ts e (all_is a ts p)
callee_proper a (m.Word word.Or) h ts b e p = headed a tree.any h ts e (any_is a ts p)
callee_proper a _ h ts b e p = absurd cc

sign_proper : (a : ℕ) (g : Meaning) (h : Head) (t : Tree) → sign g ≡ Some h → Proper t → Proper (node a h (more t none))
sign_proper a (m.Symbol symbol.Minus) h t e p = headed a tree.neg h (more t none) e (proper_neg a t p)
sign_proper a (m.Symbol symbol.Bang) h t e p = headed a tree.opposite h (more t none) e (proper_opposite a t p)
sign_proper a (m.Word word.Not) h t e p = headed a tree.opposite h (more t none) e (proper_opposite a t p)
sign_proper a _ h t e p = absurd cc

named : (g : Meaning) (cs : List ℕ) → g ≡ m.Name cs → Good g → HasSome cs
named g cs e b = subst Good e b

mutual
  pub proper : {l : Line} {d : ℕ} {ts : List Item} {t : Tree} {rest : List Item} → Parses l d ts t rest → AllGood ts → Proper t × AllGood rest
  proper (plain d ts t rest p) b = proper p b
  proper (ended d ts t x rest p e) b = let r = proper p b in (r.0, r.1.1)
  proper (one j d ts t rest p) b = proper p b
  proper (many j d ts p q ps rest h) b = let r = proper_parts h b in (join_is j (first_byte ts) p q (forest ps) r.0, r.1)
  proper (first l d ts t rest p) b = proper p b
  proper (next l d e ts t x us o u rest p f q) b = let r = proper p b in let s = proper q r.1.1 in (proper_pair (first_byte ts) o t u r.0 s.0, s.1)
  proper (no_alias d ts t rest p) b = proper p b
  proper (aliased d ts t x y cs rest p e f) b = let r = proper p b in let c = r.1.1 in (proper_alias (first_byte ts) cs t (named y.meaning cs f c.0) r.0, c.1)
  proper (no_sign d ts t rest p) b = proper p b
  proper (signed d x h us t rest e p) b = let r = proper p b.1 in (sign_proper x.at x.meaning h t e r.0, r.1)
  proper (base d ts t rest p) b = proper p b
  proper (raised d e ts t x us u rest p f q) b = let r = proper p b in let s = proper q r.1.1 in (proper_pair (first_byte ts) op.Pow t u r.0 s.0, s.1)
  proper (no_percent d ts t rest p) b = proper p b
  proper (percent d ts t x rest p e) b = let r = proper p b in (proper_percent (first_byte ts) t r.0, r.1.1)
  proper (no_dot d ts t rest p) b = proper p b
  proper (dotted d ts t x y cs rest p e f) b = let r = proper p b in let c = r.1.1 in (proper_dot (first_byte ts) cs t (named y.meaning cs f c.0) r.0, c.1)
  proper (leaf x h rest e) b = (leaf_proper x.at x.meaning h b.0 e, b.1)
  proper (a_global x y z cs rest e f g) b = let c = b.1 in let k = c.1 in (proper_global x.at cs (named y.meaning cs f c.0), k.1)
  proper (a_call d x y h us ps z rest e f k g) b = let c = b.1 in let r = proper_args k c.1 in (callee_proper x.at x.meaning h (forest ps) b.0 e r.0, r.1.1)
  proper (brackets d x us t y rest e p f) b = let r = proper p b.1 in (r.0, r.1.1)
  proper (a_record d x us fs y rest e k f) b = let r = proper_fields k b.1 in (proper_record x.at (tree_field_names fs) (places_of fs) (field_trees fs) r.0, r.1.1)
  proper (a_list d x us ps y rest e k f) b = let r = proper_args k b.1 in (proper_list x.at (forest ps) r.0, r.1.1)
  proper (a_weave d x us ps y rest e k f) b = let r = proper_strands k b.1 in (proper_woven x.at (forest ps) r.0, r.1.1)

  pub proper_parts : {s : Separator} {d : ℕ} {ts : List Item} {ps : List Tree} {rest : List Item} → Parts s d ts ps rest → AllGood ts → AllProper (forest ps) × AllGood rest
  proper_parts (alone s d ts t rest p) b = let r = proper p b in (proper_more t none r.0 proper_none, r.1)
  proper_parts (further s d e ts ps x us t rest h f p) b = let r = proper_parts h b in let q = proper p r.1.1 in (push ps t r.0 q.0, q.1)

  pub proper_args : {d : ℕ} {ts : List Item} {ps : List Tree} {rest : List Item} → Args d ts ps rest → AllGood ts → AllProper (forest ps) × AllGood rest
  proper_args (no_args ts) b = (proper_none, b)
  proper_args (some_args d ts ps rest h) b = proper_parts h b

  pub proper_field : {d : ℕ} {ts : List Item} {f : NamedTree} {rest : List Item} → Field d ts f rest → AllGood ts → (HasSome f.0.text × Proper f.1) × AllGood rest
  proper_field (field d x y cs us t rest e f p) b = let c = b.1 in let r = proper p c.1 in ((named x.meaning cs e b.0, r.0), r.1)

  pub proper_some : {d : ℕ} {ts : List Item} {fs : List NamedTree} {rest : List Item} → SomeFields d ts fs rest → AllGood ts → ProperFields (tree_field_names fs) (field_trees fs) × AllGood rest
  proper_some (one_field d ts f rest p) b = let r = proper_field p b in let q = r.0 in (proper_more_fields f.0.text [] f.1 none q.0 q.1 proper_no_fields, r.1)
  proper_some (further_field d e ts fs x us f rest h g p) b = let r = proper_some h b in let s = proper_field p r.1.1 in let q = s.0 in (push_field fs f r.0 q.0 q.1, s.1)

  pub proper_fields : {d : ℕ} {ts : List Item} {fs : List NamedTree} {rest : List Item} → Fields d ts fs rest → AllGood ts → ProperFields (tree_field_names fs) (field_trees fs) × AllGood rest
  proper_fields (no_fields ts) b = (proper_no_fields, b)
  proper_fields (some_fields d ts fs rest h) b = proper_some h b

  pub proper_strands : {d : ℕ} {ts : List Item} {ps : List Tree} {rest : List Item} → Strands d ts ps rest → AllGood ts → AllProper (forest ps) × AllGood rest
  proper_strands (no_strands ts) b = (proper_none, b)
  proper_strands (piece d ts ps x cs rest h e) b = let r = proper_strands h b in (push ps (node x.at (tree.text cs) none) r.0 (proper_text x.at cs), r.1.1)
  proper_strands (island d e ts ps x us t y rest h f p g) b = let r = proper_strands h b in let q = proper p r.1.1 in (push ps t r.0 q.0, q.1.1)

pub formula_proper : {ts : List Item} {d : ℕ} {t : Tree} → IsFormula ts d t → AllGood ts → Proper t
formula_proper (bare ts d t p) b = (proper p b).0
formula_proper (marked x ts d t e p) b = (proper p b.1).0

-- the tokens of a text mean such
some_of : (cs : List ℕ) → 0 < length cs → HasSome cs
some_of [] h = absurd (omega arith)
some_of (c ∷ cs) h = tt

no_empty_name : {mode : Mode} {e : Element} {xs : List ℕ} → Spelt mode e xs → e ≡ Token kind.Name → xs ≡ 39 ∷ 39 ∷ [] → ⊥
no_empty_name (white c h) e f = cc
no_empty_name (line_comment cs h) e f = cc
no_empty_name (block_comment cs h) e f = cc
no_empty_name (number cs ds es h) e f = cc
no_empty_name (text cs) e f = cc
no_empty_name (name c cs h k n) e f = let g : c ≡ 39 = cc in let i = sym h ∙ ap class_at g ∙ quote_class in cc
no_empty_name (quoted_name c cs) e f = let g = ap length f in let i = quoted_long c (doubled (is_quote 39) cs) (is_quote 39 c) in absurd (omega arith)
no_empty_name (a_word w) e f = cc
no_empty_name (a_symbol s) e f = cc
no_empty_name opening e f = cc
no_empty_name closing e f = cc
no_empty_name (a_piece c cs) e f = cc
no_empty_name an_island e f = cc

quoted_some : (cs xs : List ℕ) (mode : Mode) (k : TokenKind) → k ≡ kind.Name → xs ≡ between_quotes 39 cs → Spelt mode (Token k) xs → HasSome cs
quoted_some [] xs mode k e f s = absurd (no_empty_name s (ap Token e) f)
quoted_some (c ∷ cs) xs mode k e f s = tt

good : {l : Lexeme} {x : Item} → TokenMeans l x → (mode : Mode) → Spelt mode (Token l.kind) l.text → Good x.meaning
good (means.number l ds es e f g) mode s = (decimal_units ds es, refl, g)
good (means.text l cs e f) mode s = tt
good (means.plain_name l e f) mode s = some_of l.text (spelt_long mode (Token l.kind) l.text s)
good (means.quoted_name l cs e f) mode s = quoted_some cs l.text mode l.kind e f s
good (means.word l w e) mode s = tt
good (means.symbol l y e) mode s = tt
good (means.opening l e) mode s = tt
good (means.closing l e) mode s = tt
good (means.piece l cs e f) mode s = tt

pub all_good : {es : List Enclosing} {at : ℕ} {cs : List ℕ} {ls : List Lexeme} {fs : List Enclosing} {upto : ℕ} {rest : List ℕ} → LexesTo es at cs ls fs upto rest → {ks : List Lexeme} {xs : List Item} → AllMean ks xs → ks ≡ ls → AllGood xs
all_good (stop es at cs) no_more e = tt
all_good (stop es at cs) (one_more l x ls xs h k) e = absurd cc
all_good (skip es at ys cs ls fs upto rest p r) k e = all_good r k e
all_good (token es at j ys cs ls fs upto rest p r) no_more e = absurd cc
all_good (token es at j ys cs ls fs upto rest p r) (one_more l x ks xs h k) e =
    let a : Lexeme = record { kind = j; at = at; text = ys } in
    let f : l ≡ a = cc in
    let g : ks ≡ ls = cc in
    (good h (mode_in es) (subst (λ (z : Lexeme). Spelt (mode_in es) (Token z.kind) z.text) (sym f) p.spelt), all_good r k g)
