-- What the grammar gives is read.
use Rattle.std.proofs.Common.{◌≡◌, ℕ, zero, suc, ◌<◌, ◌≤◌, max, true, false, List, [], ◌∷◌, length, refl, ap, sym, ◌∙◌, subst, Option, Some, None, arith}
use Rattle.fx_lexer.specs.declared.token.Symbol.TheVariants as symbol
use Rattle.fx_lexer.specs.declared.token.Word.TheVariants as word
use Rattle.fx_core.specs.declared.expr.Op.{Op}
use Rattle.fx_core.specs.declared.expr.Op.TheVariants as op
use Rattle.fx_core.specs.Tree.{Tree, NamedTree, node, Head, none, more, forest, tree_field_names, field_trees}
use Rattle.fx_core.specs.Tree as tree
use Rattle.fx_grammar.specs.declared.item.Item.{Item}
use Rattle.fx_grammar.specs.declared.item.Meaning.{Meaning}
use Rattle.fx_grammar.specs.declared.item.Meaning.TheVariants as m
use Rattle.fx_grammar.specs.declared.line.Join.{Join}
use Rattle.fx_grammar.specs.declared.line.Join.TheVariants as join
use Rattle.fx_grammar.specs.declared.line.Separator.{Separator}
use Rattle.fx_grammar.specs.declared.line.Separator.TheVariants.{Between, Comma}
use Rattle.fx_grammar.specs.declared.line.Left.{Left}
use Rattle.fx_grammar.specs.declared.line.Line.{Line}
use Rattle.fx_grammar.specs.declared.line.Line.TheVariants.{Chain, Several, By, Prefix, Power, Percent, Access, Atom}
use Rattle.fx_grammar.specs.declared.line.Mark.{Mark}
use Rattle.fx_grammar.specs.declared.line.Mark.TheVariants as mark
use Rattle.fx_grammar.specs.Grammar.{first_byte, field_name, separates, part_of, join_head, operator, operand_line, atom_head, callee, Parses, plain, ended, one, many, first, next, no_alias, aliased, no_sign, signed, base, raised, no_percent, percent, no_dot, dotted, leaf, a_global, a_call, brackets, a_record, a_list, a_weave, Parts, alone, further, Args, no_args, some_args, Field, field, SomeFields, one_field, further_field, Fields, no_fields, some_fields, Strands, no_strands, piece, island}
use Rattle.fx_grammar.specs.Reading.{◌>>=◌, label, Parsed, Reader, Turn, loop_from, within_depth, turn_going, is_this_mark, after_mark, name_meant, name_in_front, name_after, closes, between, left_turn, tail_turn, field_in_front, percent_at, alias_at, aliased_by, parts_turn, parts_with, gathered, without_last, signed_by, raised_by, shut, shut_node, args_by, args_with, label_at, field_with, fields_turn, read_fields, fields_with, strand_by, strand_at, strands_turn, leaf_by, read_record, atom_by, line_at}
use Rattle.fx_grammar.proofs.Tokens.{meaning_of, after_it, rank, left_level, Below, Stops, lower, stops_under, stops_part, stops_operator, no_operator, none_after, stops_separator, no_between, between_it, closes_below, closes_no_semicolon, closes_no_step, step_ends, IsClosing, not_closed, closes_it}
use Rattle.fx_grammar.proofs.Shapes.{shorter, shorter_field, positive, positive_parts, opens, opens_parts, opens_fields, unsigned}
use Rattle.fx_grammar.proofs.Turns.{Comes, comes_first, comes_from, comes_over, comes_on, within_ok, left_over, left_on, tail_over, tail_on, parts_over, parts_on, fields_over, fields_on, strands_over, strands_on, atom_is, access_is, percent_is, power_is, prefix_is, alias_is, by_is, several_is, chain_is, parts_are, field_is, args_are, fields_are, strands_are, strand_is, atom_has}

then : {A B : Type 0} (o : Option A) (s : A) (f : A → Option B) → o ≡ Some s → (o >>= f) ≡ f s
then o s f e = ap (λ v. v >>= f) e

-- a loop that begins after a tree
follows : {A : Type 0} (turn : Parsed A → Turn A) (w : Option (Parsed A)) (o : Option (Parsed A)) (s : Parsed A) → w ≡ (o >>= loop_from turn) → o ≡ Some s → Comes turn w s
follows turn w o s e f = comes_from turn w s (e ∙ then o s (loop_from turn) f)

abbrev Gives : ℕ → Line → List Item → Tree → ℕ → List Item → Type 0
Gives m l ts t d rest = line_at (suc m) l ts ≡ Some (t, d, rest)

abbrev LeftComes : ℕ → Left → List Item → Parsed Tree → Type 0
LeftComes m l ts s = Comes (left_turn (suc m) l (first_byte ts) (line_at (suc m) (operand_line l))) (line_at (suc m) (By l) ts) s

abbrev PercentComes : ℕ → List Item → Parsed Tree → Type 0
PercentComes m ts s = Comes (tail_turn (suc m) (first_byte ts) percent_at) (line_at (suc m) Percent ts) s

abbrev AccessComes : ℕ → List Item → Parsed Tree → Type 0
AccessComes m ts s = Comes (tail_turn (suc m) (first_byte ts) field_in_front) (line_at (suc m) Access ts) s

abbrev PartsCome : ℕ → Separator → List Item → Parsed (List Tree) → Type 0
PartsCome m s ts w = Comes (parts_turn s (line_at (suc m) (part_of s))) (parts_with s (line_at (suc m) (part_of s)) ts) w

left_first : (m : ℕ) (l : Left) (ts : List Item) (t : Tree) (d : ℕ) (rest : List Item) → Gives m (operand_line l) ts t d rest → LeftComes m l ts (t, d, rest)
left_first m l ts t d rest g = follows _ _ (line_at (suc m) (operand_line l) ts) (t, d, rest) (by_is m l ts) g

left_next : (m : ℕ) (l : Left) (ts : List Item) (t : Tree) (d : ℕ) (x : Item) (us : List Item) (o : Op) (u : Tree) (e : ℕ) (rest : List Item)
    → LeftComes m l ts (t, d, x ∷ us) → operator l x.meaning ≡ Some o → Gives m (operand_line l) us u e rest → length rest < length us → suc (max d e) ≤ suc m
    → LeftComes m l ts (node (first_byte ts) (tree.pair o) (more t (more u none)), suc (max d e), rest)
left_next m l ts t d x us o u e rest c f g s b =
    comes_on _ _ (t, d, x ∷ us) _ c (left_on (suc m) l (first_byte ts) _ (t, d, x ∷ us) (u, e, rest) o us (rw f refl) g b) (omega arith)

left_end : (m : ℕ) (l : Left) (ts : List Item) (t : Tree) (d : ℕ) (rest : List Item) → LeftComes m l ts (t, d, rest) → Below (left_level l) rest → Gives m (By l) ts t d rest
left_end m l ts t d rest c b = comes_over _ _ (t, d, rest) c (left_over (suc m) l (first_byte ts) _ (t, d, rest) (no_operator l rest b))

-- names behind marks
name_it : (x : Item) (cs : List ℕ) (us : List Item) → x.meaning ≡ m.Name cs → name_in_front (x ∷ us) ≡ Some (cs, us)
name_it x cs us e = let f : name_meant x.meaning ≡ Some cs = ap name_meant e in rw f refl

name_behind : (k : Mark) (x y : Item) (cs : List ℕ) (us : List Item) → x.meaning ≡ meaning_of k → y.meaning ≡ m.Name cs → name_after k (x ∷ y ∷ us) ≡ Some (cs, us)
name_behind k x y cs us e f = then _ _ name_in_front (after_it k x (y ∷ us) e) ∙ name_it y cs us f

no_name_behind : (k : Mark) (r : ℕ) (rest : List Item) → rank (meaning_of k) ≤ r → Below r rest → name_after k rest ≡ None
no_name_behind k r rest h b = ap (λ v. v >>= name_in_front) (none_after k r rest h b)

alias_it : (x y : Item) (cs : List ℕ) (us : List Item) → x.meaning ≡ m.Word word.As → y.meaning ≡ m.Name cs → alias_at (x ∷ y ∷ us) ≡ Some (tree.alias cs, us)
alias_it x y cs us e f = then _ _ (λ v. Some (tree.alias v.0, v.1)) (name_behind mark.As x y cs us e f)

no_alias_at : (rest : List Item) → Below 4 rest → alias_at rest ≡ None
no_alias_at rest b = ap (λ v. v >>= λ x. Some (tree.alias x.0, x.1)) (no_name_behind mark.As 4 rest (omega arith) b)

field_it : (x y : Item) (cs : List ℕ) (us : List Item) → x.meaning ≡ m.Symbol symbol.Dot → y.meaning ≡ m.Name cs → field_in_front (x ∷ y ∷ us) ≡ Some (tree.dot cs, us)
field_it x y cs us e f = then _ _ (λ v. Some (tree.dot v.0, v.1)) (name_behind mark.Dot x y cs us e f)

no_field_at : (rest : List Item) → Below 1 rest → field_in_front rest ≡ None
no_field_at rest b = ap (λ v. v >>= λ x. Some (tree.dot x.0, x.1)) (no_name_behind mark.Dot 1 rest (omega arith) b)

percent_it : (x : Item) (us : List Item) → x.meaning ≡ m.Symbol symbol.Percent → percent_at (x ∷ us) ≡ Some (tree.percent, us)
percent_it x us e = then _ _ (λ v. Some (tree.percent, v)) (after_it mark.Percent x us e)

no_percent_at : (rest : List Item) → Below 2 rest → percent_at rest ≡ None
no_percent_at rest b = ap (λ v. v >>= λ us. Some (tree.percent, us)) (none_after mark.Percent 2 rest (omega arith) b)

-- a token of this rank follows
below_by : (r : ℕ) (x : Item) (us : List Item) (k : Meaning) → x.meaning ≡ k → r < rank k → Below r (x ∷ us)
below_by r x us k e h = let f : rank x.meaning ≡ rank k = ap rank e in omega arith

-- parts
parts_first : (m : ℕ) (s : Separator) (ts : List Item) (t : Tree) (d : ℕ) (rest : List Item) → Gives m (part_of s) ts t d rest → PartsCome m s ts (t ∷ [], d, rest)
parts_first m s ts t d rest g = comes_from _ _ _ (parts_are s _ ts ∙ then _ (t, d, rest) (λ u. loop_from (parts_turn s (line_at (suc m) (part_of s))) (u.0 ∷ [], u.1, u.2)) g)

parts_end : (m : ℕ) (s : Separator) (ts : List Item) (ps : List Tree) (d : ℕ) (rest : List Item) → PartsCome m s ts (ps, d, rest) → between s rest ≡ None → parts_with s (line_at (suc m) (part_of s)) ts ≡ Some (ps, d, rest)
parts_end m s ts ps d rest c e = comes_over _ _ (ps, d, rest) c (parts_over s _ (ps, d, rest) e)

several_by : (m : ℕ) (j : Join) (ts : List Item) (w : Parsed (List Tree)) (r : Parsed Tree) → parts_with (Between j) (line_at (suc m) (part_of (Between j))) ts ≡ Some w → gathered (suc m) (join_head j) (first_byte ts) w ≡ Some r → line_at (suc m) (Several j) ts ≡ Some r
several_by m j ts w r e f = several_is m j ts ∙ then _ w (gathered (suc m) (join_head j) (first_byte ts)) e ∙ f

comma_over : (x : Item) (us : List Item) (k : Mark) → x.meaning ≡ meaning_of k → separates Comma (meaning_of k) ≡ false → between Comma (x ∷ us) ≡ None
comma_over x us k e f = let g : separates Comma x.meaning ≡ false = ap (separates Comma) e ∙ f in rw g refl

-- atoms
atom_as : (m : ℕ) (x : Item) (us : List Item) (k : Meaning) → x.meaning ≡ k → line_at (suc m) Atom (x ∷ us) ≡ atom_by (suc m) (line_at m) x us k
atom_as m x us k e = atom_is m (x ∷ us) ∙ atom_has (suc m) (line_at m) x us ∙ ap (atom_by (suc m) (line_at m) x us) e

leaf_atom : (n : ℕ) (inner : Line → Reader) (x : Item) (us : List Item) (k : Meaning) (h : Head) → atom_head k ≡ Some h → after_mark mark.OpenParen us ≡ None → atom_by n inner x us k ≡ Some (node x.at h none, 1, us)
leaf_atom n inner x us (m.Number z) h e closed = let g : tree.num z ≡ h = cc in ap (leaf_by x us) g
leaf_atom n inner x us (m.Text cs) h e closed = let g : tree.text cs ≡ h = cc in ap (leaf_by x us) g
leaf_atom n inner x us (m.Name cs) h e closed = let g : tree.name cs ≡ h = cc in rw closed (ap (leaf_by x us) g)
leaf_atom n inner x us (m.Word word.True) h e closed = let g : tree.truth true ≡ h = cc in ap (leaf_by x us) g
leaf_atom n inner x us (m.Word word.False) h e closed = let g : tree.truth false ≡ h = cc in ap (leaf_by x us) g
leaf_atom n inner x us _ h e closed = cc

callee_atom : (n : ℕ) (inner : Line → Reader) (x : Item) (us vs : List Item) (k : Meaning) (h : Head) → callee k ≡ Some h → after_mark mark.OpenParen us ≡ Some vs → atom_by n inner x us k ≡ (args_with mark.CloseParen (inner Chain) vs >>= shut_node x.at h)
callee_atom n inner x us vs (m.Name cs) h e f = let g : tree.call cs ≡ h = cc in rw f (ap (λ v. args_with mark.CloseParen (inner Chain) vs >>= shut_node x.at v) g)
callee_atom n inner x us vs (m.Word word.And) h e f = let g : tree.all ≡ h = cc in rw f (ap (λ v. args_with mark.CloseParen (inner Chain) vs >>= shut_node x.at v) g)
callee_atom n inner x us vs (m.Word word.Or) h e f = let g : tree.any ≡ h = cc in rw f (ap (λ v. args_with mark.CloseParen (inner Chain) vs >>= shut_node x.at v) g)
callee_atom n inner x us vs _ h e f = cc

global_atom : (n : ℕ) (inner : Line → Reader) (x y z : Item) (cs : List ℕ) (rest : List Item) → y.meaning ≡ m.Name cs → z.meaning ≡ m.Symbol symbol.CloseBracket → atom_by n inner x (y ∷ z ∷ rest) (m.Symbol symbol.OpenBracketAt) ≡ Some (node x.at (tree.global cs) none, 1, rest)
global_atom n inner x y z cs rest f g =
    then _ _ (λ y. after_mark mark.CloseBracket y.1 >>= λ rest. leaf_by x rest (tree.global y.0)) (name_it y cs (z ∷ rest) f)
    ∙ then _ _ (λ rest. leaf_by x rest (tree.global cs)) (after_it mark.CloseBracket z rest g)

shut_it : {A : Type 0} (k : Mark) (a : A) (d : ℕ) (y : Item) (rest : List Item) → y.meaning ≡ meaning_of k → shut k (a, d, y ∷ rest) ≡ Some (a, d, rest)
shut_it k a d y rest e = then _ _ (λ us. Some (a, d, us)) (after_it k y rest e)

bracket_atom : (n : ℕ) (inner : Line → Reader) (x : Item) (us : List Item) (t : Tree) (d : ℕ) (y : Item) (rest : List Item) → inner Chain us ≡ Some (t, d, y ∷ rest) → y.meaning ≡ m.Symbol symbol.CloseParen → atom_by n inner x us (m.Symbol symbol.OpenParen) ≡ Some (t, suc d, rest)
bracket_atom n inner x us t d y rest e f =
    then _ _ (λ s. shut mark.CloseParen s >>= λ s. Some (s.0, suc s.1, s.2)) e ∙ then _ _ (λ s. Some (s.0, suc s.1, s.2)) (shut_it mark.CloseParen t d y rest f)

weave_atom : (n : ℕ) (inner : Line → Reader) (x : Item) (us : List Item) (ps : List Tree) (d : ℕ) (y : Item) (rest : List Item) → loop_from (strands_turn (inner Chain)) ([], 0, us) ≡ Some (ps, d, y ∷ rest) → y.meaning ≡ m.Closing → suc d ≤ n
    → atom_by n inner x us m.Opening ≡ Some (node x.at tree.woven (forest ps), suc d, rest)
weave_atom n inner x us ps d y rest e f b =
    then _ _ (λ s. within_depth n (node x.at tree.woven (forest s.0)) (suc s.1) s.2) (strands_are (inner Chain) us ∙ then _ _ (shut mark.CloseWeave) e ∙ shut_it mark.CloseWeave ps d y rest f) ∙ within_ok n _ (suc d) rest b

strands_stop : (inner : Reader) (ps : List Tree) (d : ℕ) (y : Item) (rest : List Item) → y.meaning ≡ m.Closing → strand_at inner (y ∷ rest) ≡ Some None
strands_stop inner ps d y rest e = strand_is inner y rest ∙ ap (strand_by inner y rest) e

island_it : (inner : Reader) (x : Item) (us : List Item) (t : Tree) (d : ℕ) (y : Item) (rest : List Item) → x.meaning ≡ m.Symbol symbol.OpenBrace → inner us ≡ Some (t, d, y ∷ rest) → y.meaning ≡ m.Symbol symbol.CloseBrace → strand_at inner (x ∷ us) ≡ Some (Some (t, d, rest))
island_it inner x us t d y rest e f g =
    strand_is inner x us ∙ ap (strand_by inner x us) e ∙ ap turn_going (then _ _ (shut mark.CloseBrace) f ∙ shut_it mark.CloseBrace t d y rest g)

label_it : (x y : Item) (cs : List ℕ) (us : List Item) → x.meaning ≡ m.Name cs → y.meaning ≡ m.Symbol symbol.Colon → label_at (x ∷ y ∷ us) ≡ Some (field_name x cs, us)
label_it x y cs us e f =
    then _ _ (λ v. after_mark mark.Colon v.1 >>= λ w. Some (label v.0 (x ∷ y ∷ us), w)) (name_it x cs (y ∷ us) e)
    ∙ then _ _ (λ us. Some (field_name x cs, us)) (after_it mark.Colon y us f)

abbrev FieldsCome : Reader → List Item → Parsed (List NamedTree) → Type 0
FieldsCome read ts w = Comes (fields_turn read) (field_with read ts >>= λ u. loop_from (fields_turn read) (u.0 ∷ [], u.1, u.2)) w

abbrev StrandsCome : Reader → List Item → Parsed (List Tree) → Type 0
StrandsCome inner ts w = Comes (strands_turn inner) (loop_from (strands_turn inner) ([], 0, ts)) w

comma_not_brace : (y : Item) (rest : List Item) → y.meaning ≡ m.Symbol symbol.CloseBrace → after_mark mark.Comma (y ∷ rest) ≡ None
comma_not_brace y rest e = let f : is_this_mark mark.Comma y.meaning ≡ false = ap (is_this_mark mark.Comma) e in rw f refl

fields_gives : (read : Reader) (ts : List Item) (fs : List NamedTree) (d : ℕ) (y : Item) (rest : List Item) → after_mark mark.CloseBrace ts ≡ None → FieldsCome read ts (fs, d, y ∷ rest) → y.meaning ≡ m.Symbol symbol.CloseBrace → fields_with read ts ≡ Some (fs, d, rest)
fields_gives read ts fs d y rest shut_not c e = fields_are read ts ∙ ap (read_fields read ts) shut_not ∙ by (field_with read ts) (comes_over _ _ (fs, d, y ∷ rest) c (fields_over read (fs, d, y ∷ rest) (comma_not_brace y rest e)))
  where
    by : (o : Option (Parsed NamedTree)) → (o >>= λ u. loop_from (fields_turn read) (u.0 ∷ [], u.1, u.2)) ≡ Some (fs, d, y ∷ rest) → (o >>= λ u. loop_from (fields_turn read) (u.0 ∷ [], u.1, u.2) >>= shut mark.CloseBrace) ≡ Some (fs, d, rest)
    by None g = cc
    by (Some u) g = then _ _ (shut mark.CloseBrace) g ∙ shut_it mark.CloseBrace fs d y rest e

mutual
  pub complete : {l : Line} {d : ℕ} {ts : List Item} {t : Tree} {rest : List Item} → Parses l d ts t rest → (m : ℕ) → d ≤ suc m → Stops l rest → Gives m l ts t d rest
  complete (plain d ts t rest p) m h s =
      chain_is m ts ∙ then _ (t, d, rest) (λ s. Some (without_last s (after_mark mark.Semicolon s.2))) (complete p m h (closes_no_step rest s, closes_below 11 rest (omega arith) s)) ∙ ap (λ o. Some (without_last (t, d, rest) o)) (closes_no_semicolon rest s)
  complete (ended d ts t x rest p e) m h s =
      chain_is m ts ∙ then _ (t, d, x ∷ rest) (λ s. Some (without_last s (after_mark mark.Semicolon s.2))) (complete p m h (step_ends x rest e s, below_by 11 x rest _ e (omega arith))) ∙ ap (λ o. Some (without_last (t, d, x ∷ rest) o)) (after_it mark.Semicolon x rest e)
  complete (one j d ts t rest p) m h s =
      several_by m j ts (t ∷ [], d, rest) _ (parts_end m (Between j) ts (t ∷ []) d rest (parts_first m (Between j) ts t d rest (complete p m h (stops_part j rest s))) (no_between j rest s)) refl
  complete (many j d ts p q ps rest h) m b s =
      several_by m j ts (p ∷ q ∷ ps, d, rest) _ (parts_end m (Between j) ts (p ∷ q ∷ ps) d rest (complete_parts h m (omega arith) (stops_part j rest s)) (no_between j rest s)) (within_ok (suc m) _ (suc d) rest b)
  complete (first l d ts t rest p) m h s = left_end m l ts t d rest (left_first m l ts t d rest (complete p m h (stops_under l rest s))) s
  complete (next l d e ts t x us o u rest p f q) m h s =
      left_end m l ts _ _ rest (left_next m l ts t d x us o u e rest (complete_left p m (omega arith) (stops_operator l x us o f)) f (complete q m (omega arith) (stops_under l rest s)) (shorter q) h) s
  complete (no_alias d ts t rest p) m h s =
      alias_is m ts ∙ then _ (t, d, rest) (λ s. aliased_by (suc m) (first_byte ts) s (alias_at s.2)) (complete p m h (lower 3 4 rest (omega arith) s)) ∙ ap (aliased_by (suc m) (first_byte ts) (t, d, rest)) (no_alias_at rest s)
  complete (aliased d ts t x y cs rest p e f) m h s =
      alias_is m ts ∙ then _ (t, d, x ∷ y ∷ rest) (λ s. aliased_by (suc m) (first_byte ts) s (alias_at s.2)) (complete p m (omega arith) (below_by 3 x (y ∷ rest) _ e (omega arith)))
      ∙ ap (aliased_by (suc m) (first_byte ts) (t, d, x ∷ y ∷ rest)) (alias_it x y cs rest e f) ∙ within_ok (suc m) _ (suc d) rest h
  complete (no_sign d ts t rest p) m h s = prefix_is m ts ∙ ap (signed_by (line_at m Prefix) (line_at (suc m) Power) ts) (unsigned p refl) ∙ complete p m h s
  complete (signed d x h us t rest e p) zero b s = let k = positive p in absurd (omega arith)
  complete (signed d x h us t rest e p) (suc m) b s =
      prefix_is (suc m) (x ∷ us) ∙ ap (signed_by (line_at (suc m) Prefix) (line_at (suc (suc m)) Power) (x ∷ us)) (then _ h (λ h. Some (h, us)) e) ∙ then _ (t, d, rest) (λ s. Some (node x.at h (more s.0 none), suc s.1, s.2)) (complete p m (omega arith) s)
  complete (base d ts t rest p) m h s =
      power_is m ts ∙ then _ (t, d, rest) (λ s. raised_by (suc m) (first_byte ts) (line_at m Prefix) s (after_mark mark.Caret s.2)) (complete p m h (lower 2 3 rest (omega arith) s)) ∙ ap (raised_by (suc m) (first_byte ts) (line_at m Prefix) (t, d, rest)) (none_after mark.Caret 3 rest (omega arith) s)
  complete (raised d e ts t x us u rest p f q) zero h s = let k = positive q in absurd (omega arith)
  complete (raised d e ts t x us u rest p f q) (suc m) h s =
      power_is (suc m) ts ∙ then _ (t, d, x ∷ us) (λ s. raised_by (suc (suc m)) (first_byte ts) (line_at (suc m) Prefix) s (after_mark mark.Caret s.2)) (complete p (suc m) (omega arith) (below_by 2 x us _ f (omega arith)))
      ∙ ap (raised_by (suc (suc m)) (first_byte ts) (line_at (suc m) Prefix) (t, d, x ∷ us)) (after_it mark.Caret x us f)
      ∙ then _ (u, e, rest) (λ u. within_depth (suc (suc m)) (node (first_byte ts) (tree.pair op.Pow) (more t (more u.0 none))) (suc (max d u.1)) u.2) (complete q m (omega arith) s) ∙ within_ok (suc (suc m)) _ (suc (max d e)) rest h
  complete (no_percent d ts t rest p) m h s =
      comes_over _ _ (t, d, rest) (follows _ _ (line_at (suc m) Access ts) (t, d, rest) (percent_is m ts) (complete p m h (lower 1 2 rest (omega arith) s))) (tail_over (suc m) (first_byte ts) percent_at (t, d, rest) (no_percent_at rest s))
  complete (percent d ts t x rest p e) m h s =
      comes_over _ _ _ (comes_on _ _ (t, d, x ∷ rest) _ (complete_percent p m (omega arith) (below_by 1 x rest _ e (omega arith))) (tail_on (suc m) (first_byte ts) percent_at (t, d, x ∷ rest) _ rest (percent_it x rest e) h) (omega arith))
      (tail_over (suc m) (first_byte ts) percent_at (node (first_byte ts) tree.percent (more t none), suc d, rest) (no_percent_at rest s))
  complete (no_dot d ts t rest p) m h s =
      comes_over _ _ (t, d, rest) (follows _ _ (line_at (suc m) Atom ts) (t, d, rest) (access_is m ts) (complete p m h (lower 0 1 rest (omega arith) s))) (tail_over (suc m) (first_byte ts) field_in_front (t, d, rest) (no_field_at rest s))
  complete (dotted d ts t x y cs rest p e f) m h s =
      comes_over _ _ _ (comes_on _ _ (t, d, x ∷ y ∷ rest) _ (complete_access p m (omega arith) (below_by 0 x (y ∷ rest) _ e (omega arith))) (tail_on (suc m) (first_byte ts) field_in_front (t, d, x ∷ y ∷ rest) _ rest (field_it x y cs rest e f) h) (omega arith))
      (tail_over (suc m) (first_byte ts) field_in_front (node (first_byte ts) (tree.dot cs) (more t none), suc d, rest) (no_field_at rest s))
  complete (leaf x h rest e) m b s = atom_as m x rest _ refl ∙ leaf_atom (suc m) (line_at m) x rest x.meaning h e (none_after mark.OpenParen 0 rest (omega arith) s)
  complete (a_global x y z cs rest e f g) m h s = atom_as m x (y ∷ z ∷ rest) _ e ∙ global_atom (suc m) (line_at m) x y z cs rest f g
  complete (a_call d x y h us ps z rest e f k g) m b s =
      atom_as m x (y ∷ us) _ refl ∙ callee_atom (suc m) (line_at m) x (y ∷ us) us x.meaning h e (after_it mark.OpenParen y us f) ∙ then _ (ps, d, rest) (shut_node x.at h) (complete_args k z rest refl mark.CloseParen refl refl g m (omega arith))
  complete (brackets d x us t y rest e p f) zero h s = let k = positive p in absurd (omega arith)
  complete (brackets d x us t y rest e p f) (suc m) h s =
      atom_as (suc m) x us _ e ∙ bracket_atom (suc (suc m)) (line_at (suc m)) x us t d y rest (complete p m (omega arith) (closes_it mark.CloseParen y rest refl f)) f
  complete (a_record d x us fs y rest e k f) m h s =
      atom_as m x us _ e ∙ then _ (fs, d, rest) (read_record x) (complete_fields k y rest refl f m (omega arith))
  complete (a_list d x us ps y rest e k f) m h s =
      atom_as m x us _ e ∙ then _ (ps, d, rest) (shut_node x.at tree.list) (complete_args k y rest refl mark.CloseBracket refl refl f m (omega arith))
  complete (a_weave d x us ps y rest e k f) m h s =
      atom_as m x us _ e ∙ weave_atom (suc m) (line_at m) x us ps d y rest (comes_over _ _ (ps, d, y ∷ rest) (complete_strands k m (omega arith)) (strands_over _ (ps, d, y ∷ rest) (strands_stop _ ps d y rest f))) f h

  complete_left : {l : Left} {d : ℕ} {ts : List Item} {t : Tree} {rest : List Item} → Parses (By l) d ts t rest → (m : ℕ) → d ≤ suc m → Stops (operand_line l) rest → LeftComes m l ts (t, d, rest)
  complete_left (first l d ts t rest p) m h s = left_first m l ts t d rest (complete p m h s)
  complete_left (next l d e ts t x us o u rest p f q) m h s =
      left_next m l ts t d x us o u e rest (complete_left p m (omega arith) (stops_operator l x us o f)) f (complete q m (omega arith) s) (shorter q) h

  complete_percent : {d : ℕ} {ts : List Item} {t : Tree} {rest : List Item} → Parses Percent d ts t rest → (m : ℕ) → d ≤ suc m → Below 1 rest → PercentComes m ts (t, d, rest)
  complete_percent (no_percent d ts t rest p) m h s = follows _ _ (line_at (suc m) Access ts) (t, d, rest) (percent_is m ts) (complete p m h s)
  complete_percent (percent d ts t x rest p e) m h s =
      comes_on _ _ (t, d, x ∷ rest) _ (complete_percent p m (omega arith) (below_by 1 x rest _ e (omega arith))) (tail_on (suc m) (first_byte ts) percent_at (t, d, x ∷ rest) _ rest (percent_it x rest e) h) (omega arith)

  complete_access : {d : ℕ} {ts : List Item} {t : Tree} {rest : List Item} → Parses Access d ts t rest → (m : ℕ) → d ≤ suc m → Below 0 rest → AccessComes m ts (t, d, rest)
  complete_access (no_dot d ts t rest p) m h s = follows _ _ (line_at (suc m) Atom ts) (t, d, rest) (access_is m ts) (complete p m h s)
  complete_access (dotted d ts t x y cs rest p e f) m h s =
      comes_on _ _ (t, d, x ∷ y ∷ rest) _ (complete_access p m (omega arith) (below_by 0 x (y ∷ rest) _ e (omega arith))) (tail_on (suc m) (first_byte ts) field_in_front (t, d, x ∷ y ∷ rest) _ rest (field_it x y cs rest e f) h) (omega arith)

  complete_parts : {s : Separator} {d : ℕ} {ts : List Item} {ps : List Tree} {rest : List Item} → Parts s d ts ps rest → (m : ℕ) → d ≤ suc m → Stops (part_of s) rest → PartsCome m s ts (ps, d, rest)
  complete_parts (alone s d ts t rest p) m h e = parts_first m s ts t d rest (complete p m h e)
  complete_parts (further s d e ts ps x us t rest p f q) m h i =
      comes_on _ _ (ps, d, x ∷ us) _ (complete_parts p m (omega arith) (stops_separator s x us f)) (parts_on s _ (ps, d, x ∷ us) (t, e, rest) us (between_it s x us f (opens q)) (complete q m (omega arith) i)) (let k = shorter q in omega arith)

  complete_args : {d : ℕ} {ts : List Item} {ps : List Tree} {end : List Item} → Args d ts ps end → (z : Item) (rest : List Item) → end ≡ z ∷ rest → (k : Mark) → IsClosing k → separates Comma (meaning_of k) ≡ false → z.meaning ≡ meaning_of k → (m : ℕ) → d ≤ m
      → args_with k (line_at m Chain) ts ≡ Some (ps, d, rest)
  complete_args (no_args ts) z rest q k c n e m h = args_are k _ ts ∙ ap (args_by k (line_at m Chain) ts) (ap (after_mark k) q ∙ after_it k z rest e)
  complete_args (some_args d ts ps end p) z rest q k c n e zero h = let i = positive_parts p in absurd (omega arith)
  complete_args (some_args d ts ps end p) z rest q k c n e (suc m) h =
      args_are k _ ts ∙ ap (args_by k (line_at (suc m) Chain) ts) (not_closed k ts c (opens_parts p))
      ∙ then _ (ps, d, z ∷ rest) (shut k) (parts_end m Comma ts ps d (z ∷ rest) (subst (λ r. PartsCome m Comma ts (ps, d, r)) q (complete_parts p m h (ap closes q ∙ closes_it k z rest c e))) (comma_over z rest k e n))
      ∙ shut_it k ps d z rest e

  complete_field : {d : ℕ} {ts : List Item} {f : NamedTree} {rest : List Item} → Field d ts f rest → (m : ℕ) → d ≤ suc m → Below 11 rest → field_with (line_at (suc m) (Several join.Or)) ts ≡ Some (f, d, rest)
  complete_field (field d x y cs us t rest e f p) m h s =
      field_is _ (x ∷ y ∷ us) ∙ then _ (field_name x cs, us) (λ x. line_at (suc m) (Several join.Or) x.1 >>= λ u. Some ((x.0, u.0), u.1, u.2)) (label_it x y cs us e f) ∙ then _ (t, d, rest) (λ u. Some ((field_name x cs, u.0), u.1, u.2)) (complete p m h s)

  complete_some : {d : ℕ} {ts : List Item} {fs : List NamedTree} {rest : List Item} → SomeFields d ts fs rest → (m : ℕ) → d ≤ suc m → Below 11 rest → FieldsCome (line_at (suc m) (Several join.Or)) ts (fs, d, rest)
  complete_some (one_field d ts f rest p) m h s =
      comes_from _ _ _ (then _ (f, d, rest) (λ u. loop_from (fields_turn (line_at (suc m) (Several join.Or))) (u.0 ∷ [], u.1, u.2)) (complete_field p m h s))
  complete_some (further_field d e ts fs x us f rest h g p) m b s =
      comes_on _ _ (fs, d, x ∷ us) _ (complete_some h m (omega arith) (below_by 11 x us _ g (omega arith))) (fields_on _ (fs, d, x ∷ us) (f, e, rest) us (after_it mark.Comma x us g) (complete_field p m (omega arith) s)) (let k = shorter_field p in omega arith)

  complete_fields : {d : ℕ} {ts : List Item} {fs : List NamedTree} {end : List Item} → Fields d ts fs end → (y : Item) (rest : List Item) → end ≡ y ∷ rest → y.meaning ≡ m.Symbol symbol.CloseBrace → (m : ℕ) → d ≤ m
      → fields_with (line_at m (Several join.Or)) ts ≡ Some (fs, d, rest)
  complete_fields (no_fields ts) y rest q e m h = fields_are _ ts ∙ ap (read_fields (line_at m (Several join.Or)) ts) (ap (after_mark mark.CloseBrace) q ∙ after_it mark.CloseBrace y rest e)
  complete_fields (some_fields d ts fs end p) y rest q e zero h = let i = positive_some p in absurd (omega arith)
  complete_fields (some_fields d ts fs end p) y rest q e (suc m) h =
      fields_gives _ ts fs d y rest (not_closed mark.CloseBrace ts refl (opens_fields p)) (subst (λ r. FieldsCome (line_at (suc m) (Several join.Or)) ts (fs, d, r)) q (complete_some p m h (subst (Below 11) (sym q) (below_by 11 y rest _ e (omega arith))))) e

  positive_some : {d : ℕ} {ts : List Item} {fs : List NamedTree} {rest : List Item} → SomeFields d ts fs rest → 0 < d
  positive_some (one_field d ts f rest (field d' x y cs us t rest' e g p)) = positive p
  positive_some (further_field d e ts fs x us f rest h g p) = let i = positive_some h in omega arith

  complete_strands : {d : ℕ} {ts : List Item} {ps : List Tree} {rest : List Item} → Strands d ts ps rest → (m : ℕ) → d ≤ m → StrandsCome (line_at m Chain) ts (ps, d, rest)
  complete_strands (no_strands ts) m h = comes_first _ _
  complete_strands (piece d ts ps x cs rest p e) m h =
      comes_on _ _ (ps, d, x ∷ rest) _ (complete_strands p m (omega arith)) (strands_on _ (ps, d, x ∷ rest) (node x.at (tree.text cs) none, 1, rest) (strand_is _ x rest ∙ ap (strand_by (line_at m Chain) x rest) e)) (omega arith)
  complete_strands (island d e ts ps x us t y rest p f q g) zero h = let k = positive q in absurd (omega arith)
  complete_strands (island d e ts ps x us t y rest p f q g) (suc m) h =
      comes_on _ _ (ps, d, x ∷ us) _ (complete_strands p (suc m) (omega arith)) (strands_on _ (ps, d, x ∷ us) (t, e, rest) (island_it _ x us t e y rest f (complete q m (omega arith) (closes_it mark.CloseBrace y rest refl g)) g)) (let k = shorter q in omega arith)
