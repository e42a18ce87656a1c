-- Turns of loops.
use Rattle.std.proofs.Common.{◌≡◌, ℕ, zero, suc, ◌<◌, ◌≤◌, max, List, [], ◌∷◌, ◌++◌, length, refl, ap, ◌∙◌, Option, Some, None, arith, le-leb}
use Rattle.std.proofs.lemmas.Bool.{lt-leb}
use Rattle.fx_core.specs.declared.expr.Op.{Op}
use Rattle.fx_core.specs.Tree.{Tree, NamedTree, node, Head, none, more, forest, tree_field_names, field_trees}
use Rattle.fx_core.specs.Tree as tree
use Rattle.fx_grammar.specs.declared.item.Item.{Item}
use Rattle.fx_grammar.specs.declared.line.Join.{Join}
use Rattle.fx_grammar.specs.declared.line.Join.TheVariants as join
use Rattle.fx_grammar.specs.declared.line.Separator.{Separator}
use Rattle.fx_grammar.specs.declared.line.Separator.TheVariants.{Between}
use Rattle.fx_grammar.specs.declared.line.Left.{Left}
use Rattle.fx_grammar.specs.declared.line.Left.TheVariants as left
use Rattle.fx_grammar.specs.declared.line.Line.{Line}
use Rattle.fx_grammar.specs.declared.line.Line.TheVariants.{Chain, Several, By, Alias, Prefix, Power, Percent, Access, Atom}
use Rattle.fx_grammar.specs.declared.line.Mark.{Mark}
use Rattle.fx_grammar.specs.declared.line.Mark.TheVariants as mark
use Rattle.fx_grammar.specs.Grammar.{first_byte, part_of, join_head, operand_line}
use Rattle.fx_grammar.specs.Reading.{◌>>=◌, Parsed, Reader, Turn, reader_turned, loop, loop_from, within_depth, after_mark, between, operator_at, sign_at, left_turn, left_with, tail_turn, field_in_front, percent_at, alias_at, access_with, percent_with, aliased_by, alias_with, parts_turn, parts_with, gathered, several_with, without_last, chain_with, signed_by, prefix_with, raised_by, power_with, shut, args_by, args_with, label_at, field_with, fields_turn, read_fields, fields_with, strand_by, strand_at, strands_turn, strands_with, atom_by, atom_with, line_at}

-- a loop has come so far, with turns enough for the tokens that are left
abbrev pub Comes : {A : Type 0} → (Parsed A → Turn A) → Option (Parsed A) → Parsed A → Type 0
Comes turn w s = (k : ℕ) × (length s.2 < k) × (w ≡ loop turn k s)

pub comes_first : {A : Type 0} (turn : Parsed A → Turn A) (s : Parsed A) → Comes turn (loop_from turn s) s
unfolding loop_from
comes_first turn s = (suc (length s.2), omega arith, refl)

pub comes_from : {A : Type 0} (turn : Parsed A → Turn A) (w : Option (Parsed A)) (s : Parsed A) → w ≡ loop_from turn s → Comes turn w s
unfolding loop_from
comes_from turn w s e = (suc (length s.2), omega arith, e)

pub comes_over : {A : Type 0} (turn : Parsed A → Turn A) (w : Option (Parsed A)) (s : Parsed A) → Comes turn w s → turn s ≡ Some None → w ≡ Some s
unfolding loop
comes_over turn w s (zero, h, e) f = absurd (omega arith)
comes_over turn w s (suc k, h, e) f = e ∙ ap (λ v. reader_turned v s (loop turn k)) f

pub comes_on : {A : Type 0} (turn : Parsed A → Turn A) (w : Option (Parsed A)) (s u : Parsed A) → Comes turn w s → turn s ≡ Some (Some u) → length u.2 < length s.2 → Comes turn w u
unfolding loop
comes_on turn w s u (zero, h, e) f g = absurd (omega arith)
comes_on turn w s u (suc k, h, e) f g = (k, omega arith, e ∙ ap (λ v. reader_turned v s (loop turn k)) f)

pub comes_to_none : {A : Type 0} (turn : Parsed A → Turn A) (w : Option (Parsed A)) (s : Parsed A) → Comes turn w s → turn s ≡ None → w ≡ None
unfolding loop
comes_to_none turn w s (zero, h, e) f = absurd (omega arith)
comes_to_none turn w s (suc k, h, e) f = e ∙ ap (λ v. reader_turned v s (loop turn k)) f

-- depths
pub within_ok : (n : ℕ) (t : Tree) (d : ℕ) (rest : List Item) → d ≤ n → within_depth n t d rest ≡ Some (t, d, rest)
within_ok n t d rest h = rw (le-leb d n h) refl

pub within_none : (n : ℕ) (t : Tree) (d : ℕ) (rest : List Item) → n < d → within_depth n t d rest ≡ None
within_none n t d rest h = rw (lt-leb d n h) refl

-- turns of the lines
pub left_over : (n : ℕ) (l : Left) (at : ℕ) (read : Reader) (s : Parsed Tree) → operator_at l s.2 ≡ None → left_turn n l at read s ≡ Some None
unfolding left_turn
left_over n l at read s e = rw e refl

pub left_on : (n : ℕ) (l : Left) (at : ℕ) (read : Reader) (s u : Parsed Tree) (o : Op) (us : List Item) → operator_at l s.2 ≡ Some (o, us) → read us ≡ Some u → suc (max s.1 u.1) ≤ n
    → left_turn n l at read s ≡ Some (Some (node at (tree.pair o) (more s.0 (more u.0 none)), suc (max s.1 u.1), u.2))
unfolding left_turn
left_on n l at read s u o us e f h = rw (e, f, le-leb (suc (max s.1 u.1)) n h) refl

pub left_fails : (n : ℕ) (l : Left) (at : ℕ) (read : Reader) (s : Parsed Tree) (o : Op) (us : List Item) → operator_at l s.2 ≡ Some (o, us) → read us ≡ None → left_turn n l at read s ≡ None
unfolding left_turn
left_fails n l at read s o us e f = rw (e, f) refl

pub left_deep : (n : ℕ) (l : Left) (at : ℕ) (read : Reader) (s u : Parsed Tree) (o : Op) (us : List Item) → operator_at l s.2 ≡ Some (o, us) → read us ≡ Some u → n < suc (max s.1 u.1) → left_turn n l at read s ≡ None
unfolding left_turn
left_deep n l at read s u o us e f h = rw (e, f, lt-leb (suc (max s.1 u.1)) n h) refl

pub tail_over : (n at : ℕ) (tail : List Item → Option (Head × List Item)) (s : Parsed Tree) → tail s.2 ≡ None → tail_turn n at tail s ≡ Some None
unfolding tail_turn
tail_over n at tail s e = rw e refl

pub tail_on : (n at : ℕ) (tail : List Item → Option (Head × List Item)) (s : Parsed Tree) (h : Head) (us : List Item) → tail s.2 ≡ Some (h, us) → suc s.1 ≤ n
    → tail_turn n at tail s ≡ Some (Some (node at h (more s.0 none), suc s.1, us))
unfolding tail_turn
tail_on n at tail s h us e b = rw (e, le-leb (suc s.1) n b) refl

pub tail_deep : (n at : ℕ) (tail : List Item → Option (Head × List Item)) (s : Parsed Tree) (h : Head) (us : List Item) → tail s.2 ≡ Some (h, us) → n < suc s.1 → tail_turn n at tail s ≡ None
unfolding tail_turn
tail_deep n at tail s h us e b = rw (e, lt-leb (suc s.1) n b) refl

pub parts_over : (s : Separator) (read : Reader) (w : Parsed (List Tree)) → between s w.2 ≡ None → parts_turn s read w ≡ Some None
unfolding parts_turn
parts_over s read w e = rw e refl

pub parts_on : (s : Separator) (read : Reader) (w : Parsed (List Tree)) (u : Parsed Tree) (us : List Item) → between s w.2 ≡ Some us → read us ≡ Some u → parts_turn s read w ≡ Some (Some (w.0 ++ u.0 ∷ [], max w.1 u.1, u.2))
unfolding parts_turn
parts_on s read w u us e f = rw (e, f) refl

pub parts_fail : (s : Separator) (read : Reader) (w : Parsed (List Tree)) (us : List Item) → between s w.2 ≡ Some us → read us ≡ None → parts_turn s read w ≡ None
unfolding parts_turn
parts_fail s read w us e f = rw (e, f) refl

pub fields_over : (read : Reader) (w : Parsed (List NamedTree)) → after_mark mark.Comma w.2 ≡ None → fields_turn read w ≡ Some None
unfolding fields_turn
fields_over read w e = rw e refl

pub fields_on : (read : Reader) (w : Parsed (List NamedTree)) (u : Parsed NamedTree) (us : List Item) → after_mark mark.Comma w.2 ≡ Some us → field_with read us ≡ Some u → fields_turn read w ≡ Some (Some (w.0 ++ u.0 ∷ [], max w.1 u.1, u.2))
unfolding fields_turn
fields_on read w u us e f = rw (e, f) refl

pub fields_fail : (read : Reader) (w : Parsed (List NamedTree)) (us : List Item) → after_mark mark.Comma w.2 ≡ Some us → field_with read us ≡ None → fields_turn read w ≡ None
unfolding fields_turn
fields_fail read w us e f = rw (e, f) refl

pub strands_over : (inner : Reader) (w : Parsed (List Tree)) → strand_at inner w.2 ≡ Some None → strands_turn inner w ≡ Some None
unfolding strands_turn
strands_over inner w e = rw e refl

pub strands_on : (inner : Reader) (w : Parsed (List Tree)) (u : Parsed Tree) → strand_at inner w.2 ≡ Some (Some u) → strands_turn inner w ≡ Some (Some (w.0 ++ u.0 ∷ [], max w.1 u.1, u.2))
unfolding strands_turn
strands_on inner w u e = rw e refl

pub strands_fail : (inner : Reader) (w : Parsed (List Tree)) → strand_at inner w.2 ≡ None → strands_turn inner w ≡ None
unfolding strands_turn
strands_fail inner w e = rw e refl

-- the lines in terms of the tighter ones
pub atom_is : (n : ℕ) (ts : List Item) → line_at (suc n) Atom ts ≡ atom_with (suc n) (line_at n) ts
unfolding line_at
atom_is n ts = refl

pub access_is : (n : ℕ) (ts : List Item) → line_at (suc n) Access ts ≡ (line_at (suc n) Atom ts >>= loop_from (tail_turn (suc n) (first_byte ts) field_in_front))
unfolding line_at access_with
access_is n ts = refl

pub percent_is : (n : ℕ) (ts : List Item) → line_at (suc n) Percent ts ≡ (line_at (suc n) Access ts >>= loop_from (tail_turn (suc n) (first_byte ts) percent_at))
unfolding line_at percent_with
percent_is n ts = refl

pub power_is : (n : ℕ) (ts : List Item) → line_at (suc n) Power ts ≡ (line_at (suc n) Percent ts >>= λ s. raised_by (suc n) (first_byte ts) (line_at n Prefix) s (after_mark mark.Caret s.2))
unfolding line_at power_with
power_is n ts = refl

pub prefix_is : (n : ℕ) (ts : List Item) → line_at (suc n) Prefix ts ≡ signed_by (line_at n Prefix) (line_at (suc n) Power) ts (sign_at ts)
unfolding line_at prefix_with
prefix_is n ts = refl

pub alias_is : (n : ℕ) (ts : List Item) → line_at (suc n) Alias ts ≡ (line_at (suc n) Prefix ts >>= λ s. aliased_by (suc n) (first_byte ts) s (alias_at s.2))
unfolding line_at alias_with
alias_is n ts = refl

pub by_is : (n : ℕ) (l : Left) (ts : List Item) → line_at (suc n) (By l) ts ≡ (line_at (suc n) (operand_line l) ts >>= loop_from (left_turn (suc n) l (first_byte ts) (line_at (suc n) (operand_line l))))
unfolding line_at left_with
by_is n left.Member ts = refl
by_is n left.Comp ts = refl
by_is n left.Sum ts = refl
by_is n left.Prod ts = refl

pub several_is : (n : ℕ) (j : Join) (ts : List Item) → line_at (suc n) (Several j) ts ≡ (parts_with (Between j) (line_at (suc n) (part_of (Between j))) ts >>= gathered (suc n) (join_head j) (first_byte ts))
unfolding line_at several_with
several_is n join.Chain ts = refl
several_is n join.Or ts = refl
several_is n join.And ts = refl
several_is n join.Cat ts = refl

pub chain_is : (n : ℕ) (ts : List Item) → line_at (suc n) Chain ts ≡ (line_at (suc n) (Several join.Chain) ts >>= λ s. Some (without_last s (after_mark mark.Semicolon s.2)))
unfolding line_at chain_with
chain_is n ts = refl

pub none_at : (l : Line) (ts : List Item) → line_at 0 l ts ≡ None
unfolding line_at
none_at l ts = refl

pub parts_are : (s : Separator) (read : Reader) (ts : List Item) → parts_with s read ts ≡ (read ts >>= λ u. loop_from (parts_turn s read) (u.0 ∷ [], u.1, u.2))
unfolding parts_with
parts_are s read ts = refl

pub field_is : (read : Reader) (ts : List Item) → field_with read ts ≡ (label_at ts >>= λ x. read x.1 >>= λ u. Some ((x.0, u.0), u.1, u.2))
unfolding field_with
field_is read ts = refl

pub args_are : (k : Mark) (inner : Reader) (ts : List Item) → args_with k inner ts ≡ args_by k inner ts (after_mark k ts)
unfolding args_with
args_are k inner ts = refl

pub fields_are : (read : Reader) (ts : List Item) → fields_with read ts ≡ read_fields read ts (after_mark mark.CloseBrace ts)
unfolding fields_with
fields_are read ts = refl

pub strands_are : (inner : Reader) (ts : List Item) → strands_with inner ts ≡ (loop_from (strands_turn inner) ([], 0, ts) >>= shut mark.CloseWeave)
unfolding strands_with
strands_are inner ts = refl

pub strand_is : (inner : Reader) (x : Item) (us : List Item) → strand_at inner (x ∷ us) ≡ strand_by inner x us x.meaning
unfolding strand_at
strand_is inner x us = refl

pub atom_has : (n : ℕ) (inner : Line → Reader) (x : Item) (us : List Item) → atom_with n inner (x ∷ us) ≡ atom_by n inner x us x.meaning
unfolding atom_with
atom_has n inner x us = refl

-- the loops of the code: over, on, and without a reading
pub left_ends : (n : ℕ) (l : Left) (at : ℕ) (read : Reader) (w : Option (Parsed Tree)) (t : Tree) (d : ℕ) (rest : List Item) → Comes (left_turn n l at read) w (t, d, rest) → operator_at l rest ≡ None → w ≡ Some (t, d, rest)
left_ends n l at read w t d rest c e = comes_over (left_turn n l at read) w (t, d, rest) c (left_over n l at read (t, d, rest) e)

pub left_goes : (n : ℕ) (l : Left) (at : ℕ) (read : Reader) (w : Option (Parsed Tree)) (t : Tree) (d : ℕ) (rest : List Item) (o : Op) (us : List Item) (u : Tree) (e : ℕ) (end : List Item) → Comes (left_turn n l at read) w (t, d, rest)
    → operator_at l rest ≡ Some (o, us) → read us ≡ Some (u, e, end) → length us < length rest → length end < length us → max d e < n
    → Comes (left_turn n l at read) w (node at (tree.pair o) (more t (more u none)), suc (max d e), end)
left_goes n l at read w t d rest o us u e end c f g i j h = comes_on (left_turn n l at read) w (t, d, rest) _ c (left_on n l at read (t, d, rest) (u, e, end) o us f g (omega arith)) (omega arith)

pub left_stuck : (n : ℕ) (l : Left) (at : ℕ) (read : Reader) (w : Option (Parsed Tree)) (t : Tree) (d : ℕ) (rest : List Item) (o : Op) (us : List Item) → Comes (left_turn n l at read) w (t, d, rest) → operator_at l rest ≡ Some (o, us) → read us ≡ None → w ≡ None
left_stuck n l at read w t d rest o us c f g = comes_to_none (left_turn n l at read) w (t, d, rest) c (left_fails n l at read (t, d, rest) o us f g)

pub left_too_deep : (n : ℕ) (l : Left) (at : ℕ) (read : Reader) (w : Option (Parsed Tree)) (t : Tree) (d : ℕ) (rest : List Item) (o : Op) (us : List Item) (u : Tree) (e : ℕ) (end : List Item) → Comes (left_turn n l at read) w (t, d, rest)
    → operator_at l rest ≡ Some (o, us) → read us ≡ Some (u, e, end) → n ≤ max d e → w ≡ None
left_too_deep n l at read w t d rest o us u e end c f g h = comes_to_none (left_turn n l at read) w (t, d, rest) c (left_deep n l at read (t, d, rest) (u, e, end) o us f g (omega arith))

pub tail_ends : (n at : ℕ) (tail : List Item → Option (Head × List Item)) (w : Option (Parsed Tree)) (t : Tree) (d : ℕ) (rest : List Item) → Comes (tail_turn n at tail) w (t, d, rest) → tail rest ≡ None → w ≡ Some (t, d, rest)
tail_ends n at tail w t d rest c e = comes_over (tail_turn n at tail) w (t, d, rest) c (tail_over n at tail (t, d, rest) e)

pub tail_goes : (n at : ℕ) (tail : List Item → Option (Head × List Item)) (w : Option (Parsed Tree)) (t : Tree) (d : ℕ) (rest : List Item) (h : Head) (us : List Item) → Comes (tail_turn n at tail) w (t, d, rest) → tail rest ≡ Some (h, us) → length us < length rest → d < n
    → Comes (tail_turn n at tail) w (node at h (more t none), suc d, us)
tail_goes n at tail w t d rest h us c e i b = comes_on (tail_turn n at tail) w (t, d, rest) _ c (tail_on n at tail (t, d, rest) h us e (omega arith)) i

pub tail_too_deep : (n at : ℕ) (tail : List Item → Option (Head × List Item)) (w : Option (Parsed Tree)) (t : Tree) (d : ℕ) (rest : List Item) (h : Head) (us : List Item) → Comes (tail_turn n at tail) w (t, d, rest) → tail rest ≡ Some (h, us) → n ≤ d → w ≡ None
tail_too_deep n at tail w t d rest h us c e b = comes_to_none (tail_turn n at tail) w (t, d, rest) c (tail_deep n at tail (t, d, rest) h us e (omega arith))

pub parts_end : (s : Separator) (read : Reader) (w : Option (Parsed (List Tree))) (ps : List Tree) (d : ℕ) (rest : List Item) → Comes (parts_turn s read) w (ps, d, rest) → between s rest ≡ None → w ≡ Some (ps, d, rest)
parts_end s read w ps d rest c e = comes_over (parts_turn s read) w (ps, d, rest) c (parts_over s read (ps, d, rest) e)

pub parts_go : (s : Separator) (read : Reader) (w : Option (Parsed (List Tree))) (ps : List Tree) (d : ℕ) (rest us : List Item) (u : Tree) (e : ℕ) (end : List Item) → Comes (parts_turn s read) w (ps, d, rest) → between s rest ≡ Some us → read us ≡ Some (u, e, end) → length us < length rest → length end < length us
    → Comes (parts_turn s read) w (ps ++ u ∷ [], max d e, end)
parts_go s read w ps d rest us u e end c f g i j = comes_on (parts_turn s read) w (ps, d, rest) _ c (parts_on s read (ps, d, rest) (u, e, end) us f g) (omega arith)

pub parts_stuck : (s : Separator) (read : Reader) (w : Option (Parsed (List Tree))) (ps : List Tree) (d : ℕ) (rest us : List Item) → Comes (parts_turn s read) w (ps, d, rest) → between s rest ≡ Some us → read us ≡ None → w ≡ None
parts_stuck s read w ps d rest us c f g = comes_to_none (parts_turn s read) w (ps, d, rest) c (parts_fail s read (ps, d, rest) us f g)

pub fields_end : (read : Reader) (w : Option (Parsed (List NamedTree))) (fs : List NamedTree) (d : ℕ) (rest : List Item) → Comes (fields_turn read) w (fs, d, rest) → after_mark mark.Comma rest ≡ None → w ≡ Some (fs, d, rest)
fields_end read w fs d rest c e = comes_over (fields_turn read) w (fs, d, rest) c (fields_over read (fs, d, rest) e)

pub fields_go : (read : Reader) (w : Option (Parsed (List NamedTree))) (fs : List NamedTree) (d : ℕ) (rest us : List Item) (f : NamedTree) (e : ℕ) (end : List Item) → Comes (fields_turn read) w (fs, d, rest) → after_mark mark.Comma rest ≡ Some us → field_with read us ≡ Some (f, e, end) → length us < length rest → length end < length us
    → Comes (fields_turn read) w (fs ++ f ∷ [], max d e, end)
fields_go read w fs d rest us f e end c g h i j = comes_on (fields_turn read) w (fs, d, rest) _ c (fields_on read (fs, d, rest) (f, e, end) us g h) (omega arith)

pub fields_stuck : (read : Reader) (w : Option (Parsed (List NamedTree))) (fs : List NamedTree) (d : ℕ) (rest us : List Item) → Comes (fields_turn read) w (fs, d, rest) → after_mark mark.Comma rest ≡ Some us → field_with read us ≡ None → w ≡ None
fields_stuck read w fs d rest us c g h = comes_to_none (fields_turn read) w (fs, d, rest) c (fields_fail read (fs, d, rest) us g h)

pub strands_end : (inner : Reader) (w : Option (Parsed (List Tree))) (ps : List Tree) (d : ℕ) (rest : List Item) → Comes (strands_turn inner) w (ps, d, rest) → strand_at inner rest ≡ Some None → w ≡ Some (ps, d, rest)
strands_end inner w ps d rest c e = comes_over (strands_turn inner) w (ps, d, rest) c (strands_over inner (ps, d, rest) e)

pub strands_go : (inner : Reader) (w : Option (Parsed (List Tree))) (ps : List Tree) (d : ℕ) (rest : List Item) (u : Tree) (e : ℕ) (end : List Item) → Comes (strands_turn inner) w (ps, d, rest) → strand_at inner rest ≡ Some (Some (u, e, end)) → length end < length rest
    → Comes (strands_turn inner) w (ps ++ u ∷ [], max d e, end)
strands_go inner w ps d rest u e end c f i = comes_on (strands_turn inner) w (ps, d, rest) _ c (strands_on inner (ps, d, rest) (u, e, end) f) i

pub strands_stuck : (inner : Reader) (w : Option (Parsed (List Tree))) (ps : List Tree) (d : ℕ) (rest : List Item) → Comes (strands_turn inner) w (ps, d, rest) → strand_at inner rest ≡ None → w ≡ None
strands_stuck inner w ps d rest c f = comes_to_none (strands_turn inner) w (ps, d, rest) c (strands_fail inner (ps, d, rest) f)
