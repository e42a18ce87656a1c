-- The lines in terms of the tighter ones, at a limit that isn't 0.
use Rattle.std.proofs.Common.{◌≡◌, ℕ, zero, suc, ◌+◌, ◌-◌, ◌<◌, ◌≤◌, max, length, List, [], ◌∷◌, ◌++◌, Option, Some, None, Result, Ok, Err, refl, ap, sym, ◌∙◌, subst, arith, sub-one, add-one}
use Rattle.std.specs.Prelude.{IfSome}
use Rattle.std.specs.Borrow.{Bor}
use Rattle.fx_core.specs.Tree.{Tree, NamedTree, Head, node, more, none, forest}
use Rattle.fx_core.specs.Tree as tree
use Rattle.fx_core.specs.declared.expr.FieldName.{FieldName}
use Rattle.fx_core.specs.declared.expr.Op.{Op}
use Rattle.fx_core.specs.declared.expr.Op.TheVariants as op
use Rattle.fx_grammar.specs.declared.item.Item.{Item}
use Rattle.fx_grammar.specs.declared.item.Meaning.{Meaning}
use Rattle.fx_grammar.specs.declared.item.Meaning.TheVariants as m
use Rattle.fx_grammar.specs.declared.line.Join.{Join}
use Rattle.fx_grammar.specs.declared.line.Join.TheVariants as join
use Rattle.fx_grammar.specs.declared.line.Separator.{Separator}
use Rattle.fx_grammar.specs.declared.line.Separator.TheVariants.{Between, Comma}
use Rattle.fx_grammar.specs.declared.line.Left.{Left}
use Rattle.fx_grammar.specs.declared.line.Line.{Line}
use Rattle.fx_grammar.specs.declared.line.Line.TheVariants.{Chain, Several, By, Alias, Prefix, Power, Percent, Access, Atom}
use Rattle.fx_grammar.specs.declared.line.Mark.{Mark}
use Rattle.fx_grammar.specs.declared.line.Mark.TheVariants as mark
use Rattle.fx_grammar.specs.Grammar.{first_byte, part_of, join_head, operand_line}
use Rattle.fx_grammar.specs.Reading.{◌>>=◌, label, Parsed, Reader, Turn, after_mark, sign_at, alias_at, field_in_front, percent_at, loop_from, left_turn, tail_turn, parts_turn, parts_with, gathered, without_last, signed_by, raised_by, aliased_by, shut, args_by, args_with, read_fields, fields_with, field_with, fields_turn, strand_by, strand_at, strands_turn, label_at, operator_at, between, within_depth, atom_by, atom_with, line_at}
use Rattle.fx_grammar.proofs.Turns.{Comes, comes_from, none_at, atom_is, atom_has, access_is, percent_is, power_is, prefix_is, alias_is, by_is, several_is, chain_is, parts_are, args_are, fields_are, strand_is, field_is, strands_are, within_ok, within_none, left_goes, parts_go, fields_go, strands_go}
use Rattle.fx_parser.specs.declared.descent_end.End.{End}
use Rattle.fx_parser.specs.declared.descent_end.End.TheVariants.{Refused, Memory}
use Rattle.fx_parser.specs.Answer.{ParserAnswers, strand_seen, first_token, fields_from}

abbrev shut_to : List Tree → ℕ → List Item → Option (Parsed (List Tree))
shut_to ps d us = Some (ps, d, us)

pub none_line : (n : ℕ) (l : Line) (ts : List Item) → n ≡ 0 → line_at n l ts ≡ None
none_line n l ts e = ap (λ k. line_at k l ts) e ∙ none_at l ts

-- an error that is passed on
pub passed : {X Y Z W : Type 0} (f : X → Y) (g : Z → W) (e : End) (r : Option Y) (w : Option W) → ParserAnswers f (Err e) r → (r ≡ None → w ≡ None) → ParserAnswers g (Err e) w
passed f g Refused r w h k = k h
passed f g Memory r w h k = tt

pub chain_line : (n : ℕ) (ts : List Item) → 0 < n → line_at n Chain ts ≡ (line_at n (Several join.Chain) ts >>= λ s. Some (without_last s (after_mark mark.Semicolon s.2)))
chain_line zero ts h = absurd (omega arith)
chain_line (suc n) ts h = chain_is n ts

pub several_line : (n : ℕ) (j : Join) (ts : List Item) → 0 < n → line_at n (Several j) ts ≡ (parts_with (Between j) (line_at n (part_of (Between j))) ts >>= gathered n (join_head j) (first_byte ts))
several_line zero j ts h = absurd (omega arith)
several_line (suc n) j ts h = several_is n j ts

pub by_line : (n : ℕ) (l : Left) (ts : List Item) → 0 < n → line_at n (By l) ts ≡ (line_at n (operand_line l) ts >>= loop_from (left_turn n l (first_byte ts) (line_at n (operand_line l))))
by_line zero l ts h = absurd (omega arith)
by_line (suc n) l ts h = by_is n l ts

pub alias_line : (n : ℕ) (ts : List Item) → 0 < n → line_at n Alias ts ≡ (line_at n Prefix ts >>= λ s. aliased_by n (first_byte ts) s (alias_at s.2))
alias_line zero ts h = absurd (omega arith)
alias_line (suc n) ts h = alias_is n ts

pub prefix_line : (n : ℕ) (ts : List Item) → 0 < n → line_at n Prefix ts ≡ signed_by (line_at (n - 1) Prefix) (line_at n Power) ts (sign_at ts)
prefix_line zero ts h = absurd (omega arith)
prefix_line (suc n) ts h = rw sub-one (prefix_is n ts)

pub power_line : (n : ℕ) (ts : List Item) → 0 < n → line_at n Power ts ≡ (line_at n Percent ts >>= λ s. raised_by n (first_byte ts) (line_at (n - 1) Prefix) s (after_mark mark.Caret s.2))
power_line zero ts h = absurd (omega arith)
power_line (suc n) ts h = rw sub-one (power_is n ts)

pub percent_line : (n : ℕ) (ts : List Item) → 0 < n → line_at n Percent ts ≡ (line_at n Access ts >>= loop_from (tail_turn n (first_byte ts) percent_at))
percent_line zero ts h = absurd (omega arith)
percent_line (suc n) ts h = percent_is n ts

pub access_line : (n : ℕ) (ts : List Item) → 0 < n → line_at n Access ts ≡ (line_at n Atom ts >>= loop_from (tail_turn n (first_byte ts) field_in_front))
access_line zero ts h = absurd (omega arith)
access_line (suc n) ts h = access_is n ts

pub atom_line : (n : ℕ) (x : Item) (us : List Item) (k : Meaning) → 0 < n → x.meaning ≡ k → line_at n Atom (x ∷ us) ≡ atom_by n (line_at (n - 1)) x us k
atom_line zero x us k h e = absurd (omega arith)
atom_line (suc n) x us k h e = rw sub-one (atom_is n (x ∷ us) ∙ atom_has (suc n) (line_at n) x us ∙ ap (atom_by (suc n) (line_at n) x us) e)

-- a line whose part was not read is not read
pub none_then : {A B : Type 0} (w : Option B) (o : Option A) (f : A → Option B) → w ≡ (o >>= f) → o ≡ None → w ≡ None
none_then w o f e h = e ∙ ap (λ v. v >>= f) h

-- a line whose part was read
pub some_then : {A B : Type 0} (w : Option B) (o : Option A) (f : A → Option B) (s : A) → w ≡ (o >>= f) → o ≡ Some s → w ≡ f s
some_then w o f s e h = e ∙ ap (λ v. v >>= f) h

parts_begin : (s : Separator) (read : Reader) (ts : List Item) (t : Tree) (d : ℕ) (rest : List Item) (ps : List Tree) → read ts ≡ Some (t, d, rest) → ps ≡ t ∷ [] → Comes (parts_turn s read) (parts_with s read ts) (ps, d, rest)
parts_begin s read ts t d rest ps e f = subst (λ (ps : List Tree). Comes (parts_turn s read) (parts_with s read ts) (ps, d, rest)) (sym f) (comes_from _ _ _ (parts_are s read ts ∙ ap (λ v. v >>= λ u. loop_from (parts_turn s read) (u.0 ∷ [], u.1, u.2)) e))

pub parts_first : (n : ℕ) (s : Separator) (k : Line) (ts : List Item) (t : Tree) (d : ℕ) (rest : List Item) (ps : List Tree) → k ≡ part_of s → line_at n k ts ≡ Some (t, d, rest) → ps ≡ t ∷ [] → Comes (parts_turn s (line_at n k)) (parts_with s (line_at n (part_of s)) ts) (ps, d, rest)
parts_first n s k ts t d rest ps q e f = subst (λ (j : Line). Comes (parts_turn s (line_at n k)) (parts_with s (line_at n j) ts) (ps, d, rest)) q (parts_begin s (line_at n k) ts t d rest ps e f)

pub parts_none : (n : ℕ) (s : Separator) (k : Line) (ts : List Item) → k ≡ part_of s → line_at n k ts ≡ None → parts_with s (line_at n (part_of s)) ts ≡ None
parts_none n s k ts q e = subst (λ (j : Line). parts_with s (line_at n j) ts ≡ None) q (parts_are s (line_at n k) ts ∙ ap (λ v. v >>= λ u. loop_from (parts_turn s (line_at n k)) (u.0 ∷ [], u.1, u.2)) e)

left_begin : (n : ℕ) (l : Left) (ts : List Item) (at : ℕ) (t : Tree) (d : ℕ) (rest : List Item) → 0 < n → at ≡ first_byte ts → line_at n (operand_line l) ts ≡ Some (t, d, rest) → Comes (left_turn n l at (line_at n (operand_line l))) (line_at n (By l) ts) (t, d, rest)
left_begin n l ts at t d rest h p e = comes_from _ _ _ (by_line n l ts h ∙ ap (λ v. v >>= loop_from (left_turn n l (first_byte ts) (line_at n (operand_line l)))) e ∙ ap (λ k. loop_from (left_turn n l k (line_at n (operand_line l))) (t, d, rest)) (sym p))

pub left_first : (n : ℕ) (l : Left) (k : Line) (ts : List Item) (at : ℕ) (t : Tree) (d : ℕ) (rest : List Item) → 0 < n → at ≡ first_byte ts → k ≡ operand_line l → line_at n k ts ≡ Some (t, d, rest) → Comes (left_turn n l at (line_at n k)) (line_at n (By l) ts) (t, d, rest)
left_first n l k ts at t d rest h p q e =
    subst (λ (j : Line). Comes (left_turn n l at (line_at n j)) (line_at n (By l) ts) (t, d, rest)) (sym q) (left_begin n l ts at t d rest h p (subst (λ (j : Line). line_at n j ts ≡ Some (t, d, rest)) q e))

pub gives_as : {X Y : Type 0} (f : X → Y) (r : Result X End) (v w : Option Y) → w ≡ v → ParserAnswers f r v → ParserAnswers f r w
gives_as f r v w e g = subst (ParserAnswers f r) (sym e) g

-- chains
pub chain_ends : (n : ℕ) (ts : List Item) (t : Tree) (d : ℕ) (rest : List Item) → 0 < n → line_at n (Several join.Chain) ts ≡ Some (t, d, rest) → None ≡ after_mark mark.Semicolon rest → line_at n Chain ts ≡ Some (t, d, rest)
chain_ends n ts t d rest h e f = some_then _ _ _ (t, d, rest) (chain_line n ts h) e ∙ ap (λ o. Some (without_last (t, d, rest) o)) (sym f)

pub chain_goes_off : (n : ℕ) (ts : List Item) (t : Tree) (d : ℕ) (rest us : List Item) → 0 < n → line_at n (Several join.Chain) ts ≡ Some (t, d, rest) → Some us ≡ after_mark mark.Semicolon rest → line_at n Chain ts ≡ Some (t, d, us)
chain_goes_off n ts t d rest us h e f = some_then _ _ _ (t, d, rest) (chain_line n ts h) e ∙ ap (λ o. Some (without_last (t, d, rest) o)) (sym f)

pub chain_none : (n : ℕ) (ts : List Item) → 0 < n → line_at n (Several join.Chain) ts ≡ None → line_at n Chain ts ≡ None
chain_none n ts h e = none_then _ _ _ (chain_line n ts h) e

-- lines over what was read
pub several_read : (n : ℕ) (j : Join) (ts : List Item) (at : ℕ) (w : Parsed (List Tree)) → 0 < n → parts_with (Between j) (line_at n (part_of (Between j))) ts ≡ Some w → at ≡ first_byte ts → line_at n (Several j) ts ≡ gathered n (join_head j) at w
several_read n j ts at w h e p = some_then _ _ _ w (several_line n j ts h) e ∙ ap (λ k. gathered n (join_head j) k w) (sym p)

pub several_none : (n : ℕ) (j : Join) (ts : List Item) → 0 < n → parts_with (Between j) (line_at n (part_of (Between j))) ts ≡ None → line_at n (Several j) ts ≡ None
several_none n j ts h e = none_then _ _ _ (several_line n j ts h) e

pub by_none : (n : ℕ) (l : Left) (k : Line) (ts : List Item) → 0 < n → k ≡ operand_line l → line_at n k ts ≡ None → line_at n (By l) ts ≡ None
by_none n l k ts h q e = none_then _ _ _ (by_line n l ts h) (subst (λ (j : Line). line_at n j ts ≡ None) q e)

pub alias_read : (n : ℕ) (ts : List Item) (at : ℕ) (t : Tree) (d : ℕ) (rest : List Item) → 0 < n → line_at n Prefix ts ≡ Some (t, d, rest) → at ≡ first_byte ts → line_at n Alias ts ≡ aliased_by n at (t, d, rest) (alias_at rest)
alias_read n ts at t d rest h e p = some_then _ _ _ (t, d, rest) (alias_line n ts h) e ∙ ap (λ k. aliased_by n k (t, d, rest) (alias_at rest)) (sym p)

pub alias_none : (n : ℕ) (ts : List Item) → 0 < n → line_at n Prefix ts ≡ None → line_at n Alias ts ≡ None
alias_none n ts h e = none_then _ _ _ (alias_line n ts h) e

pub percent_read : (n : ℕ) (ts : List Item) (at : ℕ) (t : Tree) (d : ℕ) (rest : List Item) → 0 < n → line_at n Access ts ≡ Some (t, d, rest) → at ≡ first_byte ts → line_at n Percent ts ≡ loop_from (tail_turn n at percent_at) (t, d, rest)
percent_read n ts at t d rest h e p = some_then _ _ _ (t, d, rest) (percent_line n ts h) e ∙ ap (λ k. loop_from (tail_turn n k percent_at) (t, d, rest)) (sym p)

pub percent_none : (n : ℕ) (ts : List Item) → 0 < n → line_at n Access ts ≡ None → line_at n Percent ts ≡ None
percent_none n ts h e = none_then _ _ _ (percent_line n ts h) e

pub access_read : (n : ℕ) (ts : List Item) (at : ℕ) (t : Tree) (d : ℕ) (rest : List Item) → 0 < n → line_at n Atom ts ≡ Some (t, d, rest) → at ≡ first_byte ts → line_at n Access ts ≡ loop_from (tail_turn n at field_in_front) (t, d, rest)
access_read n ts at t d rest h e p = some_then _ _ _ (t, d, rest) (access_line n ts h) e ∙ ap (λ k. loop_from (tail_turn n k field_in_front) (t, d, rest)) (sym p)

pub access_none : (n : ℕ) (ts : List Item) → 0 < n → line_at n Atom ts ≡ None → line_at n Access ts ≡ None
access_none n ts h e = none_then _ _ _ (access_line n ts h) e

-- prefixes
pub prefix_unsigned : (n : ℕ) (ts : List Item) → 0 < n → None ≡ sign_at ts → line_at n Prefix ts ≡ line_at n Power ts
prefix_unsigned n ts h e = prefix_line n ts h ∙ ap (signed_by (line_at (n - 1) Prefix) (line_at n Power) ts) (sym e)

pub prefix_none : (n : ℕ) (ts : List Item) (h : Head) (us : List Item) → 0 < n → Some (h, us) ≡ sign_at ts → line_at (n - 1) Prefix us ≡ None → line_at n Prefix ts ≡ None
prefix_none n ts h us b e f = none_then _ _ (λ s. Some (node (first_byte ts) h (more s.0 none), suc s.1, s.2)) (prefix_line n ts b ∙ ap (signed_by (line_at (n - 1) Prefix) (line_at n Power) ts) (sym e)) f

pub prefix_read : (n : ℕ) (ts : List Item) (h : Head) (us : List Item) (t : Tree) (d : ℕ) (rest : List Item) (at : ℕ) (u : Tree) → 0 < n → Some (h, us) ≡ sign_at ts → line_at (n - 1) Prefix us ≡ Some (t, d, rest) → at ≡ first_byte ts → u ≡ node at h (more t none)
    → line_at n Prefix ts ≡ Some (u, d + 1, rest)
prefix_read n ts h us t d rest at u b e f p g =
    let made : u ≡ node (first_byte ts) h (more t none) = g ∙ ap (λ k. node k h (more t none)) p in
    some_then _ _ (λ s. Some (node (first_byte ts) h (more s.0 none), suc s.1, s.2)) (t, d, rest) (prefix_line n ts b ∙ ap (signed_by (line_at (n - 1) Prefix) (line_at n Power) ts) (sym e)) f
    ∙ (λ i. Some (sym made i, sym (add-one d) i, rest))

-- powers
pub power_none : (n : ℕ) (ts : List Item) → 0 < n → line_at n Percent ts ≡ None → line_at n Power ts ≡ None
power_none n ts h e = none_then _ _ _ (power_line n ts h) e

raised_as : (n : ℕ) (ts : List Item) (t : Tree) (d : ℕ) (rest : List Item) (o : Option (List Item)) → 0 < n → line_at n Percent ts ≡ Some (t, d, rest) → o ≡ after_mark mark.Caret rest → line_at n Power ts ≡ raised_by n (first_byte ts) (line_at (n - 1) Prefix) (t, d, rest) o
raised_as n ts t d rest o h e f = some_then _ _ _ (t, d, rest) (power_line n ts h) e ∙ ap (raised_by n (first_byte ts) (line_at (n - 1) Prefix) (t, d, rest)) (sym f)

pub power_base : (n : ℕ) (ts : List Item) (t : Tree) (d : ℕ) (rest : List Item) → 0 < n → line_at n Percent ts ≡ Some (t, d, rest) → None ≡ after_mark mark.Caret rest → line_at n Power ts ≡ Some (t, d, rest)
power_base n ts t d rest h e f = raised_as n ts t d rest None h e f

pub power_stuck : (n : ℕ) (ts : List Item) (t : Tree) (d : ℕ) (rest us : List Item) → 0 < n → line_at n Percent ts ≡ Some (t, d, rest) → Some us ≡ after_mark mark.Caret rest → line_at (n - 1) Prefix us ≡ None → line_at n Power ts ≡ None
power_stuck n ts t d rest us h e f g = none_then _ _ (λ u. within_depth n (node (first_byte ts) (tree.pair op.Pow) (more t (more u.0 none))) (suc (max d u.1)) u.2) (raised_as n ts t d rest (Some us) h e f) g

pub power_read : (n : ℕ) (ts : List Item) (t : Tree) (d : ℕ) (rest us : List Item) (u : Tree) (e : ℕ) (end : List Item) (at : ℕ) (v : Tree) (k : ℕ) → 0 < n → line_at n Percent ts ≡ Some (t, d, rest) → Some us ≡ after_mark mark.Caret rest → line_at (n - 1) Prefix us ≡ Some (u, e, end) → d < n → e ≤ n - 1
    → at ≡ first_byte ts → v ≡ node at (tree.pair op.Pow) (more t (more u none)) → k ≡ max d e → line_at n Power ts ≡ Some (v, k + 1, end)
power_read n ts t d rest us u e end at v k h p q r b c f g i =
    let made : v ≡ node (first_byte ts) (tree.pair op.Pow) (more t (more u none)) = g ∙ ap (λ a. node a (tree.pair op.Pow) (more t (more u none))) f in
    let deep : suc (max d e) ≡ k + 1 = ap (λ a. suc a) (sym i) ∙ sym (add-one k) in
    some_then _ _ (λ u. within_depth n (node (first_byte ts) (tree.pair op.Pow) (more t (more u.0 none))) (suc (max d u.1)) u.2) (u, e, end) (raised_as n ts t d rest (Some us) h p q) r
    ∙ within_ok n _ (suc (max d e)) end (omega arith) ∙ (λ i. Some (sym made i, deep i, end))

pub power_deep : (n : ℕ) (ts : List Item) (t : Tree) (d : ℕ) (rest us : List Item) (u : Tree) (e : ℕ) (end : List Item) → 0 < n → line_at n Percent ts ≡ Some (t, d, rest) → Some us ≡ after_mark mark.Caret rest → line_at (n - 1) Prefix us ≡ Some (u, e, end) → n ≤ d → line_at n Power ts ≡ None
power_deep n ts t d rest us u e end h p q r b =
    some_then _ _ (λ u. within_depth n (node (first_byte ts) (tree.pair op.Pow) (more t (more u.0 none))) (suc (max d u.1)) u.2) (u, e, end) (raised_as n ts t d rest (Some us) h p q) r
    ∙ within_none n _ (suc (max d e)) end (omega arith)

-- atoms
atom_end : (n : ℕ) → line_at n Atom [] ≡ None
unfolding line_at atom_with
atom_end zero = refl
atom_end (suc n) = refl

pub atom_nothing : (n : ℕ) (ts : List Item) → None ≡ first_token ts → line_at n Atom ts ≡ None
atom_nothing n [] e = atom_end n
atom_nothing n (x ∷ us) e = cc

pub atom_at : (n : ℕ) (ts : List Item) (x : Item) (us : List Item) → 0 < n → Some (x, us) ≡ first_token ts → line_at n Atom ts ≡ atom_by n (line_at (n - 1)) x us x.meaning
atom_at n [] x us h e = cc
atom_at n (y ∷ vs) x us h e =
    let f : ◌≡◌ {A = Item × List Item} (x, us) (y, vs) = cc in
    atom_line n y vs y.meaning h refl ∙ (λ i. atom_by n (line_at (n - 1)) (sym f i).0 (sym f i).1 (sym f i).0.meaning)

strand_end : (inner : Reader) → strand_at inner [] ≡ Some None
unfolding strand_at
strand_end inner = refl

pub strand_nothing : (inner : Reader) (ts : List Item) → None ≡ first_token ts → strand_at inner ts ≡ Some None
strand_nothing inner [] e = strand_end inner
strand_nothing inner (x ∷ us) e = cc

pub strand_first : (inner : Reader) (ts : List Item) (x : Item) (us : List Item) → Some (x, us) ≡ first_token ts → strand_at inner ts ≡ strand_by inner x us x.meaning
strand_first inner [] x us e = cc
strand_first inner (y ∷ vs) x us e =
    let f : ◌≡◌ {A = Item × List Item} (x, us) (y, vs) = cc in
    strand_is inner y vs ∙ (λ i. strand_by inner (sym f i).0 (sym f i).1 (sym f i).0.meaning)

-- loops
pub by_goes : (n : ℕ) (l : Left) (at : ℕ) (read : Reader) (w : Option (Parsed Tree)) (t : Tree) (d : ℕ) (rest : List Item) (o : Op) (us : List Item) (u : Tree) (e : ℕ) (end : List Item) (v : Tree) (k : ℕ) → Comes (left_turn n l at read) w (t, d, rest)
    → Some (o, us) ≡ operator_at l rest → read us ≡ Some (u, e, end) → length us < length rest → length end < length us → k ≡ max d e → k < n → v ≡ node at (tree.pair o) (more t (more u none))
    → Comes (left_turn n l at read) w (v, k + 1, end)
by_goes n l at read w t d rest o us u e end v k c f g i j m b p =
    let deep : suc (max d e) ≡ k + 1 = ap (λ a. suc a) (sym m) ∙ sym (add-one k) in
    subst (λ (s : Parsed Tree). Comes (left_turn n l at read) w s) (λ i. (sym p i, deep i, end)) (left_goes n l at read w t d rest o us u e end c (sym f) g i j (omega arith))

pub parts_goes : (s : Separator) (read : Reader) (w : Option (Parsed (List Tree))) (ps : List Tree) (d : ℕ) (rest us : List Item) (u : Tree) (e : ℕ) (end : List Item) (qs : List Tree) (k : ℕ) → Comes (parts_turn s read) w (ps, d, rest) → Some us ≡ between s rest → read us ≡ Some (u, e, end)
    → length us < length rest → length end < length us → qs ≡ ps ++ u ∷ [] → k ≡ max d e → Comes (parts_turn s read) w (qs, k, end)
parts_goes s read w ps d rest us u e end qs k c f g i j p m = subst (λ (v : Parsed (List Tree)). Comes (parts_turn s read) w v) (λ i. (sym p i, sym m i, end)) (parts_go s read w ps d rest us u e end c (sym f) g i j)

pub fields_first : (read : Reader) (ts : List Item) (f : NamedTree) (d : ℕ) (rest : List Item) (fs : List NamedTree) → field_with read ts ≡ Some (f, d, rest) → fs ≡ f ∷ [] → Comes (fields_turn read) (field_with read ts >>= λ u. loop_from (fields_turn read) (u.0 ∷ [], u.1, u.2)) (fs, d, rest)
fields_first read ts f d rest fs e p = subst (λ (fs : List NamedTree). Comes (fields_turn read) (field_with read ts >>= λ u. loop_from (fields_turn read) (u.0 ∷ [], u.1, u.2)) (fs, d, rest)) (sym p) (comes_from _ _ _ (ap (λ v. v >>= λ u. loop_from (fields_turn read) (u.0 ∷ [], u.1, u.2)) e))

pub fields_goes : (read : Reader) (w : Option (Parsed (List NamedTree))) (fs : List NamedTree) (d : ℕ) (rest us : List Item) (f : NamedTree) (e : ℕ) (end : List Item) (gs : List NamedTree) (k : ℕ) → Comes (fields_turn read) w (fs, d, rest) → Some us ≡ after_mark mark.Comma rest → field_with read us ≡ Some (f, e, end)
    → length us < length rest → length end < length us → gs ≡ fs ++ f ∷ [] → k ≡ max d e → Comes (fields_turn read) w (gs, k, end)
fields_goes read w fs d rest us f e end gs k c g h i j p m = subst (λ (v : Parsed (List NamedTree)). Comes (fields_turn read) w v) (λ i. (sym p i, sym m i, end)) (fields_go read w fs d rest us f e end c (sym g) h i j)

pub strands_goes : (inner : Reader) (w : Option (Parsed (List Tree))) (ps : List Tree) (d : ℕ) (rest : List Item) (u : Tree) (e : ℕ) (end : List Item) (qs : List Tree) (k : ℕ) → Comes (strands_turn inner) w (ps, d, rest) → strand_at inner rest ≡ Some (Some (u, e, end)) → length end < length rest
    → qs ≡ ps ++ u ∷ [] → k ≡ max d e → Comes (strands_turn inner) w (qs, k, end)
strands_goes inner w ps d rest u e end qs k c f i p m = subst (λ (v : Parsed (List Tree)). Comes (strands_turn inner) w v) (λ i. (sym p i, sym m i, end)) (strands_go inner w ps d rest u e end c f i)

-- what is shut
pub args_empty : (k : Mark) (inner : Reader) (ts rest : List Item) → Some rest ≡ after_mark k ts → args_with k inner ts ≡ Some ([], 0, rest)
args_empty k inner ts rest e = args_are k inner ts ∙ ap (args_by k inner ts) (sym e)

args_as : (k : Mark) (inner : Reader) (ts : List Item) → None ≡ after_mark k ts → args_with k inner ts ≡ (parts_with Comma inner ts >>= shut k)
args_as k inner ts e = args_are k inner ts ∙ ap (args_by k inner ts) (sym e)

pub args_none : (k : Mark) (inner : Reader) (ts : List Item) → None ≡ after_mark k ts → parts_with Comma inner ts ≡ None → args_with k inner ts ≡ None
args_none k inner ts e f = none_then _ _ (shut k) (args_as k inner ts e) f

pub args_open : (k : Mark) (inner : Reader) (ts : List Item) (ps : List Tree) (d : ℕ) (rest : List Item) → None ≡ after_mark k ts → parts_with Comma inner ts ≡ Some (ps, d, rest) → after_mark k rest ≡ None → args_with k inner ts ≡ None
args_open k inner ts ps d rest e f g = some_then _ _ (shut k) (ps, d, rest) (args_as k inner ts e) f ∙ ap (λ v. v >>= λ us. Some (ps, d, us)) g

pub args_read : (k : Mark) (inner : Reader) (ts : List Item) (ps : List Tree) (d : ℕ) (rest us : List Item) → None ≡ after_mark k ts → parts_with Comma inner ts ≡ Some (ps, d, rest) → after_mark k rest ≡ Some us → args_with k inner ts ≡ Some (ps, d, us)
args_read k inner ts ps d rest us e f g = some_then _ _ (shut k) (ps, d, rest) (args_as k inner ts e) f ∙ ap (λ v. v >>= λ us. Some (ps, d, us)) g

-- fields
pub fields_empty : (read : Reader) (ts rest : List Item) → Some rest ≡ after_mark mark.CloseBrace ts → fields_with read ts ≡ Some ([], 0, rest)
fields_empty read ts rest e = fields_are read ts ∙ ap (read_fields read ts) (sym e)

fields_as : (read : Reader) (ts : List Item) → None ≡ after_mark mark.CloseBrace ts → fields_with read ts ≡ (fields_from read ts >>= shut mark.CloseBrace)
fields_as read ts e = fields_are read ts ∙ ap (read_fields read ts) (sym e) ∙ by (field_with read ts)
  where
    by : (o : Option (Parsed NamedTree)) → (o >>= λ u. loop_from (fields_turn read) (u.0 ∷ [], u.1, u.2) >>= shut mark.CloseBrace) ≡ ((o >>= λ u. loop_from (fields_turn read) (u.0 ∷ [], u.1, u.2)) >>= shut mark.CloseBrace)
    by None = refl
    by (Some u) = refl

pub fields_none : (read : Reader) (ts : List Item) → None ≡ after_mark mark.CloseBrace ts → fields_from read ts ≡ None → fields_with read ts ≡ None
fields_none read ts e f = none_then _ _ (shut mark.CloseBrace) (fields_as read ts e) f

pub fields_open : (read : Reader) (ts : List Item) (fs : List NamedTree) (d : ℕ) (rest : List Item) → None ≡ after_mark mark.CloseBrace ts → fields_from read ts ≡ Some (fs, d, rest) → after_mark mark.CloseBrace rest ≡ None → fields_with read ts ≡ None
fields_open read ts fs d rest e f g = some_then _ _ (shut mark.CloseBrace) (fs, d, rest) (fields_as read ts e) f ∙ ap (λ v. v >>= λ us. Some (fs, d, us)) g

pub fields_read : (read : Reader) (ts : List Item) (fs : List NamedTree) (d : ℕ) (rest us : List Item) → None ≡ after_mark mark.CloseBrace ts → fields_from read ts ≡ Some (fs, d, rest) → after_mark mark.CloseBrace rest ≡ Some us → fields_with read ts ≡ Some (fs, d, us)
fields_read read ts fs d rest us e f g = some_then _ _ (shut mark.CloseBrace) (fs, d, rest) (fields_as read ts e) f ∙ ap (λ v. v >>= λ us. Some (fs, d, us)) g

pub some_fields_none : (read : Reader) (ts : List Item) → field_with read ts ≡ None → fields_from read ts ≡ None
some_fields_none read ts e = ap (λ v. v >>= λ u. loop_from (fields_turn read) (u.0 ∷ [], u.1, u.2)) e

pub field_none : (read : Reader) (ts : List Item) → None ≡ label_at ts → field_with read ts ≡ None
field_none read ts e = field_is read ts ∙ ap (λ v. v >>= λ x. read x.1 >>= λ u. Some ((x.0, u.0), u.1, u.2)) (sym e)

pub field_stuck : (read : Reader) (ts : List Item) (cs : FieldName) (us : List Item) → Some (cs, us) ≡ label_at ts → read us ≡ None → field_with read ts ≡ None
field_stuck read ts cs us e f = field_is read ts ∙ ap (λ v. v >>= λ x. read x.1 >>= λ u. Some ((x.0, u.0), u.1, u.2)) (sym e) ∙ ap (λ v. v >>= λ u. Some ((cs, u.0), u.1, u.2)) f

abbrev named : List ℕ → ℕ → FieldName
named cs at = record { text = cs; at = at }

pub field_read : (read : Reader) (ts : List Item) (cs : List ℕ) (us : List Item) (t : Tree) (d : ℕ) (rest : List Item) (ds : List ℕ) (at : ℕ) → Some (label cs ts, us) ≡ label_at ts → read us ≡ Some (t, d, rest) → ds ≡ cs → at ≡ first_byte ts
    → field_with read ts ≡ Some ((named ds at, t), d, rest)
field_read read ts cs us t d rest ds at e f g h =
    field_is read ts ∙ ap (λ v. v >>= λ x. read x.1 >>= λ u. Some ((x.0, u.0), u.1, u.2)) (sym e) ∙ ap (λ v. v >>= λ u. Some ((label cs ts, u.0), u.1, u.2)) f
    ∙ ap (λ x. Some ((named x (first_byte ts), t), d, rest)) (sym g) ∙ ap (λ k. Some ((named ds k, t), d, rest)) (sym h)

-- weaves
weave_as : (n : ℕ) (inner : Line → Reader) (x : Item) (us : List Item) → atom_by n inner x us m.Opening ≡ ((loop_from (strands_turn (inner Chain)) ([], 0, us) >>= shut mark.CloseWeave) >>= λ s. within_depth n (node x.at tree.woven (forest s.0)) (suc s.1) s.2)
weave_as n inner x us = ap (λ v. v >>= λ s. within_depth n (node x.at tree.woven (forest s.0)) (suc s.1) s.2) (strands_are (inner Chain) us)

pub weave_none : (n : ℕ) (inner : Line → Reader) (x : Item) (us : List Item) → loop_from (strands_turn (inner Chain)) ([], 0, us) ≡ None → atom_by n inner x us m.Opening ≡ None
weave_none n inner x us e = weave_as n inner x us ∙ ap (λ v. (v >>= shut mark.CloseWeave) >>= λ s. within_depth n (node x.at tree.woven (forest s.0)) (suc s.1) s.2) e

weave_shut : (n : ℕ) (inner : Line → Reader) (x : Item) (us : List Item) (ps : List Tree) (d : ℕ) (rest : List Item) (o : Option (List Item)) → loop_from (strands_turn (inner Chain)) ([], 0, us) ≡ Some (ps, d, rest) → after_mark mark.CloseWeave rest ≡ o
    → atom_by n inner x us m.Opening ≡ (o >>= λ vs. within_depth n (node x.at tree.woven (forest ps)) (suc d) vs)
weave_shut n inner x us ps d rest o e f =
    weave_as n inner x us ∙ ap (λ v. (v >>= shut mark.CloseWeave) >>= λ s. within_depth n (node x.at tree.woven (forest s.0)) (suc s.1) s.2) e ∙ by (after_mark mark.CloseWeave rest) f
  where
    by : (v : Option (List Item)) → v ≡ o → ((v >>= λ us. shut_to ps d us) >>= λ s. within_depth n (node x.at tree.woven (forest s.0)) (suc s.1) s.2) ≡ (o >>= λ vs. within_depth n (node x.at tree.woven (forest ps)) (suc d) vs)
    by None g = ap (λ v. v >>= λ vs. within_depth n (node x.at tree.woven (forest ps)) (suc d) vs) g
    by (Some vs) g = ap (λ v. v >>= λ vs. within_depth n (node x.at tree.woven (forest ps)) (suc d) vs) g

pub weave_open : (n : ℕ) (inner : Line → Reader) (x : Item) (us : List Item) (ps : List Tree) (d : ℕ) (rest : List Item) → loop_from (strands_turn (inner Chain)) ([], 0, us) ≡ Some (ps, d, rest) → after_mark mark.CloseWeave rest ≡ None → atom_by n inner x us m.Opening ≡ None
weave_open n inner x us ps d rest e f = weave_shut n inner x us ps d rest None e f

pub weave_deep : (n : ℕ) (inner : Line → Reader) (x : Item) (us : List Item) (ps : List Tree) (d : ℕ) (rest vs : List Item) → loop_from (strands_turn (inner Chain)) ([], 0, us) ≡ Some (ps, d, rest) → after_mark mark.CloseWeave rest ≡ Some vs → n ≤ d → atom_by n inner x us m.Opening ≡ None
weave_deep n inner x us ps d rest vs e f b = weave_shut n inner x us ps d rest (Some vs) e f ∙ within_none n _ (suc d) vs (omega arith)

pub weave_read : (n : ℕ) (inner : Line → Reader) (x : Item) (us : List Item) (ps : List Tree) (d : ℕ) (rest vs : List Item) (t : Tree) → loop_from (strands_turn (inner Chain)) ([], 0, us) ≡ Some (ps, d, rest) → after_mark mark.CloseWeave rest ≡ Some vs → d < n → t ≡ node x.at tree.woven (forest ps)
    → atom_by n inner x us m.Opening ≡ Some (t, d + 1, vs)
weave_read n inner x us ps d rest vs t e f b p = weave_shut n inner x us ps d rest (Some vs) e f ∙ within_ok n _ (suc d) vs (omega arith) ∙ (λ i. Some (sym p i, sym (add-one d) i, vs))

-- what a strand gave
pub strand_over : (inner : Reader) (rest : List Item) (v : Option (Tree × ℕ × Bor (List Item))) → strand_at inner rest ≡ Some (strand_seen v) → v ≡ None → strand_at inner rest ≡ Some None
strand_over inner rest v e f = e ∙ ap (λ o. Some (strand_seen o)) f

pub strand_deep : (n : ℕ) (v : Option (Tree × ℕ × Bor (List Item))) (u : Tree) (e : ℕ) (b : Bor (List Item)) → v ≡ Some (u, e, b) → IfSome v (λ x. x.1 ≤ n) → e ≤ n
strand_deep n v u e b f h = subst (λ (o : Option (Tree × ℕ × Bor (List Item))). IfSome o (λ x. x.1 ≤ n)) f h

pub strand_shorter : (rest : List Item) (v : Option (Tree × ℕ × Bor (List Item))) (u : Tree) (e : ℕ) (b : Bor (List Item)) → v ≡ Some (u, e, b) → IfSome v (λ x. length x.2.now < length rest) → length b.now < length rest
strand_shorter rest v u e b f h = subst (λ (o : Option (Tree × ℕ × Bor (List Item))). IfSome o (λ x. length x.2.now < length rest)) f h

pub weave_goes : (inner : Reader) (w : Option (Parsed (List Tree))) (ps : List Tree) (d : ℕ) (rest : List Item) (v : Option (Tree × ℕ × Bor (List Item))) (u : Tree) (e : ℕ) (b : Bor (List Item)) (qs : List Tree) (k : ℕ) → Comes (strands_turn inner) w (ps, d, rest)
    → strand_at inner rest ≡ Some (strand_seen v) → v ≡ Some (u, e, b) → length b.now < length rest → qs ≡ ps ++ u ∷ [] → k ≡ max d e → Comes (strands_turn inner) w (qs, k, b.now)
weave_goes inner w ps d rest v u e b qs k c f g i p m = strands_goes inner w ps d rest u e b.now qs k c (f ∙ ap (λ o. Some (strand_seen o)) g) i p m
