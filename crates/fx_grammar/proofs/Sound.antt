-- What is read is in the grammar.
use Rattle.std.proofs.Common.{◌≡◌, ℕ, zero, suc, ◌<◌, ◌≤◌, max, Bool, true, false, List, [], ◌∷◌, ◌++◌, length, cond, refl, ap, sym, ◌∙◌, subst, Option, Some, None, arith, leb, length-append, option_map}
use Rattle.std.proofs.lemmas.Bool.Decides.{nat_tests}
use Rattle.fx_lexer.specs.declared.token.Symbol.TheVariants as symbol
use Rattle.fx_lexer.specs.declared.token.Word.TheVariants as word
use Rattle.fx_core.specs.declared.expr.Op.{Op}
use Rattle.fx_core.specs.declared.expr.FieldName.{FieldName}
use Rattle.fx_core.specs.Tree.{Tree, NamedTree, node, Head, none, more, forest, tree_field_names, field_trees}
use Rattle.fx_core.specs.Tree as tree
use Rattle.fx_grammar.specs.declared.item.Item.{Item}
use Rattle.fx_grammar.specs.declared.item.Meaning.{Meaning}
use Rattle.fx_grammar.specs.declared.item.Meaning.TheVariants as m
use Rattle.fx_grammar.specs.declared.line.Join.{Join}
use Rattle.fx_grammar.specs.declared.line.Join.TheVariants as join
use Rattle.fx_grammar.specs.declared.line.Separator.{Separator}
use Rattle.fx_grammar.specs.declared.line.Separator.TheVariants.{Between, Comma}
use Rattle.fx_grammar.specs.declared.line.Left.{Left}
use Rattle.fx_grammar.specs.declared.line.Left.TheVariants as left
use Rattle.fx_grammar.specs.declared.line.Line.{Line}
use Rattle.fx_grammar.specs.declared.line.Line.TheVariants.{Chain, Several, By, Alias, Prefix, Power, Percent, Access, Atom}
use Rattle.fx_grammar.specs.declared.line.Mark.{Mark}
use Rattle.fx_grammar.specs.declared.line.Mark.TheVariants as mark
use Rattle.fx_grammar.specs.Grammar.{first_byte, field_name, separates, part_of, join_head, operator, operand_line, sign, atom_head, callee, Parses, plain, ended, one, many, first, next, no_alias, aliased, no_sign, signed, base, raised, no_percent, percent, no_dot, dotted, leaf, a_global, a_call, brackets, a_record, a_list, a_weave, Parts, alone, further, Args, no_args, some_args, Field, field, SomeFields, one_field, further_field, Fields, no_fields, some_fields, Strands, no_strands, piece, island}
use Rattle.fx_grammar.specs.Reading.{◌>>=◌, label, Parsed, Reader, Turn, reader_turned, loop, loop_from, unless_over, within_depth, turn_going, is_this_mark, after_mark, name_meant, name_in_front, name_after, closes, after_separator, going_on, between, operator_at, sign_at, left_turn, tail_turn, field_in_front, percent_at, alias_at, aliased_by, parts_turn, parts_with, gathered, without_last, signed_by, raised_by, shut, shut_node, args_by, args_with, label_at, field_with, fields_turn, read_fields, fields_with, strand_by, strand_at, strands_turn, strands_with, read_call, leaf_by, read_record, atom_by, atom_with, line_at}
use Rattle.fx_grammar.proofs.Tokens.{meaning_of, is_itself}
use Rattle.fx_grammar.proofs.Turns.{atom_is, access_is, percent_is, power_is, prefix_is, alias_is, by_is, several_is, chain_is, none_at, parts_are, field_is, args_are, fields_are, strands_are, strand_is, atom_has}

-- a reading, where there is one, has this
abbrev pub Kept : {A : Type 0} → (Parsed A → Type 0) → Option (Parsed A) → Type 0
Kept P None = Unit {0}
Kept P (Some s) = P s

abbrev KeptTurn : {A : Type 0} → (Parsed A → Type 0) → Turn A → Type 0
KeptTurn P None = Unit {0}
KeptTurn P (Some None) = Unit {0}
KeptTurn P (Some (Some u)) = P u

bind_by : {A B : Type 0} (Q : Option B → Type 0) (F : Option A → Type 0) (o : Option A) (f : A → Option B) → F o → Q None → ((x : A) → F (Some x) → Q (f x)) → Q (o >>= f)
bind_by Q F None f h n s = n
bind_by Q F (Some x) f h n s = s x h

unless_keeps : {A B : Type 0} (P : Parsed B → Type 0) (F : Option A → Type 0) (o : Option A) (f : A → Turn B) → F o → ((x : A) → F (Some x) → KeptTurn P (f x)) → KeptTurn P (unless_over o f)
unless_keeps P F None f h s = tt
unless_keeps P F (Some x) f h s = s x h

going_keeps : {A : Type 0} (P : Parsed A → Type 0) (o : Option (Parsed A)) → Kept P o → KeptTurn P (turn_going o)
going_keeps P None h = tt
going_keeps P (Some s) h = h

within_keeps : (P : Parsed Tree → Type 0) (n : ℕ) (t : Tree) (d : ℕ) (rest : List Item) → (d ≤ n → P (t, d, rest)) → Kept P (within_depth n t d rest)
within_keeps P n t d rest h = by (leb d n) refl
  where
    by : (b : Bool) → leb d n ≡ b → Kept P (cond b (Some (t, d, rest)) None)
    by true e = h (grind (arith, nat_tests))
    by false e = tt

loop_keeps : {A : Type 0} (P : Parsed A → Type 0) (turn : Parsed A → Turn A) → ((s : Parsed A) → P s → KeptTurn P (turn s)) → (k : ℕ) (s : Parsed A) → P s → Kept P (loop turn k s)
unfolding loop
loop_keeps P turn h zero s p = tt
loop_keeps {A} P turn h (suc k) s p = by (λ u q. loop_keeps P turn h k u q) (turn s) (h s p)
  where
    by : ((u : Parsed A) → P u → Kept P (loop turn k u)) → (v : Turn A) → KeptTurn P v → Kept P (reader_turned v s (loop turn k))
    by go None q = tt
    by go (Some None) q = p
    by go (Some (Some u)) q = go u q

from_keeps : {A : Type 0} (P : Parsed A → Type 0) (turn : Parsed A → Turn A) → ((s : Parsed A) → P s → KeptTurn P (turn s)) → (s : Parsed A) → P s → Kept P (loop_from turn s)
unfolding loop_from
from_keeps P turn h s p = loop_keeps P turn h (suc (length s.2)) s p

-- a tree of this line, no deeper than n
abbrev pub Is : Line → ℕ → List Item → Parsed Tree → Type 0
Is l n ts s = Parses l s.1 ts s.0 s.2 × (s.1 ≤ n)

abbrev pub IsSound : Line → ℕ → Reader → Type 0
IsSound l n read = (ts : List Item) → Kept (Is l n ts) (read ts)

-- what stands at the front
abbrev pub AfterIs : Mark → List Item → Option (List Item) → Type 0
AfterIs k ts None = Unit {0}
AfterIs k ts (Some us) = (x : Item) × (ts ≡ x ∷ us) × (x.meaning ≡ meaning_of k)

pub after_is : (k : Mark) (ts : List Item) → AfterIs k ts (after_mark k ts)
after_is k [] = tt
after_is k (x ∷ us) = by (is_this_mark k x.meaning) refl
  where
    by : (b : Bool) → is_this_mark k x.meaning ≡ b → AfterIs k (x ∷ us) (cond b (Some us) None)
    by true e = (x, refl, is_itself k x.meaning e)
    by false e = tt

abbrev SeparatedIs : Separator → List Item → Option (List Item) → Type 0
SeparatedIs s ts None = Unit {0}
SeparatedIs s ts (Some us) = (x : Item) × (ts ≡ x ∷ us) × (separates s x.meaning ≡ true)

separated_is : (s : Separator) (ts : List Item) → SeparatedIs s ts (after_separator s ts)
separated_is s [] = tt
separated_is s (x ∷ us) = by (separates s x.meaning) refl
  where
    by : (b : Bool) → separates s x.meaning ≡ b → SeparatedIs s (x ∷ us) (cond b (Some us) None)
    by true e = (x, refl, e)
    by false e = tt

going_is : (ts : List Item) (o : Option (List Item)) → SeparatedIs (Between join.Chain) ts o → SeparatedIs (Between join.Chain) ts (going_on o)
going_is ts None h = h
going_is ts (Some us) h = elim (closes us) as (λ b. SeparatedIs (Between join.Chain) ts (cond b None (Some us))) [ true ↦ tt | false ↦ h ]

between_is : (s : Separator) (ts : List Item) → SeparatedIs s ts (between s ts)
between_is (Between join.Chain) ts = going_is ts _ (separated_is (Between join.Chain) ts)
between_is s ts = separated_is s ts

abbrev OperatorIs : Left → List Item → Option (Op × List Item) → Type 0
OperatorIs l ts None = Unit {0}
OperatorIs l ts (Some o) = (x : Item) × (ts ≡ x ∷ o.1) × (operator l x.meaning ≡ Some o.0)

operator_is : (l : Left) (ts : List Item) → OperatorIs l ts (operator_at l ts)
operator_is l [] = tt
operator_is l (x ∷ us) = by (operator l x.meaning) refl
  where
    by : (o : Option Op) → operator l x.meaning ≡ o → OperatorIs l (x ∷ us) (o >>= λ p. Some (p, us))
    by None e = tt
    by (Some o) e = (x, refl, e)

abbrev SignIs : List Item → Option (Head × List Item) → Type 0
SignIs ts None = Unit {0}
SignIs ts (Some h) = (x : Item) × (ts ≡ x ∷ h.1) × (sign x.meaning ≡ Some h.0)

sign_is : (ts : List Item) → SignIs ts (sign_at ts)
sign_is [] = tt
sign_is (x ∷ us) = by (sign x.meaning) refl
  where
    by : (o : Option Head) → sign x.meaning ≡ o → SignIs (x ∷ us) (o >>= λ h. Some (h, us))
    by None e = tt
    by (Some h) e = (x, refl, e)

name_is_name : (k : Meaning) (cs : List ℕ) → name_meant k ≡ Some cs → k ≡ m.Name cs
name_is_name (m.Name ds) cs e = let f : ds ≡ cs = cc in ap m.Name f
name_is_name _ cs e = cc

abbrev NameIs : List Item → Option (List ℕ × List Item) → Type 0
NameIs ts None = Unit {0}
NameIs ts (Some y) = (x : Item) × (ts ≡ x ∷ y.1) × (x.meaning ≡ m.Name y.0)

name_is : (ts : List Item) → NameIs ts (name_in_front ts)
name_is [] = tt
name_is (x ∷ us) = by (name_meant x.meaning) refl
  where
    by : (o : Option (List ℕ)) → name_meant x.meaning ≡ o → NameIs (x ∷ us) (o >>= λ cs. Some (cs, us))
    by None e = tt
    by (Some cs) e = (x, refl, name_is_name x.meaning cs e)

abbrev NameAfterIs : Mark → List Item → Option (List ℕ × List Item) → Type 0
NameAfterIs k ts None = Unit {0}
NameAfterIs k ts (Some v) = (x y : Item) × (ts ≡ x ∷ y ∷ v.1) × (x.meaning ≡ meaning_of k) × (y.meaning ≡ m.Name v.0)

name_after_is : (k : Mark) (ts : List Item) → NameAfterIs k ts (name_after k ts)
name_after_is k ts = bind_by (NameAfterIs k ts) (AfterIs k ts) (after_mark k ts) name_in_front (after_is k ts) tt (λ us a. by us a (name_in_front us) (name_is us))
  where
    by : (us : List Item) → AfterIs k ts (Some us) → (o : Option (List ℕ × List Item)) → NameIs us o → NameAfterIs k ts o
    by us a None b = tt
    by us a (Some v) b = (a.0, b.0, a.1 ∙ ap (λ r. a.0 ∷ r) b.1, a.2, b.2)

abbrev TailIs : Mark → (List ℕ → Head) → List Item → Option (Head × List Item) → Type 0
TailIs k h ts None = Unit {0}
TailIs k h ts (Some v) = (cs : List ℕ) × (v.0 ≡ h cs) × (x y : Item) × (ts ≡ x ∷ y ∷ v.1) × (x.meaning ≡ meaning_of k) × (y.meaning ≡ m.Name cs)

field_is_there : (ts : List Item) → TailIs mark.Dot tree.dot ts (field_in_front ts)
field_is_there ts = bind_by (TailIs mark.Dot tree.dot ts) (NameAfterIs mark.Dot ts) (name_after mark.Dot ts) (λ x. Some (tree.dot x.0, x.1)) (name_after_is mark.Dot ts) tt (λ v a. (v.0, refl, a.0, a.1, a.2, a.3, a.4))

alias_is_there : (ts : List Item) → TailIs mark.As tree.alias ts (alias_at ts)
alias_is_there ts = bind_by (TailIs mark.As tree.alias ts) (NameAfterIs mark.As ts) (name_after mark.As ts) (λ x. Some (tree.alias x.0, x.1)) (name_after_is mark.As ts) tt (λ v a. (v.0, refl, a.0, a.1, a.2, a.3, a.4))

abbrev PercentIs : List Item → Option (Head × List Item) → Type 0
PercentIs ts None = Unit {0}
PercentIs ts (Some v) = (v.0 ≡ tree.percent) × (x : Item) × (ts ≡ x ∷ v.1) × (x.meaning ≡ m.Symbol symbol.Percent)

percent_is_there : (ts : List Item) → PercentIs ts (percent_at ts)
percent_is_there ts = bind_by (PercentIs ts) (AfterIs mark.Percent ts) (after_mark mark.Percent ts) (λ us. Some (tree.percent, us)) (after_is mark.Percent ts) tt (λ us a. (refl, a.0, a.1, a.2))

-- lines that group to the left
next_at : (l : Left) (d e : ℕ) (ts : List Item) (t : Tree) (rest us : List Item) (x : Item) (o : Op) (u : Tree) (end : List Item) → Parses (By l) d ts t rest → rest ≡ x ∷ us → operator l x.meaning ≡ Some o → Parses (operand_line l) e us u end → Parses (By l) (suc (max d e)) ts (node (first_byte ts) (tree.pair o) (more t (more u none))) end
next_at l d e ts t rest us x o u end p f g q = next l d e ts t x us o u end (subst (λ r. Parses (By l) d ts t r) f p) g q

left_sound : (n : ℕ) (l : Left) (read : Reader) → IsSound (operand_line l) n read → (ts : List Item) → Kept (Is (By l) n ts) (read ts >>= loop_from (left_turn n l (first_byte ts) read))
unfolding left_turn
left_sound n l read h ts =
    bind_by (Kept (Is (By l) n ts)) (Kept (Is (operand_line l) n ts)) (read ts) (loop_from (left_turn n l (first_byte ts) read)) (h ts) tt
    (λ s p. from_keeps (Is (By l) n ts) (left_turn n l (first_byte ts) read) turn_keeps s (first l s.1 ts s.0 s.2 p.0, p.1))
  where
    turn_keeps : (s : Parsed Tree) → Is (By l) n ts s → KeptTurn (Is (By l) n ts) (left_turn n l (first_byte ts) read s)
    turn_keeps s p =
        unless_keeps (Is (By l) n ts) (OperatorIs l s.2) (operator_at l s.2) _ (operator_is l s.2)
        (λ x a. bind_by (KeptTurn (Is (By l) n ts)) (Kept (Is (operand_line l) n x.1)) (read x.1) _ (h x.1) tt
        (λ u q. going_keeps (Is (By l) n ts) _ (within_keeps (Is (By l) n ts) n _ _ u.2 (λ b. (next_at l s.1 u.1 ts s.0 s.2 x.1 a.0 x.0 u.0 u.2 p.0 a.1 a.2 q.0, b)))))

-- what stands behind a tree
dotted_at : (d : ℕ) (ts : List Item) (t : Tree) (rest us : List Item) (h : Head) → Parses Access d ts t rest → TailIs mark.Dot tree.dot rest (Some (h, us)) → Parses Access (suc d) ts (node (first_byte ts) h (more t none)) us
dotted_at d ts t rest us h p a = subst (λ h. Parses Access (suc d) ts (node (first_byte ts) h (more t none)) us) (sym a.1) (dotted d ts t a.2 a.3 a.0 us (subst (λ r. Parses Access d ts t r) a.4 p) a.5 a.6)

aliased_at : (d : ℕ) (ts : List Item) (t : Tree) (rest us : List Item) (h : Head) → Parses Prefix d ts t rest → TailIs mark.As tree.alias rest (Some (h, us)) → Parses Alias (suc d) ts (node (first_byte ts) h (more t none)) us
aliased_at d ts t rest us h p a = subst (λ h. Parses Alias (suc d) ts (node (first_byte ts) h (more t none)) us) (sym a.1) (aliased d ts t a.2 a.3 a.0 us (subst (λ r. Parses Prefix d ts t r) a.4 p) a.5 a.6)

percent_after : (d : ℕ) (ts : List Item) (t : Tree) (rest us : List Item) (h : Head) → Parses Percent d ts t rest → PercentIs rest (Some (h, us)) → Parses Percent (suc d) ts (node (first_byte ts) h (more t none)) us
percent_after d ts t rest us h p a = subst (λ h. Parses Percent (suc d) ts (node (first_byte ts) h (more t none)) us) (sym a.0) (percent d ts t a.1 us (subst (λ r. Parses Percent d ts t r) a.2 p) a.3)

access_sound : (n : ℕ) (read : Reader) → IsSound Atom n read → (ts : List Item) → Kept (Is Access n ts) (read ts >>= loop_from (tail_turn n (first_byte ts) field_in_front))
unfolding tail_turn
access_sound n read h ts =
    bind_by (Kept (Is Access n ts)) (Kept (Is Atom n ts)) (read ts) (loop_from (tail_turn n (first_byte ts) field_in_front)) (h ts) tt
    (λ s p. from_keeps (Is Access n ts) (tail_turn n (first_byte ts) field_in_front)
    (λ s p. unless_keeps (Is Access n ts) (TailIs mark.Dot tree.dot s.2) (field_in_front s.2) _ (field_is_there s.2) (λ x a. going_keeps (Is Access n ts) _ (within_keeps (Is Access n ts) n _ _ x.1 (λ b. (dotted_at s.1 ts s.0 s.2 x.1 x.0 p.0 a, b)))))
    s (no_dot s.1 ts s.0 s.2 p.0, p.1))

percent_sound : (n : ℕ) (read : Reader) → IsSound Access n read → (ts : List Item) → Kept (Is Percent n ts) (read ts >>= loop_from (tail_turn n (first_byte ts) percent_at))
unfolding tail_turn
percent_sound n read h ts =
    bind_by (Kept (Is Percent n ts)) (Kept (Is Access n ts)) (read ts) (loop_from (tail_turn n (first_byte ts) percent_at)) (h ts) tt
    (λ s p. from_keeps (Is Percent n ts) (tail_turn n (first_byte ts) percent_at)
    (λ s p. unless_keeps (Is Percent n ts) (PercentIs s.2) (percent_at s.2) _ (percent_is_there s.2) (λ x a. going_keeps (Is Percent n ts) _ (within_keeps (Is Percent n ts) n _ _ x.1 (λ b. (percent_after s.1 ts s.0 s.2 x.1 x.0 p.0 a, b)))))
    s (no_percent s.1 ts s.0 s.2 p.0, p.1))

alias_sound : (n : ℕ) (read : Reader) → IsSound Prefix n read → (ts : List Item) → Kept (Is Alias n ts) (read ts >>= λ s. aliased_by n (first_byte ts) s (alias_at s.2))
alias_sound n read h ts = bind_by (Kept (Is Alias n ts)) (Kept (Is Prefix n ts)) (read ts) _ (h ts) tt (λ s p. by s p (alias_at s.2) (alias_is_there s.2))
  where
    by : (s : Parsed Tree) → Is Prefix n ts s → (o : Option (Head × List Item)) → TailIs mark.As tree.alias s.2 o → Kept (Is Alias n ts) (aliased_by n (first_byte ts) s o)
    by s p None a = (no_alias s.1 ts s.0 s.2 p.0, p.1)
    by s p (Some x) a = within_keeps (Is Alias n ts) n _ _ x.1 (λ b. (aliased_at s.1 ts s.0 s.2 x.1 x.0 p.0 a, b))

-- parts
abbrev pub PartsAre : Separator → ℕ → List Item → Parsed (List Tree) → Type 0
PartsAre s n ts w = Parts s w.1 ts w.0 w.2 × (w.1 ≤ n)

further_at : (s : Separator) (n : ℕ) (ts : List Item) (w : Parsed (List Tree)) (us : List Item) (u : Parsed Tree) → PartsAre s n ts w → SeparatedIs s w.2 (Some us) → Is (part_of s) n us u → PartsAre s n ts (w.0 ++ u.0 ∷ [], max w.1 u.1, u.2)
further_at s n ts w us u p a q = (further s w.1 u.1 ts w.0 a.0 us u.0 u.2 (subst (λ r. Parts s w.1 ts w.0 r) a.1 p.0) a.2 q.0, let b = p.1 in let c = q.1 in omega arith)

pub parts_sound : (s : Separator) (n : ℕ) (read : Reader) → IsSound (part_of s) n read → (ts : List Item) → Kept (PartsAre s n ts) (parts_with s read ts)
unfolding parts_turn
parts_sound s n read h ts =
    subst (Kept (PartsAre s n ts)) (sym (parts_are s read ts))
    (bind_by (Kept (PartsAre s n ts)) (Kept (Is (part_of s) n ts)) (read ts) (λ u. loop_from (parts_turn s read) (u.0 ∷ [], u.1, u.2)) (h ts) tt
    (λ u p. from_keeps (PartsAre s n ts) (parts_turn s read) turn_keeps (u.0 ∷ [], u.1, u.2) (alone s u.1 ts u.0 u.2 p.0, p.1)))
  where
    turn_keeps : (w : Parsed (List Tree)) → PartsAre s n ts w → KeptTurn (PartsAre s n ts) (parts_turn s read w)
    turn_keeps w p =
        unless_keeps (PartsAre s n ts) (SeparatedIs s w.2) (between s w.2) _ (between_is s w.2)
        (λ us a. bind_by (KeptTurn (PartsAre s n ts)) (Kept (Is (part_of s) n us)) (read us) _ (h us) tt (λ u q. further_at s n ts w us u p a q))

some_part : {s : Separator} {d : ℕ} {ts : List Item} {ps : List Tree} {rest : List Item} → Parts s d ts ps rest → 0 < length ps
some_part (alone s d ts t rest p) = omega arith
some_part (further s d e ts ps x us t rest h f p) = omega (arith, length-append ps (t ∷ []))

single : {s : Separator} {d : ℕ} {ts : List Item} {ps : List Tree} {rest : List Item} → Parts s d ts ps rest → (u : Tree) → ps ≡ u ∷ [] → Parses (part_of s) d ts u rest
single (alone s d ts t rest p) u e = let f : t ≡ u = cc in subst (λ v. Parses (part_of s) d ts v rest) f p
single (further s d e ts ps x us t rest h f p) u g = let k = some_part h in absurd (omega (arith, length-append ps (t ∷ []), ap length g))

gathered_sound : (n : ℕ) (j : Join) (ts : List Item) (o : Option (Parsed (List Tree))) → Kept (PartsAre (Between j) n ts) o → Kept (Is (Several j) n ts) (o >>= gathered n (join_head j) (first_byte ts))
gathered_sound n j ts None h = tt
gathered_sound n j ts (Some ([], d, rest)) h = tt
gathered_sound n j ts (Some (t ∷ [], d, rest)) h = (one j d ts t rest (single h.0 t refl), h.1)
gathered_sound n j ts (Some (t ∷ u ∷ us, d, rest)) h = within_keeps (Is (Several j) n ts) n _ (suc d) rest (λ b. (many j d ts t u us rest h.0, b))

chain_sound : (n : ℕ) (read : Reader) → IsSound (Several join.Chain) n read → (ts : List Item) → Kept (Is Chain n ts) (read ts >>= λ s. Some (without_last s (after_mark mark.Semicolon s.2)))
chain_sound n read h ts = bind_by (Kept (Is Chain n ts)) (Kept (Is (Several join.Chain) n ts)) (read ts) _ (h ts) tt (λ s p. by s p (after_mark mark.Semicolon s.2) (after_is mark.Semicolon s.2))
  where
    by : (s : Parsed Tree) → Is (Several join.Chain) n ts s → (o : Option (List Item)) → AfterIs mark.Semicolon s.2 o → Is Chain n ts (without_last s o)
    by s p None a = (plain s.1 ts s.0 s.2 p.0, p.1)
    by s p (Some us) a = (ended s.1 ts s.0 a.0 us (subst (λ r. Parses (Several join.Chain) s.1 ts s.0 r) a.1 p.0) a.2, p.1)

-- prefixes and powers
prefix_sound : (n : ℕ) (up read : Reader) → IsSound Prefix n up → IsSound Power (suc n) read → (ts : List Item) → Kept (Is Prefix (suc n) ts) (signed_by up read ts (sign_at ts))
prefix_sound n up read h k ts = by (sign_at ts) (sign_is ts)
  where
    signed_at : (x : Head × List Item) → SignIs ts (Some x) → (s : Parsed Tree) → Is Prefix n x.1 s → Is Prefix (suc n) ts (node (first_byte ts) x.0 (more s.0 none), suc s.1, s.2)
    signed_at x a s p = (subst (λ r. Parses Prefix (suc s.1) r (node (first_byte r) x.0 (more s.0 none)) s.2) (sym a.1) (signed s.1 a.0 x.0 x.1 s.0 s.2 a.2 p.0), let b = p.1 in omega arith)

    by : (o : Option (Head × List Item)) → SignIs ts o → Kept (Is Prefix (suc n) ts) (signed_by up read ts o)
    by None a = bind_power (read ts) (k ts)
      where
        bind_power : (o : Option (Parsed Tree)) → Kept (Is Power (suc n) ts) o → Kept (Is Prefix (suc n) ts) o
        bind_power None h = tt
        bind_power (Some s) h = (no_sign s.1 ts s.0 s.2 h.0, h.1)
    by (Some x) a = bind_by (Kept (Is Prefix (suc n) ts)) (Kept (Is Prefix n x.1)) (up x.1) _ (h x.1) tt (λ s p. signed_at x a s p)

power_sound : (n : ℕ) (up read : Reader) → IsSound Prefix n up → IsSound Percent (suc n) read → (ts : List Item) → Kept (Is Power (suc n) ts) (read ts >>= λ s. raised_by (suc n) (first_byte ts) up s (after_mark mark.Caret s.2))
power_sound n up read h k ts = bind_by (Kept (Is Power (suc n) ts)) (Kept (Is Percent (suc n) ts)) (read ts) _ (k ts) tt (λ s p. by s p (after_mark mark.Caret s.2) (after_is mark.Caret s.2))
  where
    by : (s : Parsed Tree) → Is Percent (suc n) ts s → (o : Option (List Item)) → AfterIs mark.Caret s.2 o → Kept (Is Power (suc n) ts) (raised_by (suc n) (first_byte ts) up s o)
    by s p None a = (base s.1 ts s.0 s.2 p.0, p.1)
    by s p (Some us) a = bind_by (Kept (Is Power (suc n) ts)) (Kept (Is Prefix n us)) (up us) _ (h us) tt
        (λ u q. within_keeps (Is Power (suc n) ts) (suc n) _ _ u.2 (λ b. (raised s.1 u.1 ts s.0 a.0 us u.0 u.2 (subst (λ r. Parses Percent s.1 ts s.0 r) a.1 p.0) a.2 q.0, b)))

-- arguments
abbrev pub ArgsAre : Mark → ℕ → List Item → Parsed (List Tree) → Type 0
ArgsAre k n ts w = (z : Item) × Args w.1 ts w.0 (z ∷ w.2) × (z.meaning ≡ meaning_of k) × (w.1 ≤ n)

args_sound : (k : Mark) (n : ℕ) (read : Reader) → IsSound Chain n read → (ts : List Item) → Kept (ArgsAre k n ts) (args_with k read ts)
args_sound k n read h ts = subst (Kept (ArgsAre k n ts)) (sym (args_are k read ts)) (by (after_mark k ts) (after_is k ts))
  where
    by : (o : Option (List Item)) → AfterIs k ts o → Kept (ArgsAre k n ts) (args_by k read ts o)
    by None a = bind_by (Kept (ArgsAre k n ts)) (Kept (PartsAre Comma n ts)) (parts_with Comma read ts) (shut k) (parts_sound Comma n read h ts) tt
        (λ w p. bind_by (Kept (ArgsAre k n ts)) (AfterIs k w.2) (after_mark k w.2) _ (after_is k w.2) tt (λ us a. (a.0, some_args w.1 ts w.0 (a.0 ∷ us) (subst (λ r. Parts Comma w.1 ts w.0 r) a.1 p.0), a.2, p.1)))
    by (Some us) a = (a.0, subst (λ r. Args 0 ts [] r) a.1 (no_args ts), a.2, omega arith)

-- fields
abbrev FieldIs : ℕ → List Item → Parsed NamedTree → Type 0
FieldIs n ts u = Field u.1 ts u.0 u.2 × (u.1 ≤ n)

abbrev LabelIs : List Item → Option (FieldName × List Item) → Type 0
LabelIs ts None = Unit {0}
LabelIs ts (Some v) = (x y : Item) × (cs : List ℕ) × (ts ≡ x ∷ y ∷ v.1) × (x.meaning ≡ m.Name cs) × (y.meaning ≡ m.Symbol symbol.Colon) × (v.0 ≡ field_name x cs)

named_at : (cs : List ℕ) (ts : List Item) (x : Item) (us : List Item) → ts ≡ x ∷ us → label cs ts ≡ field_name x cs
named_at cs ts x us e = ap (label cs) e

label_is : (ts : List Item) → LabelIs ts (label_at ts)
label_is ts = bind_by (LabelIs ts) (NameIs ts) (name_in_front ts) _ (name_is ts) tt
    (λ v a. bind_by (LabelIs ts) (AfterIs mark.Colon v.1) (after_mark mark.Colon v.1) _ (after_is mark.Colon v.1) tt (λ us b. (a.0, b.0, v.0, a.1 ∙ ap (λ r. a.0 ∷ r) b.1, a.2, b.2, named_at v.0 ts a.0 v.1 a.1)))

field_sound : (n : ℕ) (read : Reader) → IsSound (Several join.Or) n read → (ts : List Item) → Kept (FieldIs n ts) (field_with read ts)
field_sound n read h ts = subst (Kept (FieldIs n ts)) (sym (field_is read ts))
    (bind_by (Kept (FieldIs n ts)) (LabelIs ts) (label_at ts) _ (label_is ts) tt
    (λ v a. bind_by (Kept (FieldIs n ts)) (Kept (Is (Several join.Or) n v.1)) (read v.1) _ (h v.1) tt
    (λ u p. (
      subst (λ (x : FieldName). Field u.1 ts (x, u.0) u.2) (sym a.6)
          (subst (λ r. Field u.1 r (field_name a.0 a.2, u.0) u.2) (sym a.3) (field u.1 a.0 a.1 a.2 v.1 u.0 u.2 a.4 a.5 p.0)),
      p.1,
    ))))

abbrev SomeAre : ℕ → List Item → Parsed (List NamedTree) → Type 0
SomeAre n ts w = SomeFields w.1 ts w.0 w.2 × (w.1 ≤ n)

abbrev pub FieldsAre : ℕ → List Item → Parsed (List NamedTree) → Type 0
FieldsAre n ts w = (z : Item) × Fields w.1 ts w.0 (z ∷ w.2) × (z.meaning ≡ m.Symbol symbol.CloseBrace) × (w.1 ≤ n)

fields_sound : (n : ℕ) (read : Reader) → IsSound (Several join.Or) n read → (ts : List Item) → Kept (FieldsAre n ts) (fields_with read ts)
unfolding fields_turn
fields_sound n read h ts = subst (Kept (FieldsAre n ts)) (sym (fields_are read ts)) (by (after_mark mark.CloseBrace ts) (after_is mark.CloseBrace ts))
  where
    turn_keeps : (w : Parsed (List NamedTree)) → SomeAre n ts w → KeptTurn (SomeAre n ts) (fields_turn read w)
    turn_keeps w p =
        unless_keeps (SomeAre n ts) (AfterIs mark.Comma w.2) (after_mark mark.Comma w.2) _ (after_is mark.Comma w.2)
        (λ us a. bind_by (KeptTurn (SomeAre n ts)) (Kept (FieldIs n us)) (field_with read us) _ (field_sound n read h us) tt
        (λ u q. (further_field w.1 u.1 ts w.0 a.0 us u.0 u.2 (subst (λ r. SomeFields w.1 ts w.0 r) a.1 p.0) a.2 q.0, let b = p.1 in let c = q.1 in omega arith)))

    by : (o : Option (List Item)) → AfterIs mark.CloseBrace ts o → Kept (FieldsAre n ts) (read_fields read ts o)
    by None a = bind_by (Kept (FieldsAre n ts)) (Kept (FieldIs n ts)) (field_with read ts) _ (field_sound n read h ts) tt
        (λ u p. bind_by (Kept (FieldsAre n ts)) (Kept (SomeAre n ts)) (loop_from (fields_turn read) (u.0 ∷ [], u.1, u.2)) (shut mark.CloseBrace) (from_keeps (SomeAre n ts) (fields_turn read) turn_keeps (u.0 ∷ [], u.1, u.2) (one_field u.1 ts u.0 u.2 p.0, p.1)) tt
        (λ w q. bind_by (Kept (FieldsAre n ts)) (AfterIs mark.CloseBrace w.2) (after_mark mark.CloseBrace w.2) _ (after_is mark.CloseBrace w.2) tt (λ us a. (a.0, some_fields w.1 ts w.0 (a.0 ∷ us) (subst (λ r. SomeFields w.1 ts w.0 r) a.1 q.0), a.2, q.1))))
    by (Some us) a = (a.0, subst (λ r. Fields 0 ts [] r) a.1 (no_fields ts), a.2, omega arith)

-- weaves
abbrev StrandsAre : List Item → Parsed (List Tree) → Type 0
StrandsAre ts w = Strands w.1 ts w.0 w.2

abbrev StrandIs : List Item → Parsed Tree → Type 0
StrandIs rest u = (d : ℕ) (ts : List Item) (ps : List Tree) → Strands d ts ps rest → Strands (max d u.1) ts (ps ++ u.0 ∷ []) u.2

strand_none : (read : Reader) → strand_at read [] ≡ Some None
unfolding strand_at
strand_none read = refl

strand_sound : (n : ℕ) (read : Reader) → IsSound Chain n read → (rest : List Item) → KeptTurn (StrandIs rest) (strand_at read rest)
strand_sound n read h [] = subst (KeptTurn (StrandIs [])) (sym (strand_none read)) tt
strand_sound n read h (x ∷ us) = subst (KeptTurn (StrandIs (x ∷ us))) (sym (strand_is read x us)) (by x.meaning refl)
  where
    by : (k : Meaning) → x.meaning ≡ k → KeptTurn (StrandIs (x ∷ us)) (strand_by read x us k)
    by (m.Piece cs) e = λ d ts ps p. piece d ts ps x cs us p e
    by (m.Symbol symbol.OpenBrace) e = going_keeps (StrandIs (x ∷ us)) (read us >>= shut mark.CloseBrace) (bind_by (Kept (StrandIs (x ∷ us))) (Kept (Is Chain n us)) (read us) (shut mark.CloseBrace) (h us) tt
        (λ s q. bind_by (Kept (StrandIs (x ∷ us))) (AfterIs mark.CloseBrace s.2) (after_mark mark.CloseBrace s.2) _ (after_is mark.CloseBrace s.2) tt
        (λ vs a d ts ps p. island d s.1 ts ps x us s.0 a.0 vs p e (subst (λ r. Parses Chain s.1 us s.0 r) a.1 q.0) a.2)))
    by _ e = tt

strands_sound : (n : ℕ) (read : Reader) → IsSound Chain n read → (ts : List Item) → Kept (StrandsAre ts) (loop_from (strands_turn read) ([], 0, ts))
unfolding strands_turn
strands_sound n read h ts = from_keeps (StrandsAre ts) (strands_turn read) (λ w p. by w p (strand_at read w.2) (strand_sound n read h w.2)) ([], 0, ts) (no_strands ts)
  where
    by : (w : Parsed (List Tree)) → StrandsAre ts w → (o : Turn Tree) → KeptTurn (StrandIs w.2) o → KeptTurn (StrandsAre ts) (o >>= λ o. Some (option_map (λ u. (w.0 ++ u.0 ∷ [], max w.1 u.1, u.2)) o))
    by w p None q = tt
    by w p (Some None) q = tt
    by w p (Some (Some u)) q = q w.1 ts w.0 p

-- atoms
abbrev shut_by : {A : Type 0} → Parsed A → Option (List Item) → Option (Parsed A)
shut_by s o = o >>= λ us. Some (s.0, s.1, us)

args_node : (k : Mark) (n : ℕ) (read : Reader) → IsSound Chain n read → (x : Item) (us vs : List Item) (h : Head) → ((d : ℕ) (ps : List Tree) (z : Item) (rest : List Item) → Args d vs ps (z ∷ rest) → z.meaning ≡ meaning_of k → Parses Atom (suc d) (x ∷ us) (node x.at h (forest ps)) rest)
    → Kept (Is Atom (suc n) (x ∷ us)) (args_with k read vs >>= shut_node x.at h)
args_node k n read s x us vs h f = bind_by (Kept (Is Atom (suc n) (x ∷ us))) (Kept (ArgsAre k n vs)) (args_with k read vs) (shut_node x.at h) (args_sound k n read s vs) tt (λ w p. (f w.1 w.0 p.0 w.2 p.1 p.2, let b = p.3 in omega arith))

called_sound : (n : ℕ) (inner : Line → Reader) → ((l : Line) → IsSound l n (inner l)) → (x : Item) (us : List Item) (h : Head) → callee x.meaning ≡ Some h → (otherwise : Option (Parsed Tree)) → Kept (Is Atom (suc n) (x ∷ us)) otherwise
    → Kept (Is Atom (suc n) (x ∷ us)) (read_call inner x h otherwise (after_mark mark.OpenParen us))
called_sound n inner s x us h e otherwise p = by (after_mark mark.OpenParen us) (after_is mark.OpenParen us)
  where
    by : (o : Option (List Item)) → AfterIs mark.OpenParen us o → Kept (Is Atom (suc n) (x ∷ us)) (read_call inner x h otherwise o)
    by None a = p
    by (Some vs) a = args_node mark.CloseParen n (inner Chain) (s Chain) x us vs h (λ d ps z rest q f. subst (λ r. Parses Atom (suc d) (x ∷ r) (node x.at h (forest ps)) rest) (sym a.1) (a_call d x a.0 h vs ps z rest e a.2 q f))

leaf_sound : (n : ℕ) (x : Item) (us : List Item) (h : Head) → atom_head x.meaning ≡ Some h → Is Atom (suc n) (x ∷ us) (node x.at h none, 1, us)
leaf_sound n x us h e = (leaf x h us e, omega arith)

global_sound : (n : ℕ) (x : Item) (us : List Item) → x.meaning ≡ m.Symbol symbol.OpenBracketAt → Kept (Is Atom (suc n) (x ∷ us)) (name_in_front us >>= λ y. after_mark mark.CloseBracket y.1 >>= λ rest. leaf_by x rest (tree.global y.0))
global_sound n x us e = bind_by (Kept (Is Atom (suc n) (x ∷ us))) (NameIs us) (name_in_front us) _ (name_is us) tt
    (λ v a. bind_by (Kept (Is Atom (suc n) (x ∷ us))) (AfterIs mark.CloseBracket v.1) (after_mark mark.CloseBracket v.1) _ (after_is mark.CloseBracket v.1) tt
    (λ rest b. (subst (λ r. Parses Atom 1 (x ∷ r) (node x.at (tree.global v.0) none) rest) (sym (a.1 ∙ ap (λ r. a.0 ∷ r) b.1)) (a_global x a.0 b.0 v.0 rest e a.2 b.2), omega arith)))

atom_none : (n : ℕ) (inner : Line → Reader) → atom_with n inner [] ≡ None
unfolding atom_with
atom_none n inner = refl

atom_sound : (n : ℕ) (inner : Line → Reader) → ((l : Line) → IsSound l n (inner l)) → (ts : List Item) → Kept (Is Atom (suc n) ts) (atom_with (suc n) inner ts)
atom_sound n inner s [] = subst (Kept (Is Atom (suc n) [])) (sym (atom_none (suc n) inner)) tt
atom_sound n inner s (x ∷ us) = subst (Kept (Is Atom (suc n) (x ∷ us))) (sym (atom_has (suc n) inner x us)) (by x.meaning refl)
  where
    by : (k : Meaning) → x.meaning ≡ k → Kept (Is Atom (suc n) (x ∷ us)) (atom_by (suc n) inner x us k)
    by (m.Number z) e = leaf_sound n x us _ (ap atom_head e)
    by (m.Text cs) e = leaf_sound n x us _ (ap atom_head e)
    by (m.Name cs) e = called_sound n inner s x us _ (ap callee e) _ (leaf_sound n x us _ (ap atom_head e))
    by (m.Word word.True) e = leaf_sound n x us _ (ap atom_head e)
    by (m.Word word.False) e = leaf_sound n x us _ (ap atom_head e)
    by (m.Word word.And) e = called_sound n inner s x us _ (ap callee e) None tt
    by (m.Word word.Or) e = called_sound n inner s x us _ (ap callee e) None tt
    by (m.Symbol symbol.OpenParen) e = bind_by (Kept (Is Atom (suc n) (x ∷ us))) (Kept (Is Chain n us)) (inner Chain us) _ (s Chain us) tt
        (λ v p. bracket_at v p (after_mark mark.CloseParen v.2) (after_is mark.CloseParen v.2))
      where
        bracket_at : (v : Parsed Tree) → Is Chain n us v → (o : Option (List Item)) → AfterIs mark.CloseParen v.2 o → Kept (Is Atom (suc n) (x ∷ us)) (shut_by v o >>= λ s. Some (s.0, suc s.1, s.2))
        bracket_at v p None a = tt
        bracket_at v p (Some rest) a = (brackets v.1 x us v.0 a.0 rest e (subst (λ r. Parses Chain v.1 us v.0 r) a.1 p.0) a.2, let b = p.1 in omega arith)
    by (m.Symbol symbol.OpenBracket) e = args_node mark.CloseBracket n (inner Chain) (s Chain) x us us tree.list (λ d ps z rest q f. a_list d x us ps z rest e q f)
    by (m.Symbol symbol.OpenBracketAt) e = global_sound n x us e
    by (m.Symbol symbol.OpenBrace) e = bind_by (Kept (Is Atom (suc n) (x ∷ us))) (Kept (FieldsAre n us)) (fields_with (inner (Several join.Or)) us) (read_record x) (fields_sound n (inner (Several join.Or)) (s (Several join.Or)) us) tt
        (λ w p. (a_record w.1 x us w.0 p.0 w.2 e p.1 p.2, let b = p.3 in omega arith))
    by m.Opening e = weave_at (loop_from (strands_turn (inner Chain)) ([], 0, us)) (strands_are (inner Chain) us) (strands_sound n (inner Chain) (s Chain) us)
      where
        weave_at : (o : Option (Parsed (List Tree))) → strands_with (inner Chain) us ≡ (o >>= shut mark.CloseWeave) → Kept (StrandsAre us) o
            → Kept (Is Atom (suc n) (x ∷ us)) (strands_with (inner Chain) us >>= λ s. within_depth (suc n) (node x.at tree.woven (forest s.0)) (suc s.1) s.2)
        weave_at None q p = rw q tt
        weave_at (Some w) q p = rw q (weave_end w p (after_mark mark.CloseWeave w.2) (after_is mark.CloseWeave w.2))
          where
            weave_end : (w : Parsed (List Tree)) → StrandsAre us w → (o : Option (List Item)) → AfterIs mark.CloseWeave w.2 o → Kept (Is Atom (suc n) (x ∷ us)) (shut_by w o >>= λ s. within_depth (suc n) (node x.at tree.woven (forest s.0)) (suc s.1) s.2)
            weave_end w p None a = tt
            weave_end w p (Some vs) a = within_keeps (Is Atom (suc n) (x ∷ us)) (suc n) _ (suc w.1) vs (λ b. (a_weave w.1 x us w.0 a.0 vs e (subst (λ r. Strands w.1 us w.0 r) a.1 p) a.2, b))
    by _ e = tt

-- all lines
under_left : (n : ℕ) (l : Left) → IsSound (operand_line l) (suc n) (line_at (suc n) (operand_line l)) → IsSound (By l) (suc n) (line_at (suc n) (By l))
under_left n l h ts = subst (Kept (Is (By l) (suc n) ts)) (sym (by_is n l ts)) (left_sound (suc n) l (line_at (suc n) (operand_line l)) h ts)

under_several : (n : ℕ) (j : Join) → IsSound (part_of (Between j)) (suc n) (line_at (suc n) (part_of (Between j))) → IsSound (Several j) (suc n) (line_at (suc n) (Several j))
under_several n j h ts = subst (Kept (Is (Several j) (suc n) ts)) (sym (several_is n j ts)) (gathered_sound (suc n) j ts _ (parts_sound (Between j) (suc n) (line_at (suc n) (part_of (Between j))) h ts))

abbrev AllSound : ℕ → Type 0
AllSound n = (l : Line) → IsSound l n (line_at n l)

sound_percent : (n : ℕ) → AllSound n → IsSound Percent (suc n) (line_at (suc n) Percent)
sound_percent n h ts = subst (Kept (Is Percent (suc n) ts)) (sym (percent_is n ts)) (percent_sound (suc n) _ (λ us. subst (Kept (Is Access (suc n) us)) (sym (access_is n us)) (access_sound (suc n) _ (λ vs. subst (Kept (Is Atom (suc n) vs)) (sym (atom_is n vs)) (atom_sound n (line_at n) h vs)) us)) ts)

sound_access : (n : ℕ) → AllSound n → IsSound Access (suc n) (line_at (suc n) Access)
sound_access n h us = subst (Kept (Is Access (suc n) us)) (sym (access_is n us)) (access_sound (suc n) _ (λ vs. subst (Kept (Is Atom (suc n) vs)) (sym (atom_is n vs)) (atom_sound n (line_at n) h vs)) us)

sound_power : (n : ℕ) → AllSound n → IsSound Power (suc n) (line_at (suc n) Power)
sound_power n h ts = subst (Kept (Is Power (suc n) ts)) (sym (power_is n ts)) (power_sound n (line_at n Prefix) (line_at (suc n) Percent) (h Prefix) (sound_percent n h) ts)

sound_prefix : (n : ℕ) → AllSound n → IsSound Prefix (suc n) (line_at (suc n) Prefix)
sound_prefix n h ts = subst (Kept (Is Prefix (suc n) ts)) (sym (prefix_is n ts)) (prefix_sound n (line_at n Prefix) (line_at (suc n) Power) (h Prefix) (sound_power n h) ts)

sound_alias : (n : ℕ) → AllSound n → IsSound Alias (suc n) (line_at (suc n) Alias)
sound_alias n h ts = subst (Kept (Is Alias (suc n) ts)) (sym (alias_is n ts)) (alias_sound (suc n) (line_at (suc n) Prefix) (sound_prefix n h) ts)

sound_sum : (n : ℕ) → AllSound n → IsSound (By left.Sum) (suc n) (line_at (suc n) (By left.Sum))
sound_sum n h = under_left n left.Sum (under_left n left.Prod (sound_alias n h))

sound_comp : (n : ℕ) → AllSound n → IsSound (By left.Comp) (suc n) (line_at (suc n) (By left.Comp))
sound_comp n h = under_left n left.Comp (under_several n join.Cat (sound_sum n h))

sound_and : (n : ℕ) → AllSound n → IsSound (Several join.And) (suc n) (line_at (suc n) (Several join.And))
sound_and n h = under_several n join.And (under_left n left.Member (sound_comp n h))

sound_series : (n : ℕ) → AllSound n → IsSound (Several join.Chain) (suc n) (line_at (suc n) (Several join.Chain))
sound_series n h = under_several n join.Chain (under_several n join.Or (sound_and n h))

pub reads : (n : ℕ) → AllSound n
reads zero l ts = subst (Kept (Is l 0 ts)) (sym (none_at l ts)) tt
reads (suc n) Atom ts = subst (Kept (Is Atom (suc n) ts)) (sym (atom_is n ts)) (atom_sound n (line_at n) (reads n) ts)
reads (suc n) Access ts = sound_access n (reads n) ts
reads (suc n) Percent ts = sound_percent n (reads n) ts
reads (suc n) Power ts = sound_power n (reads n) ts
reads (suc n) Prefix ts = sound_prefix n (reads n) ts
reads (suc n) Alias ts = sound_alias n (reads n) ts
reads (suc n) (By left.Prod) ts = under_left n left.Prod (sound_alias n (reads n)) ts
reads (suc n) (By left.Sum) ts = sound_sum n (reads n) ts
reads (suc n) (By left.Comp) ts = sound_comp n (reads n) ts
reads (suc n) (By left.Member) ts = under_left n left.Member (sound_comp n (reads n)) ts
reads (suc n) (Several join.Cat) ts = under_several n join.Cat (sound_sum n (reads n)) ts
reads (suc n) (Several join.And) ts = sound_and n (reads n) ts
reads (suc n) (Several join.Or) ts = under_several n join.Or (sound_and n (reads n)) ts
reads (suc n) (Several join.Chain) ts = sound_series n (reads n) ts
reads (suc n) Chain ts = subst (Kept (Is Chain (suc n) ts)) (sym (chain_is n ts)) (chain_sound (suc n) (line_at (suc n) (Several join.Chain)) (sound_series n (reads n)) ts)
