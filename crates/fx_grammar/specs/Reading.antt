-- Reading a formula from left to right.
use Rattle.std.specs.Prelude.{ℕ, max, nat_le, Bool, true, false, List, [], ◌∷◌, ◌++◌, length}
use Rattle.std.specs.Prelude.{Option, Some, None, option_and_then, option_map, if◌then◌else◌}
use Rattle.std.proofs.Common.{zero, suc}
use Rattle.fx_lexer.specs.declared.token.Symbol.TheVariants as symbol
use Rattle.fx_lexer.specs.declared.token.Word.TheVariants as word
use Rattle.fx_core.specs.declared.expr.Op.{Op}
use Rattle.fx_core.specs.declared.expr.Op.TheVariants as op
use Rattle.fx_core.specs.declared.expr.FieldName.{FieldName}
use Rattle.fx_core.specs.Tree.{Tree, NamedTree, node, Head, none, more, forest, tree_field_names}
use Rattle.fx_core.specs.Tree.{places_of, field_trees}
use Rattle.fx_core.specs.Tree as tree
use Rattle.fx_grammar.specs.declared.item.Item.{Item}
use Rattle.fx_grammar.specs.declared.item.Meaning.{Meaning}
use Rattle.fx_grammar.specs.declared.item.Meaning.TheVariants as m
use Rattle.fx_grammar.specs.declared.line.Join.{Join}
use Rattle.fx_grammar.specs.declared.line.Join.TheVariants as join
use Rattle.fx_grammar.specs.declared.line.Separator.{Separator}
use Rattle.fx_grammar.specs.declared.line.Separator.TheVariants.{Between, Comma}
use Rattle.fx_grammar.specs.declared.line.Left.{Left}
use Rattle.fx_grammar.specs.declared.line.Left.TheVariants as left
use Rattle.fx_grammar.specs.declared.line.Line.{Line}
use Rattle.fx_grammar.specs.declared.line.Line.TheVariants.{Chain, Several, By, Alias, Prefix}
use Rattle.fx_grammar.specs.declared.line.Line.TheVariants.{Power, Percent, Access, Atom}
use Rattle.fx_grammar.specs.declared.line.Mark.{Mark}
use Rattle.fx_grammar.specs.declared.line.Mark.TheVariants as mark
use Rattle.fx_grammar.specs.Grammar.{first_byte, separates, join_head, operator, sign}

infixl 10 ◌>>=◌
abbrev pub ◌>>=◌ : {A B : Type 0} → Option A → (A → Option B) → Option B
o >>= f = option_and_then f o

-- something with its depth, and the tokens after it
abbrev pub Parsed : Type 0 → Type 0
Parsed A = A × ℕ × List Item

abbrev pub Reader : Type 0
Reader = List Item → Option (Parsed Tree)

-- what a turn of a loop finds: None where there is no reading, Some None where the loop is over
abbrev pub Turn : Type 0 → Type 0
Turn A = Option (Option (Parsed A))

abbrev pub reader_turned : {A : Type 0} → Turn A → Parsed A → (Parsed A → Option (Parsed A))
    → Option (Parsed A)
reader_turned None s go = None
reader_turned (Some None) s go = Some s
reader_turned (Some (Some u)) s go = go u

-- turns, at most k, until the loop is over
unfoldable pub loop : {A : Type 0} → (Parsed A → Turn A) → ℕ → Parsed A → Option (Parsed A)
loop turn zero s = None
loop turn (suc k) s = reader_turned (turn s) s (loop turn k)

-- each turn takes a token
unfoldable pub loop_from : {A : Type 0} → (Parsed A → Turn A) → Parsed A → Option (Parsed A)
loop_from turn s = loop turn (suc (length s.2)) s

abbrev pub unless_over : {A B : Type 0} → Option A → (A → Turn B) → Turn B
unless_over None f = Some None
unless_over (Some x) f = f x

-- a tree that is no deeper than n
abbrev pub within_depth : ℕ → Tree → ℕ → List Item → Option (Parsed Tree)
within_depth n t d rest = if nat_le d n then Some (t, d, rest) else None

abbrev pub turn_going : {A : Type 0} → Option (Parsed A) → Turn A
turn_going o = option_map (λ s. Some s) o

-- tokens
abbrev pub is_this_mark : Mark → Meaning → Bool
is_this_mark mark.OpenParen (m.Symbol symbol.OpenParen) = true
is_this_mark mark.CloseParen (m.Symbol symbol.CloseParen) = true
is_this_mark mark.CloseBracket (m.Symbol symbol.CloseBracket) = true
is_this_mark mark.CloseBrace (m.Symbol symbol.CloseBrace) = true
is_this_mark mark.CloseWeave m.Closing = true
is_this_mark mark.Comma (m.Symbol symbol.Comma) = true
is_this_mark mark.Colon (m.Symbol symbol.Colon) = true
is_this_mark mark.Semicolon (m.Symbol symbol.Semicolon) = true
is_this_mark mark.Dot (m.Symbol symbol.Dot) = true
is_this_mark mark.Percent (m.Symbol symbol.Percent) = true
is_this_mark mark.Caret (m.Symbol symbol.Caret) = true
is_this_mark mark.Equal (m.Symbol symbol.Equal) = true
is_this_mark mark.As (m.Word word.As) = true
is_this_mark _ _ = false

-- the tokens after this mark, where it is at the front
abbrev pub after_mark : Mark → List Item → Option (List Item)
after_mark k [] = None
after_mark k (x ∷ us) = if is_this_mark k x.meaning then Some us else None

abbrev pub name_meant : Meaning → Option (List ℕ)
name_meant (m.Name cs) = Some cs
name_meant _ = None

-- the name at the front, and the tokens after it
abbrev pub name_in_front : List Item → Option (List ℕ × List Item)
name_in_front [] = None
name_in_front (x ∷ us) = name_meant x.meaning >>= λ cs. Some (cs, us)

-- a name behind this mark
abbrev pub name_after : Mark → List Item → Option (List ℕ × List Item)
name_after k ts = after_mark k ts >>= name_in_front

abbrev pub closing : Meaning → Bool
closing (m.Symbol symbol.CloseParen) = true
closing (m.Symbol symbol.CloseBracket) = true
closing (m.Symbol symbol.CloseBrace) = true
closing (m.Symbol symbol.Comma) = true
closing _ = false

-- no part of a chain begins here
abbrev pub closes : List Item → Bool
closes [] = true
closes (x ∷ us) = closing x.meaning

abbrev pub after_separator : Separator → List Item → Option (List Item)
after_separator s [] = None
after_separator s (x ∷ us) = if separates s x.meaning then Some us else None

-- the tokens after a `;` behind which a chain goes on
abbrev pub going_on : Option (List Item) → Option (List Item)
going_on None = None
going_on (Some us) = if closes us then None else Some us

-- the tokens after a separator behind which another part stands
abbrev pub between : Separator → List Item → Option (List Item)
between (Between join.Chain) rest = going_on (after_separator (Between join.Chain) rest)
between s rest = after_separator s rest

abbrev pub operator_at : Left → List Item → Option (Op × List Item)
operator_at l [] = None
operator_at l (x ∷ us) = operator l x.meaning >>= λ o. Some (o, us)

abbrev pub sign_at : List Item → Option (Head × List Item)
sign_at [] = None
sign_at (x ∷ us) = sign x.meaning >>= λ h. Some (h, us)

-- lines that group to the left
unfoldable pub left_turn : ℕ → Left → ℕ → Reader → Parsed Tree → Turn Tree
left_turn n l at read s = unless_over (operator_at l s.2)
    (λ x. read x.1 >>= λ u. turn_going (within_depth n
    (node at (tree.pair x.0) (more s.0 (more u.0 none))) (suc (max s.1 u.1)) u.2))

unfoldable pub left_with : ℕ → Left → Reader → Reader
left_with n l read ts = read ts >>= loop_from (left_turn n l (first_byte ts) read)

-- fields and `%` behind a tree
unfoldable pub tail_turn : ℕ → ℕ → (List Item → Option (Head × List Item)) → Parsed Tree → Turn Tree
tail_turn n at tail s = unless_over (tail s.2)
    (λ x. turn_going (within_depth n (node at x.0 (more s.0 none)) (suc s.1) x.1))

abbrev pub field_in_front : List Item → Option (Head × List Item)
field_in_front rest = name_after mark.Dot rest >>= λ x. Some (tree.dot x.0, x.1)

abbrev pub percent_at : List Item → Option (Head × List Item)
percent_at rest = after_mark mark.Percent rest >>= λ us. Some (tree.percent, us)

abbrev pub alias_at : List Item → Option (Head × List Item)
alias_at rest = name_after mark.As rest >>= λ x. Some (tree.alias x.0, x.1)

unfoldable pub access_with : ℕ → Reader → Reader
access_with n read ts = read ts >>= loop_from (tail_turn n (first_byte ts) field_in_front)

unfoldable pub percent_with : ℕ → Reader → Reader
percent_with n read ts = read ts >>= loop_from (tail_turn n (first_byte ts) percent_at)

abbrev pub aliased_by : ℕ → ℕ → Parsed Tree → Option (Head × List Item) → Option (Parsed Tree)
aliased_by n at s None = Some s
aliased_by n at s (Some x) = within_depth n (node at x.0 (more s.0 none)) (suc s.1) x.1

unfoldable pub alias_with : ℕ → Reader → Reader
alias_with n read ts = read ts >>= λ s. aliased_by n (first_byte ts) s (alias_at s.2)

-- parts
unfoldable pub parts_turn : Separator → Reader → Parsed (List Tree) → Turn (List Tree)
parts_turn s read w = unless_over (between s w.2)
    (λ us. read us >>= λ u. Some (Some (w.0 ++ u.0 ∷ [], max w.1 u.1, u.2)))

unfoldable pub parts_with : Separator → Reader → List Item → Option (Parsed (List Tree))
parts_with s read ts = read ts >>= λ u. loop_from (parts_turn s read) (u.0 ∷ [], u.1, u.2)

-- two or more parts are one node
abbrev pub gathered : ℕ → Head → ℕ → Parsed (List Tree) → Option (Parsed Tree)
gathered n h at ([], d, rest) = None
gathered n h at (t ∷ [], d, rest) = Some (t, d, rest)
gathered n h at (t ∷ u ∷ ts, d, rest) = within_depth n (node at h (forest (t ∷ u ∷ ts))) (suc d)
    rest

unfoldable pub several_with : ℕ → Join → Reader → Reader
several_with n j read ts = parts_with (Between j) read ts >>= gathered n (join_head j)
    (first_byte ts)

abbrev pub without_last : Parsed Tree → Option (List Item) → Parsed Tree
without_last s None = s
without_last s (Some us) = (s.0, s.1, us)

unfoldable pub chain_with : Reader → Reader
chain_with read ts = read ts >>= λ s. Some (without_last s (after_mark mark.Semicolon s.2))

-- prefixes and powers, where prefixes one level deeper are read so
abbrev pub signed_by : Reader → Reader → List Item → Option (Head × List Item)
    → Option (Parsed Tree)
signed_by up read ts None = read ts
signed_by up read ts (Some x) = up x.1 >>= λ s. Some
    (node (first_byte ts) x.0 (more s.0 none), suc s.1, s.2)

unfoldable pub prefix_with : Reader → Reader → Reader
prefix_with up read ts = signed_by up read ts (sign_at ts)

abbrev pub raised_by : ℕ → ℕ → Reader → Parsed Tree → Option (List Item) → Option (Parsed Tree)
raised_by n at up s None = Some s
raised_by n at up s (Some us) = up us >>= λ u. within_depth n
    (node at (tree.pair op.Pow) (more s.0 (more u.0 none))) (suc (max s.1 u.1)) u.2

unfoldable pub power_with : ℕ → Reader → Reader → Reader
power_with n up read ts = read ts >>= λ s. raised_by n (first_byte ts) up s
    (after_mark mark.Caret s.2)

-- what ends with this mark
abbrev pub shut : {A : Type 0} → Mark → Parsed A → Option (Parsed A)
shut k s = after_mark k s.2 >>= λ us. Some (s.0, s.1, us)

abbrev pub shut_node : ℕ → Head → Parsed (List Tree) → Option (Parsed Tree)
shut_node at h s = Some (node at h (forest s.0), suc s.1, s.2)

abbrev pub args_by : Mark → Reader → List Item → Option (List Item) → Option (Parsed (List Tree))
args_by k inner ts None = parts_with Comma inner ts >>= shut k
args_by k inner ts (Some rest) = Some ([], 0, rest)

-- arguments up to this mark, with it
unfoldable pub args_with : Mark → Reader → List Item → Option (Parsed (List Tree))
args_with k inner ts = args_by k inner ts (after_mark k ts)

-- the name of a field, at the first of these tokens
abbrev pub label : List ℕ → List Item → FieldName
label cs ts = record { text = cs; at = first_byte ts }

abbrev pub label_at : List Item → Option (FieldName × List Item)
label_at ts = name_in_front ts >>= λ x. after_mark mark.Colon x.1 >>= λ us. Some (label x.0 ts, us)

unfoldable pub field_with : Reader → List Item → Option (Parsed NamedTree)
field_with read ts = label_at ts >>= λ x. read x.1 >>= λ u. Some ((x.0, u.0), u.1, u.2)

unfoldable pub fields_turn : Reader → Parsed (List NamedTree) → Turn (List NamedTree)
fields_turn read w = unless_over (after_mark mark.Comma w.2)
    (λ us. field_with read us >>= λ u. Some (Some (w.0 ++ u.0 ∷ [], max w.1 u.1, u.2)))

abbrev pub read_fields : Reader → List Item → Option (List Item) → Option (Parsed (List NamedTree))
read_fields read ts None = field_with read ts >>= λ u. loop_from (fields_turn read)
    (u.0 ∷ [], u.1, u.2) >>= shut mark.CloseBrace
read_fields read ts (Some rest) = Some ([], 0, rest)

-- fields up to the closing brace, with it
unfoldable pub fields_with : Reader → List Item → Option (Parsed (List NamedTree))
fields_with read ts = read_fields read ts (after_mark mark.CloseBrace ts)

-- a piece or an island at the front of a weave's text
abbrev pub strand_by : Reader → Item → List Item → Meaning → Turn Tree
strand_by inner x us (m.Piece cs) = Some (Some (node x.at (tree.text cs) none, 1, us))
strand_by inner x us (m.Symbol symbol.OpenBrace) = turn_going (inner us >>= shut mark.CloseBrace)
strand_by inner x us _ = Some None

unfoldable pub strand_at : Reader → List Item → Turn Tree
strand_at inner [] = Some None
strand_at inner (x ∷ us) = strand_by inner x us x.meaning

unfoldable pub strands_turn : Reader → Parsed (List Tree) → Turn (List Tree)
strands_turn inner w = strand_at inner w.2 >>= λ o. Some
    (option_map (λ u. (w.0 ++ u.0 ∷ [], max w.1 u.1, u.2)) o)

-- the text of a weave up to its end, with it
unfoldable pub strands_with : Reader → List Item → Option (Parsed (List Tree))
strands_with inner ts = loop_from (strands_turn inner) ([], 0, ts) >>= shut mark.CloseWeave

-- a call behind its opening bracket
abbrev pub call_of : ℕ → Head → Reader → List Item → Option (Parsed Tree)
call_of at h inner us = args_with mark.CloseParen inner us >>= shut_node at h

-- atoms, where lines one level deeper are read so
abbrev pub read_call : (Line → Reader) → Item → Head → Option (Parsed Tree) → Option (List Item)
    → Option (Parsed Tree)
read_call inner x h otherwise None = otherwise
read_call inner x h otherwise (Some us) = call_of x.at h (inner Chain) us

abbrev pub leaf_by : Item → List Item → Head → Option (Parsed Tree)
leaf_by x us h = Some (node x.at h none, 1, us)

-- a global name behind `[@`
abbrev pub read_global : ℕ → List Item → Option (Parsed Tree)
read_global at us = name_in_front us >>= λ y. after_mark mark.CloseBracket y.1 >>= λ rest. Some
    (node at (tree.global y.0) none, 1, rest)

abbrev pub read_record : Item → Parsed (List NamedTree) → Option (Parsed Tree)
read_record x s = Some (
  node x.at (tree.rec (tree_field_names s.0) (places_of s.0))
      (field_trees s.0),
  suc s.1,
  s.2,
)

abbrev pub atom_by : ℕ → (Line → Reader) → Item → List Item → Meaning → Option (Parsed Tree)
atom_by n inner x us (m.Number z) = leaf_by x us (tree.num z)
atom_by n inner x us (m.Text cs) = leaf_by x us (tree.text cs)
atom_by n inner x us (m.Name cs) = read_call inner x (tree.call cs) (leaf_by x us (tree.name cs))
    (after_mark mark.OpenParen us)
atom_by n inner x us (m.Word word.True) = leaf_by x us (tree.truth true)
atom_by n inner x us (m.Word word.False) = leaf_by x us (tree.truth false)
atom_by n inner x us (m.Word word.And) = read_call inner x tree.all None
    (after_mark mark.OpenParen us)
atom_by n inner x us (m.Word word.Or) = read_call inner x tree.any None
    (after_mark mark.OpenParen us)
atom_by n inner x us (m.Symbol symbol.OpenParen)
    = inner Chain us >>= λ s. shut mark.CloseParen s >>= λ s. Some (s.0, suc s.1, s.2)
atom_by n inner x us (m.Symbol symbol.OpenBracket)
    = args_with mark.CloseBracket (inner Chain) us >>= shut_node x.at tree.list
atom_by n inner x us (m.Symbol symbol.OpenBracketAt) = read_global x.at us
atom_by n inner x us (m.Symbol symbol.OpenBrace)
    = fields_with (inner (Several join.Or)) us >>= read_record x
atom_by n inner x us m.Opening = strands_with (inner Chain) us >>= λ s. within_depth n
    (node x.at tree.woven (forest s.0)) (suc s.1) s.2
atom_by n inner x us _ = None

unfoldable pub atom_with : ℕ → (Line → Reader) → Reader
atom_with n inner [] = None
atom_with n inner (x ∷ us) = atom_by n inner x us x.meaning

-- the lines from the tightest to the loosest
abbrev percent_in : ℕ → (Line → Reader) → Reader
percent_in n inner = percent_with n (access_with n (atom_with n inner))

abbrev alias_in : ℕ → (Line → Reader) → Reader
alias_in n inner = alias_with n (prefix_with (inner Prefix)
    (power_with n (inner Prefix) (percent_in n inner)))

abbrev sum_in : ℕ → (Line → Reader) → Reader
sum_in n inner = left_with n left.Sum (left_with n left.Prod (alias_in n inner))

abbrev member_in : ℕ → (Line → Reader) → Reader
member_in n inner = left_with n left.Member (left_with n left.Comp
    (several_with n join.Cat (sum_in n inner)))

abbrev or_in : ℕ → (Line → Reader) → Reader
or_in n inner = several_with n join.Or (several_with n join.And (member_in n inner))

abbrev line_in : ℕ → (Line → Reader) → Line → Reader
line_in n inner Atom = atom_with n inner
line_in n inner Access = access_with n (atom_with n inner)
line_in n inner Percent = percent_in n inner
line_in n inner Power = power_with n (inner Prefix) (percent_in n inner)
line_in n inner Prefix = prefix_with (inner Prefix)
    (power_with n (inner Prefix) (percent_in n inner))
line_in n inner Alias = alias_in n inner
line_in n inner (By left.Prod) = left_with n left.Prod (alias_in n inner)
line_in n inner (By left.Sum) = sum_in n inner
line_in n inner (Several join.Cat) = several_with n join.Cat (sum_in n inner)
line_in n inner (By left.Comp) = left_with n left.Comp (several_with n join.Cat (sum_in n inner))
line_in n inner (By left.Member) = member_in n inner
line_in n inner (Several join.And) = several_with n join.And (member_in n inner)
line_in n inner (Several join.Or) = or_in n inner
line_in n inner (Several join.Chain) = several_with n join.Chain (or_in n inner)
line_in n inner Chain = chain_with (several_with n join.Chain (or_in n inner))

-- The tree of a line that is no deeper than n, where the tokens begin with one.
unfoldable pub line_at : ℕ → Line → Reader
line_at zero l ts = None
line_at (suc n) l ts = line_in (suc n) (line_at n) l ts
