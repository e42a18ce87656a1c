-- Each line, given by what has been read, and what is still to come.
use Rattle.std.proofs.Common.{◌≡◌, ◌⊎◌, ℕ, suc, max, true, false, List, [], ◌∷◌, refl, Option, Some, None}
use Rattle.fx_lexer.specs.declared.token.Symbol.TheVariants as symbol
use Rattle.fx_lexer.specs.declared.token.Word.TheVariants as word
use Rattle.fx_core.specs.Tree.{Tree, NamedTree, node, Head, none, more, forest, tree_field_names, field_trees}
use Rattle.fx_core.specs.Tree as tree
use Rattle.fx_grammar.specs.declared.item.Item.{Item}
use Rattle.fx_grammar.specs.declared.item.Meaning.{Meaning}
use Rattle.fx_grammar.specs.declared.item.Meaning.TheVariants as m
use Rattle.fx_grammar.specs.declared.line.Join.TheVariants as join
use Rattle.fx_grammar.specs.declared.line.Separator.TheVariants.{Comma}
use Rattle.fx_grammar.specs.declared.line.Line.TheVariants.{Chain, Several, Alias, Prefix, Percent, Access, Atom}
use Rattle.fx_grammar.specs.Grammar.{sign, atom_head, callee, plain, no_alias, no_sign, signed, base, raised, no_percent, no_dot, leaf, alone, SomeFields, Strands}
use Rattle.fx_parser.specs.declared.state.Whole.{Whole}
use Rattle.fx_parser.specs.declared.state.Whole.TheVariants as whole
use Rattle.fx_parser.specs.declared.state.Frame.{Frame}
use Rattle.fx_parser.specs.declared.state.Frame.TheVariants as frame
use Rattle.fx_parser.specs.declared.state.State.{State}
use Rattle.fx_parser.specs.declared.state.State.TheVariants as state
use Rattle.fx_parser.specs.declared.state.Begin.{Begin}
use Rattle.fx_parser.specs.declared.state.Begin.TheVariants as begin
use Rattle.fx_parser.specs.declared.state.Follow.{Follow}
use Rattle.fx_parser.specs.declared.state.Follow.TheVariants as follow
use Rattle.fx_parser.specs.declared.state.Move.{Move}
use Rattle.fx_parser.specs.declared.state.Move.TheVariants.{Stay, Push, Pop, Stop}
use Rattle.fx_parser.specs.Machine.{begin_of, follow_of, semicolon, top, outer}
use Rattle.fx_parser.specs.Trees.{HasFormula, HasEntries}
use Rattle.fx_parser.proofs.RecognizedLines.{Has, HasParts, Onto, onto_parts, up_chain, up_several, to_or, to_series}

-- what stands in a bracket, or in the whole
pub data Room : Type 0 where
  chain_room : Room
  args_room : Room
  or_room : Room

abbrev pub Content : Room → List Item → List Item → Type 0
Content chain_room ts rest = Has Chain ts rest
Content args_room ts rest = HasParts Comma ts rest
Content or_room ts rest = Has (Several join.Or) ts rest

abbrev pub room_in : Option Frame → Whole → Room
room_in None whole.Formula = chain_room
room_in None whole.Named = or_room
room_in (Some frame.Group) w = chain_room
room_in (Some frame.Call) w = args_room
room_in (Some frame.List) w = args_room
room_in (Some frame.Record) w = or_room
room_in (Some frame.Island) w = chain_room

abbrev pub HasFields : List Item → List Item → Type 0
HasFields ts rest = (d : ℕ) × (gs : List NamedTree) × SomeFields d ts gs rest

abbrev pub HasStrands : List Item → List Item → Type 0
HasStrands ts rest = (d : ℕ) × (ps : List Tree) × Strands d ts ps rest

-- ts fills the room, up to where E holds
abbrev pub Filling : Room → (List Item → Type 0) → List Item → Type 0
Filling r E ts = (rest : List Item) × Content r ts rest × E rest

-- so does all that goes on with ts behind an access
abbrev pub Behind : Room → (List Item → Type 0) → List Item → Type 0
Behind r E ts = (t0 : List Item) → Has Access t0 ts → Filling r E t0

abbrev pub Labels : Room → (List Item → Type 0) → List Item → Type 0
Labels r E ts = (y : Item) × (u : List Item) × HasFields ts (y ∷ u) × (y.meaning ≡ m.Symbol symbol.CloseBrace) × Behind r E u

abbrev pub Weaving : Room → (List Item → Type 0) → List Item → Type 0
Weaving r E ts = (y : Item) × (u : List Item) × HasStrands ts (y ∷ u) × (y.meaning ≡ m.Closing) × Behind r E u

-- what stands behind the contents of an open bracket
abbrev pub Exit : Frame → Room → (List Item → Type 0) → List Item → Type 0
Exit f r E [] = ⊥
Exit frame.Group r E (y ∷ u) = (y.meaning ≡ m.Symbol symbol.CloseParen) × Behind r E u
Exit frame.Call r E (y ∷ u) = (y.meaning ≡ m.Symbol symbol.CloseParen) × Behind r E u
Exit frame.List r E (y ∷ u) = (y.meaning ≡ m.Symbol symbol.CloseBracket) × Behind r E u
Exit frame.Record r E (y ∷ u) = ((y.meaning ≡ m.Symbol symbol.CloseBrace) × Behind r E u) ⊎ ((y.meaning ≡ m.Symbol symbol.Comma) × Labels r E u)
Exit frame.Island r E (y ∷ u) = (y.meaning ≡ m.Symbol symbol.CloseBrace) × Weaving r E u

-- what stands behind the whole, or behind a named formula
abbrev pub End : Whole → List Item → Type 0
End w [] = Unit {0}
End whole.Formula (y ∷ u) = ⊥
End whole.Named (y ∷ u) = (y.meaning ≡ m.Symbol symbol.Semicolon) × HasEntries u

abbrev pub Exits : Whole → List Frame → List Item → Type 0
Exits w [] = End w
Exits w (f ∷ fs) = Exit f (room_in (top fs) w) (Exits w fs)

abbrev pub Fills : Whole → List Frame → List Item → Type 0
Fills w fs = Filling (room_in (top fs) w) (Exits w fs)

abbrev pub Emptied : Whole → List Frame → List Item → Type 0
Emptied w (frame.Call ∷ fs) (y ∷ u) = (y.meaning ≡ m.Symbol symbol.CloseParen) × Behind (room_in (top fs) w) (Exits w fs) u
Emptied w (frame.List ∷ fs) (y ∷ u) = (y.meaning ≡ m.Symbol symbol.CloseBracket) × Behind (room_in (top fs) w) (Exits w fs) u
Emptied w _ _ = ⊥

abbrev pub Begun : Whole → List Frame → List Item → Type 0
Begun whole.Formula [] ts = HasFormula ts
Begun _ _ ts = Unit {0}

abbrev pub Entered : Whole → List Frame → List Item → Type 0
Entered whole.Named [] ts = HasEntries ts
Entered _ _ ts = Unit {0}

-- what the tokens to come make of those that have been read
abbrev pub Wants : Whole → State → List Frame → List Item → Type 0
Wants w state.Start fs ts = Begun w fs ts
Wants w state.Operand fs ts = Fills w fs ts
Wants w state.OperandOrClose fs ts = Fills w fs ts ⊎ Emptied w fs ts
Wants w state.OperandOrEnd fs ts = semicolon w (top fs) ≡ Stay state.OperandOrEnd → (t0 : List Item) (x : Item) → x.meaning ≡ m.Symbol symbol.Semicolon → Has (Several join.Chain) t0 (x ∷ ts) → Fills w fs t0
Wants w state.AfterName fs ts = (x : Item) (cs : List ℕ) → x.meaning ≡ m.Name cs → Fills w fs (x ∷ ts)
Wants w state.AfterCallee fs ts = (x : Item) (h : Head) → callee x.meaning ≡ Some h → Fills w fs (x ∷ ts)
Wants w state.AfterAccess fs ts = (t0 : List Item) → Has Access t0 ts → Fills w fs t0
Wants w state.AfterPercent fs ts = (t0 : List Item) → Has Percent t0 ts → Fills w fs t0
Wants w state.AfterAlias fs ts = (t0 : List Item) → Has Alias t0 ts → Fills w fs t0
Wants w state.FieldName fs ts = (t0 : List Item) (x : Item) → x.meaning ≡ m.Symbol symbol.Dot → Has Access t0 (x ∷ ts) → Fills w fs t0
Wants w state.AliasName fs ts = (t0 : List Item) (x : Item) → x.meaning ≡ m.Word word.As → Has Prefix t0 (x ∷ ts) → Fills w fs t0
Wants w state.GlobalName fs ts = (x : Item) → x.meaning ≡ m.Symbol symbol.OpenBracketAt → Fills w fs (x ∷ ts)
Wants w state.GlobalClose fs ts = (x y : Item) (cs : List ℕ) → x.meaning ≡ m.Symbol symbol.OpenBracketAt → y.meaning ≡ m.Name cs → Fills w fs (x ∷ y ∷ ts)
Wants w state.FirstLabel fs ts = (x : Item) → x.meaning ≡ m.Symbol symbol.OpenBrace → Fills w fs (x ∷ ts)
Wants w state.Label fs ts = Labels (room_in (top fs) w) (Exits w fs) ts
Wants w state.Colon fs ts = (x : Item) (cs : List ℕ) → x.meaning ≡ m.Name cs → Labels (room_in (top fs) w) (Exits w fs) (x ∷ ts)
Wants w state.Strand fs ts = Weaving (room_in (top fs) w) (Exits w fs) ts
Wants w state.Entry fs ts = Entered w fs ts
Wants w state.EntryEqual fs ts = (x : Item) (cs : List ℕ) → x.meaning ≡ m.Name cs → Entered w fs (x ∷ ts)

-- what a step leads to
abbrev pub Led : Whole → List Frame → List Item → Move → Type 0
Led w fs us (Stay s) = Wants w s fs us
Led w fs us (Push f s) = Wants w s (f ∷ fs) us
Led w fs us (Pop s) = Wants w s (outer fs) us
Led w fs us Stop = ⊥

-- tokens by what they are
abbrev pub Begins : Begin → Meaning → Type 0
Begins begin.Leaf k = (h : Head) × (atom_head k ≡ Some h)
Begins begin.Name k = (cs : List ℕ) × (k ≡ m.Name cs)
Begins begin.Callee k = (h : Head) × (callee k ≡ Some h)
Begins begin.Sign k = (h : Head) × (sign k ≡ Some h)
Begins begin.Group k = k ≡ m.Symbol symbol.OpenParen
Begins begin.List k = k ≡ m.Symbol symbol.OpenBracket
Begins begin.Global k = k ≡ m.Symbol symbol.OpenBracketAt
Begins begin.Record k = k ≡ m.Symbol symbol.OpenBrace
Begins begin.Weave k = k ≡ m.Opening
Begins begin.Nothing k = Unit {0}

pub begin_is : (k : Meaning) → Begins (begin_of k) k
begin_is (m.Number z) = (tree.num z, refl)
begin_is (m.Text cs) = (tree.text cs, refl)
begin_is (m.Word word.True) = (tree.truth true, refl)
begin_is (m.Word word.False) = (tree.truth false, refl)
begin_is (m.Name cs) = (cs, refl)
begin_is (m.Word word.And) = (tree.all, refl)
begin_is (m.Word word.Or) = (tree.any, refl)
begin_is (m.Word word.Not) = (tree.opposite, refl)
begin_is (m.Symbol symbol.Minus) = (tree.neg, refl)
begin_is (m.Symbol symbol.Bang) = (tree.opposite, refl)
begin_is (m.Symbol symbol.OpenParen) = refl
begin_is (m.Symbol symbol.OpenBracket) = refl
begin_is (m.Symbol symbol.OpenBracketAt) = refl
begin_is (m.Symbol symbol.OpenBrace) = refl
begin_is m.Opening = refl
begin_is _ = tt

abbrev pub Follows : Follow → Meaning → Type 0
Follows follow.Call k = k ≡ m.Symbol symbol.OpenParen
Follows follow.Dot k = k ≡ m.Symbol symbol.Dot
Follows follow.Percent k = k ≡ m.Symbol symbol.Percent
Follows follow.Caret k = k ≡ m.Symbol symbol.Caret
Follows follow.As k = k ≡ m.Word word.As
Follows follow.Operator k = follow_of k ≡ follow.Operator
Follows follow.Semicolon k = k ≡ m.Symbol symbol.Semicolon
Follows follow.Comma k = k ≡ m.Symbol symbol.Comma
Follows follow.CloseParen k = k ≡ m.Symbol symbol.CloseParen
Follows follow.CloseBracket k = k ≡ m.Symbol symbol.CloseBracket
Follows follow.CloseBrace k = k ≡ m.Symbol symbol.CloseBrace
Follows follow.Nothing k = Unit {0}

pub follow_is : (k : Meaning) → Follows (follow_of k) k
follow_is (m.Symbol symbol.OpenParen) = refl
follow_is (m.Symbol symbol.Dot) = refl
follow_is (m.Symbol symbol.Percent) = refl
follow_is (m.Symbol symbol.Caret) = refl
follow_is (m.Symbol symbol.Semicolon) = refl
follow_is (m.Symbol symbol.Comma) = refl
follow_is (m.Symbol symbol.CloseParen) = refl
follow_is (m.Symbol symbol.CloseBracket) = refl
follow_is (m.Symbol symbol.CloseBrace) = refl
follow_is (m.Symbol symbol.Plus) = refl
follow_is (m.Symbol symbol.Minus) = refl
follow_is (m.Symbol symbol.Star) = refl
follow_is (m.Symbol symbol.Slash) = refl
follow_is (m.Symbol symbol.Ampersand) = refl
follow_is (m.Symbol symbol.DoubleAmpersand) = refl
follow_is (m.Symbol symbol.DoubleBar) = refl
follow_is (m.Symbol symbol.Equal) = refl
follow_is (m.Symbol symbol.NotEqual) = refl
follow_is (m.Symbol symbol.Less) = refl
follow_is (m.Symbol symbol.LessEqual) = refl
follow_is (m.Symbol symbol.Greater) = refl
follow_is (m.Symbol symbol.GreaterEqual) = refl
follow_is (m.Word word.As) = refl
follow_is (m.Word word.And) = refl
follow_is (m.Word word.Or) = refl
follow_is (m.Word word.In) = refl
follow_is (m.Word word.ExactIn) = refl
follow_is _ = tt

-- the contents of a room
pub content_onto : (r : Room) (us ts rest : List Item) → Onto (Several join.Or) us ts → Content r us rest → Content r ts rest
content_onto chain_room us ts rest f h = up_chain us ts (up_several join.Chain us ts f) rest h
content_onto args_room us ts rest f h = onto_parts h.2 ts (up_chain us ts (up_several join.Chain us ts f))
content_onto or_room us ts rest f h = f rest h

pub filling_onto : (r : Room) (E : List Item → Type 0) (us ts : List Item) → Onto (Several join.Or) us ts → Filling r E us → Filling r E ts
filling_onto r E us ts f h = (h.0, content_onto r us ts h.0 f h.1, h.2)

pub as_chain : (ts rest : List Item) → Has (Several join.Chain) ts rest → Has Chain ts rest
as_chain ts rest h = (h.0, h.1, plain h.0 ts h.1 rest h.2)

pub as_parts : (ts rest : List Item) → Has Chain ts rest → HasParts Comma ts rest
as_parts ts rest h = (h.0, h.1 ∷ [], alone Comma h.0 ts h.1 rest h.2)

pub content_of : (r : Room) (ts rest : List Item) → Has Alias ts rest → Content r ts rest
content_of chain_room ts rest h = as_chain ts rest (to_series ts rest h)
content_of args_room ts rest h = as_parts ts rest (as_chain ts rest (to_series ts rest h))
content_of or_room ts rest h = to_or ts rest h

-- tighter lines in looser ones
pub access_percent : (ts rest : List Item) → Has Access ts rest → Has Percent ts rest
access_percent ts rest h = (h.0, h.1, no_percent h.0 ts h.1 rest h.2)

pub percent_prefix : (ts rest : List Item) → Has Percent ts rest → Has Prefix ts rest
percent_prefix ts rest h = (h.0, h.1, no_sign h.0 ts h.1 rest (base h.0 ts h.1 rest h.2))

pub prefix_alias : (ts rest : List Item) → Has Prefix ts rest → Has Alias ts rest
prefix_alias ts rest h = (h.0, h.1, no_alias h.0 ts h.1 rest h.2)

pub percent_alias : (ts rest : List Item) → Has Percent ts rest → Has Alias ts rest
percent_alias ts rest h = prefix_alias ts rest (percent_prefix ts rest h)

pub atom_access : (ts rest : List Item) → Has Atom ts rest → Has Access ts rest
atom_access ts rest h = (h.0, h.1, no_dot h.0 ts h.1 rest h.2)

pub leaf_access : (x : Item) (h : Head) (rest : List Item) → atom_head x.meaning ≡ Some h → Has Access (x ∷ rest) rest
leaf_access x h rest e = atom_access (x ∷ rest) rest (1, _, leaf x h rest e)

-- a prefix with a sign, and one that raises
pub sign_onto : (x : Item) (h : Head) (us : List Item) → sign x.meaning ≡ Some h → Onto Prefix us (x ∷ us)
sign_onto x h us e mid p = (suc p.0, _, signed p.0 x h us p.1 mid e p.2)

pub caret_onto : (x : Item) (us ts : List Item) → x.meaning ≡ m.Symbol symbol.Caret → Has Percent ts (x ∷ us) → Onto Prefix us ts
caret_onto x us ts e b mid p = (suc (max b.0 p.0), _, no_sign (suc (max b.0 p.0)) ts _ mid (raised b.0 p.0 ts b.1 x us p.1 mid b.2 e p.2))
