-- What is accepted has a tree.
use Rattle.std.proofs.Common.{◌≡◌, ◌⊎◌, inl, inr, ℕ, suc, max, true, false, List, [], ◌∷◌, ◌++◌, refl, ap, sym, subst, Option, Some, None}
use Rattle.fx_lexer.specs.declared.token.Symbol.TheVariants as symbol
use Rattle.fx_core.specs.Tree.{Tree, NamedTree, node, Head, none, more, forest, tree_field_names, field_trees}
use Rattle.fx_core.specs.Tree as tree
use Rattle.fx_grammar.specs.declared.item.Item.{Item}
use Rattle.fx_grammar.specs.declared.item.Meaning.{Meaning}
use Rattle.fx_grammar.specs.declared.item.Meaning.TheVariants as m
use Rattle.fx_grammar.specs.declared.line.Join.TheVariants as join
use Rattle.fx_grammar.specs.declared.line.Separator.TheVariants.{Between, Comma}
use Rattle.fx_grammar.specs.declared.line.Line.TheVariants.{Chain, Several, Alias, Percent, Access}
use Rattle.fx_grammar.specs.Grammar.{field_name, separates, atom_head, callee, Parses, ended, aliased, percent, dotted, a_global, a_call, brackets, a_record, a_list, a_weave, no_args, some_args, field, SomeFields, one_field, further_field, no_fields, some_fields, Strands, no_strands, piece, island}
use Rattle.fx_grammar.specs.Grammar.{bare, marked}
use Rattle.fx_grammar.specs.Formulas.{no_entries, last_entry, further_entry}
use Rattle.fx_parser.specs.declared.state.Whole.{Whole}
use Rattle.fx_parser.specs.declared.state.Whole.TheVariants as whole
use Rattle.fx_parser.specs.declared.state.Frame.{Frame}
use Rattle.fx_parser.specs.declared.state.Frame.TheVariants as frame
use Rattle.fx_parser.specs.declared.state.State.{State}
use Rattle.fx_parser.specs.declared.state.State.TheVariants as state
use Rattle.fx_parser.specs.declared.state.Begin.{Begin}
use Rattle.fx_parser.specs.declared.state.Begin.TheVariants as begin
use Rattle.fx_parser.specs.declared.state.Follow.{Follow}
use Rattle.fx_parser.specs.declared.state.Follow.TheVariants as follow
use Rattle.fx_parser.specs.declared.state.Move.{Move}
use Rattle.fx_parser.specs.declared.state.Move.TheVariants.{Stay, Push, Pop, Stop}
use Rattle.fx_parser.specs.Machine.{begin_of, follow_of, or_move, operand, emptied, closed, semicolon, behind_alias, behind_percent, behind_access, behind_name, follow_move, name_then, bracket_then, brace_then, equal_then, colon, strand, turn, top, outer, may_end, ends}
use Rattle.fx_parser.specs.Trees.{HasFormula, HasEntries}
use Rattle.fx_parser.proofs.Complete.{Ends, Goes}
use Rattle.fx_parser.proofs.RecognizedLines.{Has, HasParts, Onto, onto_parts, more_parts, up_chain, prefix_up, to_or, to_series, more_several, operator_onto}
use Rattle.fx_parser.proofs.Suffix.{Suffix, suffix}
use Rattle.fx_parser.proofs.Wants.{Room, Content, room_in, HasFields, HasStrands, Filling, Behind, Labels, Weaving, Exit, End, Exits, Fills, Emptied, Begun, Entered, Wants, Led, Begins, begin_is, Follows, follow_is, filling_onto, as_parts, content_of, access_percent, percent_prefix, percent_alias, atom_access, leaf_access, sign_onto, caret_onto}

no : false ≡ true → ⊥
no e = cc

-- brackets, calls and lists
group_by : (r : Room) (E : List Item → Type 0) (x : Item) (us rest : List Item) → x.meaning ≡ m.Symbol symbol.OpenParen → Has Chain us rest → Exit frame.Group r E rest → Filling r E (x ∷ us)
group_by r E x us [] e h g = absurd g
group_by r E x us (y ∷ u) e h g = g.1 (x ∷ us) (atom_access (x ∷ us) u (suc h.0, h.1, brackets h.0 x us h.1 y u e h.2 g.0))

list_by : (r : Room) (E : List Item → Type 0) (x : Item) (us rest : List Item) → x.meaning ≡ m.Symbol symbol.OpenBracket → HasParts Comma us rest → Exit frame.List r E rest → Filling r E (x ∷ us)
list_by r E x us [] e h g = absurd g
list_by r E x us (y ∷ u) e h g = g.1 (x ∷ us) (atom_access (x ∷ us) u (suc h.0, _, a_list h.0 x us h.1 y u e (some_args h.0 us h.1 (y ∷ u) h.2) g.0))

list_ok : (w : Whole) (fs : List Frame) (x : Item) (us : List Item) → x.meaning ≡ m.Symbol symbol.OpenBracket → Fills w (frame.List ∷ fs) us ⊎ Emptied w (frame.List ∷ fs) us → Fills w fs (x ∷ us)
list_ok w fs x us e (inl g) = list_by _ _ x us g.0 e g.1 g.2
list_ok w fs x [] e (inr g) = absurd g
list_ok w fs x (y ∷ u) e (inr g) = g.1 (x ∷ y ∷ u) (atom_access (x ∷ y ∷ u) u (1, _, a_list 0 x (y ∷ u) [] y u e (no_args (y ∷ u)) g.0))

call_by : (r : Room) (E : List Item → Type 0) (y : Item) (h : Head) (x : Item) (us rest : List Item) → callee y.meaning ≡ Some h → x.meaning ≡ m.Symbol symbol.OpenParen → HasParts Comma us rest → Exit frame.Call r E rest → Filling r E (y ∷ x ∷ us)
call_by r E y h x us [] f e p g = absurd g
call_by r E y h x us (z ∷ u) f e p g = g.1 (y ∷ x ∷ us) (atom_access (y ∷ x ∷ us) u (suc p.0, _, a_call p.0 y x h us p.1 z u f e (some_args p.0 us p.1 (z ∷ u) p.2) g.0))

call_ok : (w : Whole) (fs : List Frame) (y : Item) (h : Head) (x : Item) (us : List Item) → callee y.meaning ≡ Some h → x.meaning ≡ m.Symbol symbol.OpenParen → Fills w (frame.Call ∷ fs) us ⊎ Emptied w (frame.Call ∷ fs) us → Fills w fs (y ∷ x ∷ us)
call_ok w fs y h x us f e (inl g) = call_by _ _ y h x us g.0 f e g.1 g.2
call_ok w fs y h x [] f e (inr g) = absurd g
call_ok w fs y h x (z ∷ u) f e (inr g) = g.1 (y ∷ x ∷ z ∷ u) (atom_access (y ∷ x ∷ z ∷ u) u (1, _, a_call 0 y x h (z ∷ u) [] z u f e (no_args (z ∷ u)) g.0))

weave_ok : (r : Room) (E : List Item → Type 0) (x : Item) (us : List Item) → x.meaning ≡ m.Opening → Weaving r E us → Filling r E (x ∷ us)
weave_ok r E x us e (y, u, h, f, g) = g (x ∷ us) (atom_access (x ∷ us) u (suc h.0, _, a_weave h.0 x us h.1 y u e h.2 f))

operand_by : (w : Whole) (fs : List Frame) (x : Item) (us : List Item) (b : Begin) → Begins b x.meaning → Led w fs us (operand b) → Fills w fs (x ∷ us)
operand_by w fs x us begin.Leaf e g = g (x ∷ us) (leaf_access x e.0 us e.1)
operand_by w fs x us begin.Name e g = g x e.0 e.1
operand_by w fs x us begin.Callee e g = g x e.0 e.1
operand_by w fs x us begin.Sign e g = filling_onto _ _ us (x ∷ us) (prefix_up us (x ∷ us) (sign_onto x e.0 us e.1)) g
operand_by w fs x us begin.Group e g = group_by _ _ x us g.0 e g.1 g.2
operand_by w fs x us begin.List e g = list_ok w fs x us e g
operand_by w fs x us begin.Global e g = g x e
operand_by w fs x us begin.Record e g = g x e
operand_by w fs x us begin.Weave e g = weave_ok _ _ x us e g
operand_by w fs x us begin.Nothing e g = absurd g

operand_ok : (w : Whole) (fs : List Frame) (x : Item) (us : List Item) → Led w fs us (operand (begin_of x.meaning)) → Fills w fs (x ∷ us)
operand_ok w fs x us g = operand_by w fs x us (begin_of x.meaning) (begin_is x.meaning) g

-- which of two steps was made, and at which token
either : (w : Whole) (fs : List Frame) (us : List Item) (k n : Move) → Led w fs us (or_move k n) → Led w fs us k ⊎ Led w fs us n
either w fs us Stop n g = inr g
either w fs us (Stay s) n g = inl g
either w fs us (Push f s) n g = inl g
either w fs us (Pop s) n g = inl g

name_from : (w : Whole) (fs : List Frame) (us : List Item) (s : State) (b : Begin) (k : Meaning) → Begins b k → Led w fs us (name_then b s) → (cs : List ℕ) × (k ≡ m.Name cs) × Wants w s fs us
name_from w fs us s begin.Name k e g = (e.0, e.1, g)
name_from w fs us s _ k e g = absurd g

name_at : (w : Whole) (fs : List Frame) (us : List Item) (s : State) (x : Item) → Led w fs us (name_then (begin_of x.meaning) s) → (cs : List ℕ) × (x.meaning ≡ m.Name cs) × Wants w s fs us
name_at w fs us s x g = name_from w fs us s (begin_of x.meaning) x.meaning (begin_is x.meaning) g

bracket_from : (w : Whole) (fs : List Frame) (us : List Item) (s : State) (f : Follow) (k : Meaning) → Follows f k → Led w fs us (bracket_then f s) → (k ≡ m.Symbol symbol.CloseBracket) × Wants w s fs us
bracket_from w fs us s follow.CloseBracket k e g = (e, g)
bracket_from w fs us s _ k e g = absurd g

brace_from : (w : Whole) (fs : List Frame) (us : List Item) (s : State) (f : Follow) (k : Meaning) → Follows f k → Led w fs us (brace_then f s) → (k ≡ m.Symbol symbol.CloseBrace) × Wants w s fs us
brace_from w fs us s follow.CloseBrace k e g = (e, g)
brace_from w fs us s _ k e g = absurd g

called_from : (w : Whole) (fs : List Frame) (us : List Item) (f : Follow) (k : Meaning) → Follows f k → Led w fs us (follow_move f) → (k ≡ m.Symbol symbol.OpenParen) × (Fills w (frame.Call ∷ fs) us ⊎ Emptied w (frame.Call ∷ fs) us)
called_from w fs us follow.Call k e g = (e, g)
called_from w fs us _ k e g = absurd g

equal_from : (w : Whole) (fs : List Frame) (us : List Item) (s : State) (k : Meaning) → Led w fs us (equal_then k s) → (k ≡ m.Symbol symbol.Equal) × Wants w s fs us
equal_from w fs us s (m.Symbol symbol.Equal) g = (refl, g)
equal_from w fs us s _ g = absurd g

colon_from : (w : Whole) (fs : List Frame) (us : List Item) (k : Meaning) → Led w fs us (colon k) → (k ≡ m.Symbol symbol.Colon) × Fills w (frame.Record ∷ fs) us
colon_from w fs us (m.Symbol symbol.Colon) g = (refl, g)
colon_from w fs us _ g = absurd g

emptied_by : (w : Whole) (f : Follow) (fs : List Frame) (x : Item) (us : List Item) → Follows f x.meaning → Led w fs us (emptied f (top fs)) → Emptied w fs (x ∷ us)
emptied_by w follow.CloseParen (frame.Call ∷ fs) x us e g = (e, g)
emptied_by w follow.CloseBracket (frame.List ∷ fs) x us e g = (e, g)
emptied_by w _ _ x us e g = absurd g

-- a closing bracket or a comma behind the contents of a room
comma_ok : (ts us rest : List Item) (x : Item) → x.meaning ≡ m.Symbol symbol.Comma → HasParts Comma ts (x ∷ us) → HasParts Comma us rest → HasParts Comma ts rest
comma_ok ts us rest x e c h = more_parts h.2 ts x (ap (separates Comma) e) c

closed_ok : (w : Whole) (f : Follow) (fs : List Frame) (x : Item) (us ts : List Item) → Follows f x.meaning → Led w fs us (closed f (top fs)) → Content (room_in (top fs) w) ts (x ∷ us) → Fills w fs ts
closed_ok w follow.CloseParen (frame.Group ∷ fs) x us ts e g c = (x ∷ us, c, (e, g))
closed_ok w follow.CloseParen (frame.Call ∷ fs) x us ts e g c = (x ∷ us, c, (e, g))
closed_ok w follow.CloseBracket (frame.List ∷ fs) x us ts e g c = (x ∷ us, c, (e, g))
closed_ok w follow.CloseBrace (frame.Record ∷ fs) x us ts e g c = (x ∷ us, c, inl (e, g))
closed_ok w follow.CloseBrace (frame.Island ∷ fs) x us ts e g c = (x ∷ us, c, (e, g))
closed_ok w follow.Comma (frame.Call ∷ fs) x us ts e g c = (g.0, comma_ok ts us g.0 x e c g.1, g.2)
closed_ok w follow.Comma (frame.List ∷ fs) x us ts e g c = (g.0, comma_ok ts us g.0 x e c g.1, g.2)
closed_ok w follow.Comma (frame.Record ∷ fs) x us ts e g c = (x ∷ us, c, inr (e, g))
closed_ok w _ _ x us ts e g c = absurd g

semicolon_ok : (w : Whole) (fs : List Frame) (x : Item) (us ts : List Item) → x.meaning ≡ m.Symbol symbol.Semicolon → Led w fs us (semicolon w (top fs)) → Has Alias ts (x ∷ us) → Fills w fs ts
semicolon_ok whole.Formula [] x us ts e g h = g refl ts x e (to_series ts (x ∷ us) h)
semicolon_ok whole.Named [] x us ts e g h = (x ∷ us, to_or ts (x ∷ us) h, (e, g))
semicolon_ok w (frame.Group ∷ fs) x us ts e g h = g refl ts x e (to_series ts (x ∷ us) h)
semicolon_ok w (frame.Call ∷ fs) x us ts e g h = g refl ts x e (to_series ts (x ∷ us) h)
semicolon_ok w (frame.List ∷ fs) x us ts e g h = g refl ts x e (to_series ts (x ∷ us) h)
semicolon_ok w (frame.Record ∷ fs) x us ts e g h = absurd g
semicolon_ok w (frame.Island ∷ fs) x us ts e g h = g refl ts x e (to_series ts (x ∷ us) h)

-- behind an operand
alias_by : (w : Whole) (fs : List Frame) (x : Item) (us : List Item) (f : Follow) → Follows f x.meaning → Led w fs us (behind_alias w (top fs) f) → (ts : List Item) → Has Alias ts (x ∷ us) → Fills w fs ts
alias_by w fs x us follow.Operator e g ts h = filling_onto _ _ us ts (operator_onto us ts x e h) g
alias_by w fs x us follow.Semicolon e g ts h = semicolon_ok w fs x us ts e g h
alias_by w fs x us f e g ts h = closed_ok w f fs x us ts e g (content_of _ ts (x ∷ us) h)

percent_by : (w : Whole) (fs : List Frame) (x : Item) (us : List Item) (f : Follow) → Follows f x.meaning → Led w fs us (behind_percent w (top fs) f) → (ts : List Item) → Has Percent ts (x ∷ us) → Fills w fs ts
percent_by w fs x us follow.Percent e g ts h = g ts (suc h.0, _, percent h.0 ts h.1 x us h.2 e)
percent_by w fs x us follow.Caret e g ts h = filling_onto _ _ us ts (prefix_up us ts (caret_onto x us ts e h)) g
percent_by w fs x us follow.As e g ts h = g ts x e (percent_prefix ts (x ∷ us) h)
percent_by w fs x us f e g ts h = alias_by w fs x us f e g ts (percent_alias ts (x ∷ us) h)

access_by : (w : Whole) (fs : List Frame) (x : Item) (us : List Item) (f : Follow) → Follows f x.meaning → Led w fs us (behind_access w (top fs) f) → (ts : List Item) → Has Access ts (x ∷ us) → Fills w fs ts
access_by w fs x us follow.Dot e g ts h = g ts x e h
access_by w fs x us f e g ts h = percent_by w fs x us f e g ts (access_percent ts (x ∷ us) h)

name_by : (w : Whole) (fs : List Frame) (x : Item) (us : List Item) (f : Follow) → Follows f x.meaning → Led w fs us (behind_name w (top fs) f) → (y : Item) (cs : List ℕ) → y.meaning ≡ m.Name cs → Fills w fs (y ∷ x ∷ us)
name_by w fs x us follow.Call e g y cs h = call_ok w fs y (tree.call cs) x us (ap callee h) e g
name_by w fs x us f e g y cs h = access_by w fs x us f e g (y ∷ x ∷ us) (leaf_access y (tree.name cs) (x ∷ us) (ap atom_head h))

-- behind a `;`
series_onto : (w : Whole) (o : Option Frame) (us ts rest : List Item) → semicolon w o ≡ Stay state.OperandOrEnd → Onto (Several join.Chain) us ts → Content (room_in o w) us rest → Content (room_in o w) ts rest
series_onto whole.Formula None us ts rest i f h = up_chain us ts f rest h
series_onto whole.Named None us ts rest i f h = cc
series_onto w (Some frame.Group) us ts rest i f h = up_chain us ts f rest h
series_onto w (Some frame.Call) us ts rest i f h = onto_parts h.2 ts (up_chain us ts f)
series_onto w (Some frame.List) us ts rest i f h = onto_parts h.2 ts (up_chain us ts f)
series_onto w (Some frame.Record) us ts rest i f h = cc
series_onto w (Some frame.Island) us ts rest i f h = up_chain us ts f rest h

chain_content : (w : Whole) (o : Option Frame) (ts rest : List Item) → semicolon w o ≡ Stay state.OperandOrEnd → Has Chain ts rest → Content (room_in o w) ts rest
chain_content whole.Formula None ts rest i h = h
chain_content whole.Named None ts rest i h = cc
chain_content w (Some frame.Group) ts rest i h = h
chain_content w (Some frame.Call) ts rest i h = as_parts ts rest h
chain_content w (Some frame.List) ts rest i h = as_parts ts rest h
chain_content w (Some frame.Record) ts rest i h = cc
chain_content w (Some frame.Island) ts rest i h = h

ended_chain : (ts rest : List Item) (x : Item) → x.meaning ≡ m.Symbol symbol.Semicolon → Has (Several join.Chain) ts (x ∷ rest) → Has Chain ts rest
ended_chain ts rest x e h = (h.0, h.1, ended h.0 ts h.1 x rest h.2 e)

end_by : (w : Whole) (fs : List Frame) (x : Item) (us : List Item) → Led w fs us (operand (begin_of x.meaning)) ⊎ Led w fs us (closed (follow_of x.meaning) (top fs)) → Wants w state.OperandOrEnd fs (x ∷ us)
end_by w fs x us (inl g) i ts y e h =
    let k = operand_ok w fs x us g in
    (k.0, series_onto w (top fs) (x ∷ us) ts k.0 i (more_several join.Chain (x ∷ us) ts y (ap (separates (Between join.Chain)) e) h) k.1, k.2)
end_by w fs x us (inr g) i ts y e h = closed_ok w (follow_of x.meaning) fs x us ts (follow_is x.meaning) g (chain_content w (top fs) ts (x ∷ us) i (ended_chain ts (x ∷ us) y e h))

close_by : (w : Whole) (fs : List Frame) (x : Item) (us : List Item) → Led w fs us (operand (begin_of x.meaning)) ⊎ Led w fs us (emptied (follow_of x.meaning) (top fs)) → Wants w state.OperandOrClose fs (x ∷ us)
close_by w fs x us (inl g) = inl (operand_ok w fs x us g)
close_by w fs x us (inr g) = inr (emptied_by w (follow_of x.meaning) fs x us (follow_is x.meaning) g)

-- the beginning
bare_by : (ts rest : List Item) → Has Chain ts rest → End whole.Formula rest → HasFormula ts
bare_by ts [] h g = (h.0, h.1, bare ts h.0 h.1 h.2)
bare_by ts (y ∷ u) h g = absurd g

marked_by : (x : Item) (ts rest : List Item) → x.meaning ≡ m.Symbol symbol.Equal → Has Chain ts rest → End whole.Formula rest → HasFormula (x ∷ ts)
marked_by x ts [] e h g = (h.0, h.1, marked x ts h.0 h.1 e h.2)
marked_by x ts (y ∷ u) e h g = absurd g

start_by : (w : Whole) (fs : List Frame) (x : Item) (us : List Item) → Led w fs us (operand (begin_of x.meaning)) ⊎ Led w fs us (equal_then x.meaning state.Operand) → Begun w fs (x ∷ us)
start_by whole.Formula [] x us (inl g) = let k = operand_ok whole.Formula [] x us g in bare_by (x ∷ us) k.0 k.1 k.2
start_by whole.Formula [] x us (inr g) = let k = equal_from whole.Formula [] us state.Operand x.meaning g in marked_by x us k.1.0 k.0 k.1.1 k.1.2
start_by whole.Formula (f ∷ fs) x us g = tt
start_by whole.Named fs x us g = tt

-- records
record_by : (r : Room) (E : List Item → Type 0) (y : Item) (us : List Item) → y.meaning ≡ m.Symbol symbol.OpenBrace → Labels r E us → Filling r E (y ∷ us)
record_by r E y us e (z, u, h, f, g) = g (y ∷ us) (atom_access (y ∷ us) u (suc h.0, _, a_record h.0 y us h.1 z u e (some_fields h.0 us h.1 (z ∷ u) h.2) f))

empty_record : (r : Room) (E : List Item → Type 0) (y x : Item) (us : List Item) → y.meaning ≡ m.Symbol symbol.OpenBrace → x.meaning ≡ m.Symbol symbol.CloseBrace → Behind r E us → Filling r E (y ∷ x ∷ us)
empty_record r E y x us e f g = g (y ∷ x ∷ us) (atom_access (y ∷ x ∷ us) us (1, _, a_record 0 y (x ∷ us) [] x us e (no_fields (x ∷ us)) f))

first_by : (w : Whole) (fs : List Frame) (x : Item) (us : List Item) → Led w fs us (name_then (begin_of x.meaning) state.Colon) ⊎ Led w fs us (brace_then (follow_of x.meaning) state.AfterAccess) → Wants w state.FirstLabel fs (x ∷ us)
first_by w fs x us (inl g) y e = let k = name_at w fs us state.Colon x g in record_by _ _ y (x ∷ us) e (k.2 x k.0 k.1)
first_by w fs x us (inr g) y e = let k = brace_from w fs us state.AfterAccess (follow_of x.meaning) x.meaning (follow_is x.meaning) g in empty_record _ _ y x us e k.0 k.1

more_fields : {d : ℕ} {us : List Item} {gs : List NamedTree} {rest : List Item} → SomeFields d us gs rest → (ts : List Item) (x : Item) → x.meaning ≡ m.Symbol symbol.Comma → HasFields ts (x ∷ us) → HasFields ts rest
more_fields (one_field d us f rest p) ts x e h = (max h.0 d, _, further_field h.0 d ts h.1 x us f rest h.2 e p)
more_fields (further_field d c us gs y vs f rest p g q) ts x e h = let k = more_fields p ts x e h in (max k.0 c, _, further_field k.0 c ts k.1 y vs f rest k.2 g q)

label_by : (r : Room) (E : List Item → Type 0) (ts rest : List Item) → HasFields ts rest → Exit frame.Record r E rest → Labels r E ts
label_by r E ts [] h g = absurd g
label_by r E ts (z ∷ u) h (inl g) = (z, u, h, g.0, g.1)
label_by r E ts (z ∷ u) h (inr (e, (y, v, k, f, b))) = (y, v, more_fields k.2 ts z e h, f, b)

colon_by : (r : Room) (E : List Item → Type 0) (y : Item) (cs : List ℕ) (x : Item) (us rest : List Item) → y.meaning ≡ m.Name cs → x.meaning ≡ m.Symbol symbol.Colon → Has (Several join.Or) us rest → Exit frame.Record r E rest → Labels r E (y ∷ x ∷ us)
colon_by r E y cs x us rest e f h g = label_by r E (y ∷ x ∷ us) rest (h.0, (field_name y cs, h.1) ∷ [], one_field h.0 (y ∷ x ∷ us) (field_name y cs, h.1) rest (field h.0 y x cs us h.1 rest e f h.2)) g

colon_ok : (w : Whole) (fs : List Frame) (x : Item) (us : List Item) → Led w fs us (colon x.meaning) → Wants w state.Colon fs (x ∷ us)
colon_ok w fs x us g y cs e = let k = colon_from w fs us x.meaning g in colon_by _ _ y cs x us k.1.0 e k.0 k.1.1 k.1.2

-- weaves
more_strands : {d : ℕ} {us : List Item} {ps : List Tree} {rest : List Item} → Strands d us ps rest → (ts : List Item) → HasStrands ts us → HasStrands ts rest
more_strands (no_strands us) ts h = h
more_strands (piece d us ps x cs rest p e) ts h = let k = more_strands p ts h in (max k.0 1, _, piece k.0 ts k.1 x cs rest k.2 e)
more_strands (island d c us ps x vs t y rest p e q f) ts h = let k = more_strands p ts h in (max k.0 c, _, island k.0 c ts k.1 x vs t y rest k.2 e q f)

weaving_by : (r : Room) (E : List Item → Type 0) (ts us : List Item) → HasStrands ts us → Weaving r E us → Weaving r E ts
weaving_by r E ts us h (y, u, k, e, g) = (y, u, more_strands k.2 ts h, e, g)

island_by : (r : Room) (E : List Item → Type 0) (x : Item) (us rest : List Item) → x.meaning ≡ m.Symbol symbol.OpenBrace → Has Chain us rest → Exit frame.Island r E rest → Weaving r E (x ∷ us)
island_by r E x us [] e h g = absurd g
island_by r E x us (y ∷ u) e h g = weaving_by r E (x ∷ us) u (max 0 h.0, _, island 0 h.0 (x ∷ us) [] x us h.1 y u (no_strands (x ∷ us)) e h.2 g.0) g.1

strand_by : (w : Whole) (fs : List Frame) (x : Item) (us : List Item) (k : Meaning) → x.meaning ≡ k → Led w fs us (strand k) → Weaving (room_in (top fs) w) (Exits w fs) (x ∷ us)
strand_by w fs x us (m.Piece cs) e g = weaving_by _ _ (x ∷ us) us (max 0 1, _, piece 0 (x ∷ us) [] x cs us (no_strands (x ∷ us)) e) g
strand_by w fs x us (m.Symbol symbol.OpenBrace) e g = island_by _ _ x us g.0 e g.1 g.2
strand_by w fs x us m.Closing e g = (x, us, (0, [], no_strands (x ∷ us)), e, g)
strand_by w fs x us _ e g = absurd g

-- named formulas
entry_by : (y : Item) (cs : List ℕ) (x : Item) (us rest : List Item) → y.meaning ≡ m.Name cs → x.meaning ≡ m.Symbol symbol.Equal → Has (Several join.Or) us rest → End whole.Named rest → HasEntries (y ∷ x ∷ us)
entry_by y cs x us [] e f h g = (h.0, _, last_entry y x cs us h.0 h.1 e f h.2)
entry_by y cs x us (z ∷ u) e f h g = entry_more (suffix h.2)
  where
    entry_more : Suffix us (z ∷ u) → HasEntries (y ∷ x ∷ us)
    entry_more k =
        let p : Parses (Several join.Or) h.0 (k.front ++ z ∷ u) h.1 (z ∷ u) = subst (λ v. Parses (Several join.Or) h.0 v h.1 (z ∷ u)) k.joined h.2 in
        subst (λ v. HasEntries (y ∷ x ∷ v)) (sym k.joined) (max h.0 g.1.0, _, further_entry y x cs k.front h.0 h.1 z u g.1.0 g.1.1 e f p g.0 g.1.2)

equal_by : (w : Whole) (fs : List Frame) (y : Item) (cs : List ℕ) (x : Item) (us : List Item) → y.meaning ≡ m.Name cs → x.meaning ≡ m.Symbol symbol.Equal → Fills w fs us → Entered w fs (y ∷ x ∷ us)
equal_by whole.Named [] y cs x us e f g = entry_by y cs x us g.0 e f g.1 g.2
equal_by whole.Named (h ∷ fs) y cs x us e f g = tt
equal_by whole.Formula fs y cs x us e f g = tt

-- each step
turn_ok : (w : Whole) (s : State) (fs : List Frame) (x : Item) (us : List Item) → Led w fs us (turn w s (top fs) x.meaning) → Wants w s fs (x ∷ us)
turn_ok w state.Start fs x us g = start_by w fs x us (either w fs us _ _ g)
turn_ok w state.Operand fs x us g = operand_ok w fs x us g
turn_ok w state.OperandOrClose fs x us g = close_by w fs x us (either w fs us _ _ g)
turn_ok w state.OperandOrEnd fs x us g = end_by w fs x us (either w fs us _ _ g)
turn_ok w state.AfterName fs x us g = name_by w fs x us (follow_of x.meaning) (follow_is x.meaning) g
turn_ok w state.AfterCallee fs x us g = λ y h e. let k = called_from w fs us (follow_of x.meaning) x.meaning (follow_is x.meaning) g in call_ok w fs y h x us e k.0 k.1
turn_ok w state.AfterAccess fs x us g = access_by w fs x us (follow_of x.meaning) (follow_is x.meaning) g
turn_ok w state.AfterPercent fs x us g = percent_by w fs x us (follow_of x.meaning) (follow_is x.meaning) g
turn_ok w state.AfterAlias fs x us g = alias_by w fs x us (follow_of x.meaning) (follow_is x.meaning) g
turn_ok w state.FieldName fs x us g = λ ts y e h. let k = name_at w fs us state.AfterAccess x g in k.2 ts (suc h.0, _, dotted h.0 ts h.1 y x k.0 us h.2 e k.1)
turn_ok w state.AliasName fs x us g = λ ts y e h. let k = name_at w fs us state.AfterAlias x g in k.2 ts (suc h.0, _, aliased h.0 ts h.1 y x k.0 us h.2 e k.1)
turn_ok w state.GlobalName fs x us g = λ y e. let k = name_at w fs us state.GlobalClose x g in k.2 y x k.0 e k.1
turn_ok w state.GlobalClose fs x us g = λ y z cs e f. let k = bracket_from w fs us state.AfterAccess (follow_of x.meaning) x.meaning (follow_is x.meaning) g in k.1 (y ∷ z ∷ x ∷ us) (atom_access (y ∷ z ∷ x ∷ us) us (1, _, a_global y z x cs us e f k.0))
turn_ok w state.FirstLabel fs x us g = first_by w fs x us (either w fs us _ _ g)
turn_ok w state.Label fs x us g = let k = name_at w fs us state.Colon x g in k.2 x k.0 k.1
turn_ok w state.Colon fs x us g = colon_ok w fs x us g
turn_ok w state.Strand fs x us g = strand_by w fs x us x.meaning refl g
turn_ok w state.Entry fs x us g = let k = name_at w fs us state.EntryEqual x g in k.2 x k.0 k.1
turn_ok w state.EntryEqual fs x us g = λ y cs e. let k = equal_from w fs us state.Operand x.meaning g in equal_by w fs y cs x us e k.0 k.1

-- the end
alias_end : (w : Whole) (ts : List Item) → Has Alias ts [] → Fills w [] ts
alias_end w ts h = ([], content_of (room_in None w) ts [] h, tt)

end_series : (w : Whole) → may_end w state.OperandOrEnd ≡ true → Wants w state.OperandOrEnd [] []
end_series whole.Formula e i ts x f h = ([], ended_chain ts [] x f h, tt)
end_series whole.Named e i ts x f h = absurd (no e)

end_entries : (w : Whole) → Entered w [] []
end_entries whole.Formula = tt
end_entries whole.Named = (0, [], no_entries)

nothing_left : (w : Whole) (s : State) → may_end w s ≡ true → Wants w s [] []
nothing_left w state.AfterName e = λ x cs f. alias_end w (x ∷ []) (percent_alias (x ∷ []) [] (access_percent (x ∷ []) [] (leaf_access x (tree.name cs) [] (ap atom_head f))))
nothing_left w state.AfterAccess e = λ ts h. alias_end w ts (percent_alias ts [] (access_percent ts [] h))
nothing_left w state.AfterPercent e = λ ts h. alias_end w ts (percent_alias ts [] h)
nothing_left w state.AfterAlias e = λ ts h. alias_end w ts h
nothing_left w state.OperandOrEnd e = end_series w e
nothing_left w state.Entry e = end_entries w
nothing_left w _ e = absurd (no e)

over : (w : Whole) (s : State) (fs : List Frame) → ends w s fs ≡ true → Wants w s fs []
over w s [] e = nothing_left w s e
over w s (f ∷ fs) e = absurd (no e)

led : (w : Whole) (fs : List Frame) (us : List Item) (k : Move) → ((s : State) (gs : List Frame) → Ends w s gs us → Wants w s gs us) → Goes w fs us k → Led w fs us k
led w fs us (Stay s) go h = go s fs h
led w fs us (Push f s) go h = go s (f ∷ fs) h
led w fs us (Pop s) go h = go s (outer fs) h
led w fs us Stop go h = absurd (no h)

pub sound : (w : Whole) (s : State) (fs : List Frame) (ts : List Item) → Ends w s fs ts → Wants w s fs ts
sound w s fs [] h = over w s fs h
sound w s fs (x ∷ us) h = turn_ok w s fs x us (led w fs us (turn w s (top fs) x.meaning) (λ t gs k. sound w t gs us k) h)
