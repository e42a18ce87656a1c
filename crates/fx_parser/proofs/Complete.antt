-- What the grammar gives leads on, and may end.
use Rattle.std.proofs.Common.{◌≡◌, ◌⊎◌, inl, inr, ℕ, true, List, [], ◌∷◌, ◌++◌, refl, ap, ◌∙◌, Some}
use Rattle.fx_lexer.specs.declared.token.Symbol.TheVariants as symbol
use Rattle.fx_lexer.specs.declared.token.Word.TheVariants as word
use Rattle.fx_core.specs.declared.expr.Op.{Op}
use Rattle.fx_core.specs.Tree.{Tree, NamedTree, Head}
use Rattle.fx_grammar.specs.declared.item.Item.{Item}
use Rattle.fx_grammar.specs.declared.item.Meaning.{Meaning}
use Rattle.fx_grammar.specs.declared.item.Meaning.TheVariants as m
use Rattle.fx_grammar.specs.declared.line.Join.{Join}
use Rattle.fx_grammar.specs.declared.line.Join.TheVariants as join
use Rattle.fx_grammar.specs.declared.line.Separator.{Separator}
use Rattle.fx_grammar.specs.declared.line.Separator.TheVariants.{Between, Comma}
use Rattle.fx_grammar.specs.declared.line.Left.{Left}
use Rattle.fx_grammar.specs.declared.line.Left.TheVariants as left
use Rattle.fx_grammar.specs.declared.line.Line.{Line}
use Rattle.fx_grammar.specs.declared.line.Line.TheVariants.{Chain, Several, By, Alias, Prefix, Power, Percent, Access, Atom}
use Rattle.fx_grammar.specs.Grammar.{separates, part_of, operator, operand_line, sign, atom_head, callee, Parses, plain, ended, one, many, first, next, no_alias, aliased, no_sign, signed, base, raised, no_percent, percent, no_dot, dotted, leaf, a_global, a_call, brackets, a_record, a_list, a_weave, Parts, alone, further, Args, no_args, some_args, Field, field, SomeFields, one_field, further_field, Fields, no_fields, some_fields, Strands, no_strands, piece, island}
use Rattle.std.specs.Prelude.{option_and_then}
use Rattle.fx_grammar.specs.Grammar.{IsFormula, bare, marked}
use Rattle.fx_grammar.specs.Formulas.{NamedFormula, AreNamed, no_entries, last_entry, further_entry}
use Rattle.fx_parser.specs.declared.state.Whole.{Whole}
use Rattle.fx_parser.specs.declared.state.Whole.TheVariants as whole
use Rattle.fx_parser.specs.declared.state.Frame.{Frame}
use Rattle.fx_parser.specs.declared.state.Frame.TheVariants as frame
use Rattle.fx_parser.specs.declared.state.State.{State}
use Rattle.fx_parser.specs.declared.state.State.TheVariants as state
use Rattle.fx_parser.specs.declared.state.Begin.{Begin}
use Rattle.fx_parser.specs.declared.state.Begin.TheVariants as begin
use Rattle.fx_parser.specs.declared.state.Follow.{Follow}
use Rattle.fx_parser.specs.declared.state.Follow.TheVariants as follow
use Rattle.fx_parser.specs.declared.state.Move.{Move}
use Rattle.fx_parser.specs.declared.state.Move.TheVariants.{Stay, Stop}
use Rattle.fx_parser.specs.Machine.{begin_of, follow_of, or_move, operand, closed, semicolon, behind_alias, behind_percent, behind_access, behind_name, name_then, turn, top, place_moved, run, ends, accepted}
use Rattle.fx_parser.specs.Trees.{HasFormula, HasEntries}
use Rattle.fx_parser.proofs.RecognizedLines.{IsInner}

-- the tokens lead to where they may end, here and behind a step
abbrev pub Ends : Whole → State → List Frame → List Item → Type 0
Ends w s fs ts = accepted w (run w s fs ts) ≡ true

abbrev pub Goes : Whole → List Frame → List Item → Move → Type 0
Goes w fs us k = accepted w (option_and_then (λ p. run w p.0 p.1 us) (place_moved fs k)) ≡ true

pub via : (w : Whole) (s : State) (fs : List Frame) (x : Item) (us : List Item) (k : Meaning) → x.meaning ≡ k → Goes w fs us (turn w s (top fs) k) → Ends w s fs (x ∷ us)
via w s fs x us k e h = ap (λ k. accepted w (option_and_then (λ p. run w p.0 p.1 us) (place_moved fs (turn w s (top fs) k)))) e ∙ h

begins : (w : Whole) (fs : List Frame) (x : Item) (us : List Item) (b : Begin) → begin_of x.meaning ≡ b → Goes w fs us (operand b) → Ends w state.Operand fs (x ∷ us)
begins w fs x us b e h = ap (λ b. accepted w (option_and_then (λ p. run w p.0 p.1 us) (place_moved fs (operand b)))) e ∙ h

follows : (w : Whole) (fs : List Frame) (x : Item) (us : List Item) (f : Follow) → follow_of x.meaning ≡ f → Goes w fs us (behind_alias w (top fs) f) → Ends w state.AfterAlias fs (x ∷ us)
follows w fs x us f e h = ap (λ f. accepted w (option_and_then (λ p. run w p.0 p.1 us) (place_moved fs (behind_alias w (top fs) f)))) e ∙ h

-- a state that takes more
alias_percent : (w : Whole) (fs : List Frame) (us : List Item) (f : Follow) → Goes w fs us (behind_alias w (top fs) f) → Goes w fs us (behind_percent w (top fs) f)
alias_percent w fs us follow.Percent h = cc
alias_percent w fs us follow.Caret h = cc
alias_percent w fs us follow.As h = cc
alias_percent w fs us _ h = h

percent_access : (w : Whole) (fs : List Frame) (us : List Item) (f : Follow) → Goes w fs us (behind_percent w (top fs) f) → Goes w fs us (behind_access w (top fs) f)
percent_access w fs us follow.Dot h = cc
percent_access w fs us _ h = h

access_name : (w : Whole) (fs : List Frame) (us : List Item) (f : Follow) → Goes w fs us (behind_access w (top fs) f) → Goes w fs us (behind_name w (top fs) f)
access_name w fs us follow.Call h = cc
access_name w fs us _ h = h

else_goes : (w : Whole) (fs : List Frame) (us : List Item) (k n : Move) → Goes w fs us k → Goes w fs us (or_move k n)
else_goes w fs us Stop n h = cc
else_goes w fs us _ n h = h

alias_ends : (w : Whole) (fs : List Frame) → ends w state.AfterAlias fs ≡ true → (ends w state.AfterPercent fs ≡ true) × (ends w state.AfterAccess fs ≡ true) × (ends w state.AfterName fs ≡ true)
alias_ends w [] h = (refl, refl, refl)
alias_ends w (f ∷ fs) h = (h, h, h)

percent_ends : (w : Whole) (fs : List Frame) → ends w state.AfterPercent fs ≡ true → ends w state.AfterAccess fs ≡ true
percent_ends w [] h = refl
percent_ends w (f ∷ fs) h = h

access_ends : (w : Whole) (fs : List Frame) → ends w state.AfterAccess fs ≡ true → ends w state.AfterName fs ≡ true
access_ends w [] h = refl
access_ends w (f ∷ fs) h = h

pub to_percent : (w : Whole) (fs : List Frame) (ts : List Item) → Ends w state.AfterAlias fs ts → Ends w state.AfterPercent fs ts
to_percent w fs [] h = (alias_ends w fs h).0
to_percent w fs (x ∷ us) h = alias_percent w fs us (follow_of x.meaning) h

pub to_access : (w : Whole) (fs : List Frame) (ts : List Item) → Ends w state.AfterPercent fs ts → Ends w state.AfterAccess fs ts
to_access w fs [] h = percent_ends w fs h
to_access w fs (x ∷ us) h = percent_access w fs us (follow_of x.meaning) h

pub to_name : (w : Whole) (fs : List Frame) (ts : List Item) → Ends w state.AfterAccess fs ts → Ends w state.AfterName fs ts
to_name w fs [] h = access_ends w fs h
to_name w fs (x ∷ us) h = access_name w fs us (follow_of x.meaning) h

-- no tokens end before an operand
not_over : (w : Whole) (fs : List Frame) → ends w state.Operand fs ≡ true → ⊥
not_over whole.Formula [] h = cc
not_over whole.Named [] h = cc
not_over w (f ∷ fs) h = cc

not_label : (w : Whole) (fs : List Frame) → ends w state.Label fs ≡ true → ⊥
not_label whole.Formula [] h = cc
not_label whole.Named [] h = cc
not_label w (f ∷ fs) h = cc

pub to_start : (w : Whole) (fs : List Frame) (ts : List Item) → Ends w state.Operand fs ts → Ends w state.Start fs ts
to_start w fs [] h = absurd (not_over w fs h)
to_start w fs (x ∷ us) h = else_goes w fs us (operand (begin_of x.meaning)) _ h

pub to_close : (w : Whole) (fs : List Frame) (ts : List Item) → Ends w state.Operand fs ts → Ends w state.OperandOrClose fs ts
to_close w fs [] h = absurd (not_over w fs h)
to_close w fs (x ∷ us) h = else_goes w fs us (operand (begin_of x.meaning)) _ h

pub to_end : (w : Whole) (fs : List Frame) (ts : List Item) → Ends w state.Operand fs ts → Ends w state.OperandOrEnd fs ts
to_end w fs [] h = absurd (not_over w fs h)
to_end w fs (x ∷ us) h = else_goes w fs us (operand (begin_of x.meaning)) _ h

pub to_first : (w : Whole) (fs : List Frame) (ts : List Item) → Ends w state.Label fs ts → Ends w state.FirstLabel fs ts
to_first w fs [] h = absurd (not_label w fs h)
to_first w fs (x ∷ us) h = else_goes w fs us (name_then (begin_of x.meaning) state.Colon) _ h

-- tokens by what they are
leaf_begins : (k : Meaning) (h : Head) → atom_head k ≡ Some h → (begin_of k ≡ begin.Leaf) ⊎ (begin_of k ≡ begin.Name)
leaf_begins (m.Number z) h e = inl refl
leaf_begins (m.Text cs) h e = inl refl
leaf_begins (m.Name cs) h e = inr refl
leaf_begins (m.Word word.True) h e = inl refl
leaf_begins (m.Word word.False) h e = inl refl
leaf_begins _ h e = cc

callee_begins : (k : Meaning) (h : Head) → callee k ≡ Some h → (begin_of k ≡ begin.Name) ⊎ (begin_of k ≡ begin.Callee)
callee_begins (m.Name cs) h e = inl refl
callee_begins (m.Word word.And) h e = inr refl
callee_begins (m.Word word.Or) h e = inr refl
callee_begins _ h e = cc

sign_begins : (k : Meaning) (h : Head) → sign k ≡ Some h → begin_of k ≡ begin.Sign
sign_begins (m.Symbol symbol.Minus) h e = refl
sign_begins (m.Symbol symbol.Bang) h e = refl
sign_begins (m.Word word.Not) h e = refl
sign_begins _ h e = cc

operator_follows : (l : Left) (k : Meaning) (o : Op) → operator l k ≡ Some o → follow_of k ≡ follow.Operator
operator_follows left.Member (m.Word word.In) o e = refl
operator_follows left.Member (m.Word word.ExactIn) o e = refl
operator_follows left.Comp (m.Symbol symbol.Equal) o e = refl
operator_follows left.Comp (m.Symbol symbol.NotEqual) o e = refl
operator_follows left.Comp (m.Symbol symbol.Less) o e = refl
operator_follows left.Comp (m.Symbol symbol.LessEqual) o e = refl
operator_follows left.Comp (m.Symbol symbol.Greater) o e = refl
operator_follows left.Comp (m.Symbol symbol.GreaterEqual) o e = refl
operator_follows left.Sum (m.Symbol symbol.Plus) o e = refl
operator_follows left.Sum (m.Symbol symbol.Minus) o e = refl
operator_follows left.Prod (m.Symbol symbol.Star) o e = refl
operator_follows left.Prod (m.Symbol symbol.Slash) o e = refl
operator_follows _ _ o e = cc

joins : (j : Join) (k : Meaning) → IsInner j → separates (Between j) k ≡ true → follow_of k ≡ follow.Operator
joins join.Chain k i e = absurd i
joins join.Or (m.Symbol symbol.DoubleBar) i e = refl
joins join.Or (m.Word word.Or) i e = refl
joins join.And (m.Symbol symbol.DoubleAmpersand) i e = refl
joins join.And (m.Word word.And) i e = refl
joins join.Cat (m.Symbol symbol.Ampersand) i e = refl
joins _ _ i e = cc

is_semicolon : (k : Meaning) → separates (Between join.Chain) k ≡ true → k ≡ m.Symbol symbol.Semicolon
is_semicolon (m.Symbol symbol.Semicolon) e = refl
is_semicolon _ e = cc

is_comma : (k : Meaning) → separates Comma k ≡ true → k ≡ m.Symbol symbol.Comma
is_comma (m.Symbol symbol.Comma) e = refl
is_comma _ e = cc

-- where a chain stands, and where arguments stand
abbrev InChain : Whole → List Frame → Type 0
InChain w fs = semicolon w (top fs) ≡ Stay state.OperandOrEnd

abbrev InArgs : Whole → List Frame → Type 0
InArgs w fs = (closed follow.Comma (top fs) ≡ Stay state.Operand) × InChain w fs

-- what must lead on behind a line
abbrev Fit : Whole → Line → List Frame → List Item → Type 0
Fit w Chain fs rest = Ends w state.AfterAlias fs rest × Ends w state.OperandOrEnd fs rest × InChain w fs
Fit w (Several join.Chain) fs rest = Ends w state.AfterAlias fs rest × InChain w fs
Fit w (Several _) fs rest = Ends w state.AfterAlias fs rest
Fit w (By l) fs rest = Ends w state.AfterAlias fs rest
Fit w Alias fs rest = Ends w state.AfterAlias fs rest
Fit w Prefix fs rest = Ends w state.AfterPercent fs rest
Fit w Power fs rest = Ends w state.AfterPercent fs rest
Fit w Percent fs rest = Ends w state.AfterPercent fs rest
Fit w Access fs rest = Ends w state.AfterAccess fs rest
Fit w Atom fs rest = Ends w state.AfterAccess fs rest

-- what the place must be for such a separator
abbrev Parted : Whole → Separator → List Frame → Type 0
Parted w (Between join.Chain) fs = InChain w fs
Parted w Comma fs = InArgs w fs
Parted w _ fs = Unit {0}

fit_under : (w : Whole) (l : Left) (fs : List Frame) (rest : List Item) → Ends w state.AfterAlias fs rest → Fit w (operand_line l) fs rest
fit_under w left.Member fs rest h = h
fit_under w left.Comp fs rest h = h
fit_under w left.Sum fs rest h = h
fit_under w left.Prod fs rest h = h

fit_part : (w : Whole) (j : Join) (fs : List Frame) (rest : List Item) → Fit w (Several j) fs rest → Fit w (part_of (Between j)) fs rest × Parted w (Between j) fs
fit_part w join.Chain fs rest h = (h.0, h.1)
fit_part w join.Or fs rest h = (h, tt)
fit_part w join.And fs rest h = (h, tt)
fit_part w join.Cat fs rest h = (h, tt)

semicolon_goes : (w : Whole) (fs : List Frame) (x : Item) (us : List Item) → x.meaning ≡ m.Symbol symbol.Semicolon → InChain w fs → Ends w state.OperandOrEnd fs us → Ends w state.AfterAlias fs (x ∷ us)
semicolon_goes w fs x us e i h = via w state.AfterAlias fs x us (m.Symbol symbol.Semicolon) e (ap (λ k. accepted w (option_and_then (λ p. run w p.0 p.1 us) (place_moved fs k))) i ∙ h)

comma_goes : (w : Whole) (fs : List Frame) (x : Item) (us : List Item) → x.meaning ≡ m.Symbol symbol.Comma → InArgs w fs → Ends w state.Operand fs us → Fit w Chain fs (x ∷ us)
comma_goes w fs x us e i h =
    let g = ap (λ k. accepted w (option_and_then (λ p. run w p.0 p.1 us) (place_moved fs k))) i.0 ∙ h in
    (via w state.AfterAlias fs x us (m.Symbol symbol.Comma) e g, via w state.OperandOrEnd fs x us (m.Symbol symbol.Comma) e g, i.1)

fit_between : (w : Whole) (s : Separator) (fs : List Frame) (x : Item) (us : List Item) → Parted w s fs → separates s x.meaning ≡ true → Ends w state.Operand fs us → Fit w (part_of s) fs (x ∷ us)
fit_between w (Between join.Chain) fs x us i e h = semicolon_goes w fs x us (is_semicolon x.meaning e) i (to_end w fs us h)
fit_between w (Between join.Or) fs x us i e h = follows w fs x us follow.Operator (joins join.Or x.meaning tt e) h
fit_between w (Between join.And) fs x us i e h = follows w fs x us follow.Operator (joins join.And x.meaning tt e) h
fit_between w (Between join.Cat) fs x us i e h = follows w fs x us follow.Operator (joins join.Cat x.meaning tt e) h
fit_between w Comma fs x us i e h = comma_goes w fs x us (is_comma x.meaning e) i h

leaf_goes : (w : Whole) (fs : List Frame) (x : Item) (us : List Item) → (begin_of x.meaning ≡ begin.Leaf) ⊎ (begin_of x.meaning ≡ begin.Name) → Ends w state.AfterAccess fs us → Ends w state.Operand fs (x ∷ us)
leaf_goes w fs x us (inl e) h = begins w fs x us begin.Leaf e h
leaf_goes w fs x us (inr e) h = begins w fs x us begin.Name e (to_name w fs us h)

callee_goes : (w : Whole) (fs : List Frame) (x y : Item) (us : List Item) → (begin_of x.meaning ≡ begin.Name) ⊎ (begin_of x.meaning ≡ begin.Callee) → y.meaning ≡ m.Symbol symbol.OpenParen → Ends w state.OperandOrClose (frame.Call ∷ fs) us → Ends w state.Operand fs (x ∷ y ∷ us)
callee_goes w fs x y us (inl e) f h = begins w fs x (y ∷ us) begin.Name e (via w state.AfterName fs y us (m.Symbol symbol.OpenParen) f h)
callee_goes w fs x y us (inr e) f h = begins w fs x (y ∷ us) begin.Callee e (via w state.AfterCallee fs y us (m.Symbol symbol.OpenParen) f h)

mutual
  goes : {l : Line} {d : ℕ} {ts : List Item} {t : Tree} {rest : List Item} → Parses l d ts t rest → (w : Whole) (fs : List Frame) → Fit w l fs rest → Ends w state.Operand fs ts
  goes (plain d ts t rest p) w fs f = goes p w fs (f.0, f.2)
  goes (ended d ts t x rest p e) w fs f = goes p w fs (semicolon_goes w fs x rest e f.2 f.1, f.2)
  goes (one j d ts t rest p) w fs f = goes p w fs (fit_part w j fs rest f).0
  goes (many j d ts p q ps rest h) w fs f = let g = fit_part w j fs rest f in goes_parts h w fs g.0 g.1
  goes (first l d ts t rest p) w fs f = goes p w fs (fit_under w l fs rest f)
  goes (next l d e ts t x us o u rest p h q) w fs f = goes p w fs (follows w fs x us follow.Operator (operator_follows l x.meaning o h) (goes q w fs (fit_under w l fs rest f)))
  goes (no_alias d ts t rest p) w fs f = goes p w fs (to_percent w fs rest f)
  goes (aliased d ts t x y cs rest p e g) w fs f = goes p w fs (via w state.AfterPercent fs x (y ∷ rest) (m.Word word.As) e (via w state.AliasName fs y rest (m.Name cs) g f))
  goes (no_sign d ts t rest p) w fs f = goes p w fs f
  goes (signed d x h us t rest e p) w fs f = begins w fs x us begin.Sign (sign_begins x.meaning h e) (goes p w fs f)
  goes (base d ts t rest p) w fs f = goes p w fs f
  goes (raised d e ts t x us u rest p g q) w fs f = goes p w fs (via w state.AfterPercent fs x us (m.Symbol symbol.Caret) g (goes q w fs f))
  goes (no_percent d ts t rest p) w fs f = goes p w fs (to_access w fs rest f)
  goes (percent d ts t x rest p e) w fs f = goes p w fs (via w state.AfterPercent fs x rest (m.Symbol symbol.Percent) e f)
  goes (no_dot d ts t rest p) w fs f = goes p w fs f
  goes (dotted d ts t x y cs rest p e g) w fs f = goes p w fs (via w state.AfterAccess fs x (y ∷ rest) (m.Symbol symbol.Dot) e (via w state.FieldName fs y rest (m.Name cs) g f))
  goes (leaf x h rest e) w fs f = leaf_goes w fs x rest (leaf_begins x.meaning h e) f
  goes (a_global x y z cs rest e g h) w fs f =
      via w state.Operand fs x (y ∷ z ∷ rest) (m.Symbol symbol.OpenBracketAt) e (via w state.GlobalName fs y (z ∷ rest) (m.Name cs) g (via w state.GlobalClose fs z rest (m.Symbol symbol.CloseBracket) h f))
  goes (a_call d x y h us ps z rest e g k i) w fs f =
      callee_goes w fs x y us (callee_begins x.meaning h e) g (goes_args k w (frame.Call ∷ fs) (via w state.AfterAlias (frame.Call ∷ fs) z rest (m.Symbol symbol.CloseParen) i f, via w state.OperandOrEnd (frame.Call ∷ fs) z rest (m.Symbol symbol.CloseParen) i f, refl) (refl, refl) (via w state.OperandOrClose (frame.Call ∷ fs) z rest (m.Symbol symbol.CloseParen) i f))
  goes (brackets d x us t y rest e p g) w fs f =
      via w state.Operand fs x us (m.Symbol symbol.OpenParen) e (goes p w (frame.Group ∷ fs) (via w state.AfterAlias (frame.Group ∷ fs) y rest (m.Symbol symbol.CloseParen) g f, via w state.OperandOrEnd (frame.Group ∷ fs) y rest (m.Symbol symbol.CloseParen) g f, refl))
  goes (a_record d x us gs y rest e k g) w fs f =
      via w state.Operand fs x us (m.Symbol symbol.OpenBrace) e (goes_fields k w fs (via w state.AfterAlias (frame.Record ∷ fs) y rest (m.Symbol symbol.CloseBrace) g f) (via w state.FirstLabel fs y rest (m.Symbol symbol.CloseBrace) g f))
  goes (a_list d x us ps y rest e k g) w fs f =
      via w state.Operand fs x us (m.Symbol symbol.OpenBracket) e (goes_args k w (frame.List ∷ fs) (via w state.AfterAlias (frame.List ∷ fs) y rest (m.Symbol symbol.CloseBracket) g f, via w state.OperandOrEnd (frame.List ∷ fs) y rest (m.Symbol symbol.CloseBracket) g f, refl) (refl, refl) (via w state.OperandOrClose (frame.List ∷ fs) y rest (m.Symbol symbol.CloseBracket) g f))
  goes (a_weave d x us ps y rest e k g) w fs f =
      via w state.Operand fs x us m.Opening e (goes_strands k w fs (via w state.Strand fs y rest m.Closing g f))

  goes_parts : {s : Separator} {d : ℕ} {ts : List Item} {ps : List Tree} {rest : List Item} → Parts s d ts ps rest → (w : Whole) (fs : List Frame) → Fit w (part_of s) fs rest → Parted w s fs → Ends w state.Operand fs ts
  goes_parts (alone s d ts t rest p) w fs f i = goes p w fs f
  goes_parts (further s d e ts ps x us t rest h g p) w fs f i = goes_parts h w fs (fit_between w s fs x us i g (goes p w fs f)) i

  goes_args : {d : ℕ} {ts : List Item} {ps : List Tree} {rest : List Item} → Args d ts ps rest → (w : Whole) (fs : List Frame) → Fit w Chain fs rest → InArgs w fs → Ends w state.OperandOrClose fs rest → Ends w state.OperandOrClose fs ts
  goes_args (no_args ts) w fs f i h = h
  goes_args (some_args d ts ps rest k) w fs f i h = to_close w fs ts (goes_parts k w fs f i)

  goes_field : {d : ℕ} {ts : List Item} {g : NamedTree} {rest : List Item} → Field d ts g rest → (w : Whole) (fs : List Frame) → Ends w state.AfterAlias (frame.Record ∷ fs) rest → Ends w state.Label fs ts
  goes_field (field d x y cs us t rest e g p) w fs f = via w state.Label fs x (y ∷ us) (m.Name cs) e (via w state.Colon fs y us (m.Symbol symbol.Colon) g (goes p w (frame.Record ∷ fs) f))

  goes_some : {d : ℕ} {ts : List Item} {gs : List NamedTree} {rest : List Item} → SomeFields d ts gs rest → (w : Whole) (fs : List Frame) → Ends w state.AfterAlias (frame.Record ∷ fs) rest → Ends w state.Label fs ts
  goes_some (one_field d ts g rest p) w fs f = goes_field p w fs f
  goes_some (further_field d e ts gs x us g rest h i p) w fs f = goes_some h w fs (via w state.AfterAlias (frame.Record ∷ fs) x us (m.Symbol symbol.Comma) i (goes_field p w fs f))

  goes_fields : {d : ℕ} {ts : List Item} {gs : List NamedTree} {rest : List Item} → Fields d ts gs rest → (w : Whole) (fs : List Frame) → Ends w state.AfterAlias (frame.Record ∷ fs) rest → Ends w state.FirstLabel fs rest → Ends w state.FirstLabel fs ts
  goes_fields (no_fields ts) w fs f h = h
  goes_fields (some_fields d ts gs rest k) w fs f h = to_first w fs ts (goes_some k w fs f)

  goes_strands : {d : ℕ} {ts : List Item} {ps : List Tree} {rest : List Item} → Strands d ts ps rest → (w : Whole) (fs : List Frame) → Ends w state.Strand fs rest → Ends w state.Strand fs ts
  goes_strands (no_strands ts) w fs f = f
  goes_strands (piece d ts ps x cs rest h e) w fs f = goes_strands h w fs (via w state.Strand fs x rest (m.Piece cs) e f)
  goes_strands (island d e ts ps x us t y rest h g p i) w fs f =
      goes_strands h w fs (via w state.Strand fs x us (m.Symbol symbol.OpenBrace) g (goes p w (frame.Island ∷ fs) (via w state.AfterAlias (frame.Island ∷ fs) y rest (m.Symbol symbol.CloseBrace) i f, via w state.OperandOrEnd (frame.Island ∷ fs) y rest (m.Symbol symbol.CloseBrace) i f, refl)))

chain_ends : (d : ℕ) (ts : List Item) (t : Tree) → Parses Chain d ts t [] → Ends whole.Formula state.Operand [] ts
chain_ends d ts t p = goes p whole.Formula [] (refl, refl, refl)

formula_by : {ts : List Item} {d : ℕ} {t : Tree} → IsFormula ts d t → Ends whole.Formula state.Start [] ts
formula_by (bare ts d t p) = to_start whole.Formula [] ts (chain_ends d ts t p)
formula_by (marked x us d t e p) = via whole.Formula state.Start [] x us (m.Symbol symbol.Equal) e (chain_ends d us t p)

pub formula_ends : (ts : List Item) → HasFormula ts → Ends whole.Formula state.Start [] ts
formula_ends ts h = formula_by h.2

entry_goes : (x y : Item) (cs : List ℕ) (us : List Item) → x.meaning ≡ m.Name cs → y.meaning ≡ m.Symbol symbol.Equal → Ends whole.Named state.Operand [] us → Ends whole.Named state.Entry [] (x ∷ y ∷ us)
entry_goes x y cs us e f h = via whole.Named state.Entry [] x (y ∷ us) (m.Name cs) e (via whole.Named state.EntryEqual [] y us (m.Symbol symbol.Equal) f h)

entries_by : {ts : List Item} {d : ℕ} {es : List NamedFormula} → AreNamed ts d es → Ends whole.Named state.Entry [] ts
entries_by no_entries = refl
entries_by (last_entry x y cs ts d t e f p) = entry_goes x y cs ts e f (goes p whole.Named [] refl)
entries_by (further_entry x y cs ts d t z rest c es e f p g h) = entry_goes x y cs (ts ++ z ∷ rest) e f (goes p whole.Named [] (via whole.Named state.AfterAlias [] z rest (m.Symbol symbol.Semicolon) g (entries_by h)))

pub entries_end : (ts : List Item) → HasEntries ts → Ends whole.Named state.Entry [] ts
entries_end ts h = entries_by h.2
