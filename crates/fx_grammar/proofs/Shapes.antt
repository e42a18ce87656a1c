-- What every reading has: it takes a token, it has a depth, and it begins with a token that closes nothing.
use Rattle.std.proofs.Common.{◌≡◌, ℕ, ◌<◌, ◌≤◌, Bool, true, false, List, [], ◌∷◌, length, refl, ap, ◌∙◌, Some, None, arith}
use Rattle.fx_lexer.specs.declared.token.Symbol.TheVariants as symbol
use Rattle.fx_lexer.specs.declared.token.Word.TheVariants as word
use Rattle.fx_core.specs.Tree.{Tree, NamedTree, Head}
use Rattle.fx_grammar.specs.declared.item.Item.{Item}
use Rattle.fx_grammar.specs.declared.item.Meaning.{Meaning}
use Rattle.fx_grammar.specs.declared.item.Meaning.TheVariants as m
use Rattle.fx_grammar.specs.declared.line.Separator.{Separator}
use Rattle.fx_grammar.specs.declared.line.Line.{Line}
use Rattle.fx_grammar.specs.declared.line.Line.TheVariants.{Power, Percent, Access, Atom}
use Rattle.fx_grammar.specs.declared.line.Mark.TheVariants as mark
use Rattle.fx_grammar.specs.Grammar.{sign, atom_head, callee, Parses, plain, ended, one, many, first, next, no_alias, aliased, no_sign, signed, base, raised, no_percent, percent, no_dot, dotted, leaf, a_global, a_call, brackets, a_record, a_list, a_weave, Parts, alone, further, Args, no_args, some_args, Field, field, SomeFields, one_field, further_field, Fields, no_fields, some_fields, Strands, no_strands, piece, island}
use Rattle.fx_grammar.specs.Reading.{is_this_mark, after_mark, closing, closes, sign_at}

mutual
  pub shorter : {l : Line} {d : ℕ} {ts : List Item} {t : Tree} {rest : List Item} → Parses l d ts t rest → length rest < length ts
  shorter (plain d ts t rest p) = shorter p
  shorter (ended d ts t x rest p e) = let h = shorter p in omega arith
  shorter (one j d ts t rest p) = shorter p
  shorter (many j d ts p q ps rest h) = shorter_parts h
  shorter (first l d ts t rest p) = shorter p
  shorter (next l d e ts t x us o u rest p f q) = let h = shorter p in let g = shorter q in omega arith
  shorter (no_alias d ts t rest p) = shorter p
  shorter (aliased d ts t x y cs rest p e f) = let h = shorter p in omega arith
  shorter (no_sign d ts t rest p) = shorter p
  shorter (signed d x h us t rest e p) = let i = shorter p in omega arith
  shorter (base d ts t rest p) = shorter p
  shorter (raised d e ts t x us u rest p f q) = let h = shorter p in let g = shorter q in omega arith
  shorter (no_percent d ts t rest p) = shorter p
  shorter (percent d ts t x rest p e) = let h = shorter p in omega arith
  shorter (no_dot d ts t rest p) = shorter p
  shorter (dotted d ts t x y cs rest p e f) = let h = shorter p in omega arith
  shorter (leaf x h rest e) = omega arith
  shorter (a_global x y z cs rest e f g) = omega arith
  shorter (a_call d x y h us ps z rest e f k g) = let i = shorter_args k in omega arith
  shorter (brackets d x us t y rest e p f) = let i = shorter p in omega arith
  shorter (a_record d x us fs y rest e k f) = let i = shorter_fields k in omega arith
  shorter (a_list d x us ps y rest e k f) = let i = shorter_args k in omega arith
  shorter (a_weave d x us ps y rest e k f) = let i = shorter_strands k in omega arith

  pub shorter_parts : {s : Separator} {d : ℕ} {ts : List Item} {ps : List Tree} {rest : List Item} → Parts s d ts ps rest → length rest < length ts
  shorter_parts (alone s d ts t rest p) = shorter p
  shorter_parts (further s d e ts ps x us t rest h f p) = let g = shorter_parts h in let k = shorter p in omega arith

  pub shorter_args : {d : ℕ} {ts : List Item} {ps : List Tree} {rest : List Item} → Args d ts ps rest → length rest ≤ length ts
  shorter_args (no_args ts) = omega arith
  shorter_args (some_args d ts ps rest h) = let g = shorter_parts h in omega arith

  pub shorter_field : {d : ℕ} {ts : List Item} {f : NamedTree} {rest : List Item} → Field d ts f rest → length rest < length ts
  shorter_field (field d x y cs us t rest e f p) = let g = shorter p in omega arith

  pub shorter_some : {d : ℕ} {ts : List Item} {fs : List NamedTree} {rest : List Item} → SomeFields d ts fs rest → length rest < length ts
  shorter_some (one_field d ts f rest p) = shorter_field p
  shorter_some (further_field d e ts fs x us f rest h g p) = let i = shorter_some h in let k = shorter_field p in omega arith

  pub shorter_fields : {d : ℕ} {ts : List Item} {fs : List NamedTree} {rest : List Item} → Fields d ts fs rest → length rest ≤ length ts
  shorter_fields (no_fields ts) = omega arith
  shorter_fields (some_fields d ts fs rest h) = let g = shorter_some h in omega arith

  pub shorter_strands : {d : ℕ} {ts : List Item} {ps : List Tree} {rest : List Item} → Strands d ts ps rest → length rest ≤ length ts
  shorter_strands (no_strands ts) = omega arith
  shorter_strands (piece d ts ps x cs rest h e) = let g = shorter_strands h in omega arith
  shorter_strands (island d e ts ps x us t y rest h f p g) = let i = shorter_strands h in let k = shorter p in omega arith

mutual
  pub positive : {l : Line} {d : ℕ} {ts : List Item} {t : Tree} {rest : List Item} → Parses l d ts t rest → 0 < d
  positive (plain d ts t rest p) = positive p
  positive (ended d ts t x rest p e) = positive p
  positive (one j d ts t rest p) = positive p
  positive (many j d ts p q ps rest h) = omega arith
  positive (first l d ts t rest p) = positive p
  positive (next l d e ts t x us o u rest p f q) = omega arith
  positive (no_alias d ts t rest p) = positive p
  positive (aliased d ts t x y cs rest p e f) = omega arith
  positive (no_sign d ts t rest p) = positive p
  positive (signed d x h us t rest e p) = omega arith
  positive (base d ts t rest p) = positive p
  positive (raised d e ts t x us u rest p f q) = omega arith
  positive (no_percent d ts t rest p) = positive p
  positive (percent d ts t x rest p e) = omega arith
  positive (no_dot d ts t rest p) = positive p
  positive (dotted d ts t x y cs rest p e f) = omega arith
  positive (leaf x h rest e) = omega arith
  positive (a_global x y z cs rest e f g) = omega arith
  positive (a_call d x y h us ps z rest e f k g) = omega arith
  positive (brackets d x us t y rest e p f) = omega arith
  positive (a_record d x us fs y rest e k f) = omega arith
  positive (a_list d x us ps y rest e k f) = omega arith
  positive (a_weave d x us ps y rest e k f) = omega arith

  pub positive_parts : {s : Separator} {d : ℕ} {ts : List Item} {ps : List Tree} {rest : List Item} → Parts s d ts ps rest → 0 < d
  positive_parts (alone s d ts t rest p) = positive p
  positive_parts (further s d e ts ps x us t rest h f p) = let g = positive_parts h in omega arith

-- what no formula begins with
abbrev blocks : Meaning → Bool
blocks (m.Symbol symbol.Equal) = true
blocks x = closing x

abbrev blocked : List Item → Bool
blocked [] = true
blocked (x ∷ us) = blocks x.meaning

leaf_opens : (x : Meaning) (h : Head) → atom_head x ≡ Some h → blocks x ≡ false
leaf_opens (m.Symbol symbol.CloseParen) h e = cc
leaf_opens (m.Symbol symbol.CloseBracket) h e = cc
leaf_opens (m.Symbol symbol.CloseBrace) h e = cc
leaf_opens (m.Symbol symbol.Comma) h e = cc
leaf_opens (m.Symbol symbol.Equal) h e = cc
leaf_opens _ h e = refl

callee_opens : (x : Meaning) (h : Head) → callee x ≡ Some h → blocks x ≡ false
callee_opens (m.Symbol symbol.CloseParen) h e = cc
callee_opens (m.Symbol symbol.CloseBracket) h e = cc
callee_opens (m.Symbol symbol.CloseBrace) h e = cc
callee_opens (m.Symbol symbol.Comma) h e = cc
callee_opens (m.Symbol symbol.Equal) h e = cc
callee_opens _ h e = refl

sign_opens : (x : Meaning) (h : Head) → sign x ≡ Some h → blocks x ≡ false
sign_opens (m.Symbol symbol.CloseParen) h e = cc
sign_opens (m.Symbol symbol.CloseBracket) h e = cc
sign_opens (m.Symbol symbol.CloseBrace) h e = cc
sign_opens (m.Symbol symbol.Comma) h e = cc
sign_opens (m.Symbol symbol.Equal) h e = cc
sign_opens _ h e = refl

leaf_unsigned : (x : Meaning) (h : Head) → atom_head x ≡ Some h → sign x ≡ None
leaf_unsigned (m.Symbol symbol.Minus) h e = cc
leaf_unsigned (m.Symbol symbol.Bang) h e = cc
leaf_unsigned (m.Word word.Not) h e = cc
leaf_unsigned _ h e = refl

callee_unsigned : (x : Meaning) (h : Head) → callee x ≡ Some h → sign x ≡ None
callee_unsigned (m.Symbol symbol.Minus) h e = cc
callee_unsigned (m.Symbol symbol.Bang) h e = cc
callee_unsigned (m.Word word.Not) h e = cc
callee_unsigned _ h e = refl

opens_by : (x : Item) (k : Meaning) → x.meaning ≡ k → blocks k ≡ false → blocks x.meaning ≡ false
opens_by x k e h = ap blocks e ∙ h

mutual
  pub unblocked : {l : Line} {d : ℕ} {ts : List Item} {t : Tree} {rest : List Item} → Parses l d ts t rest → blocked ts ≡ false
  unblocked (plain d ts t rest p) = unblocked p
  unblocked (ended d ts t x rest p e) = unblocked p
  unblocked (one j d ts t rest p) = unblocked p
  unblocked (many j d ts p q ps rest h) = unblocked_parts h
  unblocked (first l d ts t rest p) = unblocked p
  unblocked (next l d e ts t x us o u rest p f q) = unblocked p
  unblocked (no_alias d ts t rest p) = unblocked p
  unblocked (aliased d ts t x y cs rest p e f) = unblocked p
  unblocked (no_sign d ts t rest p) = unblocked p
  unblocked (signed d x h us t rest e p) = sign_opens x.meaning h e
  unblocked (base d ts t rest p) = unblocked p
  unblocked (raised d e ts t x us u rest p f q) = unblocked p
  unblocked (no_percent d ts t rest p) = unblocked p
  unblocked (percent d ts t x rest p e) = unblocked p
  unblocked (no_dot d ts t rest p) = unblocked p
  unblocked (dotted d ts t x y cs rest p e f) = unblocked p
  unblocked (leaf x h rest e) = leaf_opens x.meaning h e
  unblocked (a_global x y z cs rest e f g) = opens_by x _ e refl
  unblocked (a_call d x y h us ps z rest e f k g) = callee_opens x.meaning h e
  unblocked (brackets d x us t y rest e p f) = opens_by x _ e refl
  unblocked (a_record d x us fs y rest e k f) = opens_by x _ e refl
  unblocked (a_list d x us ps y rest e k f) = opens_by x _ e refl
  unblocked (a_weave d x us ps y rest e k f) = opens_by x _ e refl

  pub unblocked_parts : {s : Separator} {d : ℕ} {ts : List Item} {ps : List Tree} {rest : List Item} → Parts s d ts ps rest → blocked ts ≡ false
  unblocked_parts (alone s d ts t rest p) = unblocked p
  unblocked_parts (further s d e ts ps x us t rest h f p) = unblocked_parts h

pub unblocked_fields : {d : ℕ} {ts : List Item} {fs : List NamedTree} {rest : List Item} → SomeFields d ts fs rest → blocked ts ≡ false
unblocked_fields (one_field d ts f rest (field d' x y cs us t rest' e g p)) = opens_by x _ e refl
unblocked_fields (further_field d e ts fs x us f rest h g p) = unblocked_fields h

not_closing : (x : Meaning) → blocks x ≡ false → closing x ≡ false
not_closing (m.Symbol symbol.Equal) e = refl
not_closing (m.Symbol symbol.CloseParen) e = e
not_closing (m.Symbol symbol.CloseBracket) e = e
not_closing (m.Symbol symbol.CloseBrace) e = e
not_closing (m.Symbol symbol.Comma) e = e
not_closing _ e = refl

not_equal : (x : Meaning) → blocks x ≡ false → is_this_mark mark.Equal x ≡ false
not_equal (m.Symbol symbol.Equal) e = cc
not_equal _ e = refl

unblocked_opens : (ts : List Item) → blocked ts ≡ false → closes ts ≡ false
unblocked_opens [] e = e
unblocked_opens (x ∷ us) e = not_closing x.meaning e

unblocked_unmarked : (ts : List Item) → blocked ts ≡ false → after_mark mark.Equal ts ≡ None
unblocked_unmarked [] e = refl
unblocked_unmarked (x ∷ us) e = let f = not_equal x.meaning e in rw f refl

pub opens : {l : Line} {d : ℕ} {ts : List Item} {t : Tree} {rest : List Item} → Parses l d ts t rest → closes ts ≡ false
opens {ts = ts} p = unblocked_opens ts (unblocked p)

pub opens_parts : {s : Separator} {d : ℕ} {ts : List Item} {ps : List Tree} {rest : List Item} → Parts s d ts ps rest → closes ts ≡ false
opens_parts {ts = ts} p = unblocked_opens ts (unblocked_parts p)

pub opens_fields : {d : ℕ} {ts : List Item} {fs : List NamedTree} {rest : List Item} → SomeFields d ts fs rest → closes ts ≡ false
opens_fields {ts = ts} p = unblocked_opens ts (unblocked_fields p)

-- no formula begins with `=`
pub unmarked : {l : Line} {d : ℕ} {ts : List Item} {t : Tree} {rest : List Item} → Parses l d ts t rest → after_mark mark.Equal ts ≡ None
unmarked {ts = ts} p = unblocked_unmarked ts (unblocked p)

-- lines that begin with no sign
abbrev is_tight : Line → Bool
is_tight Power = true
is_tight Percent = true
is_tight Access = true
is_tight Atom = true
is_tight _ = false

no_sign_by : (x : Item) (us : List Item) → sign x.meaning ≡ None → sign_at (x ∷ us) ≡ None
no_sign_by x us e = rw e refl

pub unsigned : {l : Line} {d : ℕ} {ts : List Item} {t : Tree} {rest : List Item} → Parses l d ts t rest → is_tight l ≡ true → sign_at ts ≡ None
unsigned (plain d ts t rest p) i = cc
unsigned (ended d ts t x rest p e) i = cc
unsigned (one j d ts t rest p) i = cc
unsigned (many j d ts p q ps rest h) i = cc
unsigned (first l d ts t rest p) i = cc
unsigned (next l d e ts t x us o u rest p f q) i = cc
unsigned (no_alias d ts t rest p) i = cc
unsigned (aliased d ts t x y cs rest p e f) i = cc
unsigned (no_sign d ts t rest p) i = cc
unsigned (signed d x h us t rest e p) i = cc
unsigned (base d ts t rest p) i = unsigned p refl
unsigned (raised d e ts t x us u rest p f q) i = unsigned p refl
unsigned (no_percent d ts t rest p) i = unsigned p refl
unsigned (percent d ts t x rest p e) i = unsigned p refl
unsigned (no_dot d ts t rest p) i = unsigned p refl
unsigned (dotted d ts t x y cs rest p e f) i = unsigned p refl
unsigned (leaf x h rest e) i = no_sign_by x rest (leaf_unsigned x.meaning h e)
unsigned (a_global x y z cs rest e f g) i = no_sign_by x (y ∷ z ∷ rest) (ap sign e)
unsigned (a_call d x y h us ps z rest e f k g) i = no_sign_by x (y ∷ us) (callee_unsigned x.meaning h e)
unsigned (brackets d x us t y rest e p f) i = no_sign_by x us (ap sign e)
unsigned (a_record d x us fs y rest e k f) i = no_sign_by x us (ap sign e)
unsigned (a_list d x us ps y rest e k f) i = no_sign_by x us (ap sign e)
unsigned (a_weave d x us ps y rest e k f) i = no_sign_by x us (ap sign e)
