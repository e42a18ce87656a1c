-- Single tokens.
use Rattle.std.proofs.Common.{◌≡◌, ℕ, ◌<◌, ◌≤◌, Bool, true, false, List, [], ◌∷◌, cond, refl, ap, sym, ◌∙◌, Option, Some, None, arith, true≢false}
use Rattle.fx_lexer.specs.declared.token.Symbol.TheVariants as symbol
use Rattle.fx_lexer.specs.declared.token.Word.TheVariants as word
use Rattle.fx_core.specs.declared.expr.Op.{Op}
use Rattle.fx_grammar.specs.declared.item.Item.{Item}
use Rattle.fx_grammar.specs.declared.item.Meaning.{Meaning}
use Rattle.fx_grammar.specs.declared.item.Meaning.TheVariants as m
use Rattle.fx_grammar.specs.declared.line.Join.{Join}
use Rattle.fx_grammar.specs.declared.line.Join.TheVariants as join
use Rattle.fx_grammar.specs.declared.line.Separator.{Separator}
use Rattle.fx_grammar.specs.declared.line.Separator.TheVariants.{Between, Comma}
use Rattle.fx_grammar.specs.declared.line.Left.{Left}
use Rattle.fx_grammar.specs.declared.line.Left.TheVariants as left
use Rattle.fx_grammar.specs.declared.line.Line.{Line}
use Rattle.fx_grammar.specs.declared.line.Line.TheVariants.{Chain, Several, By, Alias, Prefix, Power, Percent, Access, Atom}
use Rattle.fx_grammar.specs.declared.line.Mark.{Mark}
use Rattle.fx_grammar.specs.declared.line.Mark.TheVariants as mark
use Rattle.fx_grammar.specs.Grammar.{separates, part_of, operator, operand_line}
use Rattle.fx_grammar.specs.Reading.{is_this_mark, after_mark, closing, closes, after_separator, between, operator_at}

abbrev pub meaning_of : Mark → Meaning
meaning_of mark.OpenParen = m.Symbol symbol.OpenParen
meaning_of mark.CloseParen = m.Symbol symbol.CloseParen
meaning_of mark.CloseBracket = m.Symbol symbol.CloseBracket
meaning_of mark.CloseBrace = m.Symbol symbol.CloseBrace
meaning_of mark.CloseWeave = m.Closing
meaning_of mark.Comma = m.Symbol symbol.Comma
meaning_of mark.Colon = m.Symbol symbol.Colon
meaning_of mark.Semicolon = m.Symbol symbol.Semicolon
meaning_of mark.Dot = m.Symbol symbol.Dot
meaning_of mark.Percent = m.Symbol symbol.Percent
meaning_of mark.Caret = m.Symbol symbol.Caret
meaning_of mark.Equal = m.Symbol symbol.Equal
meaning_of mark.As = m.Word word.As

pub is_itself : (k : Mark) (x : Meaning) → is_this_mark k x ≡ true → x ≡ meaning_of k
is_itself mark.OpenParen (m.Symbol symbol.OpenParen) e = refl
is_itself mark.CloseParen (m.Symbol symbol.CloseParen) e = refl
is_itself mark.CloseBracket (m.Symbol symbol.CloseBracket) e = refl
is_itself mark.CloseBrace (m.Symbol symbol.CloseBrace) e = refl
is_itself mark.CloseWeave m.Closing e = refl
is_itself mark.Comma (m.Symbol symbol.Comma) e = refl
is_itself mark.Colon (m.Symbol symbol.Colon) e = refl
is_itself mark.Semicolon (m.Symbol symbol.Semicolon) e = refl
is_itself mark.Dot (m.Symbol symbol.Dot) e = refl
is_itself mark.Percent (m.Symbol symbol.Percent) e = refl
is_itself mark.Caret (m.Symbol symbol.Caret) e = refl
is_itself mark.Equal (m.Symbol symbol.Equal) e = refl
is_itself mark.As (m.Word word.As) e = refl
is_itself _ _ e = cc

itself : (k : Mark) → is_this_mark k (meaning_of k) ≡ true
itself mark.OpenParen = refl
itself mark.CloseParen = refl
itself mark.CloseBracket = refl
itself mark.CloseBrace = refl
itself mark.CloseWeave = refl
itself mark.Comma = refl
itself mark.Colon = refl
itself mark.Semicolon = refl
itself mark.Dot = refl
itself mark.Percent = refl
itself mark.Caret = refl
itself mark.Equal = refl
itself mark.As = refl

pub is_there : (k : Mark) (x : Meaning) → x ≡ meaning_of k → is_this_mark k x ≡ true
is_there k x e = ap (is_this_mark k) e ∙ itself k

pub after_it : (k : Mark) (x : Item) (us : List Item) → x.meaning ≡ meaning_of k → after_mark k (x ∷ us) ≡ Some us
after_it k x us e = let f = is_there k x.meaning e in rw f refl

-- how tightly a token holds what stands before it: 0 is tightest, 99 not at all
abbrev pub rank : Meaning → ℕ
rank (m.Symbol symbol.OpenParen) = 0
rank (m.Symbol symbol.Dot) = 1
rank (m.Symbol symbol.Percent) = 2
rank (m.Symbol symbol.Caret) = 3
rank (m.Word word.As) = 4
rank (m.Symbol symbol.Star) = 5
rank (m.Symbol symbol.Slash) = 5
rank (m.Symbol symbol.Plus) = 6
rank (m.Symbol symbol.Minus) = 6
rank (m.Symbol symbol.Ampersand) = 7
rank (m.Symbol symbol.Equal) = 8
rank (m.Symbol symbol.NotEqual) = 8
rank (m.Symbol symbol.Less) = 8
rank (m.Symbol symbol.LessEqual) = 8
rank (m.Symbol symbol.Greater) = 8
rank (m.Symbol symbol.GreaterEqual) = 8
rank (m.Word word.In) = 9
rank (m.Word word.ExactIn) = 9
rank (m.Symbol symbol.DoubleAmpersand) = 10
rank (m.Word word.And) = 10
rank (m.Symbol symbol.DoubleBar) = 11
rank (m.Word word.Or) = 11
rank (m.Symbol symbol.Semicolon) = 12
rank _ = 99

abbrev pub join_level : Join → ℕ
join_level join.Chain = 12
join_level join.Or = 11
join_level join.And = 10
join_level join.Cat = 7

abbrev pub left_level : Left → ℕ
left_level left.Member = 9
left_level left.Comp = 8
left_level left.Sum = 6
left_level left.Prod = 5

abbrev pub level : Line → ℕ
level Chain = 13
level (Several j) = join_level j
level (By l) = left_level l
level Alias = 4
level Prefix = 3
level Power = 3
level Percent = 2
level Access = 1
level Atom = 0

-- no token follows that holds as tightly
abbrev pub Below : ℕ → List Item → Type 0
Below r [] = Unit {0}
Below r (x ∷ us) = r < rank x.meaning

-- a line is over where these tokens follow
abbrev pub Stops : Line → List Item → Type 0
Stops Chain rest = closes rest ≡ true
Stops (Several join.Chain) rest = (between (Between join.Chain) rest ≡ None) × Below 11 rest
Stops l rest = Below (level l) rest

pub lower : (r s : ℕ) (rest : List Item) → r ≤ s → Below s rest → Below r rest
lower r s [] h b = tt
lower r s (x ∷ us) h b = omega arith

pub stops_under : (l : Left) (rest : List Item) → Stops (By l) rest → Stops (operand_line l) rest
stops_under left.Member rest b = lower 8 9 rest (omega arith) b
stops_under left.Comp rest b = lower 7 8 rest (omega arith) b
stops_under left.Sum rest b = lower 5 6 rest (omega arith) b
stops_under left.Prod rest b = lower 4 5 rest (omega arith) b

pub stops_part : (j : Join) (rest : List Item) → Stops (Several j) rest → Stops (part_of (Between j)) rest
stops_part join.Chain rest b = b.1
stops_part join.Or rest b = lower 10 11 rest (omega arith) b
stops_part join.And rest b = lower 9 10 rest (omega arith) b
stops_part join.Cat rest b = lower 6 7 rest (omega arith) b

-- an operator holds as its line does
operator_rank : (l : Left) (x : Meaning) (o : Op) → operator l x ≡ Some o → rank x ≡ left_level l
operator_rank left.Member (m.Word word.In) o e = refl
operator_rank left.Member (m.Word word.ExactIn) o e = refl
operator_rank left.Comp (m.Symbol symbol.Equal) o e = refl
operator_rank left.Comp (m.Symbol symbol.NotEqual) o e = refl
operator_rank left.Comp (m.Symbol symbol.Less) o e = refl
operator_rank left.Comp (m.Symbol symbol.LessEqual) o e = refl
operator_rank left.Comp (m.Symbol symbol.Greater) o e = refl
operator_rank left.Comp (m.Symbol symbol.GreaterEqual) o e = refl
operator_rank left.Sum (m.Symbol symbol.Plus) o e = refl
operator_rank left.Sum (m.Symbol symbol.Minus) o e = refl
operator_rank left.Prod (m.Symbol symbol.Star) o e = refl
operator_rank left.Prod (m.Symbol symbol.Slash) o e = refl
operator_rank _ _ o e = cc

pub stops_operator : (l : Left) (x : Item) (us : List Item) (o : Op) → operator l x.meaning ≡ Some o → Stops (operand_line l) (x ∷ us)
stops_operator left.Member x us o e = omega (arith, operator_rank left.Member x.meaning o e)
stops_operator left.Comp x us o e = omega (arith, operator_rank left.Comp x.meaning o e)
stops_operator left.Sum x us o e = omega (arith, operator_rank left.Sum x.meaning o e)
stops_operator left.Prod x us o e = omega (arith, operator_rank left.Prod x.meaning o e)

rank_none : (l : Left) (x : Meaning) (o : Option Op) → operator l x ≡ o → left_level l < rank x → o ≡ None
rank_none l x None e h = refl
rank_none l x (Some o) e h = absurd (omega (arith, operator_rank l x o e))

pub no_operator : (l : Left) (rest : List Item) → Below (left_level l) rest → operator_at l rest ≡ None
no_operator l [] h = refl
no_operator l (x ∷ us) h = let e = rank_none l x.meaning (operator l x.meaning) refl h in rw e refl

-- marks
pub not_mark : (k : Mark) (x : Meaning) → (rank x ≡ rank (meaning_of k) → ⊥) → is_this_mark k x ≡ false
not_mark k x h = by (is_this_mark k x) refl
  where
    by : (b : Bool) → is_this_mark k x ≡ b → b ≡ false
    by true e = absurd (h (ap rank (is_itself k x e)))
    by false e = refl

pub none_after : (k : Mark) (r : ℕ) (rest : List Item) → rank (meaning_of k) ≤ r → Below r rest → after_mark k rest ≡ None
none_after k r [] h b = refl
none_after k r (x ∷ us) h b = let e = not_mark k x.meaning (λ f. omega arith) in rw e refl

separates_rank : (j : Join) (x : Meaning) → separates (Between j) x ≡ true → rank x ≡ join_level j
separates_rank join.Chain (m.Symbol symbol.Semicolon) e = refl
separates_rank join.Or (m.Symbol symbol.DoubleBar) e = refl
separates_rank join.Or (m.Word word.Or) e = refl
separates_rank join.And (m.Symbol symbol.DoubleAmpersand) e = refl
separates_rank join.And (m.Word word.And) e = refl
separates_rank join.Cat (m.Symbol symbol.Ampersand) e = refl
separates_rank _ _ e = cc

comma_closes : (x : Meaning) → separates Comma x ≡ true → closing x ≡ true
comma_closes (m.Symbol symbol.Comma) e = refl
comma_closes _ e = cc

pub stops_separator : (s : Separator) (x : Item) (us : List Item) → separates s x.meaning ≡ true → Stops (part_of s) (x ∷ us)
stops_separator (Between join.Chain) x us e = omega (arith, separates_rank join.Chain x.meaning e)
stops_separator (Between join.Or) x us e = omega (arith, separates_rank join.Or x.meaning e)
stops_separator (Between join.And) x us e = omega (arith, separates_rank join.And x.meaning e)
stops_separator (Between join.Cat) x us e = omega (arith, separates_rank join.Cat x.meaning e)
stops_separator Comma x us e = comma_closes x.meaning e

not_separator : (j : Join) (x : Meaning) → join_level j < rank x → separates (Between j) x ≡ false
not_separator j x h = by (separates (Between j) x) refl
  where
    by : (b : Bool) → separates (Between j) x ≡ b → b ≡ false
    by true e = absurd (omega (arith, separates_rank j x e))
    by false e = refl

none_separated : (j : Join) (rest : List Item) → Below (join_level j) rest → after_separator (Between j) rest ≡ None
none_separated j [] b = refl
none_separated j (x ∷ us) b = let e = not_separator j x.meaning b in rw e refl

pub no_between : (j : Join) (rest : List Item) → Stops (Several j) rest → between (Between j) rest ≡ None
no_between join.Chain rest b = b.0
no_between join.Or rest b = none_separated join.Or rest b
no_between join.And rest b = none_separated join.And rest b
no_between join.Cat rest b = none_separated join.Cat rest b

pub between_it : (s : Separator) (x : Item) (us : List Item) → separates s x.meaning ≡ true → closes us ≡ false → between s (x ∷ us) ≡ Some us
between_it (Between join.Chain) x us e f = rw (e, f) refl
between_it (Between join.Or) x us e f = rw e refl
between_it (Between join.And) x us e f = rw e refl
between_it (Between join.Cat) x us e f = rw e refl
between_it Comma x us e f = rw e refl

-- what closes holds nothing
closing_rank : (x : Meaning) → closing x ≡ true → rank x ≡ 99
closing_rank (m.Symbol symbol.CloseParen) e = refl
closing_rank (m.Symbol symbol.CloseBracket) e = refl
closing_rank (m.Symbol symbol.CloseBrace) e = refl
closing_rank (m.Symbol symbol.Comma) e = refl
closing_rank _ e = cc

pub closes_below : (r : ℕ) (rest : List Item) → r < 99 → closes rest ≡ true → Below r rest
closes_below r [] h e = tt
closes_below r (x ∷ us) h e = omega (arith, closing_rank x.meaning e)

pub closes_no_semicolon : (rest : List Item) → closes rest ≡ true → after_mark mark.Semicolon rest ≡ None
closes_no_semicolon [] e = refl
closes_no_semicolon (x ∷ us) e = let f = not_mark mark.Semicolon x.meaning (λ g. omega (arith, closing_rank x.meaning e)) in rw f refl

pub closes_no_step : (rest : List Item) → closes rest ≡ true → between (Between join.Chain) rest ≡ None
closes_no_step [] e = refl
closes_no_step (x ∷ us) e = let f = not_separator join.Chain x.meaning (omega (arith, closing_rank x.meaning e)) in rw f refl

pub step_ends : (x : Item) (rest : List Item) → x.meaning ≡ m.Symbol symbol.Semicolon → closes rest ≡ true → between (Between join.Chain) (x ∷ rest) ≡ None
step_ends x rest e f = let g : separates (Between join.Chain) x.meaning ≡ true = ap (separates (Between join.Chain)) e in rw (g, f) refl

-- marks that close
abbrev pub IsClosing : Mark → Type 0
IsClosing k = closing (meaning_of k) ≡ true

pub not_closed : (k : Mark) (us : List Item) → IsClosing k → closes us ≡ false → after_mark k us ≡ None
not_closed k [] c e = refl
not_closed k (x ∷ us) c e = by (is_this_mark k x.meaning) refl
  where
    by : (b : Bool) → is_this_mark k x.meaning ≡ b → cond b (Some us) None ≡ None
    by true f = let g : closing x.meaning ≡ true = ap closing (is_itself k x.meaning f) ∙ c in absurd (true≢false (sym g ∙ e))
    by false f = refl

pub closes_it : (k : Mark) (x : Item) (us : List Item) → IsClosing k → x.meaning ≡ meaning_of k → closes (x ∷ us) ≡ true
closes_it k x us c e = ap closing e ∙ c
