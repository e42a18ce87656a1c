-- The longest spelling at the front of a text, found by reading on.
use Rattle.std.proofs.Common.{zero, suc}
use Rattle.std.specs.Prelude.{ℕ, Bool, List, [], ◌∷◌, Option, Some, None, take, nat_le, ◌==◌}
use Rattle.std.specs.Prelude.{if◌then◌else◌}
use Rattle.fx_lexer.specs.declared.token.Symbol.{Symbol}
use Rattle.fx_lexer.specs.declared.token.Symbol.TheVariants.{OpenParen, CloseParen, OpenBrace}
use Rattle.fx_lexer.specs.declared.token.Symbol.TheVariants.{CloseBrace, OpenBracket, CloseBracket}
use Rattle.fx_lexer.specs.declared.token.Symbol.TheVariants.{OpenBracketAt, Comma, Semicolon, Colon}
use Rattle.fx_lexer.specs.declared.token.Symbol.TheVariants.{Dot, Plus, Minus, Star, Slash, Caret}
use Rattle.fx_lexer.specs.declared.token.Symbol.TheVariants.{Percent, Ampersand, DoubleAmpersand}
use Rattle.fx_lexer.specs.declared.token.Symbol.TheVariants.{DoubleBar, Bang, Equal, NotEqual, Less}
use Rattle.fx_lexer.specs.declared.token.Symbol.TheVariants.{LessEqual, Greater, GreaterEqual}
use Rattle.fx_lexer.specs.declared.token.Word.{Word}
use Rattle.fx_lexer.specs.declared.token.Word.TheVariants as words
use Rattle.fx_lexer.specs.declared.token.TokenKind.{TokenKind}
use Rattle.fx_lexer.specs.declared.token.TokenKind.TheVariants as kind
use Rattle.fx_lexer.specs.declared.element.Class.{Class}
use Rattle.fx_lexer.specs.declared.element.Class.TheVariants.{White, Digit, Letter, Other}
use Rattle.fx_lexer.specs.declared.element.Element.{Element}
use Rattle.fx_lexer.specs.declared.element.Element.TheVariants.{Skip, Token}
use Rattle.fx_lexer.specs.declared.element.Run.{Run}
use Rattle.fx_lexer.specs.declared.element.Run.TheVariants as runs
use Rattle.fx_lexer.specs.declared.element.Mode.{Mode}
use Rattle.fx_lexer.specs.declared.element.Mode.TheVariants.{Formula, Weave}
use Rattle.fx_lexer.specs.Spelling.{class_at, in_name, in_number, in_line, is_mark, begins_with}

-- an element and how many characters it has
abbrev pub ScannedElement : Type 0
ScannedElement = Option (Element × ℕ)

abbrev pub scanned : TokenKind → ℕ → ScannedElement
scanned k n = Some (Token k, n)

-- how many characters at the front pass
abbrev pub run_length : (ℕ → Bool) → List ℕ → ℕ
run_length p [] = 0
run_length p (c ∷ cs) = if p c then suc (run_length p cs) else 0

-- how long a number's point and decimals are: 0 where there are none
abbrev pub point_run : ℕ → ℕ
point_run zero = 0
point_run (suc n) = suc (suc n)

abbrev pub decimals : List ℕ → ℕ
decimals [] = 0
decimals (c ∷ cs) = if c == 46 then point_run (run_length in_number cs) else 0

-- digits and what follows them
abbrev pub number_run : List ℕ → ℕ
number_run [] = 0
number_run (c ∷ cs) = if in_number c then suc (number_run cs) else decimals (c ∷ cs)

abbrev pub more : Option ℕ → Option ℕ
more None = None
more (Some n) = Some (suc n)

-- How far a quoted text goes on, with its closing quote: from within it, and after a quote of it.
abbrev mutual
  pub open_run : ℕ → List ℕ → Option ℕ
  open_run q [] = None
  open_run q (c ∷ cs) = if c == q then more (closed_run q cs) else more (open_run q cs)

  pub closed_run : ℕ → List ℕ → Option ℕ
  closed_run q [] = Some 0
  closed_run q (c ∷ cs) = if c == q then more (open_run q cs) else Some 0

-- how far the next `*/` is, with it
abbrev pub comment_run : List ℕ → Option ℕ
comment_run [] = None
comment_run (c ∷ cs) = if c == 42 then (if begins_with 47 cs then Some 2 else more
    (comment_run cs)) else more (comment_run cs)

-- how far a weave's text goes on, and how far after a mark
abbrev mutual
  pub weave_run : List ℕ → ℕ
  weave_run [] = 0
  weave_run (c ∷ cs) = if is_mark c then mark_run c cs else suc (weave_run cs)

  pub mark_run : ℕ → List ℕ → ℕ
  mark_run m [] = 0
  mark_run m (c ∷ cs) = if c == m then suc (suc (weave_run cs)) else 0

-- the word of two, three, four, five or seven letters that these are
abbrev pub two_letters : ℕ → ℕ → Option Word
two_letters a b =
    if a == 79 then (if b == 114 then Some words.Or else None)
    else (if a == 105 then (if b == 110 then Some words.In else None)
    else (if a == 65 then (if b == 115 then Some words.As else None) else None))

abbrev pub three_letters : ℕ → ℕ → ℕ → Option Word
three_letters a b c =
    if a == 65 then (if b == 110 then (if c == 100 then Some words.And else None) else None)
    else (if a == 78 then (if b == 111 then (if c == 116 then Some words.Not else None) else
    None) else None)

abbrev pub word_at : List ℕ → Option Word
word_at [] = None
word_at (a ∷ []) = None
word_at (a ∷ b ∷ []) = two_letters a b
word_at (a ∷ b ∷ c ∷ []) = three_letters a b c
word_at (a ∷ b ∷ c ∷ d ∷ []) = if a == 116 then
    (if b == 114 then (if c == 117 then (if d == 101 then Some words.True else None) else None) else
    None) else None
word_at (a ∷ b ∷ c ∷ d ∷ e ∷ []) = if a == 102 then
    (if b == 97 then (if c == 108 then (if d == 115 then
    (if e == 101 then Some words.False else None) else None) else None) else None) else None
word_at (a ∷ b ∷ c ∷ d ∷ e ∷ f ∷ []) = None
word_at (a ∷ b ∷ c ∷ d ∷ e ∷ f ∷ g ∷ []) = if a == 101 then
    (if b == 120 then (if c == 97 then (if d == 99 then
    (if e == 116 then (if f == 105 then (if g == 110 then Some words.ExactIn else None) else
    None) else None) else None) else None) else None) else None
word_at (a ∷ b ∷ c ∷ d ∷ e ∷ f ∷ g ∷ h ∷ cs) = None

-- a symbol and how many characters it has: the long one where x follows
abbrev pub one_or_two : Symbol → Symbol → ℕ → List ℕ → Option (Symbol × ℕ)
one_or_two short long x cs = if begins_with x cs then Some (long, 2) else Some (short, 1)

abbrev pub less_at : List ℕ → Option (Symbol × ℕ)
less_at cs = if begins_with 61 cs then Some (LessEqual, 2) else one_or_two Less NotEqual 62 cs

abbrev pub bar_at : List ℕ → Option (Symbol × ℕ)
bar_at cs = if begins_with 124 cs then Some (DoubleBar, 2) else None

abbrev pub symbol_at : ℕ → List ℕ → Option (Symbol × ℕ)
symbol_at c cs =
    if c == 40 then Some (OpenParen, 1)
    else (if c == 41 then Some (CloseParen, 1)
    else (if c == 123 then Some (OpenBrace, 1)
    else (if c == 125 then Some (CloseBrace, 1)
    else (if c == 91 then one_or_two OpenBracket OpenBracketAt 64 cs
    else (if c == 93 then Some (CloseBracket, 1)
    else (if c == 44 then Some (Comma, 1)
    else (if c == 59 then Some (Semicolon, 1)
    else (if c == 58 then Some (Colon, 1)
    else (if c == 46 then Some (Dot, 1)
    else (if c == 43 then Some (Plus, 1)
    else (if c == 45 then Some (Minus, 1)
    else (if c == 42 then Some (Star, 1)
    else (if c == 94 then Some (Caret, 1)
    else (if c == 37 then Some (Percent, 1)
    else (if c == 38 then one_or_two Ampersand DoubleAmpersand 38 cs
    else (if c == 124 then bar_at cs
    else (if c == 33 then Some (Bang, 1)
    else (if c == 61 then Some (Equal, 1)
    else (if c == 60 then less_at cs
    else (if c == 62 then one_or_two Greater GreaterEqual 61 cs
    else None))))))))))))))))))))

abbrev pub symbol_seen : Option (Symbol × ℕ) → ScannedElement
symbol_seen None = None
symbol_seen (Some s) = scanned (kind.Symbol s.0) s.1

abbrev pub text_seen : Option ℕ → ScannedElement
text_seen None = None
text_seen (Some n) = scanned kind.Text (suc n)

-- a quoted name is not empty
abbrev pub quoted_seen : Option ℕ → ScannedElement
quoted_seen None = None
quoted_seen (Some n) = if nat_le n 1 then None else scanned kind.Name (suc n)

abbrev pub comment_seen : Option ℕ → ScannedElement
comment_seen None = None
comment_seen (Some n) = Some (Skip, suc (suc n))

-- after `/`
abbrev pub slash_at : List ℕ → ScannedElement
slash_at [] = scanned (kind.Symbol Slash) 1
slash_at (c ∷ cs) =
    if c == 47 then Some (Skip, suc (suc (run_length in_line cs)))
    else (if c == 42 then comment_seen (comment_run cs)
    else scanned (kind.Symbol Slash) 1)

abbrev pub other_at : ℕ → List ℕ → ScannedElement
other_at c cs =
    if c == 34 then text_seen (open_run 34 cs)
    else (if c == 39 then quoted_seen (open_run 39 cs)
    else (if c == 47 then slash_at cs
    else (if c == 36 then (if begins_with 34 cs then scanned kind.Opening 2 else None)
    else symbol_seen (symbol_at c cs))))

abbrev pub name_kind : Option Word → TokenKind
name_kind None = kind.Name
name_kind (Some w) = kind.Word w

abbrev pub name_scanned : List ℕ → ℕ → ScannedElement
name_scanned cs n = scanned (name_kind (word_at (take n cs))) n

abbrev pub by_class : Class → ℕ → List ℕ → ScannedElement
by_class White c cs = Some (Skip, 1)
by_class Digit c cs = scanned kind.Number (suc (number_run cs))
by_class Letter c cs = name_scanned (c ∷ cs) (suc (run_length in_name cs))
by_class Other c cs = other_at c cs

-- in a formula
abbrev pub formula_at : List ℕ → ScannedElement
formula_at [] = None
formula_at (c ∷ cs) = by_class (class_at c) c cs

-- at a mark that stands for itself
abbrev pub mark_scanned : List ℕ → ScannedElement
mark_scanned [] = None
mark_scanned (c ∷ cs) =
    if c == 34 then scanned kind.Closing 1
    else (if c == 123 then scanned (kind.Symbol OpenBrace) 1 else None)

abbrev pub weave_by : ℕ → List ℕ → ScannedElement
weave_by zero cs = mark_scanned cs
weave_by (suc n) cs = scanned kind.Piece (suc n)

-- in a weave's text
abbrev pub weave_at : List ℕ → ScannedElement
weave_at cs = weave_by (weave_run cs) cs

-- the element at the front whose spelling is the longest, and how many characters it has
abbrev pub element_at : Mode → List ℕ → ScannedElement
element_at Formula cs = formula_at cs
element_at Weave cs = weave_at cs

-- what a run is made of
abbrev pub passes : Run → ℕ → Bool
passes runs.Name c = in_name c
passes runs.Digits c = in_number c
passes runs.Line c = in_line c
