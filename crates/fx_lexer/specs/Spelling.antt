-- How the elements of a text are spelt: white space, comments and tokens. A text is the list of its
-- scalar values: 34 is `"`, 36 `$`, 39 `'`, 42 `*`, 47 `/`, 123 `{` and 125 `}`.
use Rattle.std.specs.Prelude.{◌≡◌, ◌≢◌, ℕ, ℤ, ◌≤◌, Bool, true, false, not, List, [], ◌∷◌, ◌++◌}
use Rattle.std.specs.Prelude.{length, nat_le, ◌==◌, ◌||◌, if◌then◌else◌}
use Rattle.std.specs.Char.{is_whitespace, is_ascii_digit, is_ascii_alphabetic}
use Rattle.fx_number.specs.Decimal.{IsInRange}
use Rattle.fx_number.specs.Spelling.{IsDecimal, Spells}
use Rattle.fx_lexer.specs.declared.token.Symbol.{Symbol}
use Rattle.fx_lexer.specs.declared.token.Symbol.TheVariants.{OpenParen, CloseParen, OpenBrace}
use Rattle.fx_lexer.specs.declared.token.Symbol.TheVariants.{CloseBrace, OpenBracket, CloseBracket}
use Rattle.fx_lexer.specs.declared.token.Symbol.TheVariants.{OpenBracketAt, Comma, Semicolon, Colon}
use Rattle.fx_lexer.specs.declared.token.Symbol.TheVariants.{Dot, Plus, Minus, Star, Slash, Caret}
use Rattle.fx_lexer.specs.declared.token.Symbol.TheVariants.{Percent, Ampersand, DoubleAmpersand}
use Rattle.fx_lexer.specs.declared.token.Symbol.TheVariants.{DoubleBar, Bang, Equal, NotEqual, Less}
use Rattle.fx_lexer.specs.declared.token.Symbol.TheVariants.{LessEqual, Greater, GreaterEqual}
use Rattle.fx_lexer.specs.declared.token.Word.{Word}
use Rattle.fx_lexer.specs.declared.token.Word.TheVariants as words
use Rattle.fx_lexer.specs.declared.token.TokenKind.TheVariants as kind
use Rattle.fx_lexer.specs.declared.element.Class.{Class}
use Rattle.fx_lexer.specs.declared.element.Class.TheVariants.{White, Digit, Letter, Other}
use Rattle.fx_lexer.specs.declared.element.Element.{Element}
use Rattle.fx_lexer.specs.declared.element.Element.TheVariants.{Skip, Token}
use Rattle.fx_lexer.specs.declared.element.Mode.{Mode}
use Rattle.fx_lexer.specs.declared.element.Mode.TheVariants.{Formula, Weave}

-- A letter is A to Z, a to z, `_`, or any character from U+0080 that is no white space.
unfoldable pub class_at : ℕ → Class
class_at c =
    if is_whitespace c then White
    else (if is_ascii_digit c then Digit
    else (if (nat_le 128 c || is_ascii_alphabetic c) || c == 95 then Letter
    else Other))

abbrev pub goes_on_name : Class → Bool
goes_on_name White = false
goes_on_name Digit = true
goes_on_name Letter = true
goes_on_name Other = false

abbrev pub goes_on_number : Class → Bool
goes_on_number White = false
goes_on_number Digit = true
goes_on_number Letter = false
goes_on_number Other = false

-- a letter, a digit or `_`
abbrev pub in_name : ℕ → Bool
in_name c = goes_on_name (class_at c)

-- a digit
abbrev pub in_number : ℕ → Bool
in_number c = goes_on_number (class_at c)

-- what a line holds: any character but the line feed that ends it
abbrev pub in_line : ℕ → Bool
in_line c = not (c == 10)

-- what is doubled in a text and in a quoted name, and in a weave's text, where `"`, `{` and `}` are
-- marks
abbrev pub is_quote : ℕ → ℕ → Bool
is_quote q c = c == q

abbrev pub is_mark : ℕ → Bool
is_mark c = c == 34 || (c == 123 || c == 125)

-- each character passes
abbrev pub Every : (ℕ → Bool) → List ℕ → Type 0
Every p [] = Unit {0}
Every p (c ∷ cs) = (p c ≡ true) × Every p cs

-- the text with each of its marks doubled
abbrev pub doubled : (ℕ → Bool) → List ℕ → List ℕ
doubled p [] = []
doubled p (c ∷ cs) = if p c then c ∷ c ∷ doubled p cs else c ∷ doubled p cs

-- `*/` stands nowhere in the text
abbrev pub HasNoEnd : List ℕ → Type 0
HasNoEnd cs = (xs ys : List ℕ) → cs ≢ xs ++ 42 ∷ 47 ∷ ys

abbrev pub word_spelling : Word → List ℕ
word_spelling words.And = 65 ∷ 110 ∷ 100 ∷ []
word_spelling words.Or = 79 ∷ 114 ∷ []
word_spelling words.Not = 78 ∷ 111 ∷ 116 ∷ []
word_spelling words.In = 105 ∷ 110 ∷ []
word_spelling words.ExactIn = 101 ∷ 120 ∷ 97 ∷ 99 ∷ 116 ∷ 105 ∷ 110 ∷ []
word_spelling words.As = 65 ∷ 115 ∷ []
word_spelling words.True = 116 ∷ 114 ∷ 117 ∷ 101 ∷ []
word_spelling words.False = 102 ∷ 97 ∷ 108 ∷ 115 ∷ 101 ∷ []

abbrev pub symbol_spelling : Symbol → List ℕ
symbol_spelling OpenParen = 40 ∷ []
symbol_spelling CloseParen = 41 ∷ []
symbol_spelling OpenBrace = 123 ∷ []
symbol_spelling CloseBrace = 125 ∷ []
symbol_spelling OpenBracket = 91 ∷ []
symbol_spelling CloseBracket = 93 ∷ []
symbol_spelling OpenBracketAt = 91 ∷ 64 ∷ []
symbol_spelling Comma = 44 ∷ []
symbol_spelling Semicolon = 59 ∷ []
symbol_spelling Colon = 58 ∷ []
symbol_spelling Dot = 46 ∷ []
symbol_spelling Plus = 43 ∷ []
symbol_spelling Minus = 45 ∷ []
symbol_spelling Star = 42 ∷ []
symbol_spelling Slash = 47 ∷ []
symbol_spelling Caret = 94 ∷ []
symbol_spelling Percent = 37 ∷ []
symbol_spelling Ampersand = 38 ∷ []
symbol_spelling DoubleAmpersand = 38 ∷ 38 ∷ []
symbol_spelling DoubleBar = 124 ∷ 124 ∷ []
symbol_spelling Bang = 33 ∷ []
symbol_spelling Equal = 61 ∷ []
symbol_spelling NotEqual = 60 ∷ 62 ∷ []
symbol_spelling Less = 60 ∷ []
symbol_spelling LessEqual = 60 ∷ 61 ∷ []
symbol_spelling Greater = 62 ∷ []
symbol_spelling GreaterEqual = 62 ∷ 61 ∷ []

-- How each element is spelt in a formula and in the text of a weave.
pub data Spelt : Mode → Element → List ℕ → Type 0 where
  white : (c : ℕ) → class_at c ≡ White → Spelt Formula Skip (c ∷ [])
  line_comment : (cs : List ℕ) → Every in_line cs → Spelt Formula Skip (47 ∷ 47 ∷ cs)
  block_comment : (cs : List ℕ) → HasNoEnd cs → Spelt Formula Skip (47 ∷ 42 ∷ (cs ++ 42 ∷ 47 ∷ []))
  number : (cs ds es : List ℕ) → IsDecimal cs ds es → Spelt Formula (Token kind.Number) cs
  text : (cs : List ℕ) → Spelt Formula (Token kind.Text)
      (34 ∷ (doubled (is_quote 34) cs ++ 34 ∷ []))
  name : (c : ℕ) (cs : List ℕ) → class_at c ≡ Letter → Every in_name cs
      → ((w : Word) → c ∷ cs ≢ word_spelling w) → Spelt Formula (Token kind.Name) (c ∷ cs)
  quoted_name : (c : ℕ) (cs : List ℕ) → Spelt Formula (Token kind.Name)
      (39 ∷ (doubled (is_quote 39) (c ∷ cs) ++ 39 ∷ []))
  word : (w : Word) → Spelt Formula (Token (kind.Word w)) (word_spelling w)
  symbol : (s : Symbol) → Spelt Formula (Token (kind.Symbol s)) (symbol_spelling s)
  opening : Spelt Formula (Token kind.Opening) (36 ∷ 34 ∷ [])
  closing : Spelt Weave (Token kind.Closing) (34 ∷ [])
  piece : (c : ℕ) (cs : List ℕ) → Spelt Weave (Token kind.Piece) (doubled is_mark (c ∷ cs))
  island : Spelt Weave (Token (kind.Symbol OpenBrace)) (123 ∷ [])

-- the text begins with this character
abbrev pub begins_with : ℕ → List ℕ → Bool
begins_with x [] = false
begins_with x (c ∷ cs) = c == x

-- What may follow: a closing quote is one that no quote follows, and `/*` begins a comment.
abbrev pub IsClosed : Element → List ℕ → List ℕ → Type 0
IsClosed (Token kind.Text) xs rest = begins_with 34 rest ≡ false
IsClosed (Token kind.Name) xs rest = begins_with 39 xs ≡ true → begins_with 39 rest ≡ false
IsClosed (Token (kind.Symbol Slash)) xs rest = begins_with 42 rest ≡ false
IsClosed e xs rest = Unit {0}

-- A number has a value: its text spells one that is in range.
abbrev pub SpellsNumber : Element → List ℕ → Type 0
SpellsNumber (Token kind.Number) xs = (z : ℤ) × Spells xs z × IsInRange z
SpellsNumber e xs = Unit {0}

-- xs, before rest, is this element: nothing that is spelt at this place is longer
pub record IsElement (mode : Mode) (e : Element) (xs rest : List ℕ) : Type 0 where
  pub spelt : Spelt mode e xs
  pub longest : (q : Element) (ys zs : List ℕ) → xs ++ rest ≡ ys ++ zs → Spelt mode q ys
      → length ys ≤ length xs
  pub closed : IsClosed e xs rest
  pub has_value : SpellsNumber e xs

-- no element begins the text
abbrev pub NoElement : Mode → List ℕ → Type 0
NoElement mode cs = (q : Element) (ys zs : List ℕ) → cs ≡ ys ++ zs → IsElement mode q ys zs → ⊥
