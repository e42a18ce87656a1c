-- Which tokens a text has.
use Rattle.std.specs.Prelude.{◌≡◌, ◌≢◌, ℕ, ◌+◌, List, [], ◌∷◌, ◌++◌, length, map, encode_utf8, ◌==◌}
use Rattle.std.specs.Prelude.{if◌then◌else◌}
use Rattle.std.specs.Char.{is_ascii_digit}
use Rattle.fx_lexer.specs.declared.token.Symbol.TheVariants.{OpenBrace, CloseBrace}
use Rattle.fx_lexer.specs.declared.token.TokenKind.{TokenKind}
use Rattle.fx_lexer.specs.declared.token.TokenKind.TheVariants as kind
use Rattle.fx_lexer.specs.declared.token.Token.{Token as Tok}
use Rattle.fx_lexer.specs.declared.token.LexWhat.{LexWhat}
use Rattle.fx_lexer.specs.declared.token.LexWhat.TheVariants as what
use Rattle.fx_lexer.specs.declared.token.LexErr.{LexErr}
use Rattle.fx_lexer.specs.declared.token.LexEnd.{LexEnd}
use Rattle.fx_lexer.specs.declared.token.LexEnd.TheVariants.{Bad, Memory}
use Rattle.fx_lexer.specs.declared.element.Element.TheVariants.{Skip, Token}
use Rattle.fx_lexer.specs.declared.element.Enclosing.{Enclosing}
use Rattle.fx_lexer.specs.declared.element.Enclosing.TheVariants as around
use Rattle.fx_lexer.specs.declared.element.Mode.{Mode}
use Rattle.fx_lexer.specs.declared.element.Mode.TheVariants.{Formula, Weave}
use Rattle.fx_lexer.specs.Spelling.{IsElement, NoElement}

-- how many bytes these characters take
abbrev pub width : List ℕ → ℕ
width [] = 0
width (c ∷ cs) = length (encode_utf8 c) + width cs

-- A token with its text: what it is, the byte where it begins, and its characters.
pub record Lexeme : Type 0 where
  pub kind : TokenKind
  pub at : ℕ
  pub text : List ℕ

abbrev pub token_of : Lexeme → Tok
token_of l = record { kind = l.kind; at = l.at; upto = l.at + width l.text }

-- What encloses a place, innermost first, decides how it is read: directly in a weave stands its
-- text, elsewhere a formula.
abbrev pub mode_in : List Enclosing → Mode
mode_in [] = Formula
mode_in (around.Weave ∷ es) = Weave
mode_in (around.Brace ∷ es) = Formula

abbrev pub outside : List Enclosing → List Enclosing
outside [] = []
outside (e ∷ es) = es

-- What encloses the place after a token: an opening mark encloses what follows, a closing one ends
-- the innermost.
abbrev pub enclosing_after : TokenKind → List Enclosing → List Enclosing
enclosing_after kind.Opening es = around.Weave ∷ es
enclosing_after (kind.Symbol OpenBrace) es = around.Brace ∷ es
enclosing_after kind.Closing es = outside es
enclosing_after (kind.Symbol CloseBrace) es = outside es
enclosing_after k es = es

-- From the byte `at`, where the characters cs stand in es, these tokens are read, up to the byte
-- `end`, where rest stands in fs.
pub data LexesTo : List Enclosing → ℕ → List ℕ → List Lexeme → List Enclosing → ℕ → List ℕ
    → Type 0 where
  stop : (es : List Enclosing) (at : ℕ) (cs : List ℕ) → LexesTo es at cs [] es at cs
  skip : (es : List Enclosing) (at : ℕ) (xs cs : List ℕ) (ls : List Lexeme) (fs : List Enclosing)
      (end : ℕ) (rest : List ℕ)
      → IsElement (mode_in es) Skip xs cs → LexesTo es (at + width xs) cs ls fs end rest
      → LexesTo es at (xs ++ cs) ls fs end rest
  token : (es : List Enclosing) (at : ℕ) (k : TokenKind) (xs cs : List ℕ) (ls : List Lexeme)
      (fs : List Enclosing) (end : ℕ) (rest : List ℕ)
      → IsElement (mode_in es) (Token k) xs cs
      → LexesTo (enclosing_after k es) (at + width xs) cs ls fs end rest
      → LexesTo es at (xs ++ cs) (record { kind = k; at = at; text = xs } ∷ ls) fs end rest

-- The text is white space, comments and these tokens in turn. A weave or an island may still be
-- open at its end.
abbrev pub HasLexemes : List ℕ → List Lexeme → Type 0
HasLexemes cs ls = (fs : List Enclosing) × (end : ℕ) × LexesTo [] 0 cs ls fs end []

abbrev pub Lexed : List ℕ → List Tok → Type 0
Lexed cs ts = (ls : List Lexeme) × HasLexemes cs ls × (ts ≡ map token_of ls)

-- what is wrong where no element begins: its first character tells
abbrev pub wrong_with : Mode → List ℕ → LexWhat
wrong_with Weave cs = what.Character
wrong_with Formula [] = what.Character
wrong_with Formula (c ∷ cs) =
    if is_ascii_digit c then what.Number
    else (if c == 34 then what.TextNotEnded
    else (if c == 39 then what.NameNotEnded
    else (if c == 47 then what.CommentNotEnded
    else what.Character)))

-- the first bad token begins at this byte, and this is wrong with it
abbrev pub IsBadAt : List ℕ → LexErr → Type 0
IsBadAt cs bad = (ls : List Lexeme) × (es : List Enclosing) × (rest : List ℕ)
    × LexesTo [] 0 cs ls es bad.at rest
    × (rest ≢ []) × NoElement (mode_in es) rest × (bad.what ≡ wrong_with (mode_in es) rest)

-- what an error says of the text
abbrev pub IsBadToken : List ℕ → LexEnd → Type 0
IsBadToken cs (Bad bad) = IsBadAt cs bad
IsBadToken cs Memory = Unit {0}

-- a bad text has no list of tokens
abbrev pub HasNoTokens : List ℕ → LexEnd → Type 0
HasNoTokens cs (Bad bad) = (ts : List Tok) → Lexed cs ts → ⊥
HasNoTokens cs Memory = Unit {0}
