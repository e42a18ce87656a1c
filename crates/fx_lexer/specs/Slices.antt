-- Where the texts of tokens stand in the bytes of the source.
use Rattle.std.specs.Prelude.{ℕ, ◌<◌, ◌≤◌, List, [], ◌∷◌, map, slice_range}
use Rattle.std.specs.Str.{chars, IsCharBoundary}
use Rattle.fx_lexer.specs.declared.token.Token.{Token as Tok}
use Rattle.fx_lexer.specs.declared.token.TokenKind.{TokenKind}
use Rattle.fx_lexer.specs.declared.element.Element.TheVariants.{Token}
use Rattle.fx_lexer.specs.declared.element.Mode.{Mode}
use Rattle.fx_lexer.specs.Spelling.{Spelt}
use Rattle.fx_lexer.specs.Lexed.{Lexeme}

-- the characters of a token's slice of the source
abbrev pub slice_chars : List ℕ → Tok → List ℕ
slice_chars source t = chars (slice_range source t.at t.upto)

-- the tokens with the texts that they have in the source
abbrev pub lexeme_in : List ℕ → Tok → Lexeme
lexeme_in source t = record { kind = t.kind; at = t.at; text = slice_chars source t }

abbrev pub lexemes : List ℕ → List Tok → List Lexeme
lexemes source ts = map (lexeme_in source) ts

-- this text is spelt as this kind of token, in a formula or in a weave's text
abbrev pub IsSpeltAs : TokenKind → List ℕ → Type 0
IsSpeltAs k xs = (mode : Mode) × Spelt mode (Token k) xs

-- The token is a slice of the source that may be cut out there, and it is spelt as its kind.
pub record IsSlice (source : List ℕ) (t : Tok) : Type 0 where
  pub begins : IsCharBoundary source t.at
  pub ends : IsCharBoundary source t.upto
  pub is_long : t.at < t.upto
  pub spelt : IsSpeltAs t.kind (slice_chars source t)

-- These tokens are slices of the source in rising order, from this byte on.
abbrev pub AreSlicesFrom : List ℕ → ℕ → List Tok → Type 0
AreSlicesFrom source from [] = Unit {0}
AreSlicesFrom source from (t ∷ ts) = (from ≤ t.at) × IsSlice source t
    × AreSlicesFrom source t.upto ts

abbrev pub AreSlices : List ℕ → List Tok → Type 0
AreSlices source ts = AreSlicesFrom source 0 ts
