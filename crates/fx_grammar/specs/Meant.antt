-- What a text of a kind means.
use Rattle.std.specs.Prelude.{◌≡◌, ℕ, ℤ, ◌≤◌, ◌⊎◌, pos, false, List, [], ◌∷◌, ◌++◌}
use Rattle.std.specs.Str.{chars}
use Rattle.fx_number.specs.Decimal.{greatest}
use Rattle.fx_number.specs.Spelling.{IsDecimal, decimal_units}
use Rattle.fx_lexer.specs.Spelling.{doubled, is_mark, begins_with, SpellsNumber}
use Rattle.fx_lexer.specs.Slices.{slice_chars, IsSlice}
use Rattle.fx_lexer.specs.declared.element.Element.TheVariants as element
use Rattle.fx_lexer.specs.declared.token.Token.{Token}
use Rattle.fx_lexer.specs.declared.token.TokenKind.{TokenKind}
use Rattle.fx_lexer.specs.declared.token.TokenKind.TheVariants as kind
use Rattle.fx_grammar.specs.declared.item.Meaning.{Meaning}
use Rattle.fx_grammar.specs.declared.item.Meaning.TheVariants as m
use Rattle.fx_grammar.specs.Means.{between_quotes}
use Rattle.fx_grammar.specs.Undoubling.{test_of}
use Rattle.fx_grammar.specs.declared.marks.Marks.{Marks}
use Rattle.fx_grammar.specs.declared.marks.Marks.TheVariants.{Quote, Apostrophe, Weave}

-- a number's text has a value that is in range
abbrev pub IsValued : TokenKind → List ℕ → Type 0
IsValued k xs = SpellsNumber (element.Token k) xs

-- the quote around a text
abbrev pub quote_of : Marks → ℕ
quote_of Quote = 34
quote_of Apostrophe = 39
quote_of Weave = 34

-- the text between quotes, each of its marks doubled
abbrev pub in_quotes : Marks → List ℕ → List ℕ
in_quotes k cs = quote_of k ∷ (doubled (test_of k) cs ++ quote_of k ∷ [])

-- some text between quotes, or some text with its marks doubled
abbrev pub IsQuoted : Marks → List ℕ → Type 0
IsQuoted k xs = (cs : List ℕ) × (xs ≡ in_quotes k cs)

abbrev pub IsSomeDoubled : Marks → List ℕ → Type 0
IsSomeDoubled k xs = (cs : List ℕ) × (xs ≡ doubled (test_of k) cs)

-- the number that the digits spell
abbrev pub IsNumberOf : List ℕ → ℤ → Type 0
IsNumberOf xs z = (ds : List ℕ) × (es : List ℕ) × IsDecimal xs ds es
    × (decimal_units ds es ≤ greatest) × (z ≡ pos (decimal_units ds es))

-- the name that a text is, plain or between quotes
abbrev pub IsNameOf : List ℕ → List ℕ → Type 0
IsNameOf xs cs = ((begins_with 39 xs ≡ false) × (cs ≡ xs)) ⊎ (xs ≡ between_quotes 39 cs)

-- what a text of this kind means
abbrev pub IsMeaning : TokenKind → List ℕ → Meaning → Type 0
IsMeaning kind.Number xs k = (z : ℤ) × IsNumberOf xs z × (k ≡ m.Number z)
IsMeaning kind.Text xs k = (cs : List ℕ) × (xs ≡ between_quotes 34 cs) × (k ≡ m.Text cs)
IsMeaning kind.Name xs k = (cs : List ℕ) × IsNameOf xs cs × (k ≡ m.Name cs)
IsMeaning (kind.Word w) xs k = k ≡ m.Word w
IsMeaning (kind.Symbol s) xs k = k ≡ m.Symbol s
IsMeaning kind.Opening xs k = k ≡ m.Opening
IsMeaning kind.Closing xs k = k ≡ m.Closing
IsMeaning kind.Piece xs k = (cs : List ℕ) × (xs ≡ doubled is_mark cs) × (k ≡ m.Piece cs)

-- The token is a slice of the source, spelt as its kind, and a number is in range.
pub record IsSoundToken (source : List ℕ) (t : Token) : Type 0 where
  pub slice : IsSlice source t
  pub value : IsValued t.kind (slice_chars source t)
