-- What tokens mean: numbers by their digits, texts, names and pieces without the marks around them
-- and with each doubled mark made one.
use Rattle.std.specs.Prelude.{◌≡◌, ℕ, ◌+◌, ◌≤◌, pos, false, List, [], ◌∷◌, ◌++◌}
use Rattle.fx_number.specs.Decimal.{greatest}
use Rattle.fx_number.specs.Spelling.{IsDecimal, decimal_units}
use Rattle.fx_lexer.specs.Spelling.{doubled, is_quote, is_mark, begins_with}
use Rattle.fx_lexer.specs.Lexed.{Lexeme, width}
use Rattle.fx_lexer.specs.declared.token.Symbol.{Symbol}
use Rattle.fx_lexer.specs.declared.token.Word.{Word}
use Rattle.fx_lexer.specs.declared.token.TokenKind.TheVariants as kind
use Rattle.fx_grammar.specs.declared.item.Item.{Item}
use Rattle.fx_grammar.specs.declared.item.Meaning.{Meaning}
use Rattle.fx_grammar.specs.declared.item.Meaning.TheVariants as m

-- the text between two quotes, each quote in it doubled
abbrev pub between_quotes : ℕ → List ℕ → List ℕ
between_quotes q cs = q ∷ (doubled (is_quote q) cs ++ q ∷ [])

-- the token, with this meaning
abbrev pub item : Lexeme → Meaning → Item
item l k = record { at = l.at; upto = l.at + width l.text; meaning = k }

-- a token means this
pub data TokenMeans : Lexeme → Item → Type 0 where
  number : (l : Lexeme) (ds es : List ℕ) → l.kind ≡ kind.Number → IsDecimal l.text ds es
      → decimal_units ds es ≤ greatest → TokenMeans l
      (item l (m.Number (pos (decimal_units ds es))))
  text : (l : Lexeme) (cs : List ℕ) → l.kind ≡ kind.Text → l.text ≡ between_quotes 34 cs
      → TokenMeans l (item l (m.Text cs))
  plain_name : (l : Lexeme) → l.kind ≡ kind.Name → begins_with 39 l.text ≡ false
      → TokenMeans l (item l (m.Name l.text))
  quoted_name : (l : Lexeme) (cs : List ℕ) → l.kind ≡ kind.Name → l.text ≡ between_quotes 39 cs
      → TokenMeans l (item l (m.Name cs))
  word : (l : Lexeme) (w : Word) → l.kind ≡ kind.Word w → TokenMeans l (item l (m.Word w))
  symbol : (l : Lexeme) (s : Symbol) → l.kind ≡ kind.Symbol s → TokenMeans l (item l (m.Symbol s))
  opening : (l : Lexeme) → l.kind ≡ kind.Opening → TokenMeans l (item l m.Opening)
  closing : (l : Lexeme) → l.kind ≡ kind.Closing → TokenMeans l (item l m.Closing)
  piece : (l : Lexeme) (cs : List ℕ) → l.kind ≡ kind.Piece → l.text ≡ doubled is_mark cs
      → TokenMeans l (item l (m.Piece cs))

-- each token means the one in its place
pub data AllMean : List Lexeme → List Item → Type 0 where
  no_more : AllMean [] []
  one_more : (l : Lexeme) (x : Item) (ls : List Lexeme) (xs : List Item) → TokenMeans l x
      → AllMean ls xs → AllMean (l ∷ ls) (x ∷ xs)
