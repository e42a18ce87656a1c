-- Which formulas a text is, and why it is none. A text is a list of bytes, and its characters are
-- scalar values.
use Rattle.std.specs.Prelude.{◌≡◌, ℕ, ◌<◌, List, [], ◌∷◌, length, drop, map, slice_range}
use Rattle.std.specs.Str.{chars}
use Rattle.fx_lexer.specs.declared.token.Token.{Token}
use Rattle.fx_lexer.specs.Lexed.{Lexed, IsBadAt}
use Rattle.fx_grammar.specs.declared.item.Item.{Item}
use Rattle.fx_grammar.specs.Formulas.{NamedFormula, HasItems, IsDeeper, AreEntriesOf, AreDeeper}
use Rattle.fx_parser.specs.Trees.{HasFormula, Stops}
use Rattle.fx_parser.specs.Trees as trees
use Rattle.fx_parser.specs.declared.end.ParseEnd.{ParseEnd}
use Rattle.fx_parser.specs.declared.end.ParseEnd.TheVariants.{Lex, Syntax, TooDeep, Memory}
use Rattle.fx_parser.specs.declared.entries.Named.{Named}

-- the text is these named formulas, none deeper than n
abbrev pub TextHasEntries : ℕ → List ℕ → List NamedFormula → Type 0
TextHasEntries n cs es = (xs : List Item) × HasItems cs xs × AreEntriesOf n xs es

-- a named formula with its text, which is a slice of the source
abbrev pub named_of : List ℕ → NamedFormula → Named
named_of source e = record {
  name = e.name;
  at = e.begins;
  text = chars (slice_range source e.begins e.ends);
  expr = e.tree;
}

-- the source is these named formulas, none deeper than n
abbrev pub IsNamedText : ℕ → List ℕ → List Named → Type 0
IsNamedText n source ns = (es : List NamedFormula) × TextHasEntries n (chars source) es
    × (ns ≡ map (named_of source) es)

-- where the first of these tokens begins, or the end where there is none
abbrev pub place_or : ℕ → List Item → ℕ
place_or end [] = end
place_or end (x ∷ us) = x.at

-- The tokens are none of these, at any depth; here the first of them begins at which none can go
-- on, or the text ends.
pub record IsSyntaxAt (P : List Item → Type 0) (xs : List Item) (end at : ℕ) : Type 0 where
  pub place : ℕ
  pub stops : Stops P xs place
  pub begins : at ≡ place_or end (drop place xs)

-- The tokens are one of these, and each is too deep; here one of the tokens begins.
pub record IsTooDeepAt (P Deeper : List Item → Type 0) (xs : List Item) (end at : ℕ) : Type 0 where
  pub has_tree : P xs
  pub deeper : Deeper xs
  pub place : ℕ
  pub within : place < length xs
  pub begins : at ≡ place_or end (drop place xs)

-- Why a text is none of these: it has no tokens, and this is the first bad one, or its tokens are
-- none, or none that is deep enough.
abbrev pub IsEnd : (List Item → Type 0) → (List Item → Type 0) → List ℕ → ParseEnd → Type 0
IsEnd P Deeper source (Lex bad) = IsBadAt (chars source) bad
    × ((ts : List Token) → Lexed (chars source) ts → ⊥)
IsEnd P Deeper source (Syntax at) = (xs : List Item) × HasItems (chars source) xs
    × IsSyntaxAt P xs (length source) at
IsEnd P Deeper source (TooDeep at) = (xs : List Item) × HasItems (chars source) xs
    × IsTooDeepAt P Deeper xs (length source) at
IsEnd P Deeper source Memory = Unit {0}

-- why a text is no formula that is at most 64 deep
abbrev pub IsFormulaEnd : List ℕ → ParseEnd → Type 0
IsFormulaEnd = IsEnd HasFormula (IsDeeper 64)

-- why a text is no named formulas that are at most 64 deep
abbrev pub AreNamedEnd : List ℕ → ParseEnd → Type 0
AreNamedEnd = IsEnd trees.HasEntries (AreDeeper 64)

-- the same of the tokens alone
abbrev pub IsItemsEnd : (List Item → Type 0) → (List Item → Type 0) → List Item → ℕ → ParseEnd
    → Type 0
IsItemsEnd P Deeper xs end (Lex bad) = ⊥
IsItemsEnd P Deeper xs end (Syntax at) = IsSyntaxAt P xs end at
IsItemsEnd P Deeper xs end (TooDeep at) = IsTooDeepAt P Deeper xs end at
IsItemsEnd P Deeper xs end Memory = Unit {0}

-- why a text has no tokens
abbrev pub IsLexEnd : List ℕ → ParseEnd → Type 0
IsLexEnd source (Lex bad) = IsBadAt (chars source) bad
    × ((ts : List Token) → Lexed (chars source) ts → ⊥)
IsLexEnd source (Syntax at) = ⊥
IsLexEnd source (TooDeep at) = ⊥
IsLexEnd source Memory = Unit {0}
