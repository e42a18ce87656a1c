-- The element at the front of a text.
use Rattle.std.specs.Prelude.{◌≡◌, ℕ, ◌<◌, ◌≤◌, List, [], ◌∷◌, ◌++◌, length, take, drop, Option}
use Rattle.std.specs.Prelude.{Some, None}
use Rattle.fx_lexer.specs.declared.element.Element.{Element}
use Rattle.fx_lexer.specs.declared.element.Element.TheVariants.{Skip, Token}
use Rattle.fx_lexer.specs.declared.element.Enclosing.{Enclosing}
use Rattle.fx_lexer.specs.declared.token.Token.{Token as Tok}
use Rattle.fx_lexer.specs.declared.element.Mode.{Mode}
use Rattle.fx_lexer.specs.declared.lexer.Front.{Front}
use Rattle.fx_lexer.specs.Spelling.{IsElement, NoElement}
use Rattle.fx_lexer.specs.Lexed.{width, enclosing_after}

-- the first characters, before the others, are this element
pub record IsFirstElement (mode : Mode) (cs : List ℕ) (n : Front) : Type 0 where
  pub is_long : 0 < n.characters
  pub within : n.characters ≤ length cs
  pub bytes : n.bytes ≡ width (take n.characters cs)
  pub is_element : IsElement mode n.element (take n.characters cs) (drop n.characters cs)

abbrev pub IsNext : Mode → List ℕ → Option Front → Type 0
IsNext mode cs None = NoElement mode cs
IsNext mode cs (Some n) = IsFirstElement mode cs n

-- a token from here up to there was put down, and what encloses the next place is known
abbrev pub IsTokenPut : Element → ℕ → ℕ → List Tok → List Tok → List Enclosing → List Enclosing
    → Type 0
IsTokenPut Skip at upto out new es fs = (new ≡ out) × (fs ≡ es)
IsTokenPut (Token k) at upto out new es fs = (new
    ≡ out ++ record { kind = k; at = at; upto = upto } ∷ []) × (fs ≡ enclosing_after k es)
