-- Formulas and breaks that are put behind others, and what is known of a text that has a tree.
use Rattle.std.specs.Prelude.{◌≡◌, ℕ, ◌<◌, ◌^◌, ◌++◌, List, [], ◌∷◌, All, length, encode_utf8_all}
use Rattle.std.specs.Str.{chars}
use Rattle.fx_lexer.specs.declared.token.Token.{Token}
use Rattle.fx_lexer.specs.Lexed.{Lexed}
use Rattle.fx_core.specs.Tree.{Tree}
use Rattle.fx_core.specs.declared.broken.Broken.{Broken}
use Rattle.fx_grammar.specs.Formulas.{HasTree}
use Rattle.app_cells.specs.declared.cell.Cell.{Cell}
use Rattle.app_cells.specs.declared.frame.Frame.{Frame}
use Rattle.app_cells.specs.Spots.{IsSpot}
use Rattle.app_texts.specs.declared.file_texts.Text.{Text}
use Rattle.app_texts.specs.Texts.{first_token_at}

-- things of which this holds are put behind others
pub record ArePutBehind {A : Type 0} (R : List A → Type 0) (old new : List A) : Type 0 where
  pub more : List A
  pub behind : new ≡ old ++ more
  pub holds : R more

pub record IsPutBehind (R : List Cell → List Broken → Type 0) (old_cells new_cells : List Cell)
    (old_breaks new_breaks : List Broken) : Type 0 where
  pub cells : List Cell
  pub breaks : List Broken
  pub cells_behind : new_cells ≡ old_cells ++ cells
  pub breaks_behind : new_breaks ≡ old_breaks ++ breaks
  pub holds : R cells breaks

abbrev pub IsFilled : {A : Type 0} → List A → Type 0
IsFilled [] = ⊥
IsFilled (x ∷ xs) = Unit {0}

-- each text stands at a place of the frame and has less than 2^32 bytes
pub record IsReadable (f : Frame) (t : Text) : Type 0 where
  pub spot : IsSpot f t.spot
  pub short : length (encode_utf8_all t.text) < 2 ^ 32

abbrev pub AreReadable : Frame → List Text → Type 0
AreReadable f ts = All (IsReadable f) ts

-- a source has a tree, and its first token begins here
abbrev pub HasSomeTree : List ℕ → Type 0
HasSomeTree source = (t : Tree) × HasTree 64 (chars source) t

abbrev pub BeginsAt : List ℕ → ℕ → Type 0
BeginsAt source at = (ts : List Token) × Lexed (chars source) ts × (at ≡ first_token_at ts)
