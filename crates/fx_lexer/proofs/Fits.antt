-- The element at the front of a text, in characters and in bytes.
use Rattle.std.proofs.Common.{◌≡◌, ℕ, List, take, ap, ◌∙◌, Some}
use Rattle.std.specs.Str.{chars, IsUtf8}
use Rattle.fx_lexer.specs.declared.element.Element.{Element}
use Rattle.fx_lexer.specs.declared.element.Mode.{Mode}
use Rattle.fx_lexer.specs.Lexed.{width}
use Rattle.fx_lexer.specs.Scan.{element_at}
use Rattle.fx_lexer.proofs.Judge.{found_at, decimal_found}
use Rattle.fx_lexer.proofs.Texts.{cut, BytesFit, bytes_fit}

pub fit : (mode : Mode) (cs bs : List ℕ) (e : Element) (n w : ℕ) (f t : List ℕ) → IsUtf8 bs → cs ≡ chars bs → element_at mode cs ≡ Some (e, n) → f ≡ take n cs → w ≡ width f → t ≡ take w bs → BytesFit e (take n cs) t
fit mode cs bs e n w f t u s h i j k =
    let g = cut bs cs n u s in
    bytes_fit e (take n cs) t (k ∙ ap (λ b. take b bs) (j ∙ ap width i) ∙ g.front) (decimal_found mode e (take n cs) (found_at mode cs e n h).1)
