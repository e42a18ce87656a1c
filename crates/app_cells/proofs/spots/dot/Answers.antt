use Rattle.std.proofs.Common.{◌≡◌, ◌++◌, ◌∷◌, ℕ, List, ap, sym, ◌∙◌, codes, rules}
use Rattle.std.proofs.lemmas.Result.{IfOk-weaker}
use Rattle.std.proofs.lemmas.Str.{chars-append, chars-IsAscii}
use Rattle.std.specs.Str.{IsAscii, IsUtf8, chars}
use Rattle.fx_core.specs.BrokenText.{address_of}
use Rattle.app_cells.proofs.spots.dot.Goals as goal

-- the characters of two texts with a point between them
joined : (x y : List ℕ) → IsUtf8 x → IsUtf8 (codes ".") → chars (x ++ (codes "." ++ y)) ≡ chars x ++ (codes "." ++ chars y)
joined x y h k =
    let point : IsAscii (codes ".") = search rules in
    chars-append x (codes "." ++ y) h ∙ ap (λ zs. chars x ++ zs) (chars-append (codes ".") y k ∙ ap (λ zs. zs ++ chars y) (chars-IsAscii (codes ".") point))

pub returns : goal.returns
returns c =
    let x = c.as_str-front.result.now in
    let y = c.as_str-back.result.now in
    let text : c.as_str.result.now ≡ x ++ (codes "." ++ y) = search rules in
    let point : IsUtf8 (codes ".") = search rules in
    let head = c.as_str-front.ensures.scalars ∙ c.in_ok-quoted.ensures in
    IfOk-weaker c.of.result _ _ (λ w e. e ∙ ap chars text ∙ joined x y c.as_str-front.utf8 point ∙ ap (λ zs. zs ++ (codes "." ++ chars y)) head ∙ ap (λ zs. address_of c.args.name.now ++ (codes "." ++ zs)) c.as_str-back.ensures.scalars) c.of.ensures
