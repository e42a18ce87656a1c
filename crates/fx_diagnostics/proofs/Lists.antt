-- Texts with commas between them.
use Rattle.std.proofs.Common.{◌≡◌, ℕ, zero, suc, ◌<◌, ◌+◌, add-one, List, [], ◌∷◌, ◌++◌, length, take, get_or, ap, sym, ◌∙◌, append_assoc, codes, arith}
use Rattle.fx_typing.specs.Details.{comma_separated}
use Rattle.fx_diagnostics.specs.Separators.{comma_at}

further : (ts : List (List ℕ)) (i : ℕ) (y : List ℕ) → i < length ts → y ≡ get_or ts i y →
    comma_separated (take (suc i) ts) ≡ comma_separated (take i ts) ++ (comma_at i ++ y)
further [] i y h e = absurd (omega arith)
further (x ∷ xs) zero y h e = sym e
further (x ∷ []) (suc i) y h e = absurd (omega arith)
further (x ∷ z ∷ zs) (suc zero) y h e = ap (λ s. x ++ (codes ", " ++ s)) (sym e)
further (x ∷ z ∷ zs) (suc (suc i)) y h e =
    ap (λ s. x ++ (codes ", " ++ s)) (further (z ∷ zs) (suc i) y (omega arith) e)
    ∙ ap (λ s. x ++ s) (sym (append_assoc (codes ", ") (comma_separated (take (suc i) (z ∷ zs))) (codes ", " ++ y)))
    ∙ sym (append_assoc x (codes ", " ++ comma_separated (take (suc i) (z ∷ zs))) (codes ", " ++ y))

-- one text more
pub commas_next : (ts : List (List ℕ)) (i : ℕ) (y : List ℕ) → i < length ts → y ≡ get_or ts i y →
    comma_separated (take (i + 1) ts) ≡ comma_separated (take i ts) ++ (comma_at i ++ y)
commas_next ts i y h e = rw (add-one i) (further ts i y h e)
