-- Addresses with arrows between them.
use Rattle.std.proofs.Common.{◌≡◌, ℕ, zero, suc, ◌<◌, ◌≤◌, ◌+◌, add-one, List, [], ◌∷◌, ◌++◌, length, take, get_or, ap, sym, ◌∙◌, append_assoc, codes, refl, encode_utf8_all, arith}
use Rattle.app_loader.specs.Cycles.{arrow_at, joined_by_arrows}

further : (ts : List (List ℕ)) (i : ℕ) (y : List ℕ) → i < length ts → y ≡ get_or ts i y →
    joined_by_arrows (take (suc i) ts) ≡ joined_by_arrows (take i ts) ++ (arrow_at i ++ y)
further [] i y h e = absurd (omega arith)
further (x ∷ xs) zero y h e = sym e
further (x ∷ []) (suc i) y h e = absurd (omega arith)
further (x ∷ z ∷ zs) (suc zero) y h e = ap (λ s. x ++ (codes " -> " ++ s)) (sym e)
further (x ∷ z ∷ zs) (suc (suc i)) y h e =
    ap (λ s. x ++ (codes " -> " ++ s)) (further (z ∷ zs) (suc i) y (omega arith) e)
    ∙ ap (λ s. x ++ s) (sym (append_assoc (codes " -> ") (joined_by_arrows (take (suc i) (z ∷ zs))) (codes " -> " ++ y)))
    ∙ sym (append_assoc x (codes " -> " ++ joined_by_arrows (take (suc i) (z ∷ zs))) (codes " -> " ++ y))

-- one address more
pub joined_next : (ts : List (List ℕ)) (i : ℕ) (y : List ℕ) → i < length ts → y ≡ get_or ts i y →
    joined_by_arrows (take (i + 1) ts) ≡ joined_by_arrows (take i ts) ++ (arrow_at i ++ y)
joined_next ts i y h e = rw (add-one i) (further ts i y h e)

-- an arrow is spelt as it is
pub arrow_spelt : (place : ℕ) (name : List ℕ) → encode_utf8_all (arrow_at place ++ name) ≡ arrow_at place ++ encode_utf8_all name
unfolding lib.Utf8.encode
arrow_spelt zero name = refl
arrow_spelt (suc place) name = refl

pub pushed : (old mid new arrow name bytes : List ℕ) (place : ℕ) → mid ≡ old ++ arrow → arrow ≡ arrow_at place → new ≡ mid ++ bytes → bytes ≡ encode_utf8_all name → new ≡ old ++ encode_utf8_all (arrow_at place ++ name)
pushed old mid new arrow name bytes place e a f b =
    f ∙ (λ i. (e ∙ ap (λ xs. old ++ xs) a) i ++ b i) ∙ append_assoc old (arrow_at place) (encode_utf8_all name) ∙ ap (λ xs. old ++ xs) (sym (arrow_spelt place name))

pub some_arrow : (place : ℕ) → 0 < place → codes " -> " ≡ arrow_at place
some_arrow zero h = absurd (omega (arith, h))
some_arrow (suc place) h = refl

pub no_arrow : (place : ℕ) → place ≤ 0 → [] ≡ arrow_at place
no_arrow zero h = refl
no_arrow (suc place) h = absurd (omega (arith, h))
