-- The calls of numbered bodies are of functions that there are.
use Rattle.std.proofs.Common.{◌≡◌, ℕ, zero, suc, ◌+◌, ◌<◌, ◌≤◌, List, [], ◌∷◌, length, arith}
use Rattle.std.specs.List.{All}
use Rattle.std.proofs.lemmas.List.Elements.{All-append}
use Rattle.depend_graph.specs.Order.{AreBelow}
use Rattle.fx_core.specs.Term.{Term}
use Rattle.fx_udf.specs.Calling.{AllCallWithin, CallsWithin, called_in, calls_from, calls_in, calls_of}

abbrev IsBelow : ℕ → ℕ × ℕ → Type 0
IsBelow c e = (e.0 < c) × (e.1 < c)

below_of : (c a : ℕ) (xs : List ℕ) → a < c → All (λ f. f < c) xs → All (IsBelow c) (calls_of a xs)
below_of c a [] l h k d m = absurd (omega (arith, m))
below_of c a (x ∷ xs) l h zero d m = (l, h 0 x (omega arith))
below_of c a (x ∷ xs) l h (suc k) d m = below_of c a xs l (λ j e n. h (suc j) e (omega (arith, n))) k d (omega (arith, m))

below_from : (c n : ℕ) (bs : List Term) → n + length bs ≤ c → All (λ b. CallsWithin c b) bs → All (IsBelow c) (calls_from n bs)
below_from c n [] l h = λ k d m. absurd (omega (arith, m))
below_from c n (b ∷ bs) l h =
    All-append (IsBelow c) (calls_of n (called_in b)) (calls_from (suc n) bs) (below_of c n (called_in b) (omega (arith, l)) (h 0 b (omega arith)))
    (below_from c (suc n) bs (omega (arith, l)) (λ j e m. h (suc j) e (omega (arith, m))))

pub calls_below : (bs : List Term) → AllCallWithin bs → AreBelow (length bs) (calls_in bs)
calls_below bs h = below_from (length bs) 0 bs (omega arith) h
