-- Which functions of an app's own trees call.
use Rattle.std.specs.Prelude.{ℕ, suc, ◌<◌, ◌++◌, List, [], ◌∷◌, map, length}
use Rattle.std.specs.List.{All}
use Rattle.fx_core.specs.Term.{Term, Terms, of, nil, cons, Top}
use Rattle.fx_core.specs.Term as top

-- the function that a head calls
abbrev pub called_by : Top → List ℕ
called_by (top.user f) = f ∷ []
called_by h = []

abbrev mutual
  -- the functions that a tree calls, as they stand in it
  pub called_in : Term → List ℕ
  called_in (of h ts) = called_by h ++ called_among ts

  pub called_among : Terms → List ℕ
  called_among nil = []
  called_among (cons t ts) = called_in t ++ called_among ts

-- the calls of a function, where (a, b) says that a calls b
abbrev pub calls_of : ℕ → List ℕ → List (ℕ × ℕ)
calls_of a [] = []
calls_of a (b ∷ bs) = (a, b) ∷ calls_of a bs

-- the calls in bodies of functions that are numbered from a number on
abbrev pub calls_from : ℕ → List Term → List (ℕ × ℕ)
calls_from n [] = []
calls_from n (b ∷ bs) = calls_of n (called_in b) ++ calls_from (suc n) bs

abbrev pub calls_in : List Term → List (ℕ × ℕ)
calls_in bodies = calls_from 0 bodies

-- each call of a tree is one of so many functions
abbrev pub CallsWithin : ℕ → Term → Type 0
CallsWithin n t = All (λ f. f < n) (called_in t)

-- each call of the bodies is one of a function that has one of them
abbrev pub AllCallWithin : List Term → Type 0
AllCallWithin bodies = All (λ b. CallsWithin (length bodies) b) bodies
