-- How a walk over parts goes on, and where it stops.
use Rattle.std.proofs.Common.{◌≡◌, ℕ, List, [], ◌∷◌, ◌++◌, map, Result, Ok, Err, refl, sym, ap, ◌∙◌}
use Rattle.std.proofs.lemmas.List.{map_push}
use Rattle.fx_types.specs.Types.{Shape}
use Rattle.fx_core.specs.Term.{Term}
use Rattle.fx_core.specs.ColumnLists.{and_then}
use Rattle.fx_typing.specs.Local.{value, label, put_first}
use Rattle.fx_typing.specs.Parts.{JudgedPart, piece, meant, target, assigned, values, put_value}
use Rattle.fx_typing.proofs.Stops.{stops}
use Rattle.fx_typing.specs.Answers.{IsAnswerOf, Wrong}
use Rattle.fx_node_typing.specs.Lists.{parts_behind, value_part}
use Rattle.fx_node_typing.proofs.Kept.{last_then}

-- one part more before the ones behind
pub further : {Y : Type 0} (done : List Y) (y : Y) (r : Result (List Y) ℕ) → parts_behind (done ++ y ∷ []) r ≡ parts_behind done (parts_behind (y ∷ []) r)
further done y (Ok ys) = ap Ok (last_then done y ys)
further done y (Err e) = refl

-- how a walk steps, where each part is taken on its own
abbrev pub Steps : {X Y : Type 0} → (List X → Result (List Y) ℕ) → (X → Result Y ℕ) → Type 0
Steps {X = X} F f = (x : X) (xs : List X) → F (x ∷ xs) ≡ and_then (f x) (λ y. parts_behind (y ∷ []) (F xs))

-- one more part
pub walk : {X Y A B : Type 0} (F : List X → Result (List Y) ℕ) (f : X → Result Y ℕ) → Steps F f → (from : B → X) (to : A → Y) (done new : List A) (x : B) (y : A) (now rest : List B) (whole : Result (List Y) ℕ) → now ≡ x ∷ rest → f (from x) ≡ Ok (to y) → new ≡ done ++ y ∷ [] → parts_behind (map to done) (F (map from now)) ≡ whole → parts_behind (map to new) (F (map from rest)) ≡ whole
walk F f step from to done new x y now rest whole left e push inv =
    ap (λ l. parts_behind (map to l) (F (map from rest))) push
    ∙ ap (λ l. parts_behind l (F (map from rest))) (map_push to done y)
    ∙ further (map to done) (to y) (F (map from rest))
    ∙ ap (parts_behind (map to done)) (sym (ap (λ l. F (map from l)) left ∙ step (from x) (map from rest) ∙ ap (λ r. and_then r (λ z. parts_behind (z ∷ []) (F (map from rest)))) e))
    ∙ inv

-- a part that breaks a rule
pub halts : {X Y A B C : Type 0} (F : List X → Result (List Y) ℕ) (f : X → Result Y ℕ) → Steps F f → (from : B → X) (to : A → Y) (view : C → List Y) (done : List A) (x : B) (now rest : List B) (whole : Result (List Y) ℕ) (e : Wrong) → now ≡ x ∷ rest → parts_behind (map to done) (F (map from now)) ≡ whole → IsAnswerOf to (f (from x)) (Err e) → IsAnswerOf view whole (Err e)
halts F f step from to view done x now rest whole e left inv h = stops to view (f (from x)) whole e go h
  where
    go : (k : ℕ) → f (from x) ≡ Err k → whole ≡ Err k
    go k b = sym inv ∙ ap (parts_behind (map to done)) (ap (λ l. F (map from l)) left ∙ step (from x) (map from rest) ∙ ap (λ r. and_then r (λ z. parts_behind (z ∷ []) (F (map from rest)))) b)

-- a thing put first is one with the rest behind it
pub put_first_is : (x : Term × Shape) (r : Result (List (Term × Shape)) ℕ) → put_first x r ≡ parts_behind (x ∷ []) r
put_first_is x (Ok xs) = refl
put_first_is x (Err e) = refl

put_value_is : (x : Term × Shape) (r : Result (List (Term × Shape)) ℕ) → put_value x r ≡ parts_behind (x ∷ []) r
put_value_is x (Ok xs) = refl
put_value_is x (Err e) = refl

pub after_first : (q : Result (Term × Shape) ℕ) (r : Result (List (Term × Shape)) ℕ) → and_then q (λ y. put_first y r) ≡ and_then q (λ y. parts_behind (y ∷ []) r)
after_first (Ok y) r = put_first_is y r
after_first (Err e) r = refl

-- values, one after another
pub values_step : (q : JudgedPart) (qs : List JudgedPart) → values (q ∷ qs) ≡ and_then (value_part q) (λ y. parts_behind (y ∷ []) (values qs))
values_step (piece (value a c t)) qs = put_value_is (c, t) (values qs)
values_step (piece (label x)) qs = refl
values_step (meant m) qs = refl
values_step (target a x) qs = refl
values_step (assigned ns xs) qs = refl
