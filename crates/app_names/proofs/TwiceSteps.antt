-- Names that are taken, one after another.
use Rattle.std.proofs.Common.{arith, suc, ◌≡◌, ℕ, ◌+◌, ◌<◌, Bool, true, false, List, [], ◌∷◌, ◌++◌, Option, Some, get_or, drop, length, ap, sym, ◌∙◌, if◌then◌else◌}
use Rattle.std.specs.Prelude.{◌||◌}
use Rattle.std.proofs.Math.Seq.{drop-cons}
use Rattle.app_names.specs.Declarations.{is_name_among}
use Rattle.app_names.specs.NameRules.{first_twice, is_reserved}

abbrev twice_or : Bool → List ℕ → Option (List ℕ) → Option (List ℕ)
twice_or b x more = if b then Some x else more

twice_here : (xs names : List (List ℕ)) (i : ℕ) (x : List ℕ) (given : List ℕ → Bool) → i < length names → x ≡ get_or names i x → given ≡ is_name_among xs
    → first_twice xs (drop i names) ≡ twice_or (is_reserved x || given x) x (first_twice (xs ++ x ∷ []) (drop (i + 1) names))
twice_here xs names i x given below is e =
    let next : suc i ≡ i + 1 = omega arith in
    let rest : drop i names ≡ x ∷ drop (i + 1) names = drop-cons names i x below ∙ ap (λ y. y ∷ drop (suc i) names) (sym is) ∙ ap (λ k. x ∷ drop k names) next in
    ap (first_twice xs) rest ∙ ap (λ (g : List ℕ → Bool). twice_or (is_reserved x || g x) x (first_twice (xs ++ x ∷ []) (drop (i + 1) names))) (sym e)

pub twice_found : (xs names : List (List ℕ)) (i : ℕ) (x : List ℕ) (given : List ℕ → Bool) → i < length names → x ≡ get_or names i x → given ≡ is_name_among xs → (is_reserved x || given x) ≡ true
    → Some x ≡ first_twice xs (drop i names)
twice_found xs names i x given below is e b = sym (twice_here xs names i x given below is e ∙ ap (λ c. twice_or c x (first_twice (xs ++ x ∷ []) (drop (i + 1) names))) b)

pub twice_later : (xs names : List (List ℕ)) (i : ℕ) (x : List ℕ) (given : List ℕ → Bool) → i < length names → x ≡ get_or names i x → given ≡ is_name_among xs → (is_reserved x || given x) ≡ false
    → first_twice (xs ++ x ∷ []) (drop (i + 1) names) ≡ first_twice xs (drop i names)
twice_later xs names i x given below is e b = sym (twice_here xs names i x given below is e ∙ ap (λ c. twice_or c x (first_twice (xs ++ x ∷ []) (drop (i + 1) names))) b)
