-- The first error in keys, key by key.
use Rattle.std.proofs.Common.{◌≡◌, ℕ, ◌+◌, ◌<◌, List, [], ◌∷◌, ◌++◌, length, get_or, drop, Bool, true, false, Option, Some, None, refl, ap, sym, ◌∙◌, cond}
use Rattle.std.specs.Prelude.{MatchOption, flat_map}
use Rattle.std.specs.List.{find}
use Rattle.fx_types.specs.Values.{Data}
use Rattle.fx_tables.specs.Groups.{key_of}
use Rattle.fx_tables.specs.Unions.{is_fault}
use Rattle.fx_value.proofs.JoinSteps.{left}
use Rattle.fx_value.specs.Columns.{Row}

past : {A : Type 0} (p : A → Bool) (xs ys : List A) → find p xs ≡ None → find p (xs ++ ys) ≡ find p ys
past p [] ys e = refl
past p (x ∷ xs) ys e = by (p x) e (past p xs ys)
  where
    by : (b : Bool) → cond b (Some x) (find p xs) ≡ None → (find p xs ≡ None → find p (xs ++ ys) ≡ find p ys) → cond b (Some x) (find p (xs ++ ys)) ≡ find p ys
    by true e k = absurd cc
    by false e k = k e

here : {A : Type 0} (p : A → Bool) (xs ys : List A) (d : A) → find p xs ≡ Some d → find p (xs ++ ys) ≡ Some d
here p [] ys d e = absurd cc
here p (x ∷ xs) ys d e = by (p x) e (here p xs ys d)
  where
    by : (b : Bool) → cond b (Some x) (find p xs) ≡ Some d → (find p xs ≡ Some d → find p (xs ++ ys) ≡ Some d) → cond b (Some x) (find p (xs ++ ys)) ≡ Some d
    by true e k = e
    by false e k = k e

-- no error in the next key, and one
pub past_row : (ns : List (List ℕ)) (rows : List Row) (i : ℕ) (r : Row) (first : Option Data) → i < length rows → r ≡ get_or rows i r → find is_fault (key_of ns r) ≡ None →
    find is_fault (flat_map (key_of ns) (drop i rows)) ≡ first → find is_fault (flat_map (key_of ns) (drop (i + 1) rows)) ≡ first
past_row ns rows i r first l e none h =
    sym (past is_fault (key_of ns r) (flat_map (key_of ns) (drop (i + 1) rows)) none) ∙ sym (ap (λ zs. find is_fault (flat_map (key_of ns) zs)) (left rows i r l e)) ∙ h

pub in_row : (ns : List (List ℕ)) (rows : List Row) (i : ℕ) (r : Row) (first : Option Data) (d : Data) → i < length rows → r ≡ get_or rows i r → find is_fault (key_of ns r) ≡ Some d →
    find is_fault (flat_map (key_of ns) (drop i rows)) ≡ first → first ≡ Some d
in_row ns rows i r first d l e some h =
    sym h ∙ ap (λ zs. find is_fault (flat_map (key_of ns) zs)) (left rows i r l e) ∙ here is_fault (key_of ns r) (flat_map (key_of ns) (drop (i + 1) rows)) d some

-- where none was found
pub none_found : {X : Type 0} {P : Type 0} (Q : X → Type 0) (o : Option X) → ((x : X) → o ≡ Some x → ⊥) → MatchOption o P Q → P
none_found Q None h m = m
none_found Q (Some x) h m = absurd (h x refl)
