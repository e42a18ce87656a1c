-- Columns that are made of parts in pairs.
use Rattle.std.proofs.Common.{◌≡◌, ℕ, ◌-◌, ◌≤◌, List, [], ◌∷◌, length, map, take, drop, get_or, Option, Some, None, Result, Ok, refl, sym, ap, ◌∙◌, arith}
use Rattle.std.proofs.lemmas.List.{take_all}
use Rattle.fx_types.specs.TypeView.{shape}
use Rattle.fx_types.specs.Types.{ColumnList}
use Rattle.fx_core.specs.Term.{Term}
use Rattle.fx_typing.specs.Columns.{label_of, by_label, added, columns_renamed}
use Rattle.fx_core.specs.ColumnLists.{with_new, with_renamed}
use Rattle.fx_typing.specs.declared.typed.Typed.{Typed}
use Rattle.fx_typing.specs.TypedView.{typed}

-- a part's name
abbrev pub named : Term → Result (List ℕ) ℕ
named c = by_label (label_of c) (λ n. Ok n)

label_is : (o : Option (List ℕ)) (n : List ℕ) → by_label o (λ m. Ok m) ≡ Ok n → o ≡ Some n
label_is None n e = absurd cc
label_is (Some m) n e = cc

-- what is left behind a pair
behind : {A : Type 0} (x y : A) (xs : List A) → take (length (x ∷ y ∷ xs) - 2) (drop 2 (x ∷ y ∷ xs)) ≡ xs
behind x y xs = let e : length (x ∷ y ∷ xs) - 2 ≡ length xs = omega arith in rw e (take_all (length xs) xs (omega arith))

pub added_step : (xs : List Typed) (a b : Typed) (n : List ℕ) (cs ds : ColumnList) →
    2 ≤ length xs → a ≡ get_or xs 0 a → b ≡ get_or xs 1 b → named a.core ≡ Ok n → with_new n (shape b.ty) cs ≡ Ok ds →
    added (map typed (take (length xs - 2) (drop 2 xs))) ds ≡ added (map typed xs) cs
added_step [] a b n cs ds h p q e f = absurd (omega arith)
added_step (x ∷ []) a b n cs ds h p q e f = absurd (omega arith)
added_step (x ∷ y ∷ xs) a b n cs ds h p q e f =
    let l : label_of x.core ≡ Some n = ap (λ (t : Typed). label_of t.core) (sym p) ∙ label_is (label_of a.core) n e in
    let g : with_new n (shape y.ty) cs ≡ Ok ds = ap (λ (t : Typed). with_new n (shape t.ty) cs) (sym q) ∙ f in
    rw (behind x y xs, l, g) refl

pub renamed_step : (xs : List Typed) (a b : Typed) (n m : List ℕ) (cs ds : ColumnList) →
    2 ≤ length xs → a ≡ get_or xs 0 a → b ≡ get_or xs 1 b → named a.core ≡ Ok n → named b.core ≡ Ok m → with_renamed n m cs ≡ Ok ds →
    columns_renamed (map typed (take (length xs - 2) (drop 2 xs))) ds ≡ columns_renamed (map typed xs) cs
renamed_step [] a b n m cs ds h p q e f g = absurd (omega arith)
renamed_step (x ∷ []) a b n m cs ds h p q e f g = absurd (omega arith)
renamed_step (x ∷ y ∷ xs) a b n m cs ds h p q e f g =
    let l : label_of x.core ≡ Some n = ap (λ (t : Typed). label_of t.core) (sym p) ∙ label_is (label_of a.core) n e in
    let k : label_of y.core ≡ Some m = ap (λ (t : Typed). label_of t.core) (sym q) ∙ label_is (label_of b.core) m f in
    rw (behind x y xs, l, k, g) refl
