-- The name of a column of groups among the parts of a call.
use Rattle.std.proofs.Common.{◌≡◌, ℕ, suc, ◌-◌, ◌<◌, List, [], ◌∷◌, length, map, get_or, Option, Some, None, refl, ap, ◌∙◌, arith}
use Rattle.fx_types.specs.Types.{ColumnList, no_columns}
use Rattle.fx_typing.specs.Breaks.{part_name, shared_as, taken_grouped, taken_name, taken_ungrouped}
use Rattle.fx_typing.specs.Parts.{JudgedPart}

-- it is that of the last part
pub taken_by_last : {A : Type 0} (f : A → JudgedPart) (xs : List A) (d : A) (cs : ColumnList) → 0 < length xs → taken_grouped (map f xs) cs ≡ taken_name (part_name (f (get_or xs (length xs - 1) d))) cs
taken_by_last f [] d cs h = absurd (omega arith)
taken_by_last f (x ∷ []) d cs h = refl
taken_by_last f (x ∷ y ∷ xs) d cs h =
    let e : suc (length (y ∷ xs) - 1) ≡ length (x ∷ y ∷ xs) - 1 = omega arith in
    taken_by_last f (y ∷ xs) d cs (omega arith) ∙ ap (λ i. taken_name (part_name (f (get_or (x ∷ y ∷ xs) i d))) cs) e

-- among no columns nothing is taken
no_name : (o : Option (List ℕ)) → taken_name o no_columns ≡ None
no_name (Some x) = refl
no_name None = refl

pub none_taken : (qs : List JudgedPart) → taken_grouped qs no_columns ≡ None
none_taken [] = refl
none_taken (q ∷ []) = no_name (part_name q)
none_taken (q ∷ r ∷ qs) = none_taken (r ∷ qs)

none_shared : (o : Option (List ℕ)) → shared_as o no_columns ≡ None
none_shared (Some g) = refl
none_shared None = refl

pub none_ungrouped : (qs : List JudgedPart) → taken_ungrouped qs no_columns ≡ None
none_ungrouped [] = refl
none_ungrouped (q ∷ []) = none_shared (part_name q)
none_ungrouped (q ∷ r ∷ qs) = refl
