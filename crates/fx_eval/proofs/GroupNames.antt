-- The names of a call that groups, as a slice of them is taken apart.
use Rattle.std.proofs.Common.{◌≡◌, ℕ, suc, ◌-◌, ◌<◌, List, [], ◌∷◌, length, take, get_or, refl, ap, sym, subst, ◌∙◌, arith}
use Rattle.fx_core.specs.ColumnLists.{before_last}
use Rattle.fx_tables.specs.Groups.{CanGroup, CanUngroup, grouped_by, grouped_or, last_name, ungrouped_by, ungrouped_or}
use Rattle.fx_value.specs.Columns.{Row}

pub keys_taken : {A : Type 0} (xs : List A) → before_last xs ≡ take (length xs - 1) xs
keys_taken [] = refl
keys_taken (x ∷ []) = refl
keys_taken (x ∷ y ∷ xs) =
    let e : suc (length (y ∷ xs) - 1) ≡ length (x ∷ y ∷ xs) - 1 = omega arith in
    ap (λ zs. x ∷ zs) (keys_taken (y ∷ xs)) ∙ ap (λ i. take i (x ∷ y ∷ xs)) e

pub last_taken : (xs : List (List ℕ)) (d : List ℕ) → 0 < length xs → last_name xs ≡ get_or xs (length xs - 1) d
last_taken [] d h = absurd (omega arith)
last_taken (x ∷ []) d h = refl
last_taken (x ∷ y ∷ xs) d h =
    let e : suc (length (y ∷ xs) - 1) ≡ length (x ∷ y ∷ xs) - 1 = omega arith in
    last_taken (y ∷ xs) d (omega arith) ∙ ap (λ i. get_or (x ∷ y ∷ xs) i d) e

-- what is said of the names is said of the slices
pub group_can : (ns : List (List ℕ)) (rows : List Row) (g d : List ℕ) → 0 < length ns → g ≡ get_or ns (length ns - 1) d → CanGroup (before_last ns) (last_name ns) rows → CanGroup (take (length ns - 1) ns) g rows
group_can ns rows g d l e h = subst (λ ks. CanGroup ks g rows) (keys_taken ns) (subst (λ x. CanGroup (before_last ns) x rows) (last_taken ns d l ∙ sym e) h)

pub group_is : (ns : List (List ℕ)) (rows : List Row) (g d : List ℕ) → 0 < length ns → g ≡ get_or ns (length ns - 1) d → grouped_or (take (length ns - 1) ns) g rows ≡ grouped_by ns rows
group_is ns rows g d l e = λ i. grouped_or (sym (keys_taken ns) i) ((e ∙ sym (last_taken ns d l)) i) rows

pub ungroup_can : (ns : List (List ℕ)) (rows : List Row) (g d : List ℕ) → 0 < length ns → g ≡ get_or ns (length ns - 1) d → CanUngroup (last_name ns) rows → CanUngroup g rows
ungroup_can ns rows g d l e h = subst (λ x. CanUngroup x rows) (last_taken ns d l ∙ sym e) h

pub ungroup_is : (ns : List (List ℕ)) (rows : List Row) (g d : List ℕ) → 0 < length ns → g ≡ get_or ns (length ns - 1) d → ungrouped_or g rows ≡ ungrouped_by ns rows
ungroup_is ns rows g d l e = ap (λ x. ungrouped_or x rows) (e ∙ sym (last_taken ns d l))

-- and where there are no names
pub none_can : (ns : List (List ℕ)) (rows : List Row) → length ns < 1 → CanGroup (before_last ns) (last_name ns) rows → CanGroup ns [] rows
none_can [] rows l h = h
none_can (n ∷ ns) rows l h = absurd (omega arith)

pub none_is : (ns : List (List ℕ)) (rows : List Row) → length ns < 1 → grouped_or ns [] rows ≡ grouped_by ns rows
none_is [] rows l = refl
none_is (n ∷ ns) rows l = absurd (omega arith)

pub none_can_come : (ns : List (List ℕ)) (rows : List Row) → length ns < 1 → CanUngroup (last_name ns) rows → CanUngroup [] rows
none_can_come [] rows l h = h
none_can_come (n ∷ ns) rows l h = absurd (omega arith)

pub none_come : (ns : List (List ℕ)) (rows : List Row) → length ns < 1 → ungrouped_or [] rows ≡ ungrouped_by ns rows
none_come [] rows l = refl
none_come (n ∷ ns) rows l = absurd (omega arith)
