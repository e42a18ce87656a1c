-- What is equal part for part is equal.
use Rattle.std.proofs.Common.{◌≡◌, ℕ, List, [], ◌∷◌, refl}
use Rattle.fx_types.specs.Values.{Data, rec, tab, field_list, row_list}

-- fields and rows are those of their lists
pub field_list_tells : (fs gs : List (List ℕ × Data)) → field_list fs ≡ field_list gs → fs ≡ gs
field_list_tells [] [] e = refl
field_list_tells [] (g ∷ gs) e = cc
field_list_tells (f ∷ fs) [] e = cc
field_list_tells (f ∷ fs) (g ∷ gs) e =
    let n : f.0 ≡ g.0 = cc in
    let d : f.1 ≡ g.1 = cc in
    let r : field_list fs ≡ field_list gs = cc in
    λ i. (n i, d i) ∷ field_list_tells fs gs r i

pub row_list_tells : (rs ss : List (List (List ℕ × Data))) → row_list rs ≡ row_list ss → rs ≡ ss
row_list_tells [] [] e = refl
row_list_tells [] (s ∷ ss) e = cc
row_list_tells (r ∷ rs) [] e = cc
row_list_tells (r ∷ rs) (s ∷ ss) e =
    let f : field_list r ≡ field_list s = cc in
    let g : row_list rs ≡ row_list ss = cc in
    λ i. field_list_tells r s f i ∷ row_list_tells rs ss g i

pub rec_tells : (fs gs : List (List ℕ × Data)) → rec (field_list fs) ≡ rec (field_list gs) → fs ≡ gs
rec_tells fs gs e = let q : field_list fs ≡ field_list gs = cc in field_list_tells fs gs q

pub tab_tells : (rs ss : List (List (List ℕ × Data))) → tab (row_list rs) ≡ tab (row_list ss) → rs ≡ ss
tab_tells rs ss e = let q : row_list rs ≡ row_list ss = cc in row_list_tells rs ss q
