-- The steps by which two lists of rising columns are joined.
use Rattle.std.proofs.Common.{◌≡◌, ℕ, suc, ◌+◌, ◌≤◌, length, get_or, drop, ◌<◌, add-one, drop-cons, append-nil, ◌⊎◌, inl, inr, List, [], ◌∷◌, ◌++◌, Option, Some, None, refl, sym, ap, subst, ◌∙◌, arith, option_map, option_and_then}
use Rattle.std.specs.Ordering.{nat_cmp}
use Rattle.std.specs.Cmp.Lexicographic.{slice_cmp}
use Rattle.std.specs.declared.cmp.Ordering.TheVariants.{Equal, Greater}
use Rattle.fx_types.specs.Types.{Shape, ColumnList, column, column_list, columns_size}
use Rattle.fx_value.specs.Join.{join_of, union}
use Rattle.fx_types.specs.Rising.{IsBelow, AreNamesRising}
use Rattle.fx_types.specs.TypeView.{shape, columns_view}
use Rattle.fx_types.specs.declared.types.Ty.{Ty}
use Rattle.fx_value.proofs.Unions.{under_list, rises_list, list_rises, union_first, union_second, union_of_none, union_both, rises_union, under_further, below}

-- these columns before others
abbrev pub prepend : List (List ℕ × Shape) → ColumnList → ColumnList
prepend [] es = es
prepend (c ∷ cs) es = column c.0 c.1 (prepend cs es)

-- what is joined so far, and what is left of both
pub record IsJoined (a b : List (List ℕ × Shape)) (joined xs ys : List (List ℕ × Ty)) : Type 0 where
  pub same : option_map (prepend (columns_view joined)) (union (column_list (columns_view xs)) (column_list (columns_view ys))) ≡ union (column_list a) (column_list b)
  pub first : AreNamesRising (columns_view xs)
  pub second : AreNamesRising (columns_view ys)
  pub smaller : columns_size (column_list (columns_view xs)) ≤ columns_size (column_list a)

prepend_more : (cs : List (List ℕ × Ty)) (c : List ℕ × Ty) (es : ColumnList) → prepend (columns_view (cs ++ c ∷ [])) es ≡ prepend (columns_view cs) (column c.0 (shape c.1) es)
prepend_more [] c es = refl
prepend_more (d ∷ cs) c es = ap (column d.0 (shape d.1)) (prepend_more cs c es)

-- where the name of c comes first in what is left
step : (cs : List (List ℕ × Ty)) (c : List ℕ × Ty) (u v : Option ColumnList) → v ≡ option_map (column c.0 (shape c.1)) u → option_map (prepend (columns_view (cs ++ c ∷ []))) u ≡ option_map (prepend (columns_view cs)) v
step cs c u v e = rw e (by u)
  where
    by : (u : Option ColumnList) → option_map (prepend (columns_view (cs ++ c ∷ []))) u ≡ option_map (prepend (columns_view cs)) (option_map (column c.0 (shape c.1)) u)
    by None = refl
    by (Some es) = ap Some (prepend_more cs c es)

module _ {a b : List (List ℕ × Shape)} {joined : List (List ℕ × Ty)} where
  pub joined_less : (x y : List ℕ × Ty) (xs ys : List (List ℕ × Ty)) → IsBelow x.0 y.0 → IsJoined a b joined (x ∷ xs) (y ∷ ys) → IsJoined a b (joined ++ x ∷ []) xs (y ∷ ys)
  joined_less x y xs ys h j = record {
    same = step joined x _ _ (union_first x.0 (shape x.1) (column_list (columns_view xs)) (column_list (columns_view (y ∷ ys))) (h, under_further x.0 y.0 _ h (under_list y.0 _ j.second.0))) ∙ j.same;
    first = j.first.1;
    second = j.second;
    smaller = omega (arith, j.smaller);
  }

  pub joined_greater : (x y : List ℕ × Ty) (xs ys : List (List ℕ × Ty)) → slice_cmp nat_cmp x.0 y.0 ≡ Greater → IsJoined a b joined (x ∷ xs) (y ∷ ys) → IsJoined a b (joined ++ y ∷ []) (x ∷ xs) ys
  joined_greater x y xs ys h j =
      let l = below y.0 x.0 h in record {
        same = step joined y _ _ (union_second y.0 (shape y.1) (column_list (columns_view (x ∷ xs))) (column_list (columns_view ys)) (l, under_further y.0 x.0 _ l (under_list x.0 _ j.first.0)) (under_list y.0 _ j.second.0)) ∙ j.same;
        first = j.first;
        second = j.second.1;
        smaller = j.smaller;
      }

  pub joined_equal : (x y : List ℕ × Ty) (t : Ty) (xs ys : List (List ℕ × Ty)) → slice_cmp nat_cmp x.0 y.0 ≡ Equal → Some (shape t) ≡ join_of (shape x.1) (shape y.1) → IsJoined a b joined (x ∷ xs) (y ∷ ys) → IsJoined a b (joined ++ (x.0, t) ∷ []) xs ys
  joined_equal x y t xs ys h e j =
      let u = union (column_list (columns_view xs)) (column_list (columns_view ys)) in record {
        same = step joined (x.0, t) u _ (union_both x.0 y.0 (shape x.1) (shape y.1) (column_list (columns_view xs)) (column_list (columns_view ys)) h (under_list y.0 _ j.second.0) ∙ ap (option_and_then (λ s. option_map (column x.0 s) u)) (sym e)) ∙ j.same;
        first = j.first.1;
        second = j.second.1;
        smaller = omega (arith, j.smaller);
      }

  pub joined_none : (x y : List ℕ × Ty) (xs ys : List (List ℕ × Ty)) → slice_cmp nat_cmp x.0 y.0 ≡ Equal → None ≡ join_of (shape x.1) (shape y.1) → IsJoined a b joined (x ∷ xs) (y ∷ ys) → None ≡ union (column_list a) (column_list b)
  joined_none x y xs ys h e j =
      let u = union (column_list (columns_view xs)) (column_list (columns_view ys)) in
      sym (ap (option_map (prepend (columns_view joined))) (union_both x.0 y.0 (shape x.1) (shape y.1) (column_list (columns_view xs)) (column_list (columns_view ys)) h (under_list y.0 _ j.second.0) ∙ ap (option_and_then (λ s. option_map (column x.0 s) u)) (sym e))) ∙ j.same

-- what is left, from its first element on
pub left : {A : Type 0} (xs : List A) (i : ℕ) (x : A) → i < length xs → x ≡ get_or xs i x → drop i xs ≡ x ∷ drop (i + 1) xs
left xs i x h e = rw add-one (drop-cons xs i x h ∙ ap (λ z. z ∷ drop (suc i) xs) (sym e))

module _ {a b : List (List ℕ × Shape)} {joined : List (List ℕ × Ty)} (xs ys : List (List ℕ × Ty)) (i j : ℕ) (x y : List ℕ × Ty) (h : i < length xs) (k : j < length ys) (e : x ≡ get_or xs i x) (f : y ≡ get_or ys j y) (is : IsJoined a b joined (drop i xs) (drop j ys)) where
  started : IsJoined a b joined (x ∷ drop (i + 1) xs) (y ∷ drop (j + 1) ys)
  started = rw (← left xs i x h e, ← left ys j y k f) is

  pub at_less : IsBelow x.0 y.0 → IsJoined a b (joined ++ x ∷ []) (drop (i + 1) xs) (drop j ys)
  at_less c = rw (left ys j y k f) (joined_less x y _ _ c started)

  pub at_greater : slice_cmp nat_cmp x.0 y.0 ≡ Greater → IsJoined a b (joined ++ y ∷ []) (drop i xs) (drop (j + 1) ys)
  at_greater c = rw (left xs i x h e) (joined_greater x y _ _ c started)

  pub at_equal : (t : Ty) → slice_cmp nat_cmp x.0 y.0 ≡ Equal → Some (shape t) ≡ join_of (shape x.1) (shape y.1) → IsJoined a b (joined ++ (x.0, t) ∷ []) (drop (i + 1) xs) (drop (j + 1) ys)
  at_equal t c g = joined_equal x y t _ _ c g started

  -- the same under the name of the other column
  pub at_equal_named : (n : List ℕ) (t : Ty) → n ≡ x.0 → slice_cmp nat_cmp x.0 y.0 ≡ Equal → Some (shape t) ≡ join_of (shape x.1) (shape y.1) → IsJoined a b (joined ++ (n, t) ∷ []) (drop (i + 1) xs) (drop (j + 1) ys)
  at_equal_named n t d c g = rw d (at_equal t c g)

  pub at_none : slice_cmp nat_cmp x.0 y.0 ≡ Equal → None ≡ join_of (shape x.1) (shape y.1) → None ≡ union (column_list a) (column_list b)
  at_none c g = joined_none x y _ _ c g started

prepend_all : (cs ds : List (List ℕ × Ty)) → prepend (columns_view cs) (column_list (columns_view ds)) ≡ column_list (columns_view (cs ++ ds))
prepend_all [] ds = refl
prepend_all (c ∷ cs) ds = ap (column c.0 (shape c.1)) (prepend_all cs ds)

module _ {a b : List (List ℕ × Shape)} {joined : List (List ℕ × Ty)} where
  -- one of the two is used up
  pub joined_all : (xs ys : List (List ℕ × Ty)) → (xs ≡ []) ⊎ (ys ≡ []) → IsJoined a b joined xs ys → Some (column_list (columns_view ((joined ++ xs) ++ ys))) ≡ union (column_list a) (column_list b)
  joined_all xs ys (inr e) is =
      let P : List (List ℕ × Ty) → Type 0 = λ zs. IsJoined a b joined xs zs in
      let at : IsJoined a b joined xs [] = subst P e is in
      rw e (ap (λ z. Some (column_list (columns_view z))) (append-nil (joined ++ xs)) ∙ ap Some (sym (prepend_all joined xs)) ∙ at.same)
  joined_all xs ys (inl e) is =
      let P : List (List ℕ × Ty) → Type 0 = λ zs. IsJoined a b joined zs ys in
      let at : IsJoined a b joined [] ys = subst P e is in
      rw e (ap (λ z. Some (column_list (columns_view (z ++ ys)))) (append-nil joined) ∙ ap Some (sym (prepend_all joined ys)) ∙ ap (option_map (prepend (columns_view joined))) (sym (union_of_none (column_list (columns_view ys)) (rises_list _ at.second))) ∙ at.same)

-- what the union is, rises
pub joined_rises : (a b : List (List ℕ × Shape)) (zs : List (List ℕ × Ty)) → AreNamesRising a → Some (column_list (columns_view zs)) ≡ union (column_list a) (column_list b) → AreNamesRising (columns_view zs)
joined_rises a b zs h e = list_rises _ (rises_union (column_list a) (column_list b) _ (rises_list a h) (sym e))

-- the rest of either list may be written first, as one of the two is used up
pub rest_turned : (joined xs ys : List (List ℕ × Ty)) → (xs ≡ []) ⊎ (ys ≡ []) → (joined ++ ys) ++ xs ≡ (joined ++ xs) ++ ys
rest_turned joined xs ys (inl e) = rw e (append-nil (joined ++ ys) ∙ ap (λ z. z ++ ys) (sym (append-nil joined)))
rest_turned joined xs ys (inr e) = rw e (ap (λ z. z ++ xs) (append-nil joined) ∙ sym (append-nil (joined ++ xs)))

-- one of the two is used up
pub other_end : {x y : List (List ℕ × Ty)} → (x ≡ []) ⊎ (y ≡ []) → (y ≡ []) ⊎ (x ≡ [])
other_end (inl e) = inr e
other_end (inr e) = inl e

-- what is joined is the union of either order
pub joined_turned : {joined xs ys : List (List ℕ × Ty)} {c d : List (List ℕ × Shape)} → (xs ≡ []) ⊎ (ys ≡ []) → IsJoined c d joined ys xs → Some (column_list (columns_view ((joined ++ xs) ++ ys))) ≡ union (column_list c) (column_list d)
joined_turned {joined} {xs} {ys} e is =
    ap (λ z. Some (column_list (columns_view z))) (sym (rest_turned joined xs ys e)) ∙ joined_all ys xs (other_end e) is
