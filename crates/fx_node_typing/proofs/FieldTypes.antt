-- The types of fields that are put at their places, as columns.
use Rattle.std.proofs.Common.{◌≡◌, ℕ, suc, ◌+◌, ◌<◌, ◌≤◌, ◌⊎◌, inl, inr, add-one, List, [], ◌∷◌, length, map, min, drop, drop-cons, get_or, refl, ap, sym, ◌∙◌, arith}
use Rattle.std.proofs.Math.ListN.{drop_of_length-le}
use Rattle.std.proofs.Math.Nat.{eq-or-lt_of_le}
use Rattle.std.proofs.lemmas.Map.Text.{is_eq-slice_cmp}
use Rattle.std.specs.Cmp.Lexicographic.{slice_cmp}
use Rattle.std.specs.Ordering.{nat_cmp, match_ordering, is_eq}
use Rattle.std.specs.declared.cmp.Ordering.{Ordering}
use Rattle.std.specs.declared.cmp.Ordering.TheVariants.{Less, Equal, Greater}
use Rattle.fx_types.specs.Types.{Shape, ColumnList, no_columns, column}
use Rattle.fx_core.specs.SourceTypes.{put_column}
use Rattle.fx_core.specs.Term.{Term}
use Rattle.fx_typing.specs.Builds.{field_names, field_parts, put_field, put_fields, types_of}
use Rattle.fx_typing.specs.WellTyped.{columns_by}
use Rattle.fx_value.proofs.Widenings.{same_name}

-- the columns of a record of these fields
abbrev pub columns_in : List (List ℕ × (Term × Shape)) → ColumnList
columns_in fs = columns_by (field_names fs) (types_of (field_parts fs))

equal_name : (n m : List ℕ) → slice_cmp nat_cmp n m ≡ Equal → n ≡ m
equal_name n m e = same_name n m (sym (is_eq-slice_cmp n m) ∙ ap is_eq e)

put_by : (o : Ordering) (n : List ℕ) (x : Term × Shape) (f : List ℕ × (Term × Shape)) (fs : List (List ℕ × (Term × Shape))) →
    (o ≡ Equal → n ≡ f.0) → columns_in (put_field n x fs) ≡ put_column n x.1 (columns_in fs) →
    columns_in (match_ordering o ((n, x) ∷ f ∷ fs) ((n, x) ∷ fs) (f ∷ put_field n x fs))
    ≡ match_ordering o (column n x.1 (column f.0 f.1.1 (columns_in fs))) (column f.0 x.1 (columns_in fs)) (column f.0 f.1.1 (put_column n x.1 (columns_in fs)))
put_by Less n x f fs h k = refl
put_by Equal n x f fs h k = ap (λ m. column m x.1 (columns_in fs)) (h refl)
put_by Greater n x f fs h k = ap (column f.0 f.1.1) k

pub put_columns_in : (n : List ℕ) (x : Term × Shape) (fs : List (List ℕ × (Term × Shape))) →
    columns_in (put_field n x fs) ≡ put_column n x.1 (columns_in fs)
put_columns_in n x [] = refl
put_columns_in n x (f ∷ fs) = put_by (slice_cmp nat_cmp n f.0) n x f fs (λ e. equal_name n f.0 e) (put_columns_in n x fs)

-- behind the last name or part there is none
pub no_fields_more : (ns : List (List ℕ)) (ys : List (Term × Shape)) → (ns ≡ []) ⊎ (ys ≡ []) → put_fields ns ys ≡ []
no_fields_more [] [] h = refl
no_fields_more [] (y ∷ ys) h = refl
no_fields_more (n ∷ ns) [] h = refl
no_fields_more (n ∷ ns) (y ∷ ys) h = elim h [ inl e ↦ absurd cc | inr e ↦ absurd cc ]

pub put_end : {A : Type 0} (g : A → Term × Shape) (ns : List (List ℕ)) (vs : List A) (i : ℕ) → i ≡ min (length ns) (length vs) → i ≤ length ns →
    columns_in (put_fields (drop i ns) (map g (drop i vs))) ≡ no_columns
put_end g ns vs i m h =
    ap columns_in (no_fields_more (drop i ns) (map g (drop i vs))
    (elim (eq-or-lt_of_le h) [
      | inl e ↦ inl (drop_of_length-le ns (omega (arith, e)))
      | inr l ↦ inr (ap (map g) (drop_of_length-le vs (omega (arith, m, l))))
    ]))

-- the item at a place, and the ones behind it
drop_at : {A : Type 0} (xs : List A) (i : ℕ) (x : A) → i < length xs → x ≡ get_or xs i x → drop i xs ≡ x ∷ drop (i + 1) xs
drop_at xs i x h e = rw (add-one i) (drop-cons xs i x h ∙ ap (λ y. y ∷ drop (suc i) xs) (sym e))

-- one field more
pub put_more : {A : Type 0} (g : A → Term × Shape) (ns : List (List ℕ)) (vs : List A) (i k : ℕ) (n : List ℕ) (v : A) → i + 1 ≡ k →
    i < length ns → n ≡ get_or ns i n → i < length vs → v ≡ get_or vs i v →
    columns_in (put_fields (drop i ns) (map g (drop i vs))) ≡ put_column n (g v).1 (columns_in (put_fields (drop k ns) (map g (drop k vs))))
put_more g ns vs i k n v s h e l d =
    ap (λ ms. columns_in (put_fields ms (map g (drop i vs)))) (drop_at ns i n h e)
    ∙ ap (λ zs. columns_in (put_fields (n ∷ drop (i + 1) ns) (map g zs))) (drop_at vs i v l d)
    ∙ put_columns_in n (g v) (put_fields (drop (i + 1) ns) (map g (drop (i + 1) vs)))
    ∙ ap (λ j. put_column n (g v).1 (columns_in (put_fields (drop j ns) (map g (drop j vs))))) s
