-- How fields are put in rising order, and what a record of them is.
use Rattle.std.proofs.Common.{◌≡◌, ℕ, suc, ◌+◌, ◌<◌, ◌≤◌, List, [], ◌∷◌, ◌++◌, length, take, map, Result, Ok, Err, refl, sym, ap, ◌∙◌, subst, append-nil, length-append, arith}
use Rattle.std.specs.List.{insert}
use Rattle.std.proofs.Math.ListN.{set}
use Rattle.std.specs.Ordering.{nat_cmp, match_ordering}
use Rattle.std.specs.Cmp.Lexicographic.{slice_cmp}
use Rattle.std.proofs.lemmas.Cmp.{nat_list_cmp_total}
use Rattle.std.specs.declared.cmp.Ordering.{Ordering}
use Rattle.std.specs.declared.cmp.Ordering.TheVariants.{Less, Equal, Greater}
use Rattle.fx_types.specs.Rising.{IsBelow, IsNameBelowAll, AreNamesRising}
use Rattle.fx_types.specs.Types.{Shape, records, column_list}
use Rattle.fx_types.specs.TypeView.{columns_view}
use Rattle.fx_types.specs.declared.types.Ty.{Ty}
use Rattle.fx_core.specs.Term.{Term, of, rec, all, term_field_names, field_terms}
use Rattle.fx_typing.specs.Local.{firsts}
use Rattle.fx_typing.specs.WellTyped.{columns_by}
use Rattle.fx_value.proofs.Unions.{below}
use Rattle.fx_typing.specs.Builds.{put_field, put_fields, field_names, field_parts, types_of, record_by}
use Rattle.fx_typing.specs.declared.typed.Typed.{Typed}
use Rattle.fx_typing.specs.TypedView.{typed}
use Rattle.fx_node_typing.specs.Fields.{field_view, later, field_index, put_onto}

-- a place behind others
abbrev pub behind : ℕ → Result ℕ ℕ → Result ℕ ℕ
behind k (Ok i) = Ok (k + i)
behind k (Err i) = Err (k + i)

-- a field in place of one of its name
pub found : (n : List ℕ) (v : Typed) (xs : List (List ℕ × Typed)) (i : ℕ) → field_index n xs ≡ Ok i → (i < length xs) × (map field_view (set xs i (n, v)) ≡ put_field n (typed v) (map field_view xs))
found n v [] i e = cc
found n v (x ∷ xs) i e = by (slice_cmp nat_cmp n x.0) (found n v xs) e
  where
    Put : Ordering → ℕ → Type 0
    Put o j = (j < length (x ∷ xs)) × (map field_view (set (x ∷ xs) j (n, v)) ≡ match_ordering o ((n, typed v) ∷ field_view x ∷ map field_view xs) ((n, typed v) ∷ map field_view xs) (field_view x ∷ put_field n (typed v) (map field_view xs)))

    after : ((j : ℕ) → field_index n xs ≡ Ok j → (j < length xs) × (map field_view (set xs j (n, v)) ≡ put_field n (typed v) (map field_view xs))) → (r : Result ℕ ℕ) → field_index n xs ≡ r → later r ≡ Ok i → Put Greater i
    after k (Ok j) p e =
        let q : suc j ≡ i = cc in
        let h = k j p in
        subst (Put Greater) q (omega arith, ap (λ ys. field_view x ∷ ys) h.1)
    after k (Err j) p e = cc

    by : (o : Ordering) → ((j : ℕ) → field_index n xs ≡ Ok j → (j < length xs) × (map field_view (set xs j (n, v)) ≡ put_field n (typed v) (map field_view xs))) → match_ordering o (Err 0) (Ok 0) (later (field_index n xs)) ≡ Ok i → Put o i
    by Less k e = cc
    by Equal k e = let q : 0 ≡ i = cc in subst (Put Equal) q (omega arith, refl)
    by Greater k e = after k (field_index n xs) refl e

-- a field more
pub missing : (n : List ℕ) (v : Typed) (xs : List (List ℕ × Typed)) (i : ℕ) → field_index n xs ≡ Err i → (i ≤ length xs) × (map field_view (insert xs i (n, v)) ≡ put_field n (typed v) (map field_view xs))
missing n v [] i e =
    let q : 0 ≡ i = cc in
    let P : ℕ → Type 0 = λ j. (j ≤ 0) × (map field_view (insert [] j (n, v)) ≡ (n, typed v) ∷ []) in
    subst P q (omega arith, refl)
missing n v (x ∷ xs) i e = by (slice_cmp nat_cmp n x.0) (missing n v xs) e
  where
    Put : Ordering → ℕ → Type 0
    Put o j = (j ≤ length (x ∷ xs)) × (map field_view (insert (x ∷ xs) j (n, v)) ≡ match_ordering o ((n, typed v) ∷ field_view x ∷ map field_view xs) ((n, typed v) ∷ map field_view xs) (field_view x ∷ put_field n (typed v) (map field_view xs)))

    after : ((j : ℕ) → field_index n xs ≡ Err j → (j ≤ length xs) × (map field_view (insert xs j (n, v)) ≡ put_field n (typed v) (map field_view xs))) → (r : Result ℕ ℕ) → field_index n xs ≡ r → later r ≡ Err i → Put Greater i
    after k (Err j) p e =
        let q : suc j ≡ i = cc in
        let h = k j p in
        subst (Put Greater) q (omega arith, ap (λ ys. field_view x ∷ ys) h.1)
    after k (Ok j) p e = cc

    by : (o : Ordering) → ((j : ℕ) → field_index n xs ≡ Err j → (j ≤ length xs) × (map field_view (insert xs j (n, v)) ≡ put_field n (typed v) (map field_view xs))) → match_ordering o (Err 0) (Ok 0) (later (field_index n xs)) ≡ Err i → Put o i
    by Less k e = let q : 0 ≡ i = cc in subst (Put Less) q (omega arith, refl)
    by Equal k e = cc
    by Greater k e = after k (field_index n xs) refl e

pub onto_last : (ns : List (List ℕ)) (xs : List Typed) (n : List ℕ) (x : Typed) (fs : List (List ℕ × (Term × Shape))) → length ns ≡ length xs → put_onto (ns ++ n ∷ []) (map typed (xs ++ x ∷ [])) fs ≡ put_onto ns (map typed xs) (put_field n (typed x) fs)
onto_last [] [] n x fs h = refl
onto_last [] (y ∷ xs) n x fs h = absurd (omega arith)
onto_last (m ∷ ns) [] n x fs h = absurd (omega arith)
onto_last (m ∷ ns) (y ∷ xs) n x fs h = ap (put_field m (typed y)) (onto_last ns xs n x fs (omega arith))

-- what is left where each list gave its last
pub both_shorter : {A B : Type 0} (us xs : List A) (vs ys : List B) (x : A) (y : B) → us ≡ xs ++ x ∷ [] → vs ≡ ys ++ y ∷ [] → length us ≡ length vs → length xs ≡ length ys
both_shorter us xs vs ys x y e f h = omega (arith, ap length e, ap length f, length-append xs (x ∷ []), length-append ys (y ∷ []))

-- names and parts without their like are left out
as_many : (ns : List (List ℕ)) (xs : List Typed) → put_onto (take (length xs) ns) (map typed (take (length (take (length xs) ns)) xs)) [] ≡ put_fields ns (map typed xs)
as_many [] [] = refl
as_many [] (x ∷ xs) = refl
as_many (n ∷ ns) [] = refl
as_many (n ∷ ns) (x ∷ xs) = ap (put_field n (typed x)) (as_many ns xs)

pub as_many_of : (ns : List (List ℕ)) (xs : List Typed) (k m : ℕ) → k ≡ length xs → m ≡ length (take k ns) → put_onto (take k ns) (map typed (take m xs)) [] ≡ put_fields ns (map typed xs)
as_many_of ns xs k m a b =
    let P : ℕ → Type 0 = λ j. put_onto (take k ns) (map typed (take j xs)) [] ≡ put_fields ns (map typed xs) in
    let Q : ℕ → Type 0 = λ j. put_onto (take j ns) (map typed (take (length (take j ns)) xs)) [] ≡ put_fields ns (map typed xs) in
    subst P (sym b) (subst Q (sym a) (as_many ns xs))

-- the names rise
below_put : (m n : List ℕ) (x : Term × Shape) (fs : List (List ℕ × (Term × Shape))) → IsBelow m n → IsNameBelowAll m fs → IsNameBelowAll m (put_field n x fs)
below_put m n x [] h k = (h, tt)
below_put m n x (f ∷ fs) h k = by (slice_cmp nat_cmp n f.0) (below_put m n x fs h k.1)
  where
    by : (o : Ordering) → IsNameBelowAll m (put_field n x fs) → IsNameBelowAll m (match_ordering o ((n, x) ∷ f ∷ fs) ((n, x) ∷ fs) (f ∷ put_field n x fs))
    by Less r = (h, k)
    by Equal r = (h, k.1)
    by Greater r = (k.0, r)

below_further : (n m : List ℕ) (fs : List (List ℕ × (Term × Shape))) → IsBelow n m → IsNameBelowAll m fs → IsNameBelowAll n fs
below_further n m [] h k = tt
below_further n m (f ∷ fs) h k = (nat_list_cmp_total.trans n m f.0 h k.0, below_further n m fs h k.1)

below_same : (n m : List ℕ) (fs : List (List ℕ × (Term × Shape))) → slice_cmp nat_cmp n m ≡ Equal → IsNameBelowAll m fs → IsNameBelowAll n fs
below_same n m [] h k = tt
below_same n m (f ∷ fs) h k = (nat_list_cmp_total.congr n m f.0 h ∙ k.0, below_same n m fs h k.1)

rising_put : (n : List ℕ) (x : Term × Shape) (fs : List (List ℕ × (Term × Shape))) → AreNamesRising fs → AreNamesRising (put_field n x fs)
rising_put n x [] h = (tt, tt)
rising_put n x (f ∷ fs) h = by (slice_cmp nat_cmp n f.0) refl (rising_put n x fs h.1)
  where
    by : (o : Ordering) → slice_cmp nat_cmp n f.0 ≡ o → AreNamesRising (put_field n x fs) → AreNamesRising (match_ordering o ((n, x) ∷ f ∷ fs) ((n, x) ∷ fs) (f ∷ put_field n x fs))
    by Less b r = ((b, below_further n f.0 fs b h.0), h)
    by Equal b r = (below_same n f.0 fs b h.0, h.1)
    by Greater b r = (below_put f.0 n x fs (below f.0 n b) h.0, r)

pub rising_puts : (ns : List (List ℕ)) (xs : List (Term × Shape)) → AreNamesRising (put_fields ns xs)
rising_puts [] xs = tt
rising_puts (n ∷ ns) [] = tt
rising_puts (n ∷ ns) (x ∷ xs) = rising_put n x (put_fields ns xs) (rising_puts ns xs)

-- the columns and the parts of a record
abbrev pub columns_in : List (List ℕ × Typed) → List (List ℕ × Ty)
columns_in [] = []
columns_in (f ∷ fs) = (f.0, f.1.ty) ∷ columns_in fs

abbrev pub cores_in : List (List ℕ × Typed) → List (List ℕ × Term)
cores_in [] = []
cores_in (f ∷ fs) = (f.0, f.1.core) ∷ cores_in fs

below_columns : (n : List ℕ) (fs : List (List ℕ × Typed)) → IsNameBelowAll n (map field_view fs) → IsNameBelowAll n (columns_view (columns_in fs))
below_columns n [] h = tt
below_columns n (f ∷ fs) h = (h.0, below_columns n fs h.1)

pub rising_columns : (fs : List (List ℕ × Typed)) → AreNamesRising (map field_view fs) → AreNamesRising (columns_view (columns_in fs))
rising_columns [] h = tt
rising_columns (f ∷ fs) h = (below_columns f.0 fs h.0, rising_columns fs h.1)

pub names_in : (fs : List (List ℕ × Typed)) → term_field_names (cores_in fs) ≡ field_names (map field_view fs)
names_in [] = refl
names_in (f ∷ fs) = ap (λ ns. f.0 ∷ ns) (names_in fs)

pub parts_in : (fs : List (List ℕ × Typed)) → field_terms (cores_in fs) ≡ all (firsts (field_parts (map field_view fs)))
parts_in [] = refl
parts_in (f ∷ fs) = rw (parts_in fs) refl

pub columns_by_in : (fs : List (List ℕ × Typed)) → column_list (columns_view (columns_in fs)) ≡ columns_by (field_names (map field_view fs)) (types_of (field_parts (map field_view fs)))
columns_by_in [] = refl
columns_by_in (f ∷ fs) = rw (columns_by_in fs) refl

-- what a walk over all fields leaves
pub all_columns : (cs : List (List ℕ × Ty)) (rest fs : List (List ℕ × Typed)) → length rest ≡ 0 → cs ++ columns_in rest ≡ columns_in fs → cs ≡ columns_in fs
all_columns cs [] fs h e = sym (append-nil cs) ∙ e
all_columns cs (r ∷ rest) fs h e = absurd (omega arith)

pub all_cores : (ps : List (List ℕ × Term)) (rest fs : List (List ℕ × Typed)) → length rest ≡ 0 → ps ++ cores_in rest ≡ cores_in fs → ps ≡ cores_in fs
all_cores ps [] fs h e = sym (append-nil ps) ∙ e
all_cores ps (r ∷ rest) fs h e = absurd (omega arith)

pub record_is : (cs : List (List ℕ × Ty)) (ps : List (List ℕ × Term)) (r : List (List ℕ × Shape)) (core : Term) (fs : List (List ℕ × Typed)) → cs ≡ columns_in fs → ps ≡ cores_in fs → r ≡ columns_view cs → core ≡ of (rec (term_field_names ps)) (field_terms ps) → (core, records (column_list r)) ≡ record_by (map field_view fs)
record_is cs ps r core fs a b d e =
    let h : column_list r ≡ columns_by (field_names (map field_view fs)) (types_of (field_parts (map field_view fs))) = ap column_list d ∙ ap (λ x. column_list (columns_view x)) a ∙ columns_by_in fs in
    let k : core ≡ of (rec (field_names (map field_view fs))) (all (firsts (field_parts (map field_view fs)))) =
    e ∙ ap (λ x. of (rec (term_field_names x)) (field_terms x)) b ∙ ap (λ x. of (rec x) (field_terms (cores_in fs))) (names_in fs) ∙ ap (of (rec (field_names (map field_view fs)))) (parts_in fs) in
    rw (h, k) refl
