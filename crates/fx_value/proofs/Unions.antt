-- How the union of rising columns goes, from the lowest name.
use Rattle.std.proofs.Common.{◌≡◌, ℕ, List, [], ◌∷◌, Option, Some, None, refl, ap, subst, ◌∙◌, option_map, option_and_then}
use Rattle.std.specs.Ordering.{nat_cmp, ordering_reverse, match_ordering}
use Rattle.std.specs.Cmp.Lexicographic.{slice_cmp, nat_list_cmp_total}
use Rattle.std.specs.declared.cmp.Ordering.{Ordering}
use Rattle.std.specs.declared.cmp.Ordering.TheVariants.{Less, Equal, Greater}
use Rattle.fx_types.specs.Types.{Shape, blanks, numbers, texts, booleans, dates, records, tables, ColumnList, no_columns, column, column_list}
use Rattle.fx_value.specs.Join.{with_column, join_of, union}
use Rattle.fx_types.specs.Rising.{IsBelow, IsNameBelowAll, AreNamesRising}

-- the name is below all of these
abbrev pub Under : List ℕ → ColumnList → Type 0
Under n no_columns = Unit {0}
Under n (column m t cs) = IsBelow n m × Under n cs

-- the names rise
abbrev pub Rises : ColumnList → Type 0
Rises no_columns = Unit {0}
Rises (column n t cs) = Under n cs × Rises cs

pub under_list : (n : List ℕ) (cs : List (List ℕ × Shape)) → IsNameBelowAll n cs → Under n (column_list cs)
under_list n [] h = tt
under_list n (c ∷ cs) h = (h.0, under_list n cs h.1)

pub rises_list : (cs : List (List ℕ × Shape)) → AreNamesRising cs → Rises (column_list cs)
rises_list [] h = tt
rises_list (c ∷ cs) h = (under_list c.0 cs h.0, rises_list cs h.1)

pub list_under : (n : List ℕ) (cs : List (List ℕ × Shape)) → Under n (column_list cs) → IsNameBelowAll n cs
list_under n [] h = tt
list_under n (c ∷ cs) h = (h.0, list_under n cs h.1)

pub list_rises : (cs : List (List ℕ × Shape)) → Rises (column_list cs) → AreNamesRising cs
list_rises [] h = tt
list_rises (c ∷ cs) h = (list_under c.0 cs h.0, list_rises cs h.1)

-- a name that is below all goes first
pub with_lowest : (m : List ℕ) (u : Shape) (f : Shape → Option Shape) (cs : ColumnList) → Under m cs → with_column m u f cs ≡ Some (column m u cs)
with_lowest m u f no_columns h = refl
with_lowest m u f (column n t cs) h = rw h.0 refl

pub above : (a b : List ℕ) → IsBelow a b → slice_cmp nat_cmp b a ≡ Greater
above a b h = nat_list_cmp_total.antisymm b a ∙ ap ordering_reverse h

-- the lowest name of the first columns stays first
pub union_first : (n : List ℕ) (t : Shape) (cs ds : ColumnList) → Under n ds → union (column n t cs) ds ≡ option_map (column n t) (union cs ds)
union_first n t cs no_columns h = refl
union_first n t cs (column m u ds) h = rw (union_first n t cs ds h.1) (by_cases (union cs ds))
  where
    by_cases : (o : Option ColumnList) → option_and_then (with_column m u (λ s. join_of s u)) (option_map (column n t) o) ≡ option_map (column n t) (option_and_then (with_column m u (λ s. join_of s u)) o)
    by_cases None = refl
    by_cases (Some es) = rw (above n m h.0) refl

pub below : (a b : List ℕ) → slice_cmp nat_cmp b a ≡ Greater → IsBelow a b
below a b h = nat_list_cmp_total.antisymm a b ∙ ap ordering_reverse h

-- the same name either way
pub alike : (a b : List ℕ) → slice_cmp nat_cmp a b ≡ Equal → slice_cmp nat_cmp b a ≡ Equal
alike a b h = nat_list_cmp_total.antisymm b a ∙ ap ordering_reverse h

-- what is below both is below their union
by_map : {A : Type 0} (P : ColumnList → Type 0) (g : A → ColumnList) (o : Option A) (es : ColumnList) → ((a : A) → o ≡ Some a → P (g a)) → option_map g o ≡ Some es → P es
by_map P g None es k e = cc
by_map P g (Some a) es k e = let q : g a ≡ es = cc in subst P q (k a refl)

pub by_then : (P : ColumnList → Type 0) (g : ColumnList → Option ColumnList) (o : Option ColumnList) (es : ColumnList) → ((fs : ColumnList) → o ≡ Some fs → g fs ≡ Some es → P es) → option_and_then g o ≡ Some es → P es
by_then P g None es k e = cc
by_then P g (Some fs) es k e = k fs refl e

pub under_with : (k m : List ℕ) (u : Shape) (f : Shape → Option Shape) (cs es : ColumnList) → IsBelow k m → Under k cs → with_column m u f cs ≡ Some es → Under k es
under_with k m u f no_columns es h l e = let q : column m u no_columns ≡ es = cc in subst (Under k) q (h, tt)
under_with k m u f (column n t cs) es h l e = by (slice_cmp nat_cmp m n) (λ fs q. under_with k m u f cs fs h l.1 q) e
  where
    by : (o : Ordering) → ((fs : ColumnList) → with_column m u f cs ≡ Some fs → Under k fs) → match_ordering o (Some (column m u (column n t cs))) (option_map (λ s. column n s cs) (f t)) (option_map (column n t) (with_column m u f cs)) ≡ Some es → Under k es
    by Less r e = let q : column m u (column n t cs) ≡ es = cc in subst (Under k) q (h, l)
    by Equal r e = by_map (Under k) (λ s. column n s cs) (f t) es (λ s _. l) e
    by Greater r e = by_map (Under k) (column n t) (with_column m u f cs) es (λ fs q. (l.0, r fs q)) e

pub under_union : (k : List ℕ) (cs ds es : ColumnList) → Under k cs → Under k ds → union cs ds ≡ Some es → Under k es
under_union k cs no_columns es h l e = let q : cs ≡ es = cc in subst (Under k) q h
under_union k cs (column m u ds) es h l e =
    by_then (Under k) (with_column m u (λ t. join_of t u)) (union cs ds) es
    (λ fs q r. under_with k m u (λ t. join_of t u) fs es l.0 (under_union k cs ds fs h l.1 q) r) e

-- the union rises
pub under_further : (k n : List ℕ) (cs : ColumnList) → IsBelow k n → Under n cs → Under k cs
under_further k n no_columns h l = tt
under_further k n (column m t cs) h l = (nat_list_cmp_total.trans k n m h l.0, under_further k n cs h l.1)

pub rises_with : (m : List ℕ) (u : Shape) (f : Shape → Option Shape) (cs es : ColumnList) → Rises cs → with_column m u f cs ≡ Some es → Rises es
rises_with m u f no_columns es h e = let q : column m u no_columns ≡ es = cc in subst Rises q (tt, tt)
rises_with m u f (column n t cs) es h e = by (slice_cmp nat_cmp m n) refl (λ fs q. rises_with m u f cs fs h.1 q) e
  where
    by : (o : Ordering) → slice_cmp nat_cmp m n ≡ o → ((fs : ColumnList) → with_column m u f cs ≡ Some fs → Rises fs) → match_ordering o (Some (column m u (column n t cs))) (option_map (λ s. column n s cs) (f t)) (option_map (column n t) (with_column m u f cs)) ≡ Some es → Rises es
    by Less b r e = let q : column m u (column n t cs) ≡ es = cc in subst Rises q ((b, under_further m n cs b h.0), h)
    by Equal b r e = by_map Rises (λ s. column n s cs) (f t) es (λ s _. h) e
    by Greater b r e = by_map Rises (column n t) (with_column m u f cs) es (λ fs q. (under_with n m u f cs fs (below n m b) h.0 q, r fs q)) e

pub rises_union : (cs ds es : ColumnList) → Rises cs → union cs ds ≡ Some es → Rises es
rises_union cs no_columns es h e = let q : cs ≡ es = cc in subst Rises q h
rises_union cs (column m u ds) es h e =
    by_then Rises (with_column m u (λ t. join_of t u)) (union cs ds) es
    (λ fs q r. rises_with m u (λ t. join_of t u) fs es (rises_union cs ds fs h q) r) e

-- the lowest name of the second columns comes first
pub union_second : (m : List ℕ) (u : Shape) (cs ds : ColumnList) → Under m cs → Under m ds → union cs (column m u ds) ≡ option_map (column m u) (union cs ds)
union_second m u cs ds h l = by (union cs ds) (λ es e. under_union m cs ds es h l e)
  where
    by : (o : Option ColumnList) → ((es : ColumnList) → o ≡ Some es → Under m es) → option_and_then (with_column m u (λ t. join_of t u)) o ≡ option_map (column m u) o
    by None k = refl
    by (Some es) k = with_lowest m u (λ t. join_of t u) es (k es refl)

pub union_of_none : (ds : ColumnList) → Rises ds → union no_columns ds ≡ Some ds
union_of_none no_columns h = refl
union_of_none (column m u ds) h = union_second m u no_columns ds tt h.0 ∙ ap (option_map (column m u)) (union_of_none ds h.1)

-- a name that both have
under_same : (n m : List ℕ) (ds : ColumnList) → slice_cmp nat_cmp n m ≡ Equal → Under m ds → Under n ds
under_same n m no_columns h l = tt
under_same n m (column k t ds) h l = (nat_list_cmp_total.congr n m k h ∙ l.0, under_same n m ds h l.1)

pub union_both : (n m : List ℕ) (t u : Shape) (cs ds : ColumnList) → slice_cmp nat_cmp n m ≡ Equal → Under m ds → union (column n t cs) (column m u ds) ≡ option_and_then (λ s. option_map (column n s) (union cs ds)) (join_of t u)
union_both n m t u cs ds h l =
    ap (option_and_then (with_column m u (λ t. join_of t u))) (union_first n t cs ds (under_same n m ds h l))
    ∙ by (union cs ds) (join_of t u) refl
  where
    same : slice_cmp nat_cmp m n ≡ Equal
    same = nat_list_cmp_total.antisymm m n ∙ ap ordering_reverse h

    by : (o : Option ColumnList) (j : Option Shape) → join_of t u ≡ j → option_and_then (with_column m u (λ t. join_of t u)) (option_map (column n t) o) ≡ option_and_then (λ s. option_map (column n s) o) j
    by None None e = refl
    by None (Some s) e = refl
    by (Some es) None e = rw (same, e) refl
    by (Some es) (Some s) e = rw (same, e) refl

-- Blank joins with every type
pub blanks_join : (t : Shape) → join_of blanks t ≡ Some t
blanks_join blanks = refl
blanks_join numbers = refl
blanks_join texts = refl
blanks_join booleans = refl
blanks_join dates = refl
blanks_join (records cs) = refl
blanks_join (tables cs) = refl
