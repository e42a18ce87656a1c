-- Columns as lists, and what the definitions make of them.
use Rattle.std.proofs.Common.{◌≡◌, ℕ, zero, suc, ◌≤◌, List, [], ◌∷◌, length, map, filter, not, cond, insert, Option, Some, None, Bool, true, false, bytes_eq, refl, sym, ap, subst, ◌∙◌, arith, option_map, if◌then◌else◌}
use Rattle.std.specs.Ordering.{nat_cmp, is_eq, match_ordering, ordering_reverse}
use Rattle.std.specs.Cmp.Lexicographic.{slice_cmp, nat_list_cmp_total}
use Rattle.std.specs.declared.cmp.Ordering.{Ordering}
use Rattle.std.specs.declared.cmp.Ordering.TheVariants.{Less, Equal, Greater}
use Rattle.std.proofs.lemmas.Map.Lookups.{exact_bytes}
use Rattle.std.proofs.lemmas.Map.Text.{is_eq-slice_cmp}
use Rattle.fx_types.proofs.Risings.{names_of, rising_filter, rising_names, seen_length}
use Rattle.fx_types.specs.Lookup.{item_named}
use Rattle.fx_types.specs.Rising.{IsBelow, AreNamesRising}
use Rattle.fx_types.specs.Types.{Shape, ColumnList, no_columns, column, column_list}
use Rattle.fx_types.specs.TypeView.{shape, columns_view}
use Rattle.fx_types.specs.declared.types.Ty.{Ty}
use Rattle.fx_core.specs.SourceTypes.{put_column}
use Rattle.fx_core.specs.ColumnLists.{field_in, columns_without, is_one_of, columns_only}
use Rattle.fx_value.proofs.Unions.{Under, Rises, under_list, rises_list, list_rises, rises_with, under_further}
use Rattle.fx_value.proofs.Widenings.{same_name, own_name}
use Rattle.fx_value.specs.Join.{with_column}
use Rattle.fx_typing.specs.ColumnPlaces.{column_rank}

pub field_item : (x : List ℕ) (cs : List (List ℕ × Shape)) → field_in x (column_list cs) ≡ item_named x cs
field_item x [] = refl
field_item x (c ∷ cs) = ap (λ o. if bytes_eq c.0 x then Some c.1 else o) (field_item x cs)

-- the columns of a list
abbrev pub listed : List (List ℕ × Ty) → ColumnList
listed cs = column_list (columns_view cs)

-- some of rising columns
names_seen : (cs : List (List ℕ × Ty)) → names_of cs ≡ names_of (columns_view cs)
names_seen [] = refl
names_seen (c ∷ cs) = ap (λ ns. c.0 ∷ ns) (names_seen cs)

pub rising_some : (p : List ℕ × Ty → Bool) (cs : List (List ℕ × Ty)) → AreNamesRising (columns_view cs) → AreNamesRising (columns_view (filter p cs))
rising_some p cs r =
    rising_names (filter p cs) (columns_view (filter p cs)) (names_seen (filter p cs))
    (rising_filter p cs (rising_names (columns_view cs) cs (sym (names_seen cs)) r))

-- whether two names are one, by their order
in_order : (n m : List ℕ) (o : Ordering) → slice_cmp nat_cmp n m ≡ o → bytes_eq m n ≡ is_eq (ordering_reverse o)
in_order n m o e = sym (is_eq-slice_cmp m n) ∙ ap is_eq (nat_list_cmp_total.antisymm m n ∙ ap ordering_reverse e)

-- a name that is below all is none of them
without_under : (n : List ℕ) (cs : ColumnList) → Under n cs → columns_without n cs ≡ cs
without_under n no_columns h = refl
without_under n (column m t cs) h = rw (in_order n m Less h.0) (ap (column m t) (without_under n cs h.1))

-- the columns of other names
abbrev pub others : List ℕ → List (List ℕ × Ty) → List (List ℕ × Ty)
others n cs = filter (λ c. not (bytes_eq c.0 n)) cs

pub others_without : (n : List ℕ) (cs : List (List ℕ × Ty)) → AreNamesRising (columns_view cs) → listed (others n cs) ≡ columns_without n (listed cs)
others_without n [] r = refl
others_without n (c ∷ cs) r = by (bytes_eq c.0 n) refl (others_without n cs r.1)
  where
    by : (b : Bool) → bytes_eq c.0 n ≡ b → listed (others n cs) ≡ columns_without n (listed cs) →
        listed (cond (not b) (c ∷ others n cs) (others n cs)) ≡ (if b then listed cs else column c.0 (shape c.1) (columns_without n (listed cs)))
    by false e ih = ap (column c.0 (shape c.1)) ih
    by true e ih =
        let P : List ℕ → Type 0 = λ x. Under x (listed cs) in
        ih ∙ without_under n (listed cs) (subst P (same_name c.0 n e) (under_list c.0 (columns_view cs) r.0))

-- the columns of some names
pub kept_only : (ns : List (List ℕ)) (cs : List (List ℕ × Ty)) → listed (filter (λ c. is_one_of c.0 ns) cs) ≡ columns_only ns (listed cs)
kept_only ns [] = refl
kept_only ns (c ∷ cs) = by (is_one_of c.0 ns) (kept_only ns cs)
  where
    by : (b : Bool) → listed (filter (λ c. is_one_of c.0 ns) cs) ≡ columns_only ns (listed cs) →
        listed (cond b (c ∷ filter (λ c. is_one_of c.0 ns) cs) (filter (λ c. is_one_of c.0 ns) cs))
        ≡ (if b then column c.0 (shape c.1) (columns_only ns (listed cs)) else columns_only ns (listed cs))
    by true ih = ap (column c.0 (shape c.1)) ih
    by false ih = ih

-- none of these names is this one
abbrev Lacks : List ℕ → ColumnList → Type 0
Lacks n no_columns = Unit {0}
Lacks n (column m t cs) = (slice_cmp nat_cmp n m ≡ Equal → ⊥) × Lacks n cs

lacks_under : (n : List ℕ) (cs : ColumnList) → Under n cs → Lacks n cs
lacks_under n no_columns h = tt
lacks_under n (column m t cs) h = (λ e. absurd (apart e), lacks_under n cs h.1)
  where
    apart : slice_cmp nat_cmp n m ≡ Equal → ⊥
    apart e = let k : Less ≡ Equal = sym h.0 ∙ e in absurd cc

lacks_without : (n : List ℕ) (cs : ColumnList) → Rises cs → Lacks n (columns_without n cs)
lacks_without n no_columns h = tt
lacks_without n (column m t cs) h = by (bytes_eq m n) refl (lacks_without n cs h.1)
  where
    by : (b : Bool) → bytes_eq m n ≡ b → Lacks n (columns_without n cs) → Lacks n (if b then cs else column m t (columns_without n cs))
    by true e ih = let P : List ℕ → Type 0 = λ x. Under x cs in lacks_under n cs (subst P (same_name m n e) h.0)
    by false e ih = (λ q. let k : true ≡ false = sym (in_order n m Equal q) ∙ e in absurd cc, ih)

-- a new column at its place
put_free : (n : List ℕ) (t : Ty) (ws : List (List ℕ × Ty)) → Lacks n (listed ws) → listed (insert ws (column_rank n (columns_view ws)) (n, t)) ≡ put_column n (shape t) (listed ws)
put_free n t [] h = refl
put_free n t (w ∷ ws) h = by (slice_cmp nat_cmp n w.0) refl (put_free n t ws h.1)
  where
    by : (o : Ordering) → slice_cmp nat_cmp n w.0 ≡ o → listed (insert ws (column_rank n (columns_view ws)) (n, t)) ≡ put_column n (shape t) (listed ws) →
        listed (insert (w ∷ ws) (match_ordering o 0 0 (suc (column_rank n (columns_view ws)))) (n, t))
        ≡ match_ordering o (column n (shape t) (listed (w ∷ ws))) (column w.0 (shape t) (listed ws)) (column w.0 (shape w.1) (put_column n (shape t) (listed ws)))
    by Less e ih = refl
    by Equal e ih = absurd (h.0 e)
    by Greater e ih = ap (column w.0 (shape w.1)) ih

-- in place of one of that name
put_lowest : (n : List ℕ) (u : Shape) (cs : ColumnList) → Under n cs → put_column n u cs ≡ column n u cs
put_lowest n u no_columns h = refl
put_lowest n u (column m t cs) h = rw h.0 refl

put_without : (n : List ℕ) (u : Shape) (cs : ColumnList) → Rises cs → put_column n u (columns_without n cs) ≡ put_column n u cs
put_without n u no_columns h = refl
put_without n u (column m t cs) h = by (slice_cmp nat_cmp n m) refl (put_without n u cs h.1)
  where
    by : (o : Ordering) → slice_cmp nat_cmp n m ≡ o → put_column n u (columns_without n cs) ≡ put_column n u cs →
        put_column n u (if bytes_eq m n then cs else column m t (columns_without n cs))
        ≡ match_ordering o (column n u (column m t cs)) (column m u cs) (column m t (put_column n u cs))
    by Less e ih = rw (in_order n m Less e, e) (ap (λ ds. column n u (column m t ds)) (without_under n cs (under_further n m cs e h.0)))
    by Equal e ih =
        let q : m ≡ n = same_name m n (in_order n m Equal e) in
        let P : List ℕ → Type 0 = λ x. Under x cs in
        rw (in_order n m Equal e) (put_lowest n u cs (subst P q h.0) ∙ ap (λ x. column x u cs) (sym q))
    by Greater e ih = rw (in_order n m Greater e, e) (ap (column m t) ih)

put_with : (n : List ℕ) (u : Shape) (cs : ColumnList) → with_column n u (λ s. Some u) cs ≡ Some (put_column n u cs)
put_with n u no_columns = refl
put_with n u (column m t cs) = by (slice_cmp nat_cmp n m) (put_with n u cs)
  where
    by : (o : Ordering) → with_column n u (λ s. Some u) cs ≡ Some (put_column n u cs) →
        match_ordering o (Some (column n u (column m t cs))) (Some (column m u cs)) (option_map (column m t) (with_column n u (λ s. Some u) cs))
        ≡ Some (match_ordering o (column n u (column m t cs)) (column m u cs) (column m t (put_column n u cs)))
    by Less ih = refl
    by Equal ih = refl
    by Greater ih = ap (option_map (column m t)) ih

pub put_made : (n : List ℕ) (t : Ty) (cs ws ds : List (List ℕ × Ty)) → AreNamesRising (columns_view cs) → ws ≡ others n cs → ds ≡ insert ws (column_rank n (columns_view ws)) (n, t) →
    listed ds ≡ put_column n (shape t) (listed cs)
put_made n t cs ws ds r f e =
    let R = rises_list (columns_view cs) r in
    let w : listed ws ≡ columns_without n (listed cs) = ap listed f ∙ others_without n cs r in
    let P : ColumnList → Type 0 = Lacks n in
    ap listed e
    ∙ put_free n t ws (subst P (sym w) (lacks_without n (listed cs) R))
    ∙ ap (put_column n (shape t)) w
    ∙ put_without n (shape t) (listed cs) R

pub put_rising : (n : List ℕ) (t : Ty) (cs ws ds : List (List ℕ × Ty)) → AreNamesRising (columns_view cs) → ws ≡ others n cs → ds ≡ insert ws (column_rank n (columns_view ws)) (n, t) →
    AreNamesRising (columns_view ds)
put_rising n t cs ws ds r f e =
    list_rises (columns_view ds)
    (subst Rises (sym (put_made n t cs ws ds r f e))
    (rises_with n (shape t) (λ s. Some (shape t)) (listed cs) (put_column n (shape t) (listed cs)) (rises_list (columns_view cs) r) (put_with n (shape t) (listed cs))))

-- a place is no later than the end
within : (n : List ℕ) (cs : List (List ℕ × Shape)) → column_rank n cs ≤ length cs
within n [] = omega arith
within n (c ∷ cs) = by (slice_cmp nat_cmp n c.0) (within n cs)
  where
    by : (o : Ordering) → column_rank n cs ≤ length cs → match_ordering o 0 0 (suc (column_rank n cs)) ≤ suc (length cs)
    by Less h = omega arith
    by Equal h = omega arith
    by Greater h = omega (arith, h)

pub place_within : (n : List ℕ) (ws : List (List ℕ × Ty)) → column_rank n (columns_view ws) ≤ length ws
place_within n ws = omega (arith, within n (columns_view ws), seen_length shape ws)
