-- Taking rows out by their rowids.
use Rattle.std.proofs.Common.{◌≡◌, ◌⊎◌, inl, inr, ℕ, ℤ, pos, negsuc, List, [], ◌∷◌, ◌++◌, map, filter, codes, Bool, true, false, not, ◌&&◌, ◌||◌, cond, if◌then◌else◌, Some, None, Ok, Err, Result, Ordering, Less, Equal, Greater, is_eq, IsTrue, refl, sym, ap, subst, ◌∙◌, IsPermutation, true≢false}
use Rattle.std.specs.Prelude.{flat_map, fold}
use Rattle.std.specs.List.{AllByRecursion, list_any, list_all}
use Rattle.std.proofs.lemmas.List.Sorted.{IsPermutation-trans, IsPermutation-sym, IsPermutation-map}
use Rattle.sqlite_trees.specs.Tree.{Trees, IsTable, rowid, has_rowid, without_rowid}
use Rattle.sqlite_trees.specs.View.{is_int}
use Rattle.sqlite_trees.proofs.ListLemmas.{all-permutation}
use Rattle.sqlite_value.specs.declared.value.Value.TheVariants.{Null, Int}
use Rattle.sqlite_value.specs.Order.{Row, column, value_cmp}
use Rattle.sqlite_rules.specs.Lists.{Has}
use Rattle.sqlite_rules.specs.Edit.{Edit, edit_of, id_in, without_all}
use Rattle.sqlite_rules.specs.Calls.{ids_of}
use Rattle.sqlite_rules.specs.declared.error.Rowids.TheVariants.{Given}
use Rattle.sqlite_rules.proofs.ListLemmas.{all_has, some_has, some_from}
use Rattle.sqlite_rules.proofs.ProbeLemmas.{has_mapped, mapped_has}
use Rattle.sqlite_rules.proofs.PlaceLemmas.{tied_same}
use Rattle.sqlite_rules.proofs.TableLemmas.{int_is}
use Rattle.sqlite_value.proofs.OrderLemmas.{value_cmp_total}
use Rattle.std.proofs.lemmas.Cmp.{tied_itself}
use Rattle.sqlite_keyed.proofs.ListLemmas.{filter-filter}

-- taking rows out by their rowids is a filter
without_is : (ids : List ℤ) (rows : List Row) → without_all rows ids ≡ filter (λ r. not (list_any (λ id. has_rowid id r) ids)) rows
without_is [] rows = all_stay rows
  where
    all_stay : (rows : List Row) → rows ≡ filter (λ (r : Row). true) rows
    all_stay [] = refl
    all_stay (r ∷ rows) = ap (λ l. r ∷ l) (all_stay rows)
without_is (id ∷ ids) rows = without_is ids (without_rowid id rows) ∙ both rows
  where
    both : (rows : List Row) → filter (λ r. not (list_any (λ id. has_rowid id r) ids)) (filter (λ r. not (has_rowid id r)) rows) ≡ filter (λ r. not (has_rowid id r || list_any (λ id. has_rowid id r) ids)) rows
    both [] = refl
    both (r ∷ rows) = go (has_rowid id r) (list_any (λ id. has_rowid id r) ids) refl refl (both rows)
      where
        go : (a b : Bool) → has_rowid id r ≡ a → list_any (λ id. has_rowid id r) ids ≡ b
            → filter (λ r. not (list_any (λ id. has_rowid id r) ids)) (filter (λ r. not (has_rowid id r)) rows) ≡ filter (λ r. not (has_rowid id r || list_any (λ id. has_rowid id r) ids)) rows
            → filter (λ r. not (list_any (λ id. has_rowid id r) ids)) (filter (λ r. not (has_rowid id r)) (r ∷ rows)) ≡ filter (λ r. not (has_rowid id r || list_any (λ id. has_rowid id r) ids)) (r ∷ rows)
        go true b p q more = rw p more
        go false true p q more = rw (p, q) more
        go false false p q more = rw (p, q) (ap (λ l. r ∷ l) more)

same_on : (p q : Row → Bool) (rows : List Row) → ((r : Row) → Has rows r → p r ≡ q r) → filter p rows ≡ filter q rows
same_on p q [] each = refl
same_on p q (r ∷ rows) each = go (p r) refl (same_on p q rows (λ s h. each s (inr h)))
  where
    go : (b : Bool) → p r ≡ b → filter p rows ≡ filter q rows → filter p (r ∷ rows) ≡ filter q (r ∷ rows)
    go true e more = rw (e, sym (each r (inl refl)) ∙ e) (ap (λ l. r ∷ l) more)
    go false e more = rw (e, sym (each r (inl refl)) ∙ e) more

permuted : (xs ys : List Row) (x : Row) → IsPermutation xs ys → Has ys x → Has xs x
permuted xs ys x same = all_has (Has xs) ys x (all-permutation (Has xs) xs ys same (itself xs))
  where
    weaken : (x : Row) (zs ws : List Row) → AllByRecursion (Has zs) ws → AllByRecursion (Has (x ∷ zs)) ws
    weaken x zs [] h = tt
    weaken x zs (w ∷ ws) h = (inr h.0, weaken x zs ws h.1)

    itself : (zs : List Row) → AllByRecursion (Has zs) zs
    itself [] = tt
    itself (z ∷ zs) = (inl refl, weaken z zs zs (itself zs))

kept_has : (p : Row → Bool) (rows : List Row) (r : Row) → Has rows r → p r ≡ true → Has (filter p rows) r
kept_has p [] r h passes = absurd h
kept_has p (x ∷ rows) r (inl same) passes = let here : p x ≡ true = ap p (sym same) ∙ passes in rw here (inl same)
kept_has p (x ∷ rows) r (inr later) passes = elim (p x) as (λ b. Has (cond b (x ∷ filter p rows) (filter p rows)) r) [ true ↦ inr (kept_has p rows r later passes) | false ↦ kept_has p rows r later passes ]

was_kept : (p : Row → Bool) (rows : List Row) (r : Row) → Has (filter p rows) r → Has rows r × (p r ≡ true)
was_kept p [] r h = absurd h
was_kept p (x ∷ rows) r h = go (p x) refl h (was_kept p rows r)
  where
    go : (b : Bool) → p x ≡ b → Has (cond b (x ∷ filter p rows) (filter p rows)) r → (Has (filter p rows) r → Has rows r × (p r ≡ true)) → Has (x ∷ rows) r × (p r ≡ true)
    go true e (inl same) more = (inl same, ap p same ∙ e)
    go true e (inr later) more = let k = more later in (inr k.0, k.1)
    go false e later more = let k = more later in (inr k.0, k.1)

equal_is : (o : Ordering) → is_eq o ≡ true → o ≡ Equal
equal_is Less h = absurd cc
equal_is Equal h = refl
equal_is Greater h = absurd cc

false_if : (b : Bool) → (b ≡ true → ⊥) → b ≡ false
false_if true h = absurd (h refl)
false_if false h = refl

-- the rows whose rowids were shown are taken out, and no other
pub taken_out : (p : Row → Bool) (rows shown : List Row) → IsTable rows → AllByRecursion (λ r. IsTrue (is_int (rowid r))) rows → IsPermutation (map (λ r. rowid r ∷ []) (filter p rows)) shown
    → without_all rows (ids_of shown) ≡ filter (λ r. not (p r)) rows
taken_out p rows shown up keyed same =
    without_is (ids_of shown) rows ∙ same_on (λ r. not (list_any (λ id. has_rowid id r) (ids_of shown))) (λ r. not (p r)) rows (λ r h. ap not (each r h (p r) refl))
  where
    number : (r : Row) → Has rows r → rowid r ≡ Int (id_in (rowid r))
    number r h = int_is (rowid r) (all_has (λ s. IsTrue (is_int (rowid s))) rows r keyed h)

    found : (r : Row) → Has rows r → p r ≡ true → list_any (λ id. has_rowid id r) (ids_of shown) ≡ true
    found r h passes =
        let there = permuted shown (map (λ s. rowid s ∷ []) (filter p rows)) (rowid r ∷ []) (IsPermutation-sym _ _ same) (mapped_has (λ s. rowid s ∷ []) (filter p rows) r (kept_has p rows r h passes)) in
        let id = mapped_has (λ (s : Row). id_in (rowid s)) shown (rowid r ∷ []) there in
        some_from (λ n. has_rowid n r) (ids_of shown) (id_in (rowid r)) id (ap (λ v. is_eq (value_cmp (rowid r) v)) (sym (number r h)) ∙ ap is_eq (tied_itself value_cmp_total (rowid r)))

    missed : (r : Row) → Has rows r → list_any (λ id. has_rowid id r) (ids_of shown) ≡ true → p r ≡ true
    missed r h hit =
        let some = some_has (λ n. has_rowid n r) (ids_of shown) hit in
        let s = has_mapped (λ (s : Row). id_in (rowid s)) shown some.0 some.1 in
        let o = has_mapped (λ (s : Row). rowid s ∷ []) (filter p rows) s.0 (permuted (map (λ s. rowid s ∷ []) (filter p rows)) shown s.0 same s.1) in
        let k = was_kept p rows o.0 o.1 in
        let id : some.0 ≡ id_in (rowid o.0) = s.2 ∙ ap (λ (t : Row). id_in (rowid t)) o.2 in
        let tied : value_cmp (rowid r) (rowid o.0) ≡ Equal = ap (value_cmp (rowid r)) (number o.0 k.0 ∙ ap (λ n. Int n) (sym id)) ∙ equal_is _ some.2 in
        ap p (tied_same rows r o.0 up h k.0 tied) ∙ k.1

    each : (r : Row) → Has rows r → (b : Bool) → p r ≡ b → list_any (λ id. has_rowid id r) (ids_of shown) ≡ p r
    each r h true e = found r h e ∙ sym e
    each r h false e = false_if _ (λ hit. absurd (let t = missed r h hit in cc)) ∙ sym e
