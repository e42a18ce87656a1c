-- What a change of a tree's rows is to the entries that they show.
use Rattle.std.proofs.Common.{◌≡◌, ◌⊎◌, ℕ, List, [], ◌∷◌, ◌++◌, length, map, filter, Bool, true, false, not, ◌&&◌, if◌then◌else◌, cond, refl, sym, ap, subst, ◌∙◌, IsPermutation, Ordering, Less, Equal, Greater, is_eq, is_gt, true≢false}
use Rattle.std.specs.List.{AllByRecursion}
use Rattle.std.specs.Cmp.{IsTotalOrder}
use Rattle.std.specs.Ordering.{ordering_reverse}
use Rattle.std.proofs.lemmas.List.{length-map, map-append}
use Rattle.std.proofs.lemmas.List.Sorted.{IsPermutation-map, IsPermutation-trans, IsPermutation-sym, IsPermutation-refl, IsPermutation-cons, IsPermutation-middle, IsPermutation-to_front, length_permutation}
use Rattle.sqlite_trees.specs.Tree.{IsAscending}
use Rattle.sqlite_value.specs.Order.{Row}
use Rattle.sqlite_keyed.specs.Lists.{insert_sorted}
use Rattle.sqlite_keyed.proofs.ListLemmas.{IsPermutation-filter, filter-map, filter_same, all_weaker, map-map, map_same}
use Rattle.sql_meanings.proofs.ReadLemmas.{both}

pub all_stay : {X : Type 0} (xs : List X) → filter (λ (x : X). true) xs ≡ xs
all_stay [] = refl
all_stay (x ∷ xs) = ap (λ l. x ∷ l) (all_stay xs)

-- ---- the entries that the rows show which belong

module _ (belongs : Row → Bool) (shown : Row → Row) where
  abbrev pub entries : List Row → List Row
  entries rows = map shown (filter belongs rows)

  pub entries_alike : (old new : List Row) → IsPermutation old new → IsPermutation (entries old) (entries new)
  entries_alike old new same = IsPermutation-map shown _ _ (IsPermutation-filter belongs old new same)

  pub one_more : (row : Row) (old new : List Row) → IsPermutation (row ∷ old) new → belongs row ≡ true → IsPermutation (shown row ∷ entries old) (entries new)
  one_more row old new same here = subst (λ b. IsPermutation (map shown (cond b (row ∷ filter belongs old) (filter belongs old))) (entries new)) here (entries_alike (row ∷ old) new same)

  pub as_before : (row : Row) (old new : List Row) → IsPermutation (row ∷ old) new → belongs row ≡ false → IsPermutation (entries old) (entries new)
  as_before row old new same apart = subst (λ b. IsPermutation (map shown (cond b (row ∷ filter belongs old) (filter belongs old))) (entries new)) apart (entries_alike (row ∷ old) new same)

  -- ---- rows that are taken out

  pub left_here : (hit : Row → Bool) (rows : List Row) → entries (filter (λ r. not (hit (shown r) && belongs r)) rows) ≡ filter (λ s. not (hit s)) (entries rows)
  left_here hit [] = refl
  left_here hit (r ∷ rows) = go (belongs r) (hit (shown r)) refl refl (left_here hit rows)
    where
      go : (b c : Bool) → belongs r ≡ b → hit (shown r) ≡ c → entries (filter (λ r. not (hit (shown r) && belongs r)) rows) ≡ filter (λ s. not (hit s)) (entries rows)
          → entries (filter (λ r. not (hit (shown r) && belongs r)) (r ∷ rows)) ≡ filter (λ s. not (hit s)) (entries (r ∷ rows))
      go true true p q more = rw (p, q) more
      go true false p q more = rw (p, q) (rw p (ap (λ l. shown r ∷ l) more))
      go false true p q more = rw (p, q) (rw p more)
      go false false p q more = rw (p, q) (rw p more)

  pub left_there : (gone : Row → Bool) → ((r : Row) → gone r ≡ true → belongs r ≡ false) → (rows : List Row) → entries (filter (λ r. not (gone r)) rows) ≡ entries rows
  left_there gone apart [] = refl
  left_there gone apart (r ∷ rows) = go (gone r) refl (left_there gone apart rows)
    where
      alike : (b : Bool) → entries (filter (λ r. not (gone r)) rows) ≡ entries rows → map shown (cond b (r ∷ filter belongs (filter (λ r. not (gone r)) rows)) (filter belongs (filter (λ r. not (gone r)) rows))) ≡ map shown (cond b (r ∷ filter belongs rows) (filter belongs rows))
      alike true more = ap (λ l. shown r ∷ l) more
      alike false more = more

      go : (b : Bool) → gone r ≡ b → entries (filter (λ r. not (gone r)) rows) ≡ entries rows → entries (filter (λ r. not (gone r)) (r ∷ rows)) ≡ entries (r ∷ rows)
      go true p more = rw (p, apart r p) more
      go false p more = rw p (alike (belongs r) more)

  -- ---- rows that are changed

  module _ (hit : Row → Bool) (f set : Row → Row) where
    abbrev pub changed : Row → Row
    changed r = if hit (shown r) && belongs r then f r else r

    pub set_here : ((r : Row) → belongs r ≡ true → hit (shown r) ≡ true → (belongs (f r) ≡ true) × (shown (f r) ≡ set (shown r))) → (rows : List Row)
        → entries (map changed rows) ≡ map (λ s. if hit s then set s else s) (entries rows)
    set_here stays [] = refl
    set_here stays (r ∷ rows) = go (belongs r) (hit (shown r)) refl refl (set_here stays rows)
      where
        go : (b c : Bool) → belongs r ≡ b → hit (shown r) ≡ c → entries (map changed rows) ≡ map (λ s. if hit s then set s else s) (entries rows)
            → entries (map changed (r ∷ rows)) ≡ map (λ s. if hit s then set s else s) (entries (r ∷ rows))
        go true true p q more = let it = stays r p q in rw (p, q) (rw (it.0, it.1) (ap (λ l. set (shown r) ∷ l) more))
        go true false p q more = rw (p, q) (rw p (ap (λ l. shown r ∷ l) more))
        go false true p q more = rw (p, q) (rw p more)
        go false false p q more = rw (p, q) (rw p more)

  pub set_there : (gone : Row → Bool) (f : Row → Row) → ((r : Row) → gone r ≡ true → (belongs r ≡ false) × (belongs (f r) ≡ false)) → (rows : List Row)
      → entries (map (λ r. if gone r then f r else r) rows) ≡ entries rows
  set_there gone f apart [] = refl
  set_there gone f apart (r ∷ rows) = go (gone r) refl (set_there gone f apart rows)
    where
      alike : (b : Bool) (xs ys : List Row) → map shown xs ≡ map shown ys → map shown (cond b (r ∷ xs) xs) ≡ map shown (cond b (r ∷ ys) ys)
      alike true xs ys e = ap (λ l. shown r ∷ l) e
      alike false xs ys e = e

      go : (b : Bool) → gone r ≡ b → entries (map (λ r. if gone r then f r else r) rows) ≡ entries rows → entries (map (λ r. if gone r then f r else r) (r ∷ rows)) ≡ entries (r ∷ rows)
      go true p more = let it = apart r p in rw p (rw (it.1, it.0) more)
      go false p more = rw p (alike (belongs r) _ _ more)

  -- ---- entries as a list of their own

  module _ {X : Type 0} (entry : X → Row) where
    pub appended : (row : Row) (x : X) (old new : List Row) (xs : List X) → IsPermutation (map entry xs) (entries old) → IsPermutation (row ∷ old) new → belongs row ≡ true → shown row ≡ entry x
        → IsPermutation (map entry (xs ++ x ∷ [])) (entries new)
    appended row x old new xs are same here is =
        subst (λ l. IsPermutation l (entries new)) (sym (map-append entry xs (x ∷ [])))
        (IsPermutation-trans _ _ _ (IsPermutation-to_front (map entry xs) (entry x)) (IsPermutation-trans _ _ _ (IsPermutation-cons (entry x) _ _ are) (subst (λ s. IsPermutation (s ∷ entries old) (entries new)) is (one_more row old new same here))))

    pub put_among : (row : Row) (x : X) (old new : List Row) (xs ys : List X) → IsPermutation (map entry xs) (entries old) → IsPermutation (row ∷ old) new → belongs row ≡ true → shown row ≡ entry x
        → IsPermutation ys (x ∷ xs) → IsPermutation (map entry ys) (entries new)
    put_among row x old new xs ys are same here is put =
        IsPermutation-trans _ _ _ (IsPermutation-map entry ys (x ∷ xs) put) (IsPermutation-trans _ _ _ (IsPermutation-cons (entry x) _ _ are) (subst (λ s. IsPermutation (s ∷ entries old) (entries new)) is (one_more row old new same here)))

    module _ (hit : Row → Bool) (takes : X → Bool) (tells : (x : X) → hit (entry x) ≡ takes x) where
      pub taken_out_of : (old new : List Row) (xs : List X) → IsPermutation (map entry xs) (entries old) → IsPermutation (filter (λ r. not (hit (shown r) && belongs r)) old) new
          → IsPermutation (map entry (filter (λ x. not (takes x)) xs)) (entries new)
      taken_out_of old new xs are same =
          let kept : filter (λ s. not (hit s)) (map entry xs) ≡ map entry (filter (λ x. not (takes x)) xs) =
          filter-map (λ s. not (hit s)) entry xs ∙ ap (map entry) (filter_same (λ x. not (hit (entry x))) (λ x. not (takes x)) (λ x. ap not (tells x)) xs) in
          let rest : IsPermutation (map entry (filter (λ x. not (takes x)) xs)) (entries (filter (λ r. not (hit (shown r) && belongs r)) old)) =
          subst (IsPermutation (map entry (filter (λ x. not (takes x)) xs))) (sym (left_here hit old)) (subst (λ l. IsPermutation l (filter (λ s. not (hit s)) (entries old))) kept (IsPermutation-filter (λ s. not (hit s)) _ _ are)) in
          IsPermutation-trans _ _ _ rest (entries_alike _ _ same)

      -- as many rows were taken as entries are
      pub taken_count : (rows : List Row) (xs : List X) → IsPermutation (map entry xs) (entries rows) → length (filter (λ r. hit (shown r) && belongs r) rows) ≡ length (filter takes xs)
      taken_count rows xs are =
          let shows : filter hit (entries rows) ≡ map shown (filter (λ r. hit (shown r) && belongs r) rows) = filter-map hit shown (filter belongs rows) ∙ ap (map shown) (both (λ r. hit (shown r)) belongs rows) in
          let mine : filter hit (map entry xs) ≡ map entry (filter takes xs) = filter-map hit entry xs ∙ ap (map entry) (filter_same (λ x. hit (entry x)) takes tells xs) in
          sym (length-map (filter (λ r. hit (shown r) && belongs r) rows) shown) ∙ ap length (sym shows) ∙ length_permutation (filter hit (map entry xs)) (filter hit (entries rows)) (IsPermutation-filter hit _ _ are) ∙ ap length mine ∙ length-map (filter takes xs) entry

      module _ (f set : Row → Row) (go : X → X) (stays : (r : Row) → belongs r ≡ true → hit (shown r) ≡ true → (belongs (f r) ≡ true) × (shown (f r) ≡ set (shown r))) (sets : (x : X) → set (entry x) ≡ entry (go x)) where
        set_entry : (x : X) → (if hit (entry x) then set (entry x) else entry x) ≡ entry (if takes x then go x else x)
        set_entry x = either (takes x) refl
          where
            either : (b : Bool) → takes x ≡ b → (if hit (entry x) then set (entry x) else entry x) ≡ entry (if takes x then go x else x)
            either true e = rw (tells x, e) (sets x)
            either false e = rw (tells x, e) refl

        pub changed_in : (old new : List Row) (xs : List X) → IsPermutation (map entry xs) (entries old) → IsPermutation (map (λ r. if hit (shown r) && belongs r then f r else r) old) new
            → IsPermutation (map entry (map (λ x. if takes x then go x else x) xs)) (entries new)
        changed_in old new xs are same =
            let one : Row → Row = λ s. if hit s then set s else s in
            let kept : map one (map entry xs) ≡ map entry (map (λ x. if takes x then go x else x) xs) =
            map-map one entry xs ∙ map_same (λ x. one (entry x)) (λ x. entry (if takes x then go x else x)) set_entry xs ∙ sym (map-map entry (λ x. if takes x then go x else x) xs) in
            let rest : IsPermutation (map entry (map (λ x. if takes x then go x else x) xs)) (entries (map (λ r. if hit (shown r) && belongs r then f r else r) old)) =
            subst (IsPermutation (map entry (map (λ x. if takes x then go x else x) xs))) (sym (set_here hit f set stays old)) (subst (λ l. IsPermutation l (map one (entries old))) kept (IsPermutation-map one _ _ are)) in
            IsPermutation-trans _ _ _ rest (entries_alike _ _ same)

-- ---- an entry put in its place

module _ {X : Type 0} (cmp : X → X → Ordering) (total : IsTotalOrder cmp) where
  all-insert_sorted : (P : X → Type 0) (new : X) (xs : List X) → P new → AllByRecursion P xs → AllByRecursion P (insert_sorted cmp new xs)
  all-insert_sorted P new [] h all = (h, tt)
  all-insert_sorted P new (x ∷ xs) h all =
      elim (is_gt (cmp new x)) as (λ b. AllByRecursion P (cond b (x ∷ insert_sorted cmp new xs) (new ∷ x ∷ xs))) [ true ↦ (all.0, all-insert_sorted P new xs h all.1) | false ↦ (h, all) ]

  pub rises-insert_sorted : (new : X) (xs : List X) → AllByRecursion (λ y. is_eq (cmp new y) ≡ false) xs → IsAscending (λ a b. cmp a b ≡ Less) xs → IsAscending (λ a b. cmp a b ≡ Less) (insert_sorted cmp new xs)
  rises-insert_sorted new [] apart up = (tt, tt)
  rises-insert_sorted new (x ∷ xs) apart up = go (cmp new x) refl (rises-insert_sorted new xs apart.1 up.1)
    where
      go : (o : Ordering) → cmp new x ≡ o → IsAscending (λ a b. cmp a b ≡ Less) (insert_sorted cmp new xs)
          → IsAscending (λ a b. cmp a b ≡ Less) (cond (is_gt o) (x ∷ insert_sorted cmp new xs) (new ∷ x ∷ xs))
      go Less e more = ((e, all_weaker _ (λ y. cmp new y ≡ Less) (λ y. total.trans new x y e) xs up.0), up)
      go Equal e more = absurd (true≢false (sym (ap is_eq e) ∙ apart.0))
      go Greater e more = (all-insert_sorted _ new xs (total.antisymm x new ∙ ap ordering_reverse e) up.0, more)

  pub IsPermutation-insert_sorted : (new : X) (xs : List X) → IsPermutation (insert_sorted cmp new xs) (new ∷ xs)
  IsPermutation-insert_sorted new [] = IsPermutation-refl _
  IsPermutation-insert_sorted new (x ∷ xs) =
      elim (is_gt (cmp new x)) as (λ b. IsPermutation (cond b (x ∷ insert_sorted cmp new xs) (new ∷ x ∷ xs)) (new ∷ x ∷ xs)) [
        | true ↦ IsPermutation-trans _ _ _ (IsPermutation-cons x _ _ (IsPermutation-insert_sorted new xs)) (IsPermutation-middle (x ∷ []) new xs)
        | false ↦ IsPermutation-refl _
      ]
