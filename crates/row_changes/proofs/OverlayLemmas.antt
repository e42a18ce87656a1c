-- Lines as they are now, one change after another.
use Rattle.std.proofs.Common.{◌≡◌, ◌≢◌, ◌∙◌, ℕ, suc, ◌+◌, ◌-◌, ◌<◌, ◌≤◌, ◌==◌, Bool, true, false, cond, not, List, [], ◌∷◌, ◌++◌, length, flat_map, set, Option, None, Some, ap, ap₂, arith, append_assoc, append-nil, refl, subst, sym}
use Rattle.std.specs.Cmp.{unsigned_ties}
use Rattle.std.specs.BTreeMap.{is_at}
use Rattle.std.specs.List.{AllByRecursion}
use Rattle.std.specs.Ordering.{nat_cmp}
use Rattle.std.specs.Prelude.{Vec, slice_get}
use Rattle.std.specs.declared.alloc.Global.{Global}
use Rattle.std.proofs.lemmas.Bool.{eqb-true}
use Rattle.std.proofs.lemmas.Bool.Decides.{nat_tests}
use Rattle.std.proofs.lemmas.List.Concat.{flat_map-append}
use Rattle.sqlite_trees.specs.Tree.{IsAscending}
use Rattle.sqlite_keyed.proofs.ListLemmas.{all-append, all_weaker, ascending-append, flat_map_same}
use Rattle.sql_meanings.specs.Lines.{LinesOf, has_number, with_body, with_line, without_line}
use Rattle.row_changes.specs.Moves.{with_now}
use Rattle.row_changes.specs.Overlay.{AreOf, bytes_in, body_among, body_at, last_of, line_now, line_under, lines_from, made_of_kept, overlay}
use Rattle.row_changes.specs.declared.table.TableChanges.{TableChanges}

pub same_number : (id i : ℕ) → is_at (nat_cmp id) i ≡ (id == i)
same_number id i = sym (unsigned_ties id i)

pub apart : (a b : ℕ) → a ≢ b → (a == b) ≡ false
apart a b n = grind (arith, nat_tests)

-- ---- a change of one line is one line by line

abbrev pub step : ℕ → Option (List ℕ) → ℕ × List ℕ → LinesOf
step id now x = cond (has_number id x) (line_under x.0 now) (x ∷ [])

pub by_steps : (id : ℕ) (now : Option (List ℕ)) (xs : LinesOf) → with_now id now xs ≡ flat_map (step id now) xs
by_steps id None [] = refl
by_steps id None (x ∷ xs) =
    elim (has_number id x) as (λ b. cond (not b) (x ∷ without_line id xs) (without_line id xs) ≡ cond b [] (x ∷ []) ++ flat_map (step id None) xs)
    [ true ↦ by_steps id None xs | false ↦ ap (λ l. x ∷ l) (by_steps id None xs) ]
by_steps id (Some body) [] = refl
by_steps id (Some body) (x ∷ xs) =
    elim (has_number id x) as (λ b. cond b (x.0, body) x ∷ with_body id body xs ≡ cond b ((x.0, body) ∷ []) (x ∷ []) ++ flat_map (step id (Some body)) xs)
    [ true ↦ ap (λ l. (x.0, body) ∷ l) (by_steps id (Some body) xs) | false ↦ ap (λ l. x ∷ l) (by_steps id (Some body) xs) ]

pub with_now-append : (id : ℕ) (now : Option (List ℕ)) (xs ys : LinesOf) → with_now id now (xs ++ ys) ≡ with_now id now xs ++ with_now id now ys
with_now-append id now xs ys =
    by_steps id now (xs ++ ys) ∙ flat_map-append (step id now) xs ys ∙ ap₂ ◌++◌ (sym (by_steps id now xs)) (sym (by_steps id now ys))

-- where no line has the number nothing changes
pub with_now_none : (id : ℕ) (now : Option (List ℕ)) (xs : LinesOf) → AllByRecursion (λ (x : ℕ × List ℕ). x.0 ≢ id) xs → with_now id now xs ≡ xs
with_now_none id now xs others =
    by_steps id now xs ∙ flat_map_same (step id now) xs (all_weaker (λ (x : ℕ × List ℕ). x.0 ≢ id) (λ x. step id now x ≡ x ∷ []) (λ x n. ap (λ b. cond b (line_under x.0 now) (x ∷ [])) (apart x.0 id n)) xs others)

pub flat_map-flat_map : (f g : ℕ × List ℕ → LinesOf) (xs : LinesOf) → flat_map g (flat_map f xs) ≡ flat_map (λ x. flat_map g (f x)) xs
flat_map-flat_map f g [] = refl
flat_map-flat_map f g (x ∷ xs) = flat_map-append g (f x) (flat_map f xs) ∙ ap (λ l. flat_map g (f x) ++ l) (flat_map-flat_map f g xs)

pub flat_map_alike : (f g : ℕ × List ℕ → LinesOf) (xs : LinesOf) → ((x : ℕ × List ℕ) → f x ≡ g x) → flat_map f xs ≡ flat_map g xs
flat_map_alike f g [] same = refl
flat_map_alike f g (x ∷ xs) same = ap₂ ◌++◌ (same x) (flat_map_alike f g xs same)

-- ---- the lines that are kept

abbrev pub kept_now : (ℕ → Option (Option (List ℕ))) → LinesOf → LinesOf
kept_now made xs = flat_map (λ x. line_now (made x.0) x) xs

pub kept_alike : (old new : ℕ → Option (Option (List ℕ))) → ((q : ℕ) → new q ≡ old q) → (xs : LinesOf) → kept_now new xs ≡ kept_now old xs
kept_alike old new same xs = flat_map_alike (λ x. line_now (new x.0) x) (λ x. line_now (old x.0) x) xs (λ x. ap (λ m. line_now m x) (same x.0))

-- what one line shows before and after a change of a row that isn't gone
abbrev pub IsThere : Option (Option (List ℕ)) → Type 0
IsThere None = Unit {0}
IsThere (Some None) = ⊥
IsThere (Some (Some b)) = Unit {0}

stepped : (id : ℕ) (now : Option (List ℕ)) (made : Option (Option (List ℕ))) (x : ℕ × List ℕ) → IsThere made → (x.0 == id) ≡ true → flat_map (step id now) (line_now made x) ≡ line_under x.0 now
stepped id now None x there e = ap (λ b. cond b (line_under x.0 now) (x ∷ []) ++ []) e ∙ append-nil (line_under x.0 now)
stepped id now (Some None) x there e = absurd there
stepped id now (Some (Some body)) x there e = ap (λ b. cond b (line_under x.0 now) ((x.0, body) ∷ []) ++ []) e ∙ append-nil (line_under x.0 now)

unstepped : (id : ℕ) (now : Option (List ℕ)) (made : Option (Option (List ℕ))) (x : ℕ × List ℕ) → (x.0 == id) ≡ false → flat_map (step id now) (line_now made x) ≡ line_now made x
unstepped id now None x e = ap (λ b. cond b (line_under x.0 now) (x ∷ []) ++ []) e
unstepped id now (Some None) x e = refl
unstepped id now (Some (Some body)) x e = ap (λ b. cond b (line_under x.0 now) ((x.0, body) ∷ []) ++ []) e

pub kept_changes : (id : ℕ) (now : Option (List ℕ)) (old new : ℕ → Option (Option (List ℕ))) → IsThere (old id) → ((q : ℕ) → new q ≡ cond (q == id) (Some now) (old q)) → (xs : LinesOf)
    → kept_now new xs ≡ with_now id now (kept_now old xs)
kept_changes id now old new there goes xs =
    sym (by_steps id now (kept_now old xs) ∙ flat_map-flat_map (λ x. line_now (old x.0) x) (step id now) xs ∙ flat_map_alike (λ x. flat_map (step id now) (line_now (old x.0) x)) (λ x. line_now (new x.0) x) xs one)
  where
    one : (x : ℕ × List ℕ) → flat_map (step id now) (line_now (old x.0) x) ≡ line_now (new x.0) x
    one x = by (x.0 == id) refl
      where
        by : (b : Bool) → (x.0 == id) ≡ b → flat_map (step id now) (line_now (old x.0) x) ≡ line_now (new x.0) x
        by true e = stepped id now (old x.0) x (subst (λ n. IsThere (old n)) (sym (eqb-true x.0 id e)) there) e ∙ ap (λ m. line_now m x) (sym (goes x.0 ∙ ap (λ b. cond b (Some now) (old x.0)) e))
        by false e = unstepped id now (old x.0) x e ∙ ap (λ m. line_now m x) (sym (goes x.0 ∙ ap (λ b. cond b (Some now) (old x.0)) e))

-- ---- the numbers of lines

pub kept_numbers : (P : ℕ → Type 0) (made : ℕ → Option (Option (List ℕ))) (xs : LinesOf) → AllByRecursion (λ (x : ℕ × List ℕ). P x.0) xs → AllByRecursion (λ (x : ℕ × List ℕ). P x.0) (kept_now made xs)
kept_numbers P made [] h = tt
kept_numbers P made (x ∷ xs) h = all-append (λ (y : ℕ × List ℕ). P y.0) (line_now (made x.0) x) (kept_now made xs) (one (made x.0)) (kept_numbers P made xs h.1)
  where
    one : (m : Option (Option (List ℕ))) → AllByRecursion (λ (y : ℕ × List ℕ). P y.0) (line_now m x)
    one None = (h.0, tt)
    one (Some None) = tt
    one (Some (Some body)) = (h.0, tt)

pub numbers_from : (P : ℕ → Type 0) (k : ℕ) (bodies : List (Option (Vec ℕ Global))) → ((n : ℕ) → k ≤ n → n < k + length bodies → P n) → AllByRecursion (λ (x : ℕ × List ℕ). P x.0) (lines_from k bodies)
numbers_from P k [] h = tt
numbers_from P k (body ∷ bodies) h =
    all-append (λ (y : ℕ × List ℕ). P y.0) (line_under k (bytes_in body)) (lines_from (suc k) bodies) (one (bytes_in body)) (numbers_from P (suc k) bodies (λ n low high. h n (omega (arith, low)) (omega (arith, high))))
  where
    one : (b : Option (List ℕ)) → AllByRecursion (λ (y : ℕ × List ℕ). P y.0) (line_under k b)
    one None = tt
    one (Some b) = (h k (omega arith) (omega arith), tt)

-- ---- rising lines

kept_rising : (made : ℕ → Option (Option (List ℕ))) (xs : LinesOf) → IsAscending (λ (a b : ℕ × List ℕ). a.0 < b.0) xs → IsAscending (λ (a b : ℕ × List ℕ). a.0 < b.0) (kept_now made xs)
kept_rising made [] up = tt
kept_rising made (x ∷ xs) up = one (made x.0) (kept_numbers (λ n. x.0 < n) made xs up.0) (kept_rising made xs up.1)
  where
    one : (m : Option (Option (List ℕ))) → AllByRecursion (λ (y : ℕ × List ℕ). x.0 < y.0) (kept_now made xs) → IsAscending (λ (a b : ℕ × List ℕ). a.0 < b.0) (kept_now made xs)
        → IsAscending (λ (a b : ℕ × List ℕ). a.0 < b.0) (line_now m x ++ kept_now made xs)
    one None below more = (below, more)
    one (Some None) below more = more
    one (Some (Some body)) below more = (below, more)

pub rising_from : (k : ℕ) (bodies : List (Option (Vec ℕ Global))) → IsAscending (λ (a b : ℕ × List ℕ). a.0 < b.0) (lines_from k bodies)
rising_from k [] = tt
rising_from k (body ∷ bodies) = one (bytes_in body) (rising_from (suc k) bodies)
  where
    one : (b : Option (List ℕ)) → IsAscending (λ (a b : ℕ × List ℕ). a.0 < b.0) (lines_from (suc k) bodies) → IsAscending (λ (a b : ℕ × List ℕ). a.0 < b.0) (line_under k b ++ lines_from (suc k) bodies)
    one None more = more
    one (Some b) more = (numbers_from (λ n. k < n) (suc k) bodies (λ n low high. omega (arith, low)), more)

pub overlay_rising : (t : TableChanges) (kept : LinesOf) → AreOf kept t → IsAscending (λ (a b : ℕ × List ℕ). a.0 < b.0) (overlay t kept)
overlay_rising t kept h =
    ascending-append (λ (a b : ℕ × List ℕ). a.0 < b.0) (kept_now (made_of_kept t) kept) (lines_from (suc t.first) t.added.items)
    (kept_rising (made_of_kept t) kept h.rising) (rising_from (suc t.first) t.added.items)
    (all_weaker (λ (x : ℕ × List ℕ). x.0 ≤ t.first) (λ (x : ℕ × List ℕ). AllByRecursion (λ (y : ℕ × List ℕ). x.0 < y.0) (lines_from (suc t.first) t.added.items))
    (λ x low. numbers_from (λ n. x.0 < n) (suc t.first) t.added.items (λ n from upto. omega (arith, low, from)))
    (kept_now (made_of_kept t) kept) (kept_numbers (λ n. n ≤ t.first) (made_of_kept t) kept h.given))

pub overlay_given : (t : TableChanges) (kept : LinesOf) → AreOf kept t → AllByRecursion (λ (x : ℕ × List ℕ). x.0 ≤ last_of t) (overlay t kept)
overlay_given t kept h =
    all-append (λ (x : ℕ × List ℕ). x.0 ≤ last_of t) (kept_now (made_of_kept t) kept) (lines_from (suc t.first) t.added.items)
    (kept_numbers (λ n. n ≤ last_of t) (made_of_kept t) kept (all_weaker (λ (x : ℕ × List ℕ). x.0 ≤ t.first) (λ (x : ℕ × List ℕ). x.0 ≤ last_of t) (λ x low. omega (arith, low)) kept h.given))
    (numbers_from (λ n. n ≤ last_of t) (suc t.first) t.added.items (λ n from upto. omega (arith, upto)))

-- ---- the line of a number

pub at_other : (id : ℕ) (xs ys : LinesOf) → AllByRecursion (λ (x : ℕ × List ℕ). x.0 ≢ id) xs → body_at id (xs ++ ys) ≡ body_at id ys
at_other id [] ys others = refl
at_other id (x ∷ xs) ys others = ap (λ b. cond b (Some x.1) (body_at id (xs ++ ys))) (apart x.0 id others.0) ∙ at_other id xs ys others.1

pub at_none : (id : ℕ) (xs : LinesOf) → AllByRecursion (λ (x : ℕ × List ℕ). x.0 ≢ id) xs → body_at id xs ≡ None
at_none id [] others = refl
at_none id (x ∷ xs) others = ap (λ b. cond b (Some x.1) (body_at id xs)) (apart x.0 id others.0) ∙ at_none id xs others.1

pub at_first : (id : ℕ) (xs ys : LinesOf) → AllByRecursion (λ (x : ℕ × List ℕ). x.0 ≢ id) ys → body_at id (xs ++ ys) ≡ body_at id xs
at_first id [] ys others = at_none id ys others
at_first id (x ∷ xs) ys others = ap (λ o. cond (x.0 == id) (Some x.1) o) (at_first id xs ys others)

-- the body of a line that was kept, by what was made of it
abbrev pub now_by : Option (Option (List ℕ)) → Option (List ℕ) → Option (List ℕ)
now_by None o = o
now_by (Some now) None = None
now_by (Some now) (Some b) = now

pub gone_by : (o : Option (List ℕ)) → now_by (Some None) o ≡ None
gone_by None = refl
gone_by (Some b) = refl

pub kept_at : (made : ℕ → Option (Option (List ℕ))) (id : ℕ) (xs : LinesOf) → body_at id (kept_now made xs) ≡ now_by (made id) (body_at id xs)
kept_at made id [] = none (made id)
  where
    none : (m : Option (Option (List ℕ))) → None ≡ now_by m None
    none None = refl
    none (Some now) = refl
kept_at made id (x ∷ xs) = by (x.0 == id) refl (kept_at made id xs)
  where
    here : (m : Option (Option (List ℕ))) → (x.0 == id) ≡ true → body_at id (kept_now made xs) ≡ now_by m (body_at id xs) → body_at id (line_now m x ++ kept_now made xs) ≡ now_by m (cond true (Some x.1) (body_at id xs))
    here None e more = ap (λ b. cond b (Some x.1) (body_at id (kept_now made xs))) e
    here (Some None) e more = more ∙ gone_by (body_at id xs)
    here (Some (Some body)) e more = ap (λ b. cond b (Some body) (body_at id (kept_now made xs))) e

    there : (m : Option (Option (List ℕ))) → (x.0 == id) ≡ false → body_at id (line_now m x ++ kept_now made xs) ≡ body_at id (kept_now made xs)
    there None e = ap (λ b. cond b (Some x.1) (body_at id (kept_now made xs))) e
    there (Some None) e = refl
    there (Some (Some body)) e = ap (λ b. cond b (Some body) (body_at id (kept_now made xs))) e

    by : (b : Bool) → (x.0 == id) ≡ b → body_at id (kept_now made xs) ≡ now_by (made id) (body_at id xs)
        → body_at id (line_now (made x.0) x ++ kept_now made xs) ≡ now_by (made id) (cond (x.0 == id) (Some x.1) (body_at id xs))
    by true e more =
        ap (λ n. body_at id (line_now (made n) x ++ kept_now made xs)) (eqb-true x.0 id e) ∙ here (made id) e more
        ∙ ap (λ b. now_by (made id) (cond b (Some x.1) (body_at id xs))) (sym e)
    by false e more = there (made x.0) e ∙ more ∙ ap (λ b. now_by (made id) (cond b (Some x.1) (body_at id xs))) (sym e)

past : (k n : ℕ) → suc k ≤ n → n - k ≡ suc (n - suc k)
past k n l = omega (arith, l)

pub at_from : (id k : ℕ) (bodies : List (Option (Vec ℕ Global))) → k ≤ id → body_at id (lines_from k bodies) ≡ body_among (slice_get bodies (id - k))
at_from id k [] l = refl
at_from id k (body ∷ bodies) l = by (k == id) refl (λ m. at_from id (suc k) bodies m)
  where
    behind : AllByRecursion (λ (x : ℕ × List ℕ). x.0 ≢ k) (lines_from (suc k) bodies)
    behind = numbers_from (λ n. n ≢ k) (suc k) bodies (λ n low high. omega (arith, low))

    here : (b : Option (List ℕ)) → body_at k (line_under k b ++ lines_from (suc k) bodies) ≡ b
    here None = at_none k (lines_from (suc k) bodies) behind
    here (Some b) = ap (λ e. cond e (Some b) (body_at k (lines_from (suc k) bodies))) (let e : (k == k) ≡ true = grind (arith, nat_tests) in e)

    there : (b : Option (List ℕ)) → (k == id) ≡ false → body_at id (line_under k b ++ lines_from (suc k) bodies) ≡ body_at id (lines_from (suc k) bodies)
    there None e = refl
    there (Some b) e = ap (λ t. cond t (Some b) (body_at id (lines_from (suc k) bodies))) e

    by : (b : Bool) → (k == id) ≡ b → (suc k ≤ id → body_at id (lines_from (suc k) bodies) ≡ body_among (slice_get bodies (id - suc k)))
        → body_at id (line_under k (bytes_in body) ++ lines_from (suc k) bodies) ≡ body_among (slice_get (body ∷ bodies) (id - k))
    by true e rest =
        let same : k ≡ id = eqb-true k id e in
        subst (λ n. body_at n (line_under k (bytes_in body) ++ lines_from (suc k) bodies) ≡ body_among (slice_get (body ∷ bodies) (n - k))) same
        (here (bytes_in body) ∙ ap (λ n. body_among (slice_get (body ∷ bodies) n)) (let z : 0 ≡ k - k = omega arith in z))
    by false e rest =
        let more : suc k ≤ id = grind (arith, nat_tests) in
        there (bytes_in body) e ∙ rest more ∙ ap (λ n. body_among (slice_get (body ∷ bodies) n)) (sym (past k id more))

-- ---- lines that were added get other bodies

under_now : (id : ℕ) (was : List ℕ) (now : Option (List ℕ)) → with_now id now ((id, was) ∷ []) ≡ line_under id now
under_now id was now =
    by_steps id now ((id, was) ∷ []) ∙ ap (λ b. cond b (line_under id now) ((id, was) ∷ []) ++ []) (let e : (id == id) ≡ true = grind (arith, nat_tests) in e) ∙ append-nil (line_under id now)

none_of : (now : Option (List ℕ)) (id : ℕ) → with_now id now [] ≡ []
none_of None id = refl
none_of (Some b) id = refl

pub added_changes : (id k : ℕ) (was : List ℕ) (now : Option (Vec ℕ Global)) (bodies : List (Option (Vec ℕ Global))) → k ≤ id → body_at id (lines_from k bodies) ≡ Some was
    → lines_from k (set bodies (id - k) now) ≡ with_now id (bytes_in now) (lines_from k bodies)
added_changes id k was now [] l there = sym (none_of (bytes_in now) id)
added_changes id k was now (body ∷ bodies) l there = by (k == id) refl (λ m f. added_changes id (suc k) was now bodies m f)
  where
    behind : AllByRecursion (λ (x : ℕ × List ℕ). x.0 ≢ k) (lines_from (suc k) bodies)
    behind = numbers_from (λ n. n ≢ k) (suc k) bodies (λ n low high. omega (arith, low))

    here : (b : Option (List ℕ)) → body_at k (line_under k b ++ lines_from (suc k) bodies) ≡ Some was → with_now k (bytes_in now) (line_under k b ++ lines_from (suc k) bodies) ≡ line_under k (bytes_in now) ++ lines_from (suc k) bodies
    here None f = absurd (let g : None ≡ Some was = sym (at_none k (lines_from (suc k) bodies) behind) ∙ f in cc)
    here (Some b) f = with_now-append k (bytes_in now) ((k, b) ∷ []) (lines_from (suc k) bodies) ∙ ap₂ ◌++◌ (under_now k b (bytes_in now)) (with_now_none k (bytes_in now) (lines_from (suc k) bodies) behind)

    there_none : (b : Option (List ℕ)) → (k == id) ≡ false → AllByRecursion (λ (x : ℕ × List ℕ). x.0 ≢ id) (line_under k b)
    there_none None e = tt
    there_none (Some b) e = ((let n : k ≢ id = grind (arith, nat_tests) in n), tt)

    by : (b : Bool) → (k == id) ≡ b
        → (suc k ≤ id → body_at id (lines_from (suc k) bodies) ≡ Some was → lines_from (suc k) (set bodies (id - suc k) now) ≡ with_now id (bytes_in now) (lines_from (suc k) bodies))
        → lines_from k (set (body ∷ bodies) (id - k) now) ≡ with_now id (bytes_in now) (line_under k (bytes_in body) ++ lines_from (suc k) bodies)
    by true e rest =
        let same : k ≡ id = eqb-true k id e in
        subst (λ n. lines_from k (set (body ∷ bodies) (n - k) now) ≡ with_now n (bytes_in now) (line_under k (bytes_in body) ++ lines_from (suc k) bodies)) same
        (ap (λ n. lines_from k (set (body ∷ bodies) n now)) (let z : k - k ≡ 0 = omega arith in z)
        ∙ sym (here (bytes_in body) (subst (λ n. body_at n (line_under k (bytes_in body) ++ lines_from (suc k) bodies) ≡ Some was) (sym same) there)))
    by false e rest =
        let more : suc k ≤ id = grind (arith, nat_tests) in
        let others = there_none (bytes_in body) e in
        ap (λ n. lines_from k (set (body ∷ bodies) n now)) (past k id more)
        ∙ ap (λ l. line_under k (bytes_in body) ++ l) (rest more (sym (at_other id (line_under k (bytes_in body)) (lines_from (suc k) bodies) others) ∙ there))
        ∙ sym (with_now-append id (bytes_in now) (line_under k (bytes_in body)) (lines_from (suc k) bodies) ∙ ap (λ l. l ++ with_now id (bytes_in now) (lines_from (suc k) bodies)) (with_now_none id (bytes_in now) (line_under k (bytes_in body)) others))

-- ---- a line more

pub lines_from-append : (k : ℕ) (those bs : List (Option (Vec ℕ Global))) → lines_from k (those ++ bs) ≡ lines_from k those ++ lines_from (k + length those) bs
lines_from-append k [] bs = ap (λ n. lines_from n bs) (let e : k ≡ k + 0 = omega arith in e)
lines_from-append k (a ∷ those) bs =
    ap (λ l. line_under k (bytes_in a) ++ l) (lines_from-append (suc k) those bs) ∙ sym (append_assoc (line_under k (bytes_in a)) (lines_from (suc k) those) (lines_from (suc k + length those) bs))
    ∙ ap (λ n. (line_under k (bytes_in a) ++ lines_from (suc k) those) ++ lines_from n bs) (let e : suc k + length those ≡ k + suc (length those) = omega arith in e)

pub one_added : (made : ℕ → Option (Option (List ℕ))) (first id : ℕ) (added : List (Option (Vec ℕ Global))) (body : Vec ℕ Global) (kept : LinesOf) → id ≡ suc first + length added
    → kept_now made kept ++ lines_from (suc first) (added ++ Some body ∷ []) ≡ with_line id body.items (kept_now made kept ++ lines_from (suc first) added)
one_added made first id added body kept e =
    ap (λ l. kept_now made kept ++ l) (lines_from-append (suc first) added (Some body ∷ []))
    ∙ sym (append_assoc (kept_now made kept) (lines_from (suc first) added) ((suc first + length added, body.items) ∷ []))
    ∙ ap (λ n. (kept_now made kept ++ lines_from (suc first) added) ++ (n, body.items) ∷ []) (sym e)
