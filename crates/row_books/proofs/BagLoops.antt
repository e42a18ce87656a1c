-- Loops over the bags of a table's columns.
use Rattle.std.proofs.Common.{◌≡◌, ℕ, zero, suc, ◌+◌, ◌-◌, ◌<◌, ◌≤◌, ◌==◌, ℤ, List, [], ◌∷◌, ◌++◌, length, map, Bool, true, false, cond, Option, Some, None, refl, sym, ap, subst, ◌∙◌, arith}
use Rattle.std.specs.Prelude.{IsSomeAnd, nat_lt, option_map, slice_get}
use Rattle.std.specs.Bool.{Decides}
use Rattle.std.proofs.lemmas.Bool.Decides.{Decides-eqb, nat_tests}
use Rattle.std.proofs.lemmas.List.{length-map}
use Rattle.std.proofs.lemmas.Option.{slice_get-map}
use Rattle.number_bags.specs.Bags.{IsReady, now_in}
use Rattle.number_bags.specs.declared.bags.NumberBag.{NumberBag}
use Rattle.number_bags.specs.Rising.{times}
use Rattle.fx_types.specs.declared.aggregates.Totals.{Totals}
use Rattle.row_books.specs.Numbers.{AreEmpty, AreReady, ChangesAt, IsCarried, IsChanged, IsPrepared, IsTotal, IsTotalOf, changed, fresh, number_at}
use Rattle.row_books.proofs.Places.{AreUpTo, got_other, got_same, there_at, upto_all, upto_step}

some_is : (a b : NumberBag) → Some a ≡ Some b → a ≡ b
some_is a b e = cc

pub same_length : {X Y : Type 0} (f : X → Y) (xs ys : List X) → map f xs ≡ map f ys → length xs ≡ length ys
same_length f xs ys e = sym (length-map xs f) ∙ ap length e ∙ length-map ys f

-- ---- made ready, up to a place
abbrev pub AreReadyUpTo : List (Option ℤ) → ℕ → List NumberBag → Type 0
AreReadyUpTo out i bags = (k : ℕ) (b : NumberBag) → nat_lt k i ≡ true → slice_get bags k ≡ Some b → IsReady b (number_at out k)

pub ready_none : (out : List (Option ℤ)) (bags : List NumberBag) → AreReadyUpTo out 0 bags
ready_none out bags k b l e = absurd (none k l)
  where
    none : (k : ℕ) → nat_lt k 0 ≡ true → ⊥
    none k l = grind (arith, nat_tests, l)

pub ready_more : (out : List (Option ℤ)) (i : ℕ) (old new : List NumberBag) → ChangesAt i (IsPrepared (number_at out i)) old new → AreReadyUpTo out i old → AreReadyUpTo out (i + 1) new
ready_more out i old new h ready k b l e = go (k == i) (Decides-eqb k i)
  where
    before : (k i : ℕ) → (k ≡ i → ⊥) → nat_lt k (i + 1) ≡ true → nat_lt k i ≡ true
    before k i n l = grind (arith, nat_tests, n, l)

    go : (t : Bool) → Decides t (k ≡ i) → IsReady b (number_at out k)
    go true d =
        let is : k ≡ i = d.0 refl in
        let there : Some h.after ≡ Some b = sym (got_same old i h.after h.before h.is_there) ∙ sym (ap (λ zs. slice_get zs i) h.stands) ∙ sym (ap (λ n. slice_get new n) is) ∙ e in
        subst (λ n. IsReady b (number_at out n)) (sym is) (subst (λ c. IsReady c (number_at out i)) (some_is h.after b there) h.goes.2)
    go false d =
        let n : k ≡ i → ⊥ = λ f. let t = d.1 f in cc in
        ready k b (before k i n l) (sym (got_other old i k h.after n) ∙ sym (ap (λ zs. slice_get zs k) h.stands) ∙ e)

pub ready_all : (out : List (Option ℤ)) (n : ℕ) (bags : List NumberBag) → length bags ≤ n → AreReadyUpTo out n bags → AreReady out bags
ready_all out n bags long h k b e = h k b (below k n (length bags) (within bags k b e) long) e
  where
    below : (k n m : ℕ) → k < m → m ≤ n → nat_lt k n ≡ true
    below k n m l g = grind (arith, nat_tests, l, g)

    within : (zs : List NumberBag) (k : ℕ) (b : NumberBag) → slice_get zs k ≡ Some b → k < length zs
    within [] k b e = absurd cc
    within (z ∷ zs) zero b e = omega arith
    within (z ∷ zs) (suc k) b e = let l = within zs k b e in omega (arith, l)

-- ---- carried out, up to a place; the others are still ready
abbrev pub AreReadyFrom : List (Option ℤ) → ℕ → List NumberBag → Type 0
AreReadyFrom out i bags = (k : ℕ) (b : NumberBag) → i ≤ k → slice_get bags k ≡ Some b → IsReady b (number_at out k)

pub ready_there : (out : List (Option ℤ)) (i : ℕ) (bags : List NumberBag) → i < length bags → AreReadyFrom out i bags → IsSomeAnd (slice_get bags i) (λ (b : NumberBag). IsReady b (number_at out i))
ready_there out i bags l h = let y = there_at bags i l in subst (λ o. IsSomeAnd o (λ (b : NumberBag). IsReady b (number_at out i))) (sym y.1) (h i y.0 (omega arith) y.1)

pub ready_past : (out : List (Option ℤ)) (i : ℕ) (P : NumberBag → NumberBag → Type 0) (old new : List NumberBag) → ChangesAt i P old new → AreReadyFrom out i old → AreReadyFrom out (i + 1) new
ready_past out i P old new c h k b l e =
    let n : k ≡ i → ⊥ = λ f. omega (arith, l, f) in
    h k b (omega (arith, l)) (sym (got_other old i k c.after n) ∙ sym (ap (λ zs. slice_get zs k) c.stands) ∙ e)

abbrev pub carried : List (Option ℤ) → List (Option ℤ) → List NumberBag → ℕ → Option (List ℤ)
carried out put start k = option_map (changed (number_at out k) (number_at put k)) (slice_get (map now_in start) k)

pub carried_more : (out put : List (Option ℤ)) (start : List NumberBag) (i : ℕ) (old new : List NumberBag) → ChangesAt i (IsCarried (number_at out i) (number_at put i)) old new
    → AreUpTo now_in (carried out put start) start i old → AreUpTo now_in (carried out put start) start (i + 1) new
carried_more out put start i old new c h =
    let was : slice_get (map now_in start) i ≡ Some (now_in c.before) = sym (h i ∙ ap (λ b. cond b (carried out put start i) (slice_get (map now_in start) i)) (not_below i)) ∙ slice_get-map now_in old i ∙ ap (option_map now_in) c.is_there in
    subst (AreUpTo now_in (carried out put start) start (i + 1)) (sym c.stands)
    (upto_step now_in (carried out put start) start i old c.after c.before c.is_there h
    (ap (option_map (changed (number_at out i) (number_at put i))) was ∙ ap (λ zs. Some zs) (sym c.goes.0)))
  where
    not_below : (i : ℕ) → nat_lt i i ≡ false
    not_below i = grind (arith, nat_tests)

pub carried_all : (out put : List (Option ℤ)) (start : List NumberBag) (n : ℕ) (bags : List NumberBag) → length start ≤ n → AreUpTo now_in (carried out put start) start n bags
    → IsChanged out put (map now_in start) (map now_in bags)
carried_all out put start n bags long h =
    upto_all now_in (carried out put start) start n bags long (λ k past. ap (option_map (changed (number_at out k) (number_at put k))) (slice_get-map now_in start k ∙ ap (option_map now_in) past)) h

-- ---- bags of no numbers
pub empty_more : (xs : List NumberBag) (b : NumberBag) → now_in b ≡ [] → AreEmpty (map now_in xs) → AreEmpty (map now_in (xs ++ b ∷ []))
empty_more [] b e h zero = e
empty_more [] b e h (suc k) = tt
empty_more (x ∷ xs) b e h zero = h 0
empty_more (x ∷ xs) b e h (suc k) = empty_more xs b e (λ j. h (suc j)) k

-- ---- the bag of the rows' numbers, before the others
pub changed_first : (o p : Option ℤ) (out put : List (Option ℤ)) (b c : List ℤ) (bs cs : List (List ℤ)) → c ≡ changed o p b → IsChanged out put bs cs → IsChanged (o ∷ out) (p ∷ put) (b ∷ bs) (c ∷ cs)
changed_first o p out put b c bs cs e h zero = ap (λ zs. Some zs) e
changed_first o p out put b c bs cs e h (suc k) = h k

-- what the numbers of a column behind it come to
pub total_behind : (ids : List ℤ) (bags : List NumberBag) (column place : ℕ) (b : NumberBag) (t : Totals) → 1 ≤ column → place ≡ column - 1 → slice_get bags place ≡ Some b → IsTotal (now_in b) t
    → IsTotalOf (slice_get (ids ∷ map now_in bags) column) (Some t)
total_behind ids bags zero place b t one is there h = absurd (omega (arith, one))
total_behind ids bags (suc k) place b t one is there h = subst (λ o. IsTotalOf o (Some t)) (sym here) h
  where
    same : place ≡ k
    same = omega (arith, is)

    here : slice_get (map now_in bags) k ≡ Some (now_in b)
    here = slice_get-map now_in bags k ∙ ap (option_map now_in) (ap (slice_get bags) (sym same) ∙ there)

-- ---- a number that comes, unless it is counted
pub fresh_by : (b : Bool) (z : ℤ) (zs : List ℤ) → Decides b (0 < times z zs) → fresh z zs ≡ cond b None (Some z)
fresh_by b z zs d = go b (times z zs) (times z zs == 0) (Decides-eqb (times z zs) 0) d
  where
    go : (b : Bool) (n : ℕ) (t : Bool) → Decides t (n ≡ 0) → Decides b (0 < n) → cond t (Some z) None ≡ cond b None (Some z)
    go true n true t d = absurd (let e = t.0 refl in let l = d.0 refl in omega (arith, e, l))
    go true n false t d = refl
    go false n true t d = refl
    go false zero false t d = absurd (let e = t.1 refl in cc)
    go false (suc n) false t d = absurd (let e = d.1 (omega arith) in cc)
