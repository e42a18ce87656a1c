-- Rows that a stable sort has put in the order of their keys, and that there is one such order.
use Rattle.std.proofs.Common.{◌≡◌, ℕ, zero, suc, ◌+◌, ◌<◌, ◌≤◌, List, [], ◌∷◌, ◌++◌, length, get_or, map, Bool, true, false, not, refl, sym, ap, subst, ◌∙◌, arith, cond, if◌then◌else◌}
use Rattle.std.specs.Prelude.{◌&&◌}
use Rattle.std.specs.List.{filter, zip}
use Rattle.std.specs.List.Sorted.{IsPermutation, IsSortedBy, IsStableBy, IsSortedByKey, IsStableByKey, ties}
use Rattle.std.specs.Ordering.{is_lt, ordering_reverse}
use Rattle.std.specs.Cmp.{IsTotalOrder, IsStrictWeakOrder}
use Rattle.std.specs.declared.cmp.Ordering.{Ordering}
use Rattle.std.specs.declared.cmp.Ordering.TheVariants.{Less, Equal, Greater}
use Rattle.std.proofs.lemmas.Cmp.{alike_right, back_total}
use Rattle.std.proofs.lemmas.List.Elements.{filter_agree}
use Rattle.std.proofs.lemmas.List.Sorted.{ranks_by, sorted_far, IsPermutation-map}
use Rattle.fx_types.specs.Values.{Data}
use Rattle.fx_types.specs.ValueView.{view}
use Rattle.fx_value.specs.Order.{order}
use Rattle.fx_value.specs.Columns.{Row}
use Rattle.fx_value.specs.Ordered.{directed, IsOrderedBy}

-- lists that are sorted, and in which the elements that tie are the same, are the same
module _ {X : Type 0} (lt : X → X → Bool) (o : IsStrictWeakOrder lt) where
  not_below_itself : (x : X) → lt x x ≡ false
  not_below_itself x = by (lt x x) refl
    where
      by : (b : Bool) → lt x x ≡ b → lt x x ≡ false
      by true e = o.one_way x x e
      by false e = e

  ties_itself : (x : X) → ties lt x x ≡ true
  ties_itself x = rw (not_below_itself x) refl

  -- what is first among those that pass is an element
  found_at : (p : X → Bool) (zs : List X) (y : X) (rest : List X) → filter p zs ≡ y ∷ rest → (k : ℕ) × (k < length zs) × (get_or zs k y ≡ y)
  found_at p [] y rest e = cc
  found_at p (z ∷ zs) y rest e = by (p z) (λ k. found_at p zs y rest k) e
    where
      by : (b : Bool) → (filter p zs ≡ y ∷ rest → (k : ℕ) × (k < length zs) × (get_or zs k y ≡ y)) → cond b (z ∷ filter p zs) (filter p zs) ≡ y ∷ rest → (k : ℕ) × (k < length (z ∷ zs)) × (get_or (z ∷ zs) k y ≡ y)
      by true g e = let q : z ≡ y = cc in (zero, omega arith, q)
      by false g e = let f = g e in (suc f.0, omega (arith, f.1), f.2)

  not_below_first : (x : X) (xs : List X) (y : X) (ys : List X) → IsSortedBy lt (x ∷ xs) → filter (ties lt y) (x ∷ xs) ≡ filter (ties lt y) (y ∷ ys) → lt y x ≡ false
  not_below_first x xs y ys s e =
      let own = ties_itself y in
      let f = found_at (ties lt y) (x ∷ xs) y (filter (ties lt y) ys) (e ∙ ap (λ b. cond b (y ∷ filter (ties lt y) ys) (filter (ties lt y) ys)) own) in
      let far = sorted_far lt o (x ∷ xs) s zero f.0 y (omega arith) f.1 in
      let P : X → Type 0 = λ z. lt z x ≡ false in
      subst P f.2 far

  sorted_tail : (x : X) (xs : List X) → IsSortedBy lt (x ∷ xs) → IsSortedBy lt xs
  sorted_tail x xs s k d low high =
      let e : suc k + 1 ≡ suc (k + 1) = omega arith in
      let P : ℕ → Type 0 = λ i. lt (get_or (x ∷ xs) i d) (get_or xs k d) ≡ false in
      subst P e (s (suc k) d (omega arith) (omega arith))

  tail_ties : (z x y : X) (xs ys : List X) → x ≡ y → filter (ties lt z) (x ∷ xs) ≡ filter (ties lt z) (y ∷ ys) → filter (ties lt z) xs ≡ filter (ties lt z) ys
  tail_ties z x y xs ys q e =
      let P : X → Type 0 = λ v. filter (ties lt z) (x ∷ xs) ≡ filter (ties lt z) (v ∷ ys) in
      by (ties lt z x) (subst P (sym q) e)
    where
      by : (b : Bool) → cond b (x ∷ filter (ties lt z) xs) (filter (ties lt z) xs) ≡ cond b (x ∷ filter (ties lt z) ys) (filter (ties lt z) ys) → filter (ties lt z) xs ≡ filter (ties lt z) ys
      by true e = cc
      by false e = e

  same_heads : (x y : X) (xs ys : List X) → ties lt x x ≡ true → ties lt x y ≡ true → filter (ties lt x) (x ∷ xs) ≡ filter (ties lt x) (y ∷ ys) → x ≡ y
  same_heads x y xs ys own tied e =
      let heads : x ∷ filter (ties lt x) xs ≡ y ∷ filter (ties lt x) ys =
      sym (ap (λ b. cond b (x ∷ filter (ties lt x) xs) (filter (ties lt x) xs)) own)
      ∙ e ∙ ap (λ b. cond b (y ∷ filter (ties lt x) ys) (filter (ties lt x) ys)) tied in
      cc

  pub sorted_once : (xs ys : List X) → IsSortedBy lt xs → IsSortedBy lt ys → ((z : X) → filter (ties lt z) xs ≡ filter (ties lt z) ys) → xs ≡ ys
  sorted_once [] [] s t e = refl
  sorted_once [] (y ∷ ys) s t e =
      let none : [] ≡ y ∷ filter (ties lt y) ys = e y ∙ ap (λ b. cond b (y ∷ filter (ties lt y) ys) (filter (ties lt y) ys)) (ties_itself y) in
      cc
  sorted_once (x ∷ xs) [] s t e =
      let none : [] ≡ x ∷ filter (ties lt x) xs = sym (e x) ∙ ap (λ b. cond b (x ∷ filter (ties lt x) xs) (filter (ties lt x) xs)) (ties_itself x) in
      cc
  sorted_once (x ∷ xs) (y ∷ ys) s t e =
      let second : lt y x ≡ false = not_below_first x xs y ys s (e y) in
      let first : lt x y ≡ false = not_below_first y ys x xs t (sym (e x)) in
      let tied : ties lt x y ≡ true = rw (first, second) refl in
      let q = same_heads x y xs ys (ties_itself x) tied (e x) in
      λ i. q i ∷ sorted_once xs ys (sorted_tail x xs s) (sorted_tail y ys t) (λ z. tail_ties z x y xs ys q (e z)) i

  -- a test that passes just what ties with an element passing it, keeps the same elements of a list and of
  -- a stable sort of it
  passes_first : (p : X → Bool) (zs : List X) (y : X) (rest : List X) → filter p zs ≡ y ∷ rest → p y ≡ true
  passes_first p [] y rest e = cc
  passes_first p (z ∷ zs) y rest e = by (p z) refl (λ k. passes_first p zs y rest k) e
    where
      by : (b : Bool) → p z ≡ b → (filter p zs ≡ y ∷ rest → p y ≡ true) → cond b (z ∷ filter p zs) (filter p zs) ≡ y ∷ rest → p y ≡ true
      by true q g e = let same : z ≡ y = cc in let P : X → Type 0 = λ v. p v ≡ true in subst P same q
      by false q g e = g e

  pub stable_by_test : (q : X → Bool) → ((a b : X) → q a ≡ true → q b ≡ ties lt a b) → (xs ys : List X) → IsStableBy lt xs ys → filter q ys ≡ filter q xs
  stable_by_test q like xs ys s = by (filter q ys) (filter q xs) refl refl
    where
      through : (a : X) → q a ≡ true → filter q ys ≡ filter q xs
      through a h = filter_agree q (ties lt a) (λ b. like a b h) ys ∙ s a ∙ sym (filter_agree q (ties lt a) (λ b. like a b h) xs)

      by : (vs ws : List X) → filter q ys ≡ vs → filter q xs ≡ ws → filter q ys ≡ filter q xs
      by [] [] e f = e ∙ sym f
      by (v ∷ vs) ws e f = through v (passes_first q ys v vs e)
      by [] (w ∷ ws) e f = through w (passes_first q xs w ws f)

-- an order of keys, and what ties by it
module _ {K : Type 0} {R : K → K → Ordering} (o : IsTotalOrder R) where
  is_tie : (x y : K) → (not (is_lt (R x y)) && not (is_lt (R y x))) ≡ true → R x y ≡ Equal
  is_tie x y e = by (R x y) refl (ap (λ r. not (is_lt (R x y)) && not (is_lt r)) (sym (o.antisymm y x)) ∙ e)
    where
      by : (r : Ordering) → R x y ≡ r → (not (is_lt r) && not (is_lt (ordering_reverse r))) ≡ true → R x y ≡ Equal
      by Less q e = cc
      by Equal q e = q
      by Greater q e = cc

  pub ties_alike : (x y z : K) → (not (is_lt (R x y)) && not (is_lt (R y x))) ≡ true → (not (is_lt (R x z)) && not (is_lt (R z x))) ≡ (not (is_lt (R y z)) && not (is_lt (R z y)))
  ties_alike x y z e =
      let tie = is_tie x y e in
      let left = o.congr x y z tie in
      let right = alike_right o x y z tie in
      λ i. not (is_lt (left i)) && not (is_lt (right i))

-- lists seen through a function
module _ {X Y : Type 0} (f : X → Y) where
  get_seen : (xs : List X) (i : ℕ) (d : Y) (e : X) → i < length xs → get_or (map f xs) i d ≡ f (get_or xs i e)
  get_seen [] i d e h = absurd (omega arith)
  get_seen (x ∷ xs) zero d e h = refl
  get_seen (x ∷ xs) (suc i) d e h = get_seen xs i d e (omega arith)

  seen_long : (xs : List X) → length (map f xs) ≡ length xs
  seen_long [] = refl
  seen_long (x ∷ xs) = ap suc (seen_long xs)

  pub sorted_seen : (lt : Y → Y → Bool) (xs : List X) → IsSortedBy (λ a b. lt (f a) (f b)) xs → IsSortedBy lt (map f xs)
  sorted_seen lt [] s k d low high = absurd (omega arith)
  sorted_seen lt (x ∷ xs) s k d low high =
      let high' : k + 1 < length (x ∷ xs) = omega (arith, seen_long (x ∷ xs)) in
      rw (get_seen (x ∷ xs) (k + 1) d x high', get_seen (x ∷ xs) k d x (omega arith)) (s k x low high')

  pub filter_seen : (p : Y → Bool) (xs : List X) → filter p (map f xs) ≡ map f (filter (λ x. p (f x)) xs)
  filter_seen p [] = refl
  filter_seen p (x ∷ xs) = by (p (f x)) (filter_seen p xs)
    where
      by : (b : Bool) → filter p (map f xs) ≡ map f (filter (λ x. p (f x)) xs) → cond b (f x ∷ filter p (map f xs)) (filter p (map f xs)) ≡ map f (cond b (x ∷ filter (λ x. p (f x)) xs) (filter (λ x. p (f x)) xs))
      by true h = ap (λ ys. f x ∷ ys) h
      by false h = h

pub directed_total : IsTotalOrder order → (down : Bool) → IsTotalOrder (directed down)
directed_total o true = back_total o
directed_total o false = o

-- and there is one
pub one_order : IsTotalOrder order → (down : Bool) (keys : List Data) (rows a b : List Row) → IsOrderedBy down keys rows a → IsOrderedBy down keys rows b → a ≡ b
one_order o down keys rows a b x y =
    let same : x.pairs ≡ y.pairs =
    sorted_once (λ (p q : Data × Row). is_lt (directed down p.0 q.0)) (ranks_by (directed_total o down) (λ (p : Data × Row). p.0)) x.pairs y.pairs x.sorted y.sorted (λ z. x.stable z ∙ sym (y.stable z)) in
    x.result ∙ ap (map (λ (p : Data × Row). p.1)) same ∙ sym y.result
