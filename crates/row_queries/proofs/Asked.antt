-- A query asks rows in one order.
use Rattle.std.proofs.Common.{◌≡◌, ℕ, ◌+◌, ◌<◌, List, [], ◌∷◌, length, Bool, true, false, not, nat_eq, Option, Some, None, refl, sym, ap, ◌∙◌, arith, cond, if◌then◌else◌}
use Rattle.std.specs.Prelude.{◌&&◌, sum_by}
use Rattle.std.specs.List.{AllByRecursion, filter}
use Rattle.std.specs.List.Sorted.{IsPermutation, ties}
use Rattle.std.specs.Ordering.{is_lt, nat_cmp, ordering_reverse, ordering_then}
use Rattle.std.specs.Cmp.{IsTotalOrder}
use Rattle.std.specs.declared.cmp.Ordering.{Ordering}
use Rattle.std.specs.declared.cmp.Ordering.TheVariants.{Less, Equal, Greater}
use Rattle.std.proofs.lemmas.Bool.Decides.{nat_tests}
use Rattle.std.proofs.lemmas.Cmp.{nat_cmp_total, on_total, then_total}
use Rattle.std.proofs.lemmas.List.Elements.{All-from_recursion, recursion_from_All}
use Rattle.std.proofs.lemmas.List.Sorted.{All-permutation, ranks_by, sum_by-IsPermutation}
use Rattle.std.proofs.lemmas.List.Sums.{sum_by-cons}
use Rattle.fx_value.specs.Order.{order}
use Rattle.fx_value.proofs.RowOrders.{directed_total, sorted_once}
use Rattle.row_queries.specs.Laws.{AskedOnce}
use Rattle.row_queries.specs.Queries.{by_column, lies, row_order}
use Rattle.row_queries.specs.TableRows.{AreInIdOrder, IsBelowAll, value_at, values_of}
use Rattle.row_queries.specs.declared.rows.Row.{Row}

-- ---- the order is total, and tells rows of different numbers apart
pub no_order : IsTotalOrder (by_column None)
no_order = record { antisymm = λ a b. refl; trans = λ a b c e f. cc; congr = λ a b c e. refl }

pub column_total : IsTotalOrder order → (o : Option (ℕ × Bool)) → IsTotalOrder (by_column o)
column_total t None = no_order
column_total t (Some o) = on_total (λ (r : Row). value_at (values_of r) o.0) (directed_total t o.1)

pub row_total : IsTotalOrder order → (o : Option (ℕ × Bool)) → IsTotalOrder (row_order o)
row_total t o = then_total (column_total t o) (on_total (λ (r : Row). r.id) nat_cmp_total)

second_equal : (o p : Ordering) → ordering_then o p ≡ Equal → p ≡ Equal
second_equal Less p e = cc
second_equal Equal p e = e
second_equal Greater p e = cc

same_number : (m n : ℕ) → nat_cmp m n ≡ Equal → m ≡ n
same_number m n e = grind (arith, nat_tests, e)

pub is_tie : {K : Type 0} {R : K → K → Ordering} → IsTotalOrder R → (x y : K) → (not (is_lt (R x y)) && not (is_lt (R y x))) ≡ true → R x y ≡ Equal
is_tie {K} {R} o x y e = by (R x y) refl (ap (λ r. not (is_lt (R x y)) && not (is_lt r)) (sym (o.antisymm y x)) ∙ e)
  where
    by : (r : Ordering) → R x y ≡ r → (not (is_lt r) && not (is_lt (ordering_reverse r))) ≡ true → R x y ≡ Equal
    by Less q e = cc
    by Equal q e = q
    by Greater q e = cc

pub tied_number : IsTotalOrder order → (o : Option (ℕ × Bool)) (x y : Row) → ties (λ a b. is_lt (row_order o a b)) x y ≡ true → x.id ≡ y.id
tied_number t o x y e = same_number x.id y.id (second_equal (by_column o x y) (nat_cmp x.id y.id) (is_tie (row_total t o) x y e))

-- ---- each row is the one of its number
pub numbered : ℕ → List Row → Option Row
numbered id [] = None
numbered id (r ∷ rs) = if nat_eq r.id id then Some r else numbered id rs

abbrev pub IsOwn : List Row → Row → Type 0
IsOwn rows r = numbered r.id rows ≡ Some r

above : (r s : Row) → r.id < s.id → nat_eq r.id s.id ≡ false
above r s l = grind (arith, nat_tests)

itself : (n : ℕ) → nat_eq n n ≡ true
itself n = grind (arith, nat_tests)

own_behind : (r : Row) (rows ss : List Row) → IsBelowAll r.id ss → AllByRecursion (IsOwn rows) ss → AllByRecursion (IsOwn (r ∷ rows)) ss
unfolding numbered
own_behind r rows [] b h = tt
own_behind r rows (s ∷ ss) b h =
    (ap (λ t. if t then Some r else numbered s.id rows) (above r s b.0) ∙ h.0, own_behind r rows ss b.1 h.1)

pub own_rows : (rows : List Row) → AreInIdOrder rows → AllByRecursion (IsOwn rows) rows
unfolding numbered
own_rows [] h = tt
own_rows (r ∷ rows) h = (ap (λ t. if t then Some r else numbered r.id rows) (itself r.id), own_behind r rows rows h.0 (own_rows rows h.1))

module _ {X : Type 0} where
  pub passing : (P : X → Type 0) (p : X → Bool) (xs : List X) → AllByRecursion P xs → AllByRecursion P (filter p xs)
  passing P p [] h = tt
  passing P p (x ∷ xs) h = by (p x) (passing P p xs h.1)
    where
      by : (b : Bool) → AllByRecursion P (filter p xs) → AllByRecursion P (cond b (x ∷ filter p xs) (filter p xs))
      by true k = (h.0, k)
      by false k = k

  -- with what the test says besides
  pub passed : (P Q : X → Type 0) (p : X → Bool) → ((x : X) → p x ≡ true → P x → Q x) → (xs : List X) → AllByRecursion P xs → AllByRecursion Q (filter p xs)
  passed P Q p f [] h = tt
  passed P Q p f (x ∷ xs) h = by (p x) refl (passed P Q p f xs h.1)
    where
      by : (b : Bool) → p x ≡ b → AllByRecursion Q (filter p xs) → AllByRecursion Q (cond b (x ∷ filter p xs) (filter p xs))
      by true e k = (f x e h.0, k)
      by false e k = k

  abbrev pub one_of : (X → Bool) → X → ℕ
  one_of p x = if p x then 1 else 0

  pub counted : (p : X → Bool) (xs : List X) → length (filter p xs) ≡ sum_by (one_of p) xs
  counted p [] = refl
  counted p (x ∷ xs) = by (p x) (counted p xs) ∙ sym (sum_by-cons (one_of p) x xs)
    where
      by : (b : Bool) → length (filter p xs) ≡ sum_by (one_of p) xs → length (cond b (x ∷ filter p xs) (filter p xs)) ≡ (if b then 1 else 0) + sum_by (one_of p) xs
      by true e = omega (arith, e)
      by false e = omega (arith, e)

  -- lists as long as each other whose elements are all one
  pub all_one : (o : Option X) (xs ys : List X) → length xs ≡ length ys → AllByRecursion (λ x. o ≡ Some x) xs → AllByRecursion (λ y. o ≡ Some y) ys → xs ≡ ys
  all_one o [] [] e h k = refl
  all_one o [] (y ∷ ys) e h k = absurd (omega (arith, e))
  all_one o (x ∷ xs) [] e h k = absurd (omega (arith, e))
  all_one o (x ∷ xs) (y ∷ ys) e h k =
      let same : Some x ≡ Some y = sym h.0 ∙ k.0 in
      let first : x ≡ y = cc in
      λ i. first i ∷ all_one o xs ys (omega (arith, e)) h.1 k.1 i

-- ---- one order
own_there : (rows chosen asked : List Row) → IsPermutation chosen asked → AllByRecursion (IsOwn rows) chosen → AllByRecursion (IsOwn rows) asked
own_there rows chosen asked p h = recursion_from_All (IsOwn rows) asked (All-permutation (IsOwn rows) chosen asked p (All-from_recursion (IsOwn rows) chosen h))

pub one_list : IsTotalOrder order → AskedOnce
one_list t q rows a b h x y =
    let F = filter (lies q) rows in
    let own : AllByRecursion (IsOwn rows) F = passing (IsOwn rows) (lies q) rows (own_rows rows h) in
    let total = row_total t q.order in
    sorted_once lt (ranks_by total (λ (r : Row). r)) a b x.sorted y.sorted (λ z.
    all_one (numbered z.id rows) (filter (ties lt z) a) (filter (ties lt z) b)
    (counted (ties lt z) a ∙ sum_by-IsPermutation (one_of (ties lt z)) F a x.rearranged ∙ sym (counted (ties lt z) b ∙ sum_by-IsPermutation (one_of (ties lt z)) F b y.rearranged))
    (tied z a (own_there rows F a x.rearranged own))
    (tied z b (own_there rows F b y.rearranged own)))
  where
    lt : Row → Row → Bool
    lt r s = is_lt (row_order q.order r s)

    tied : (z : Row) (rs : List Row) → AllByRecursion (IsOwn rows) rs → AllByRecursion (λ r. numbered z.id rows ≡ Some r) (filter (ties lt z) rs)
    tied z rs o = passed (IsOwn rows) (λ r. numbered z.id rows ≡ Some r) (ties lt z) (λ r e k. ap (λ n. numbered n rows) (tied_number t q.order z r e) ∙ k) rs o
