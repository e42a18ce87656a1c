-- The entries in a range.
use Rattle.std.proofs.Common.{◌≡◌, ℕ, ◌+◌, ◌==◌, List, [], ◌∷◌, filter, refl, sym, ap, ap₂, ◌∙◌, arith, Bool, true, false, not, ◌&&◌, ◌||◌, Option, None, Some}
use Rattle.std.proofs.lemmas.Bool.Decides.{nat_tests}
use Rattle.std.specs.Cmp.{unsigned_ties}
use Rattle.std.specs.Cmp.Lexicographic.{nat_list_cmp_total}
use Rattle.std.specs.Ordering.{nat_cmp, ordering_then, ordering_reverse, is_le, is_lt, is_eq}
use Rattle.std.specs.BTreeMap.Range.{entries_between}
use Rattle.std.specs.declared.ops.Bound.TheVariants.{Included, Excluded}
use Rattle.std.specs.declared.cmp.Ordering.{Ordering}
use Rattle.std.specs.declared.cmp.Ordering.TheVariants.{Less, Equal, Greater}
use Rattle.std.proofs.lemmas.List.Elements.{filter_agree}
use Rattle.fx_value.proofs.ByteOrder.{R, le_trans, lt_is}
use Rattle.row_queries.specs.declared.ranges.KeyRange.{KeyRange}
use Rattle.row_queries.specs.Ranges.{in_range, is_before_end}
use Rattle.row_keeper.specs.Entries.{IndexEntry, Entries, entry_cmp, among, end_key, hits, lies_at}

zero_first : (i : ℕ) → is_le (nat_cmp 0 i) ≡ true
zero_first i = grind (arith, nat_tests)

from_low : (o : Ordering) (i : ℕ) → is_le (ordering_then o (nat_cmp 0 i)) ≡ is_le o
from_low Less i = refl
from_low Equal i = zero_first i
from_low Greater i = refl

-- a column's place among two
ties_of : (a b : ℕ) → (a == b) ≡ is_eq (nat_cmp a b)
ties_of a b = unsigned_ties a b

empty_first : (k : List ℕ) → is_le (R [] k) ≡ true
empty_first [] = refl
empty_first (x ∷ xs) = refl

-- what lies between the beginning of a range and what it ends before
abbrev kept_between : ℕ → List ℕ → ℕ × List ℕ → IndexEntry → Bool
kept_between column from to e = is_le (ordering_then (ordering_then (nat_cmp column e.0.0) (R from e.0.1)) (nat_cmp 0 e.1)) && not (is_le (ordering_then (ordering_then (nat_cmp to.0 e.0.0) (R to.1 e.0.1)) (nat_cmp 0 e.1)))

same_column : (o p : Ordering) (column c : ℕ) → nat_cmp column c ≡ o → (c == column) ≡ is_eq o
same_column o p column c h = ties_of c column ∙ ap is_eq (nat_flip c column) ∙ flipped (nat_cmp column c) ∙ ap is_eq h
  where
    nat_flip : (a b : ℕ) → nat_cmp a b ≡ ordering_reverse (nat_cmp b a)
    nat_flip a b = grind (arith, nat_tests)

    flipped : (o : Ordering) → is_eq (ordering_reverse o) ≡ is_eq o
    flipped Less = refl
    flipped Equal = refl
    flipped Greater = refl

between_key : (column : ℕ) (from to : List ℕ) (e : IndexEntry) → kept_between column from (column, to) e ≡ ((e.0.0 == column) && in_range e.0.1 (record { from = from; upto = Some to }))
between_key column from to e =
    ap₂ (λ x y. x && not y) (from_low (ordering_then (nat_cmp column e.0.0) (R from e.0.1)) e.1) (from_low (ordering_then (nat_cmp column e.0.0) (R to e.0.1)) e.1)
    ∙ by (nat_cmp column e.0.0) refl
  where
    by : (o : Ordering) → nat_cmp column e.0.0 ≡ o → (is_le (ordering_then o (R from e.0.1)) && not (is_le (ordering_then o (R to e.0.1)))) ≡ ((e.0.0 == column) && in_range e.0.1 (record { from = from; upto = Some to }))
    by Less h = ap (λ b. b && in_range e.0.1 (record { from = from; upto = Some to })) (sym (same_column Less Less column e.0.0 h))
    by Equal h = ap (λ b. is_le (R from e.0.1) && b) (sym (lt_is R nat_list_cmp_total e.0.1 to)) ∙ ap (λ b. b && in_range e.0.1 (record { from = from; upto = Some to })) (sym (same_column Equal Less column e.0.0 h))
    by Greater h = ap (λ b. b && in_range e.0.1 (record { from = from; upto = Some to })) (sym (same_column Greater Less column e.0.0 h))

between_rest : (column : ℕ) (from : List ℕ) (e : IndexEntry) → kept_between column from (column + 1, []) e ≡ ((e.0.0 == column) && in_range e.0.1 (record { from = from; upto = None }))
between_rest column from e =
    ap₂ (λ x y. x && not y) (from_low (ordering_then (nat_cmp column e.0.0) (R from e.0.1)) e.1) (from_low (ordering_then (nat_cmp (column + 1) e.0.0) (R [] e.0.1)) e.1)
    ∙ by (nat_cmp column e.0.0) refl
  where
    Goal : Ordering → Type 0
    Goal o = (is_le (ordering_then o (R from e.0.1)) && not (is_le (ordering_then (nat_cmp (column + 1) e.0.0) (R [] e.0.1)))) ≡ ((e.0.0 == column) && in_range e.0.1 (record { from = from; upto = None }))

    above : nat_cmp column e.0.0 ≡ Less → is_le (ordering_then (nat_cmp (column + 1) e.0.0) (R [] e.0.1)) ≡ true
    above h = go (nat_cmp (column + 1) e.0.0) refl
      where
        go : (p : Ordering) → nat_cmp (column + 1) e.0.0 ≡ p → is_le (ordering_then p (R [] e.0.1)) ≡ true
        go Less k = refl
        go Equal k = empty_first e.0.1
        go Greater k = absurd (grind (arith, nat_tests, h, k))

    here : nat_cmp column e.0.0 ≡ Equal → nat_cmp (column + 1) e.0.0 ≡ Greater
    here h = grind (arith, nat_tests, h)

    right : (b : Bool) → (b && true) ≡ b
    right true = refl
    right false = refl

    by : (o : Ordering) → nat_cmp column e.0.0 ≡ o → Goal o
    by Less h = ap not (above h) ∙ ap (λ b. b && in_range e.0.1 (record { from = from; upto = None })) (sym (same_column Less Less column e.0.0 h))
    by Equal h = ap (λ o. is_le (R from e.0.1) && not (is_le (ordering_then o (R [] e.0.1)))) (here h) ∙ ap (λ b. b && in_range e.0.1 (record { from = from; upto = None })) (sym (same_column Equal Less column e.0.0 h))
    by Greater h = ap (λ b. b && in_range e.0.1 (record { from = from; upto = None })) (sym (same_column Greater Less column e.0.0 h))

kept_is : (column : ℕ) (r : KeyRange) (u : Option (List ℕ)) → r.upto ≡ u → (e : IndexEntry) → kept_between column r.from (end_key column u) e ≡ ((e.0.0 == column) && in_range e.0.1 r)
kept_is column r None f e = between_rest column r.from e ∙ ap (λ u. (e.0.0 == column) && (is_le (R r.from e.0.1) && is_before_end u e.0.1)) (sym f)
kept_is column r (Some to) f e = between_key column r.from to e ∙ ap (λ u. (e.0.0 == column) && (is_le (R r.from e.0.1) && is_before_end u e.0.1)) (sym f)

-- the entries between are those of the column in the range
pub between : (column : ℕ) (r : KeyRange) (es : Entries) → entries_between entry_cmp (Included ((column, r.from), 0)) (Excluded (end_key column r.upto, 0)) es ≡ filter (lies_at column r) es
between column r es = filter_agree _ _ (λ x. kept_is column r r.upto refl x.0) es

pub none_kept : {X : Type 0} (p : X → Bool) → ((x : X) → p x ≡ false) → (xs : List X) → filter p xs ≡ []
none_kept p h [] = refl
none_kept p h (x ∷ xs) = rw (h x) (none_kept p h xs)

-- a range that ends where it begins, or before, has no entry
pub nothing_between : (column : ℕ) (r : KeyRange) → is_lt (entry_cmp ((column, r.from), 0) (end_key column r.upto, 0)) ≡ false → (es : Entries) → filter (lies_at column r) es ≡ []
nothing_between column r h es = none_kept _ (λ x. none x.0) es
  where
    itself : nat_cmp column column ≡ Equal
    itself = grind (arith, nat_tests)

    next : nat_cmp column (column + 1) ≡ Less
    next = grind (arith, nat_tests)

    right : (b : Bool) → (b && false) ≡ false
    right true = refl
    right false = refl

    lt_from : (o : Ordering) → is_lt (ordering_then o (nat_cmp 0 0)) ≡ is_lt o
    lt_from Less = refl
    lt_from Equal = refl
    lt_from Greater = refl

    ends : (u : Option (List ℕ)) → is_lt (entry_cmp ((column, r.from), 0) (end_key column u, 0)) ≡ false → (k : List ℕ) → (is_le (R r.from k) && is_before_end u k) ≡ false
    ends None g k = absurd (let f : is_lt (ordering_then (ordering_then (nat_cmp column (column + 1)) (R r.from [])) (nat_cmp 0 0)) ≡ true = ap (λ o. is_lt (ordering_then (ordering_then o (R r.from [])) (nat_cmp 0 0))) next in cc)
    ends (Some to) g k = go (is_le (R r.from k)) refl (is_lt (R k to)) refl
      where
        below : is_lt (R r.from to) ≡ false
        below = sym (lt_from (R r.from to)) ∙ ap (λ o. is_lt (ordering_then (ordering_then o (R r.from to)) (nat_cmp 0 0))) (sym itself) ∙ g

        go : (x : Bool) → is_le (R r.from k) ≡ x → (y : Bool) → is_lt (R k to) ≡ y → (x && y) ≡ false
        go false f y e = refl
        go true f false e = refl
        go true f true e = absurd (clash (is_le (R to r.from)) refl)
          where
            clash : (b : Bool) → is_le (R to r.from) ≡ b → ⊥
            clash false q = absurd (let z : is_lt (R r.from to) ≡ true = lt_is R nat_list_cmp_total r.from to ∙ ap not q in let b : is_lt (R r.from to) ≡ false = below in cc)
            clash true q = absurd (let z : is_le (R to k) ≡ true = le_trans R nat_list_cmp_total to r.from k q f in let w : is_lt (R k to) ≡ false = lt_is R nat_list_cmp_total k to ∙ ap not z in cc)

    none : (e : IndexEntry) → ((e.0.0 == column) && in_range e.0.1 r) ≡ false
    none e = ap (λ b. (e.0.0 == column) && b) (ends r.upto h e.0.1) ∙ right (e.0.0 == column)

pub none_between : (column : ℕ) (r : KeyRange) → is_lt (entry_cmp ((column, r.from), 0) (end_key column r.upto, 0)) ≡ false → (es : Entries) (i : ℕ) → hits column r es i ≡ false
none_between column r h es i = ap (λ l. among l i) (nothing_between column r h es)

pub or_none : (a b : Bool) → b ≡ false → a ≡ (a || b)
or_none true b h = refl
or_none false b h = sym h
