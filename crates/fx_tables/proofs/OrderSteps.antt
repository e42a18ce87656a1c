-- Rows that a stable sort has put in the order of their keys, and that there is one such order.
use Rattle.std.proofs.Common.{◌≡◌, ℕ, zero, suc, ◌+◌, ◌<◌, ◌≤◌, List, [], ◌∷◌, ◌++◌, length, get_or, map, Bool, true, false, not, refl, sym, ap, subst, ◌∙◌, arith, cond, if◌then◌else◌}
use Rattle.std.specs.Prelude.{◌&&◌}
use Rattle.std.specs.List.{filter, zip}
use Rattle.std.specs.List.Sorted.{IsPermutation, IsSortedBy, IsStableBy, IsSortedByKey, IsStableByKey, ties}
use Rattle.std.specs.Ordering.{is_lt, ordering_reverse}
use Rattle.std.specs.Cmp.{IsTotalOrder, IsStrictWeakOrder}
use Rattle.std.specs.declared.cmp.Ordering.{Ordering}
use Rattle.std.specs.declared.cmp.Ordering.TheVariants.{Less, Equal, Greater}
use Rattle.std.proofs.lemmas.Cmp.{alike_right, back_total}
use Rattle.std.proofs.lemmas.List.Elements.{filter_agree}
use Rattle.std.proofs.lemmas.List.Sorted.{ranks_by, sorted_far, IsPermutation-map}
use Rattle.fx_types.specs.Values.{Data}
use Rattle.fx_types.specs.ValueView.{view}
use Rattle.fx_value.specs.Order.{order}
use Rattle.fx_value.specs.Columns.{Row}
use Rattle.fx_tables.specs.Keyed.{pair_of}
use Rattle.fx_value.specs.Ordered.{directed, IsOrderedBy}
use Rattle.fx_tables.specs.declared.ordering.Keyed.{Keyed}
use Rattle.fx_value.proofs.RowOrders.{directed_total, filter_seen, sorted_seen, stable_by_test, ties_alike}

rows_seen : (ks : List Keyed) → map (λ (k : Keyed). k.row) ks ≡ map (λ (p : Data × Row). p.1) (map pair_of ks)
rows_seen [] = refl
rows_seen (k ∷ ks) = ap (λ rs. k.row ∷ rs) (rows_seen ks)

-- whether a row's key is before another's
abbrev pub is_before : Bool → Keyed → Keyed → Bool
is_before down a b = is_lt (directed down (view a.key.now) (view b.key.now))

pub before_is_order : IsTotalOrder order → (down : Bool) → IsStrictWeakOrder (is_before down)
before_is_order o down = ranks_by (directed_total o down) (λ (k : Keyed). view k.key.now)

-- what a stable sort leaves is in the order
pub found_order : (down : Bool) (keys : List Data) (rows ordered : List Row) (xs ys : List Keyed) → IsTotalOrder order → map pair_of xs ≡ zip keys rows → IsPermutation xs ys → IsSortedBy (is_before down) ys → IsStableBy (is_before down) xs ys → ordered ≡ map (λ (k : Keyed). k.row) ys → IsOrderedBy down keys rows ordered
found_order down keys rows ordered xs ys o beside moved sorted stable result =
    let P : List (Data × Row) → Type 0 = λ ps. IsPermutation ps (map pair_of ys) in
    let Q : List (Data × Row) → Type 0 = λ ps. IsStableByKey (λ (p : Data × Row). p.0) (directed down) ps (map pair_of ys) in
    record {
      pairs = map pair_of ys;
      rearranged = subst P beside (IsPermutation-map pair_of xs ys moved);
      sorted = sorted_seen pair_of (λ p q. is_lt (directed down p.0 q.0)) ys sorted;
      stable = subst Q beside (λ p. through p);
      result = result ∙ rows_seen ys;
    }
  where
    below : Data × Row → Data × Row → Bool
    below p q = is_lt (directed down p.0 q.0)

    through : (p : Data × Row) → filter (ties (λ (a b : Data × Row). is_lt (directed down a.0 b.0)) p) (map pair_of ys) ≡ filter (ties (λ (a b : Data × Row). is_lt (directed down a.0 b.0)) p) (map pair_of xs)
    through p =
        filter_seen pair_of (ties (λ (a b : Data × Row). is_lt (directed down a.0 b.0)) p) ys
        ∙ ap (map pair_of) (stable_by_test (is_before down) (before_is_order o down) (λ k. ties (λ (a b : Data × Row). is_lt (directed down a.0 b.0)) p (pair_of k)) (λ a b h. ties_alike (directed_total o down) p.0 (view a.key.now) (view b.key.now) h) xs ys stable)
        ∙ sym (filter_seen pair_of (ties (λ (a b : Data × Row). is_lt (directed down a.0 b.0)) p) xs)
