-- The order of scalars is total.
use Rattle.std.proofs.Common.{◌≡◌, ℕ, List, [], ℤ, pos, true, false, refl, ap, subst, if◌then◌else◌}
use Rattle.std.specs.Cmp.{IsTotalOrder}
use Rattle.std.specs.Cmp.Lexicographic.{slice_cmp}
use Rattle.std.specs.Ordering.{nat_cmp, int_cmp, ordering_then, on, then_cmp}
use Rattle.std.specs.declared.cmp.Ordering.{Ordering}
use Rattle.std.specs.declared.cmp.Ordering.TheVariants.{Less, Equal, Greater}
use Rattle.std.proofs.lemmas.Cmp.{nat_cmp_total, int_cmp_total, nat_list_cmp_total, then_total, on_total}
use Rattle.std.proofs.lemmas.Map.Lookups.{exact_signed, exact_bytes}
use Rattle.fx_types.specs.Values.{Data, blank, number, text, boolean, date, rec, tab, fault}
use Rattle.fx_value.specs.Order.{IsScalar, rank_of, order}

-- the number in a scalar, and the text in one
abbrev number_in : Data → ℤ
number_in (number z) = z
number_in (boolean b) = pos (if b then 1 else 0)
number_in (date z) = z
number_in _ = pos 0

abbrev text_in : Data → List ℕ
text_in (text cs) = cs
text_in _ = []

-- the order by these parts
abbrev by_parts : Data → Data → Ordering
by_parts = then_cmp (on rank_of nat_cmp) (then_cmp (on number_in int_cmp) (on text_in (slice_cmp nat_cmp)))

pub then_equal : (o : Ordering) → ordering_then o Equal ≡ o
then_equal Less = refl
then_equal Equal = refl
then_equal Greater = refl

parts_order : (a b : Data) → by_parts a b ≡ order a b
parts_order (number z) (number w) = then_equal (int_cmp z w)
parts_order (text cs) (text ds) = refl
parts_order (boolean true) (boolean true) = refl
parts_order (boolean true) (boolean false) = refl
parts_order (boolean false) (boolean true) = refl
parts_order (boolean false) (boolean false) = refl
parts_order (date z) (date w) = then_equal (int_cmp z w)
parts_order blank blank = refl
parts_order (rec fs) blank = refl
parts_order (tab rs) blank = refl
parts_order (fault k cs) blank = refl
parts_order _ _ = refl

pub order_total : IsTotalOrder order
order_total =
    subst IsTotalOrder (λ i a b. parts_order a b i)
    (then_total (on_total rank_of nat_cmp_total) (then_total (on_total number_in int_cmp_total) (on_total text_in nat_list_cmp_total)))

pub order_tells : (a b : Data) → IsScalar a → IsScalar b → order a b ≡ Equal → a ≡ b
order_tells (rec fs) b p q e = absurd p
order_tells (tab rs) b p q e = absurd p
order_tells (fault k cs) b p q e = absurd p
order_tells a (rec fs) p q e = absurd q
order_tells a (tab rs) p q e = absurd q
order_tells a (fault k cs) p q e = absurd q
order_tells blank blank p q e = refl
order_tells (number z) (number w) p q e = ap number (exact_signed z w e)
order_tells (text cs) (text ds) p q e = ap text (exact_bytes cs ds e)
order_tells (boolean true) (boolean true) p q e = refl
order_tells (boolean false) (boolean false) p q e = refl
order_tells (date z) (date w) p q e = ap date (exact_signed z w e)
order_tells _ _ p q e = cc
