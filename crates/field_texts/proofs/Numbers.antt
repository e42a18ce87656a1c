-- Numbers as they come in.
use Rattle.std.proofs.Common.{◌≡◌, ◌&&◌, Bool, true, false, Option, Some, None, refl, ap, ap₂, sym, ◌∙◌, arith, if◌then◌else◌}
use Rattle.std.specs.Prelude.{◌↔◌, ℤ, pos, neg_ℤ, ◌≤ℤ◌, int_le, option_and_then}
use Rattle.std.proofs.lemmas.Int.{ints}
use Rattle.std.proofs.lemmas.Bool.{and_parts}
use Rattle.fx_number.specs.Decimal.{IsInRange, greatest}
use Rattle.field_texts.specs.Spelled.{units_in_range}

le_true : (a b : ℤ) → int_le a b ≡ true → a ≤ℤ b
le_true a b e = grind (arith, ints, e)

true_le : (a b : ℤ) → a ≤ℤ b → int_le a b ≡ true
true_le a b h = grind (arith, ints, h)

pub range_some : (z : ℤ) → IsInRange z → units_in_range z ≡ Some z
range_some z h = ap₂ (λ a b. if a && b then Some z else None) (true_le (neg_ℤ (pos greatest)) z h.0) (true_le z (pos greatest) h.1)

pub range_none : (z : ℤ) → (IsInRange z → ⊥) → units_in_range z ≡ None
range_none z h = by (int_le (neg_ℤ (pos greatest)) z && int_le z (pos greatest)) refl
  where
    by : (b : Bool) → (int_le (neg_ℤ (pos greatest)) z && int_le z (pos greatest)) ≡ b → (if b then Some z else None) ≡ None
    by true e = let k = and_parts (int_le (neg_ℤ (pos greatest)) z) (int_le z (pos greatest)) e in absurd (h (le_true (neg_ℤ (pos greatest)) z k.0, le_true z (pos greatest) k.1))
    by false e = refl

-- what is spelled, in range
pub read_is : (o s : Option ℤ) → ((z : ℤ) → (o ≡ Some z) ↔ ((s ≡ Some z) × IsInRange z)) → o ≡ option_and_then units_in_range s
read_is (Some z) s h = let k = (h z).0 refl in sym (ap (option_and_then units_in_range) k.0 ∙ range_some z k.1)
read_is None None h = refl
read_is None (Some z) h = sym (range_none z (λ r. let k : None ≡ Some z = (h z).1 (refl, r) in cc))
