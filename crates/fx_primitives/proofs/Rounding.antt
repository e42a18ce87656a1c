-- Quotients, rounded.
use Rattle.std.proofs.Common.{◌≡◌, ℕ, suc, ◌*◌, ◌<◌, ◌≤◌, ℤ, pos, negsuc, neg_ℤ, ◌≤ℤ◌, ◌<ℤ◌, Option, Some, None, ap, sym, subst, ◌∙◌, arith}
use Rattle.std.specs.Prelude.{MatchOption, unsigned_abs}
use Rattle.std.proofs.lemmas.Int.{ints}
use Rattle.fx_number.specs.Decimal.{IsInRange, greatest, nearest, rounded}

pub nearest_within : (m d g : ℕ) → 0 < d → m ≤ d * g → nearest m d ≤ g
nearest_within m d g p h = grind arith

pub record IsQuotient (total : ℤ) (count size : ℕ) : Type 0 where
  pub negative : total <ℤ pos 0 → neg_ℤ (pos size) ≡ rounded total count
  pub positive : pos 0 ≤ℤ total → pos size ≡ rounded total count
  pub small : size ≤ greatest

pub quotient_is : (total : ℤ) (count size : ℕ) → 0 < count → neg_ℤ (pos (count * greatest)) ≤ℤ total → total ≤ℤ pos (count * greatest)
    → size ≡ nearest (unsigned_abs total) count → IsQuotient total count size
quotient_is (pos n) count size p low high e = record {
  negative = λ h. absurd (omega (arith, ints));
  positive = λ h. ap pos e;
  small = rw e (nearest_within n count greatest p (omega (arith, ints)));
}
quotient_is (negsuc n) count size p low high e = record {
  negative = λ h. ap (λ m. neg_ℤ (pos m)) e;
  positive = λ h. absurd (omega (arith, ints));
  small = rw e (nearest_within (suc n) count greatest p (omega (arith, ints)));
}

-- the number of a count in range
number_is : (r : Option ℤ) (z w : ℤ) → MatchOption r (¬ IsInRange z) (λ n. (n ≡ z) × IsInRange z) → z ≡ w → IsInRange w → r ≡ Some w
number_is None z w h e k = absurd (h (subst IsInRange (sym e) k))
number_is (Some n) z w h e k = ap Some (h.0 ∙ e)

pub negative_is : (r : Option ℤ) (z : ℤ) (total : ℤ) (count size : ℕ) → MatchOption r (¬ IsInRange z) (λ n. (n ≡ z) × IsInRange z) → IsQuotient total count size
    → total <ℤ pos 0 → z ≡ neg_ℤ (pos size) → r ≡ Some (rounded total count)
negative_is r z total count size h q l e =
    let s = q.small in
    number_is r z (rounded total count) h (e ∙ q.negative l) (subst IsInRange (q.negative l) (omega (arith, ints), omega (arith, ints)))

pub positive_is : (r : Option ℤ) (z : ℤ) (total : ℤ) (count size : ℕ) → MatchOption r (¬ IsInRange z) (λ n. (n ≡ z) × IsInRange z) → IsQuotient total count size
    → pos 0 ≤ℤ total → z ≡ pos size → r ≡ Some (rounded total count)
positive_is r z total count size h q l e =
    let s = q.small in
    number_is r z (rounded total count) h (e ∙ q.positive l) (subst IsInRange (q.positive l) (omega (arith, ints), omega (arith, ints)))
