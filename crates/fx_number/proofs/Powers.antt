-- Powers that are rounded at each product: how great they are, and what they answer.
use Rattle.std.proofs.Common.{◌≡◌, ◌≢◌, ℕ, zero, suc, ℤ, pos, negsuc, ◌*ℤ◌, ◌*◌, ◌≤◌, ◌<ℤ◌, true, refl, ◌∙◌, ap, inl, inr, arith, Ok, Err, Result, unsigned_abs, subst}
use Rattle.std.proofs.Math.Nat.{mul-le-mul}
use Rattle.std.proofs.lemmas.Int.{ints, unsigned_abs-mul}
use Rattle.std.proofs.lemmas.Bool.{cases_lt}
use Rattle.std.specs.Result.{IsErrAnd}
use Rattle.fx_number.specs.declared.NumErr.{NumErr}
use Rattle.fx_number.specs.declared.NumErr.TheVariants.{Overflow}
use Rattle.fx_number.specs.Decimal.{nearest, rounded, product_of, quotient_of, IsInRange, Checked, CheckedOnWay, UnlessZero, power_of, ArePowersInRange, IsPowerTo, IsExponent, IsPower}
use Rattle.fx_number.proofs.Decimals.{unsigned_abs-signed}

-- how far a product is from 0
unsigned_abs-rounded : (z : ℤ) (d : ℕ) → unsigned_abs (rounded z d) ≡ nearest (unsigned_abs z) d
unsigned_abs-rounded (pos n) d = refl
unsigned_abs-rounded (negsuc n) d = unsigned_abs-signed true (nearest (suc n) d)

unsigned_abs-product_of : (a b : ℤ) → unsigned_abs (product_of a b) ≡ nearest (unsigned_abs a * unsigned_abs b) 10000
unsigned_abs-product_of a b = unsigned_abs-rounded (a *ℤ b) 10000 ∙ ap (λ n. nearest n 10000) (unsigned_abs-mul a b)

-- powers of a number from -1 to 1 stay there
small_powers : (a : ℤ) (n : ℕ) → unsigned_abs a ≤ 10000 → unsigned_abs (power_of a n) ≤ 10000
small_powers a zero h = omega arith
small_powers a (suc n) h =
    let product : unsigned_abs (power_of a n) * unsigned_abs a ≤ 10000 * 10000 = mul-le-mul (small_powers a n h) h in
    rw (unsigned_abs-product_of (power_of a n) a) (omega arith)

-- powers of other numbers never come near 0
great_powers : (a : ℤ) (n : ℕ) → 10000 ≤ unsigned_abs a → 10000 ≤ unsigned_abs (power_of a n)
great_powers a zero h = omega arith
great_powers a (suc n) h =
    let product : 10000 * 10000 ≤ unsigned_abs (power_of a n) * unsigned_abs a = mul-le-mul (great_powers a n h) h in
    rw (unsigned_abs-product_of (power_of a n) a) (omega arith)

small_in_range : (z : ℤ) → unsigned_abs z ≤ 10000 → IsInRange z
small_in_range (pos n) h = grind (arith, ints)
small_in_range (negsuc n) h = grind (arith, ints)

-- so a power that leaves the range on its way isn't 0
nonzero_beyond : (a : ℤ) (n : ℕ) → ¬ ArePowersInRange a n → power_of a n ≢ pos 0
nonzero_beyond a n out is_zero = elim (cases_lt (unsigned_abs a) 10000) [
  | inl small ↦ out (λ k _. small_in_range (power_of a k) (small_powers a k (omega arith)))
  | inr great ↦
      let far = great_powers a n great in
      let none = ap unsigned_abs is_zero in
      omega (arith, far, none)
]

-- an error of the last step
pub CheckedOnWay-stopped : {P : Type 0} (z : ℤ) (e : NumErr) (r : Result ℤ NumErr) → e ≡ Overflow → ¬ P → IsErrAnd r (λ x. x ≡ e) → CheckedOnWay P z r
CheckedOnWay-stopped z e (Ok n) overflow out stopped = absurd stopped
CheckedOnWay-stopped z e (Err x) overflow out stopped = (stopped ∙ overflow, λ h. out h.1)

-- what is checked is checked on the way
CheckedOnWay-checked : {P : Type 0} (z : ℤ) (r : Result ℤ NumErr) → P → Checked z r → CheckedOnWay P z r
CheckedOnWay-checked z (Ok n) p h = (h.0, h.1, p)
CheckedOnWay-checked z (Err e) p h = (h.0, λ both. h.1 both.0)

pub IsPowerTo-reciprocal : (a e power : ℤ) (n : ℕ) (r : Result ℤ NumErr) → e <ℤ pos 0 → n ≡ unsigned_abs e → power ≡ power_of a n → ArePowersInRange a n → UnlessZero power (Checked (quotient_of (pos 10000) power)) r → IsPowerTo a e r
IsPowerTo-reciprocal a (pos m) power n r h count same way divided = absurd (grind (arith, ints))
IsPowerTo-reciprocal a (negsuc m) power n r h count same way divided =
    let P : ℕ → Type 0 = λ k. UnlessZero (power_of a k) (CheckedOnWay (ArePowersInRange a k) (quotient_of (pos 10000) (power_of a k))) r in
    let Q : ℤ → Type 0 = λ p. UnlessZero p (Checked (quotient_of (pos 10000) p)) r in
    let at = subst Q same divided in
    subst P count (at.0, λ nonzero. CheckedOnWay-checked _ r way (at.1 nonzero))

pub IsPowerTo-stopped : (a e : ℤ) (n : ℕ) (x : NumErr) (r : Result ℤ NumErr) → e <ℤ pos 0 → n ≡ unsigned_abs e → x ≡ Overflow → ¬ (IsInRange (power_of a n) × ArePowersInRange a n) → IsErrAnd r (λ y. y ≡ x) → IsPowerTo a e r
IsPowerTo-stopped a (pos m) n x r h count overflow out stopped = absurd (grind (arith, ints))
IsPowerTo-stopped a (negsuc m) n x r h count overflow out stopped =
    let P : ℕ → Type 0 = λ k. UnlessZero (power_of a k) (CheckedOnWay (ArePowersInRange a k) (quotient_of (pos 10000) (power_of a k))) r in
    let way : ¬ ArePowersInRange a n = λ inside. out (inside n (omega arith), inside) in
    subst P count (
      λ is_zero. absurd (nonzero_beyond a n way is_zero),
      λ nonzero. CheckedOnWay-stopped _ x r overflow way stopped,
    )

same_exponent : (b e x : ℤ) → IsExponent b e → IsExponent b x → e ≡ x
same_exponent b e x h k = grind (arith, ints)

pub IsPower-to : (a b e : ℤ) (r : Result ℤ NumErr) → IsExponent b e → IsPowerTo a e r → IsPower a b r
IsPower-to a b e r h power = (
  λ x k. let P : ℤ → Type 0 = λ z. IsPowerTo a z r in subst P (same_exponent b e x h k) power,
  λ none. absurd (none e h),
)
