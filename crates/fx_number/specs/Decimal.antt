-- Exact arithmetic in ten-thousandths, rounded once. A number is the whole count of its
-- ten-thousandths.
use Rattle.std.specs.Prelude.{◌≡◌, ◌≢◌, ℕ, zero, suc, ℤ, pos, negsuc, ◌+◌, ◌*◌, ◌/◌, ◌^◌, ◌-◌, ◌≤◌}
use Rattle.std.specs.Prelude.{neg_ℤ, ◌≤ℤ◌, ◌*ℤ◌, ◌-ℤ◌, Result, Ok, Err, Bool, if◌then◌else◌}
use Rattle.std.specs.Int.{div_ceil}
use Rattle.fx_number.specs.declared.NumErr.{NumErr}
use Rattle.fx_number.specs.declared.NumErr.TheVariants.{Overflow, DivZero, BadArgument}
use Rattle.fx_number.specs.declared.Way.{Way}
use Rattle.fx_number.specs.declared.Way.TheVariants.{Near, Up, Down, Floor}

-- the greatest count of ten-thousandths, either way
abbrev pub greatest : ℕ
greatest = 2 ^ 63 - 1

-- from -(2^63-1) to 2^63-1
abbrev pub IsInRange : ℤ → Type 0
IsInRange z = (neg_ℤ (pos greatest) ≤ℤ z) × (z ≤ℤ pos greatest)

-- the answer of an operation whose exact answer is z: z where that is in range, else Overflow
abbrev pub Checked : ℤ → Result ℤ NumErr → Type 0
Checked z (Ok n) = (n ≡ z) × IsInRange z
Checked z (Err e) = (e ≡ Overflow) × ¬ IsInRange z

-- the same where P must hold on the way to z: z where P holds and z is in range, else Overflow
abbrev pub CheckedOnWay : Type 0 → ℤ → Result ℤ NumErr → Type 0
CheckedOnWay P z (Ok n) = (n ≡ z) × IsInRange z × P
CheckedOnWay P z (Err e) = (e ≡ Overflow) × ¬ (IsInRange z × P)

-- DivZero where the divisor is 0, and an answer of which P holds where it isn't
abbrev pub UnlessZero : ℤ → (Result ℤ NumErr → Type 0) → Result ℤ NumErr → Type 0
UnlessZero divisor P r = (divisor ≡ pos 0 → r ≡ Err DivZero) × (divisor ≢ pos 0 → P r)

-- the whole number next to n / d, the greater of the two where both are as near
abbrev pub nearest : ℕ → ℕ → ℕ
nearest n d = (2 * n + d) / (2 * d)

-- n, or its negative
abbrev pub signed : Bool → ℕ → ℤ
signed negative n = if negative then neg_ℤ (pos n) else pos n

-- z with its magnitude changed by f, and its sign kept
abbrev pub by_magnitude : (ℕ → ℕ) → ℤ → ℤ
by_magnitude f (pos n) = pos (f n)
by_magnitude f (negsuc n) = neg_ℤ (pos (f (suc n)))

-- the whole number next to z / d, the one farther from zero where two are as near
abbrev pub rounded : ℤ → ℕ → ℤ
rounded z d = by_magnitude (λ n. nearest n d) z

-- the greatest whole number that is not above z / d
abbrev pub floored : ℤ → ℕ → ℤ
floored (pos n) d = pos (n / d)
floored (negsuc n) d = neg_ℤ (pos (div_ceil (suc n) d))

-- the product of two counts of ten-thousandths, as such a count, rounded once
abbrev pub product_of : ℤ → ℤ → ℤ
product_of a b = rounded (a *ℤ b) 10000

-- the quotient of two counts of ten-thousandths, as such a count, rounded once
abbrev pub quotient_of : ℤ → ℤ → ℤ
quotient_of a (pos d) = rounded (a *ℤ pos 10000) d
quotient_of a (negsuc d) = rounded (neg_ℤ a *ℤ pos 10000) (suc d)

-- the greatest whole number that is not above a / b
abbrev pub floor_of_quotient : ℤ → ℤ → ℤ
floor_of_quotient a (pos d) = floored a d
floor_of_quotient a (negsuc d) = floored (neg_ℤ a) (suc d)

-- what a leaves when b is taken from it as often as the floor of a / b says: it has the sign of b
abbrev pub remainder_of : ℤ → ℤ → ℤ
remainder_of a b = a -ℤ (b *ℤ floor_of_quotient a b)

-- a to the power n: 1, then n times the product with a, each rounded
abbrev pub power_of : ℤ → ℕ → ℤ
power_of a zero = pos 10000
power_of a (suc n) = product_of (power_of a n) a

-- a to the power k is in range for every k up to n
abbrev pub ArePowersInRange : ℤ → ℕ → Type 0
ArePowersInRange a n = (k : ℕ) → k ≤ n → IsInRange (power_of a k)

-- the answer of a to a whole power: the power, or 1 divided by it for a negative exponent
abbrev pub IsPowerTo : ℤ → ℤ → Result ℤ NumErr → Type 0
IsPowerTo a (pos n) = CheckedOnWay (ArePowersInRange a n) (power_of a n)
IsPowerTo a (negsuc n) = let power = power_of a (suc n) in
    UnlessZero power (CheckedOnWay (ArePowersInRange a (suc n)) (quotient_of (pos 10000) power))

-- b is the whole number e, and e is from -1000 to 1000
abbrev pub IsExponent : ℤ → ℤ → Type 0
IsExponent b e = (b ≡ e *ℤ pos 10000) × (neg_ℤ (pos 1000) ≤ℤ e) × (e ≤ℤ pos 1000)

-- the answer of a to the power b: that of the exponent which b is, and BadArgument where b is none
abbrev pub IsPower : ℤ → ℤ → Result ℤ NumErr → Type 0
IsPower a b r = ((e : ℤ) → IsExponent b e → IsPowerTo a e r)
    × (((e : ℤ) → ¬ IsExponent b e) → r ≡ Err BadArgument)

-- the ten-thousandths in one unit of the last decimal that is kept: 10 ^ (4 - digits), and 1 from
-- four digits on
abbrev pub step_of : ℤ → ℕ
step_of (pos digits) = 10 ^ (4 - digits)
step_of (negsuc n) = 10 ^ (5 + n)

-- z / d as a whole number: half away from zero, away from zero, towards zero, down
abbrev pub divided : Way → ℤ → ℕ → ℤ
divided Near z d = rounded z d
divided Up z d = by_magnitude (λ n. div_ceil n d) z
divided Down z d = by_magnitude (λ n. n / d) z
divided Floor z d = floored z d

-- a rounded to a number of decimals, which may be negative
abbrev pub rounded_to : ℤ → ℤ → Way → ℤ
rounded_to a digits way = divided way a (step_of digits) *ℤ pos (step_of digits)
