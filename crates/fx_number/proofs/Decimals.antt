-- What rounding, dividing and raising to a power give of magnitudes.
use Rattle.std.proofs.Common.{◌≡◌, ◌≢◌, ◌⊎◌, ℕ, zero, suc, ℤ, pos, negsuc, ◌-ℤ◌, ◌*ℤ◌, ◌+◌, ◌*◌, ◌/◌, ◌%◌, ◌-◌, ◌^◌, ◌<◌, ◌≤◌, min, Bool, true, false, not, refl, sym, ◌∙◌, ap, inl, inr, arith, Ok, Err, Result, unsigned_abs, ◌<ℤ◌, lit<, subst}
use Rattle.std.proofs.Math.Nat.{div-eq_of_lt, div-add-mod, mod-lt, zero-div, zero-mod, mod-eq_of_lt, min-eq_right, pow-le-pow_right, one-le-pow}
use Rattle.std.proofs.lemmas.Int.{ints}
use Rattle.std.proofs.lemmas.Bool.{cases_lt}
use Rattle.std.specs.Int.{div_ceil}
use Rattle.std.proofs.Math.Bool.{beq}
use Rattle.fx_number.specs.declared.NumErr.{NumErr}
use Rattle.fx_number.specs.declared.Way.{Way}
use Rattle.fx_number.specs.declared.Way.TheVariants.{Near, Up, Down, Floor}
use Rattle.fx_number.specs.Decimal.{nearest, signed, by_magnitude, quotient_of, remainder_of, floor_of_quotient, divided, IsInRange, Checked, greatest, step_of, power_of, ArePowersInRange}

pub nearest-zero : (d : ℕ) → 0 < d → nearest 0 d ≡ 0
nearest-zero d h = div-eq_of_lt (omega arith)

-- a magnitude is changed before or after its sign is given
pub signed-by_magnitude : (f : ℕ → ℕ) (negative : Bool) (n : ℕ) → f 0 ≡ 0 → signed negative (f n) ≡ by_magnitude f (signed negative n)
signed-by_magnitude f false n h = refl
signed-by_magnitude f true zero h = rw h refl
signed-by_magnitude f true (suc n) h = refl

-- the sign of a product
abbrev pub differ : Bool → Bool → Bool
differ p q = not (beq p q)

pub signed-*ℤ : (p q : Bool) (m n : ℕ) → signed p m *ℤ signed q n ≡ signed (differ p q) (m * n)
signed-*ℤ false false m n = refl
signed-*ℤ false true m zero = grind (arith, ints)
signed-*ℤ false true m (suc n) = refl
signed-*ℤ true false zero n = grind (arith, ints)
signed-*ℤ true false (suc m) n = refl
signed-*ℤ true true zero zero = refl
signed-*ℤ true true zero (suc n) = grind (arith, ints)
signed-*ℤ true true (suc m) zero = grind (arith, ints)
signed-*ℤ true true (suc m) (suc n) = refl

pub quotient_of-signed : (p q : Bool) (m n : ℕ) → 0 < n → quotient_of (signed p m) (signed q n) ≡ signed (differ p q) (nearest (m * 10000) n)
quotient_of-signed p q m zero h = absurd (omega (arith, h))
quotient_of-signed false false m (suc n) h = refl
quotient_of-signed false true zero (suc n) h = rw (nearest-zero (suc n) h) refl
quotient_of-signed false true (suc m) (suc n) h = sym (signed-by_magnitude (λ k. nearest k (suc n)) true (suc m * 10000) (nearest-zero (suc n) h))
quotient_of-signed true false zero (suc n) h = rw (nearest-zero (suc n) h) refl
quotient_of-signed true false (suc m) (suc n) h = sym (signed-by_magnitude (λ k. nearest k (suc n)) true (suc m * 10000) (nearest-zero (suc n) h))
quotient_of-signed true true zero (suc n) h = refl
quotient_of-signed true true (suc m) (suc n) h = refl

cases : (b : Bool) → (b ≡ true) ⊎ (b ≡ false)
cases true = inl refl
cases false = inr refl

-- the floor of a quotient: towards zero for equal signs, away from it for others
abbrev floor_magnitude : Bool → ℕ → ℕ → ℕ
floor_magnitude true m n = m / n
floor_magnitude false m n = div_ceil m n

floor_of_quotient-signed : (p q : Bool) (m n : ℕ) → 0 < n → floor_of_quotient (signed p m) (signed q n) ≡ signed (differ p q) (floor_magnitude (beq p q) m n)
floor_of_quotient-signed p q m zero h = absurd (omega (arith, h))
floor_of_quotient-signed false false m (suc n) h = refl
floor_of_quotient-signed false true zero (suc n) h = rw (zero-div, zero-mod) refl
floor_of_quotient-signed false true (suc m) (suc n) h = refl
floor_of_quotient-signed true false zero (suc n) h = rw (zero-div, zero-mod) refl
floor_of_quotient-signed true false (suc m) (suc n) h = refl
floor_of_quotient-signed true true zero (suc n) h = refl
floor_of_quotient-signed true true (suc m) (suc n) h = refl

signed-below : (p : Bool) (x y r : ℕ) → x ≡ y + r → signed p x -ℤ signed p y ≡ signed p r
signed-below false x y r h = grind (arith, ints)
signed-below true x y r h = grind (arith, ints)

signed-above : (p : Bool) (x y r : ℕ) → y ≡ x + r → signed p x -ℤ signed p y ≡ signed (not p) r
signed-above false x y r h = grind (arith, ints)
signed-above true x y r h = grind (arith, ints)

pub unsigned_abs-signed : (p : Bool) (n : ℕ) → unsigned_abs (signed p n) ≡ n
unsigned_abs-signed false n = refl
unsigned_abs-signed true zero = refl
unsigned_abs-signed true (suc n) = refl

pub signed-zero : (p : Bool) (n : ℕ) (z : ℤ) → signed p n ≡ z → z ≡ pos 0 → n ≡ 0
signed-zero p n z e is_zero = sym (unsigned_abs-signed p n) ∙ ap unsigned_abs (e ∙ is_zero)

product-rest : (m n : ℕ) → 0 < n → m % n ≢ 0 → n * div_ceil m n ≡ m + (n - m % n)
product-rest m n h e =
    let one : min 1 (m % n) ≡ 1 = omega arith in
    rw one (grind (arith, div-add-mod m n, mod-lt m h))

product-even : (m n : ℕ) → m % n ≡ 0 → n * div_ceil m n ≡ m + 0
product-even m n h = rw h (grind (arith, div-add-mod m n))

signed-back : (p q : Bool) (n k : ℕ) → signed q n *ℤ signed (differ p q) k ≡ signed p (n * k)
signed-back false false n k = signed-*ℤ false false n k
signed-back false true n k = signed-*ℤ true true n k
signed-back true false n k = signed-*ℤ false true n k
signed-back true true n k = signed-*ℤ true false n k

remainder_of-signed : (p q : Bool) (m n : ℕ) → 0 < n → remainder_of (signed p m) (signed q n) ≡ signed p m -ℤ signed p (n * floor_magnitude (beq p q) m n)
remainder_of-signed p q m n h =
    ap (λ k. signed p m -ℤ (signed q n *ℤ k)) (floor_of_quotient-signed p q m n h)
    ∙ ap (λ k. signed p m -ℤ k) (signed-back p q n (floor_magnitude (beq p q) m n))

-- with equal signs the remainder is that of the magnitudes
pub remainder_of-same : (p q : Bool) (m n : ℕ) → 0 < n → beq p q ≡ true → remainder_of (signed p m) (signed q n) ≡ signed q (m % n)
remainder_of-same false false m n h e = remainder_of-signed false false m n h ∙ signed-below false m (n * (m / n)) (m % n) (sym (div-add-mod m n))
remainder_of-same true true m n h e = remainder_of-signed true true m n h ∙ signed-below true m (n * (m / n)) (m % n) (sym (div-add-mod m n))
remainder_of-same false true m n h e = cc
remainder_of-same true false m n h e = cc

-- with unequal signs it is what the magnitude lacks of a multiple
remainder_of-other : (p q : Bool) (m n r : ℕ) → 0 < n → beq p q ≡ false → n * div_ceil m n ≡ m + r → remainder_of (signed p m) (signed q n) ≡ signed q r
remainder_of-other false true m n r h e k = remainder_of-signed false true m n h ∙ signed-above false m (n * div_ceil m n) r k
remainder_of-other true false m n r h e k = remainder_of-signed true false m n h ∙ signed-above true m (n * div_ceil m n) r k
remainder_of-other false false m n r h e k = cc
remainder_of-other true true m n r h e k = cc

-- none where the division leaves none
pub remainder_of-even : (p q : Bool) (m n : ℕ) → 0 < n → m % n ≡ 0 → remainder_of (signed p m) (signed q n) ≡ signed q (m % n)
remainder_of-even p q m n h e = elim (cases (beq p q)) [
  | inl same ↦ remainder_of-same p q m n h same
  | inr other ↦ remainder_of-other p q m n (m % n) h other (product-even m n e ∙ ap (λ k. m + k) (sym e))
]

pub remainder_of-rest : (p q : Bool) (m n : ℕ) → 0 < n → m % n ≢ 0 → beq p q ≡ false → remainder_of (signed p m) (signed q n) ≡ signed q (n - m % n)
remainder_of-rest p q m n h e other = remainder_of-other p q m n (n - m % n) h other (product-rest m n h e)

pub signed-in_range : (p : Bool) (n : ℕ) → n ≤ greatest → IsInRange (signed p n)
signed-in_range false n h = grind (arith, ints)
signed-in_range true n h = grind (arith, ints)

-- what is in range is answered
pub Checked-ok : (z w : ℤ) (r : Result ℤ NumErr) → Checked z r → w ≡ z → IsInRange z → r ≡ Ok w
Checked-ok z w (Ok n) h e inside = ap Ok (h.0 ∙ sym e)
Checked-ok z w (Err n) h e inside = absurd (h.1 inside)

div_ceil-zero : (n : ℕ) → div_ceil 0 n ≡ 0
div_ceil-zero n = rw (zero-div, zero-mod) refl

-- the steps of a magnitude under a way of rounding
abbrev pub step_count : Way → Bool → ℕ → ℕ → ℕ
step_count Near negative n d = nearest n d
step_count Up negative n d = div_ceil n d
step_count Down negative n d = n / d
step_count Floor true n d = div_ceil n d
step_count Floor false n d = n / d

pub steps_of-signed : (way : Way) (p : Bool) (n d : ℕ) → 0 < d → divided way (signed p n) d ≡ signed p (step_count way p n d)
steps_of-signed Near p n d h = sym (signed-by_magnitude (λ k. nearest k d) p n (nearest-zero d h))
steps_of-signed Up p n d h = sym (signed-by_magnitude (λ k. div_ceil k d) p n (div_ceil-zero d))
steps_of-signed Down p n d h = sym (signed-by_magnitude (λ k. k / d) p n (zero-div d))
steps_of-signed Floor false n d h = refl
steps_of-signed Floor true zero d h = rw (zero-div, zero-mod) refl
steps_of-signed Floor true (suc n) d h = refl

-- steps of more than twice a magnitude count it as 0 or 1, whatever they are
div_ceil-wide : (n d : ℕ) → 2 * n < d → div_ceil n d ≡ min 1 n
div_ceil-wide n d h = rw (div-eq_of_lt {n = n} {m = d} (omega arith), mod-eq_of_lt {n = n} {m = d} (omega arith)) (omega arith)

div-wide : (n d : ℕ) → 2 * n < d → n / d ≡ 0
div-wide n d h = div-eq_of_lt (omega arith)

nearest-wide : (n d : ℕ) → 2 * n < d → nearest n d ≡ 0
nearest-wide n d h = div-eq_of_lt (omega arith)

step_count-wide : (way : Way) (p : Bool) (n d e : ℕ) → 2 * n < d → 2 * n < e → step_count way p n d ≡ step_count way p n e
step_count-wide Near p n d e h k = nearest-wide n d h ∙ sym (nearest-wide n e k)
step_count-wide Up p n d e h k = div_ceil-wide n d h ∙ sym (div_ceil-wide n e k)
step_count-wide Down p n d e h k = div-wide n d h ∙ sym (div-wide n e k)
step_count-wide Floor true n d e h k = div_ceil-wide n d h ∙ sym (div_ceil-wide n e k)
step_count-wide Floor false n d e h k = div-wide n d h ∙ sym (div-wide n e k)

steps_of-wide : (way : Way) (p : Bool) (n d e : ℕ) → 2 * n < d → 2 * n < e → divided way (signed p n) d ≡ divided way (signed p n) e
steps_of-wide way p n d e h k =
    steps_of-signed way p n d (omega arith) ∙ ap (λ m. signed p m) (step_count-wide way p n d e h k) ∙ sym (steps_of-signed way p n e (omega arith))

pub beyond : (p : Bool) (n : ℕ) → greatest < n → ¬ IsInRange (signed p n)
beyond false n h inside = grind (arith, ints)
beyond true n h inside = grind (arith, ints)

Checked-beyond : (z w : ℤ) (r : Result ℤ NumErr) → ¬ IsInRange z → ¬ IsInRange w → Checked z r → Checked w r
Checked-beyond z w (Ok n) out other h = absurd (out h.1)
Checked-beyond z w (Err e) out other h = (h.0, other)

no-steps : (p : Bool) (d : ℕ) → signed (differ p false) (0 * d) ≡ signed p 0
no-steps p d = grind arith

-- steps of 10^20 answer for all wider ones
wide-steps : (way : Way) (p : Bool) (n k d : ℕ) (r : Result ℤ NumErr) → n ≤ greatest → signed p k ≡ divided way (signed p n) (10 ^ 20) → 10 ^ 20 < d → Checked (signed p (k * 10 ^ 20)) r → Checked (divided way (signed p n) d *ℤ pos d) r
wide-steps way p n zero d r h e wide checked =
    let none : signed p 0 ≡ divided way (signed p n) d *ℤ pos d = sym (rw (steps_of-wide way p n d (10 ^ 20) (omega arith) (omega arith), ← e, signed-*ℤ p false 0 d) (no-steps p d)) in
    let P : ℤ → Type 0 = λ z. Checked z r in subst P none checked
wide-steps way p n (suc k) d r h e wide checked =
    rw (steps_of-wide way p n d (10 ^ 20) (omega arith) (omega arith), ← e, signed-*ℤ p false (suc k) d)
    (Checked-beyond _ _ r (beyond p (suc k * 10 ^ 20) (omega arith)) (beyond (differ p false) (suc k * d) (grind arith)) checked)

differ-false : (p : Bool) → differ p false ≡ p
differ-false true = refl
differ-false false = refl

pub Checked-steps : (way : Way) (p : Bool) (n k d s : ℕ) (r : Result ℤ NumErr) → n ≤ greatest → 0 < s → s ≡ min d (10 ^ 20) → signed p k ≡ divided way (signed p n) s → Checked (signed p (k * s)) r → Checked (divided way (signed p n) d *ℤ pos d) r
Checked-steps way p n k d s r h positive e steps checked = elim (cases_lt (10 ^ 20) d) [
  | inl wide ↦
      let same : s ≡ 10 ^ 20 = omega (arith, e) in
      wide-steps way p n k d r h (rw (← same) steps) wide (rw (← same) checked)
  | inr small ↦
      let same : d ≡ s = omega (arith, e) in
      rw (same, ← steps, signed-*ℤ p false k s) (rw (differ-false p) checked)
]

pub step_of-wide : (d : ℤ) → d <ℤ negsuc 15 → 10 ^ 20 ≡ min (step_of d) (10 ^ 20)
step_of-wide (pos d) low = grind (arith, ints)
step_of-wide (negsuc n) low =
    let wide : 20 ≤ 5 + n = grind (arith, ints) in
    sym (min-eq_right (pow-le-pow_right {n = 10} (lit< tt) wide))

pub step_of-positive : (d : ℤ) → 0 < step_of d
step_of-positive (pos d) = one-le-pow (4 - d) 10 (lit< tt)
step_of-positive (negsuc n) = one-le-pow (5 + n) 10 (lit< tt)

pub powers-more : (a z : ℤ) (n : ℕ) → ArePowersInRange a n → z ≡ power_of a (suc n) → IsInRange z → ArePowersInRange a (suc n)
powers-more a z n before e inside k h = elim (cases_lt k (suc n)) [
  | inl earlier ↦ before k (omega arith)
  | inr now ↦ let last : k ≡ suc n = omega arith in rw (last, ← e) inside
]
