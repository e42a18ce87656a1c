-- The numbers that digits write, and what a fraction is rounded to.
use Rattle.std.proofs.Common.{◌≡◌, ℕ, zero, suc, ◌+◌, ◌*◌, ◌-◌, ◌^◌, ◌<◌, ◌≤◌, min, List, [], ◌∷◌, ◌++◌, length, take, drop, get_or, refl, sym, ◌∙◌, ap, inl, inr, arith, nat_le, if◌then◌else◌, rules, true, false, lit<, Option, Some, None, length-append, length-take, take-append-drop, drop-cons, pow-add}
use Rattle.std.proofs.Math.Nat.{le_refl, pow-suc, mul-add-div_right, div-eq_of_lt, div-eq_of_lt-le, one-le-pow, mul-div-mul_right, mul-le-mul}
use Rattle.std.proofs.Math.Seq.{take-length}
use Rattle.std.specs.Option.{SomeIff, MatchOption}
use Rattle.std.proofs.lemmas.Int.Digits.{digits_value-lt}
use Rattle.std.proofs.lemmas.Bool.{cases_lt}
use Rattle.std.proofs.lemmas.Str.Parse.{digit_from_value}
use Rattle.std.specs.Char.{digit_value}
use Rattle.std.specs.Str.Parse.{digits_value, digits_value_after, AllDigits}
use Rattle.fx_number.specs.Decimal.{nearest, greatest}
use Rattle.fx_number.specs.Spelling.{decimal_units}

pub le-digits_value_after : (n : ℕ) (ds : List ℕ) → n ≤ digits_value_after 10 n ds
le-digits_value_after n [] = le_refl n
le-digits_value_after n (d ∷ ds) = omega (arith, le-digits_value_after (n * 10 + digit_value d) ds)

pub digits_value_after-append : (n : ℕ) (ds es : List ℕ) → digits_value_after 10 n (ds ++ es) ≡ digits_value_after 10 (digits_value_after 10 n ds) es
digits_value_after-append n [] es = refl
digits_value_after-append n (d ∷ ds) es = digits_value_after-append (n * 10 + digit_value d) ds es

pub digits_value_after-split : (n : ℕ) (ds : List ℕ) → digits_value_after 10 n ds ≡ n * 10 ^ length ds + digits_value 10 ds
digits_value_after-split n [] = omega arith
digits_value_after-split n (d ∷ ds) =
    let all = digits_value_after-split (n * 10 + digit_value d) ds in
    let own = digits_value_after-split (0 * 10 + digit_value d) ds in
    let power : 10 ^ suc (length ds) ≡ 10 ^ length ds * 10 = pow-suc 10 (length ds) in
    rw (all, own, power) (grind arith)

digit_value-is : (c : ℕ) → digit_value c < 10 → digit_value c ≡ c - 48
digit_value-is c h =
    let inside = digit_from_value c h in
    search rules

-- a number that is too great stays so behind more digits
pub too_great : (n v i : ℕ) (ds : List ℕ) → i < length ds → AllDigits 10 (drop i ds) → v ≡ get_or ds i 0 - 48 → 2 ^ 64 ≤ n * 10 + v → 2 ^ 64 ≤ digits_value_after 10 n (drop i ds)
too_great n v i [] h digits e great = absurd (omega arith)
too_great n v zero (d ∷ ds) h digits e great =
    let value = digit_value-is d digits.0 in
    omega (arith, value, e, le-digits_value_after (n * 10 + digit_value d) ds)
too_great n v (suc i) (d ∷ ds) h digits e great = too_great n v i ds (omega arith) digits e great

le-true : {m n : ℕ} → m ≤ n → nat_le m n ≡ true
le-true h = search rules

nle-false : {m n : ℕ} → n < m → nat_le m n ≡ false
nle-false h = search rules

-- a whole count of d, rounded
nearest-whole : (k n d : ℕ) → 0 < d → nearest (k * d + n) d ≡ k + nearest n d
nearest-whole k n d h =
    let moved : 2 * (k * d + n) + d ≡ k * (2 * d) + (2 * n + d) = grind arith in
    rw moved (mul-add-div_right (omega arith) k (2 * n + d))

pub nearest-none : (k d : ℕ) → 0 < d → nearest (k * d) d ≡ k
nearest-none k d h =
    let padded : k * d ≡ k * d + 0 = omega arith in
    rw padded (nearest-whole k 0 d h ∙ rw (div-eq_of_lt {n = 2 * 0 + d} {m = 2 * d} (omega arith)) (omega arith))

nearest-scaled : (n d c : ℕ) → 0 < c → nearest (n * c) (d * c) ≡ nearest n d
nearest-scaled n d c h =
    let upper : 2 * (n * c) + d * c ≡ (2 * n + d) * c = grind arith in
    let lower : 2 * (d * c) ≡ (2 * d) * c = grind arith in
    rw (upper, lower) (mul-div-mul_right (2 * n + d) (2 * d) h)

-- of a rest below d its first digit tells how it is rounded
nearest-digit : (x e r : ℕ) → r < e → x < 10 → nearest (x * e + r) (10 * e) ≡ (if nat_le 5 x then 1 else 0)
nearest-digit x e r h small = elim (cases_lt x 5) [
  | inl less ↦
      let product : x * e ≤ 4 * e = mul-le-mul (omega arith) (le_refl e) in
      rw (nle-false less) (div-eq_of_lt (omega arith))
  | inr more ↦
      let low : 5 * e ≤ x * e = mul-le-mul more (le_refl e) in
      let high : x * e ≤ 9 * e = mul-le-mul (omega arith) (le_refl e) in
      rw (le-true more) (div-eq_of_lt-le {k = 1} (2 * (10 * e)) (omega arith) (omega arith))
]

-- the ten-thousandths that whole digits and at most four decimals spell
abbrev pub kept_units : List ℕ → List ℕ → ℕ
kept_units whole kept = digits_value_after 10 (digits_value 10 whole) kept * 10 ^ (4 - length kept)

ten_thousand : (n : ℕ) → n ≤ 4 → 10000 ≡ 10 ^ (4 - n) * 10 ^ n
ten_thousand n h =
    let whole : 4 - n + n ≡ 4 = omega arith in
    sym (ap (λ k. 10 ^ k) whole) ∙ pow-add 10 (4 - n) n

pub units-short : (whole fraction : List ℕ) → length fraction ≤ 4 → decimal_units whole fraction ≡ kept_units whole fraction
units-short whole fraction h =
    let value = digits_value_after-append 0 whole fraction in
    let scale = ten_thousand (length fraction) h in
    let moved : digits_value 10 (whole ++ fraction) * 10000 ≡ kept_units whole fraction * 10 ^ length fraction = rw (value, scale) (grind arith) in
    rw moved (nearest-none (kept_units whole fraction) (10 ^ length fraction) (one-le-pow (length fraction) 10 (lit< tt)))

units-long : (whole kept : List ℕ) (d : ℕ) (more : List ℕ) → length kept ≡ 4 → digit_value d < 10 → AllDigits 10 more → decimal_units whole (kept ++ (d ∷ more)) ≡ kept_units whole kept + (if nat_le 5 (digit_value d) then 1 else 0)
units-long whole kept d more h small digits =
    let E : ℕ = 10 ^ length more in
    let K : ℕ = digits_value_after 10 (digits_value 10 whole) kept in
    let R : ℕ = digits_value 10 more in
    let below : R < E = digits_value-lt 10 more digits in
    let read : digits_value 10 (whole ++ (kept ++ (d ∷ more))) ≡ (K * 10 + digit_value d) * E + R =
    digits_value_after-append 0 whole (kept ++ (d ∷ more)) ∙ digits_value_after-append (digits_value 10 whole) kept (d ∷ more) ∙ digits_value_after-split (K * 10 + digit_value d) more in
    let count : length (kept ++ (d ∷ more)) ≡ length more + 5 = length-append kept (d ∷ more) ∙ omega arith in
    let scale : 10 ^ length (kept ++ (d ∷ more)) ≡ (10 * E) * 10000 = ap (λ n. 10 ^ n) count ∙ pow-add 10 (length more) 5 ∙ grind arith in
    let parts : (K * 10 + digit_value d) * E + R ≡ K * (10 * E) + (digit_value d * E + R) = grind arith in
    let own : kept_units whole kept ≡ K = rw h (omega arith) in
    rw (own, read, scale, nearest-scaled _ (10 * E) 10000 (lit< tt), parts, nearest-whole K (digit_value d * E + R) (10 * E) (omega arith))
    (ap (λ n. K + n) (nearest-digit (digit_value d) E R below small))

AllDigits-drop : (k : ℕ) (ds : List ℕ) → AllDigits 10 ds → AllDigits 10 (drop k ds)
AllDigits-drop zero ds h = h
AllDigits-drop (suc k) [] h = h
AllDigits-drop (suc k) (d ∷ ds) h = AllDigits-drop k ds h.1

pub digit_value-at : (k : ℕ) (ds : List ℕ) → AllDigits 10 ds → k < length ds → digit_value (get_or ds k 0) < 10
digit_value-at k [] h inside = absurd (omega arith)
digit_value-at zero (d ∷ ds) h inside = h.0
digit_value-at (suc k) (d ∷ ds) h inside = digit_value-at k ds h.1 (omega arith)

pub units-shorter : (whole fraction kept : List ℕ) (m : ℕ) → kept ≡ take m fraction → m ≡ min (length fraction) 4 → length fraction ≤ 4 → decimal_units whole fraction ≡ kept_units whole kept
units-shorter whole fraction kept m e count short =
    let all : m ≡ length fraction = omega (arith, count) in
    let same : kept ≡ fraction = rw (e, all) (take-length fraction) in
    rw same (units-short whole fraction short)

pub units-longer : (whole fraction kept : List ℕ) (m : ℕ) → kept ≡ take m fraction → m ≡ min (length fraction) 4 → 4 < length fraction → AllDigits 10 fraction → decimal_units whole fraction ≡ kept_units whole kept + (if nat_le 5 (digit_value (get_or fraction 4 0)) then 1 else 0)
units-longer whole fraction kept m e count long digits =
    let four : m ≡ 4 = omega (arith, count) in
    let same : kept ≡ take 4 fraction = rw (e, four) refl in
    let size : length kept ≡ 4 = rw (same, length-take) (omega arith) in
    let parts : fraction ≡ kept ++ (get_or fraction 4 0 ∷ drop 5 fraction) = rw same (sym (ap (λ ds. take 4 fraction ++ ds) (sym (drop-cons fraction 4 0 long)) ∙ take-append-drop 4 fraction)) in
    ap (λ ds. decimal_units whole ds) parts ∙ units-long whole kept (get_or fraction 4 0) (drop 5 fraction) size (digit_value-at 4 fraction digits long) (AllDigits-drop 5 fraction digits)

pub units-least : (whole fraction kept : List ℕ) (m : ℕ) → kept ≡ take m fraction → m ≡ min (length fraction) 4 → AllDigits 10 fraction → kept_units whole kept ≤ decimal_units whole fraction
units-least whole fraction kept m e count digits = elim (cases_lt 4 (length fraction)) [
  | inl long ↦ omega (arith, units-longer whole fraction kept m e count long digits)
  | inr short ↦ omega (arith, units-shorter whole fraction kept m e count short)
]

pub kept_units-least : (whole kept : List ℕ) → digits_value_after 10 (digits_value 10 whole) kept ≤ kept_units whole kept
kept_units-least whole kept =
    let scaled : digits_value_after 10 (digits_value 10 whole) kept * 1 ≤ kept_units whole kept = mul-le-mul (le_refl _) (one-le-pow (4 - length kept) 10 (lit< tt)) in
    omega (arith, scaled)

pub rounds_up : (d : ℕ) → 53 ≤ d → digit_value d < 10 → nat_le 5 (digit_value d) ≡ true
rounds_up d h small = le-true (omega (arith, digit_value-is d small))

pub rounds_down : (d : ℕ) → d < 53 → digit_value d < 10 → nat_le 5 (digit_value d) ≡ false
rounds_down d h small =
    let inside = digit_from_value d small in
    nle-false (omega (arith, digit_value-is d small, inside.0))

pub one_more : (r : Option ℕ) (n m : ℕ) → SomeIff r (n + 1 < 2 ^ 64) (n + 1) → m ≡ n + 1 → MatchOption r (greatest < m) (λ x. x ≡ m)
one_more None n m h e = omega (arith, h, e)
one_more (Some x) n m h e = h.1 ∙ sym e
