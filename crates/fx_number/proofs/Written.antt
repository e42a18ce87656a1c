-- The text of a number spells that number.
use Rattle.std.proofs.Common.{◌≡◌, ◌⊎◌, ℕ, suc, ℤ, pos, negsuc, ◌+◌, ◌*◌, ◌/◌, ◌%◌, ◌-◌, ◌^◌, ◌<◌, ◌≤◌, Bool, true, false, eqb, List, [], ◌∷◌, length, refl, sym, ◌∙◌, ap, inl, inr, arith, eqb-true, append-nil, neg_ℤ, decimal, add-zero, ◌&&◌}
use Rattle.std.proofs.Math.Nat.{pow-suc, sub-zero}
use Rattle.std.proofs.lemmas.Fmt.{decimal_is_IsNumeral}
use Rattle.std.proofs.lemmas.Int.{ints}
use Rattle.std.proofs.lemmas.Str.{digit_value_digit}
use Rattle.std.specs.Char.{digit_value}
use Rattle.std.specs.List.{list_all}
use Rattle.std.specs.Str.Parse.{AllDigits, digits_value_after}
use Rattle.fx_number.specs.Decimal.{IsInRange, greatest}
use Rattle.fx_number.specs.Spelling.{Spells, IsDecimal, no_sign, minus, without_end_zeros, four_digits, magnitude_text, text_of, decimal_units}
use Rattle.fx_number.proofs.Digits.{units-short}

cases : (b : Bool) → (b ≡ true) ⊎ (b ≡ false)
cases true = inl refl
cases false = inr refl

digit_value-written : (d : ℕ) → d < 10 → digit_value (48 + d) ≡ d
digit_value-written d h =
    let written = digit_value_digit (48 + d) (omega arith, omega arith) in
    omega (arith, written)

both : (a b : Bool) → (a && b) ≡ true → (a ≡ true) × (b ≡ true)
both true b h = (refl, h)
both false b h = cc

-- zeros only multiply by ten
zeros_value : (n : ℕ) (ds : List ℕ) → list_all (λ c. eqb c 48) ds ≡ true → digits_value_after 10 n ds ≡ n * 10 ^ length ds
zeros_value n [] h = omega arith
zeros_value n (d ∷ ds) h =
    let parts = both (eqb d 48) (list_all (λ c. eqb c 48) ds) h in
    let power : 10 ^ suc (length ds) ≡ 10 ^ length ds * 10 = pow-suc 10 (length ds) in
    ap (λ c. digits_value_after 10 (n * 10 + digit_value c) ds) (eqb-true d 48 parts.0)
    ∙ ap (λ k. digits_value_after 10 k ds) (add-zero (n * 10))
    ∙ zeros_value (n * 10) ds parts.1
    ∙ rw power (grind arith)

AllDigits-without : (ds : List ℕ) → AllDigits 10 ds → AllDigits 10 (without_end_zeros ds)
AllDigits-without [] h = tt
AllDigits-without (d ∷ ds) h = elim (cases (list_all (λ c. eqb c 48) (d ∷ ds))) [
  | inl zeros ↦ rw zeros tt
  | inr more ↦ rw more (h.0, AllDigits-without ds h.1)
]

length-without : (ds : List ℕ) → length (without_end_zeros ds) ≤ length ds
length-without [] = omega arith
length-without (d ∷ ds) = elim (cases (list_all (λ c. eqb c 48) (d ∷ ds))) [
  | inl zeros ↦ rw zeros (omega arith)
  | inr more ↦ rw more (omega (arith, length-without ds))
]

suc-sub-suc : (a b : ℕ) → suc a - suc b ≡ a - b
suc-sub-suc a b = omega arith

value-without : (n : ℕ) (ds : List ℕ) → digits_value_after 10 n (without_end_zeros ds) * 10 ^ (length ds - length (without_end_zeros ds)) ≡ digits_value_after 10 n ds
value-without n [] = omega arith
value-without n (d ∷ ds) = elim (cases (list_all (λ c. eqb c 48) (d ∷ ds))) [
  | inl zeros ↦ rw (zeros, sub-zero) (sym (zeros_value n (d ∷ ds) zeros))
  | inr more ↦ rw (more, suc-sub-suc) (value-without (n * 10 + digit_value d) ds)
]

four_digits-value : (w f : ℕ) → f < 10000 → digits_value_after 10 w (four_digits f) ≡ w * 10000 + f
four_digits-value w f h =
    rw (digit_value-written (f / 1000) (omega arith), digit_value-written (f / 100 % 10) (omega arith), digit_value-written (f / 10 % 10) (omega arith), digit_value-written (f % 10) (omega arith))
    (omega arith)

four_digits-digits : (f : ℕ) → f < 10000 → AllDigits 10 (four_digits f)
four_digits-digits f h =
    rw (digit_value-written (f / 1000) (omega arith), digit_value-written (f / 100 % 10) (omega arith), digit_value-written (f / 10 % 10) (omega arith), digit_value-written (f % 10) (omega arith))
    (omega arith, (omega arith, (omega arith, (omega arith, tt))))

units-written : (n : ℕ) → n ≤ greatest → decimal_units (decimal (n / 10000)) (without_end_zeros (four_digits (n % 10000))) ≡ n
units-written n h =
    let fraction = without_end_zeros (four_digits (n % 10000)) in
    let whole = decimal_is_IsNumeral (n / 10000) (omega arith) in
    units-short (decimal (n / 10000)) fraction (length-without (four_digits (n % 10000)))
    ∙ ap (λ k. digits_value_after 10 k fraction * 10 ^ (4 - length fraction)) whole.1
    ∙ value-without (n / 10000) (four_digits (n % 10000))
    ∙ four_digits-value (n / 10000) (n % 10000) (omega arith)
    ∙ omega arith

pub Spells-text_of : (z : ℤ) → IsInRange z → Spells (text_of z) z
Spells-text_of (pos n) h =
    let small : n ≤ greatest = grind (arith, ints) in
    record {
      before = 0;
      sign = no_sign;
      digits = magnitude_text n;
      whole = decimal (n / 10000);
      fraction = without_end_zeros (four_digits (n % 10000));
      is_decimal = record { has_whole = (decimal_is_IsNumeral (n / 10000) (omega arith)).0; has_fraction = AllDigits-without (four_digits (n % 10000)) (four_digits-digits (n % 10000) (omega arith)); is_text = refl };
      after = 0;
      is_text = sym (append-nil (magnitude_text n));
      is_value = ap pos (sym (units-written n small));
    }
Spells-text_of (negsuc n) h =
    let small : suc n ≤ greatest = grind (arith, ints) in
    record {
      before = 0;
      sign = minus;
      digits = magnitude_text (suc n);
      whole = decimal (suc n / 10000);
      fraction = without_end_zeros (four_digits (suc n % 10000));
      is_decimal = record { has_whole = (decimal_is_IsNumeral (suc n / 10000) (omega arith)).0; has_fraction = AllDigits-without (four_digits (suc n % 10000)) (four_digits-digits (suc n % 10000) (omega arith)); is_text = refl };
      after = 0;
      is_text = ap (λ ds. 45 ∷ ds) (sym (append-nil (magnitude_text (suc n))));
      is_value = ap (λ k. neg_ℤ (pos k)) (sym (units-written (suc n) small));
    }

-- digits with or without a fraction, and nothing around them, spell their value
pub Spells-decimal : (text whole fraction : List ℕ) → IsDecimal text whole fraction → Spells text (pos (decimal_units whole fraction))
Spells-decimal text whole fraction h = record {
  before = 0;
  sign = no_sign;
  digits = text;
  whole = whole;
  fraction = fraction;
  is_decimal = h;
  after = 0;
  is_text = sym (append-nil text);
  is_value = refl;
}
