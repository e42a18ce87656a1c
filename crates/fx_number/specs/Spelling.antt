-- The texts that spell numbers, as lists of bytes, and the one text that a number is written as.
use Rattle.std.specs.Prelude.{◌≡◌, ℕ, suc, ℤ, pos, negsuc, ◌+◌, ◌*◌, ◌/◌, ◌%◌, ◌^◌, Bool, true}
use Rattle.std.specs.Prelude.{false, if◌then◌else◌, List, [], ◌∷◌, ◌++◌, length, replicate, ◌==◌}
use Rattle.std.specs.Prelude.{decimal}
use Rattle.std.specs.List.{list_all}
use Rattle.std.specs.Str.Parse.{digits_value, AllDigits, IsNumeral}
use Rattle.fx_number.specs.Decimal.{nearest, signed}

-- the ten-thousandths that digits before and after a point spell, the nearest, half up
abbrev pub decimal_units : List ℕ → List ℕ → ℕ
decimal_units whole fraction = nearest (digits_value 10 (whole ++ fraction) * 10000)
    (10 ^ length fraction)

-- a point and the digits after it, or nothing where there are none
abbrev pub point_and : List ℕ → List ℕ
point_and [] = []
point_and (d ∷ ds) = 46 ∷ d ∷ ds

-- digits, one at least, and after them a point with digits, one at least, or nothing
pub record IsDecimal (text whole fraction : List ℕ) : Type 0 where
  pub has_whole : IsNumeral 10 whole
  pub has_fraction : AllDigits 10 fraction
  pub is_text : text ≡ whole ++ point_and fraction

-- what may stand before the digits
pub data Sign : Type 0 where
  no_sign : Sign
  plus : Sign
  minus : Sign

abbrev pub sign_text : Sign → List ℕ
sign_text no_sign = []
sign_text plus = 43 ∷ []
sign_text minus = 45 ∷ []

abbrev pub is_minus : Sign → Bool
is_minus no_sign = false
is_minus plus = false
is_minus minus = true

-- the text spells z: spaces, a sign or none, digits with or without a point and more digits, spaces
pub record Spells (text : List ℕ) (z : ℤ) : Type 0 where
  pub before : ℕ
  pub sign : Sign
  pub digits : List ℕ
  pub whole : List ℕ
  pub fraction : List ℕ
  pub is_decimal : IsDecimal digits whole fraction
  pub after : ℕ
  pub is_text : text ≡ replicate before 32 ++ (sign_text sign ++ (digits ++ replicate after 32))
  pub is_value : z ≡ signed (is_minus sign) (decimal_units whole fraction)

-- digits without the zeros at their end
abbrev pub without_end_zeros : List ℕ → List ℕ
without_end_zeros [] = []
without_end_zeros (d ∷ ds) = if list_all (λ c. c == 48) (d ∷ ds) then [] else d
    ∷ without_end_zeros ds

-- the four decimal digits of a number below 10000
abbrev pub four_digits : ℕ → List ℕ
four_digits n = (48 + n / 1000) ∷ (48 + n / 100 % 10) ∷ (48 + n / 10 % 10) ∷ (48 + n % 10) ∷ []

-- the text of n ten-thousandths: the whole part, and a point and the fraction's digits where it
-- isn't 0
abbrev pub magnitude_text : ℕ → List ℕ
magnitude_text n = decimal (n / 10000) ++ point_and (without_end_zeros (four_digits (n % 10000)))

-- the one text of a number, without needless zeros
abbrev pub text_of : ℤ → List ℕ
text_of (pos n) = magnitude_text n
text_of (negsuc n) = 45 ∷ magnitude_text (suc n)
