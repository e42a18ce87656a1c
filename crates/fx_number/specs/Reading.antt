-- What a text spells, found from left to right.
use Rattle.std.specs.Prelude.{ℕ, ℤ, Bool, not, ◌||◌, if◌then◌else◌, List, [], ◌∷◌, drop, length}
use Rattle.std.specs.Prelude.{Option, Some, None, ◌==◌, take_while}
use Rattle.std.specs.Char.{is_ascii_digit}
use Rattle.std.specs.List.{prefix_len}
use Rattle.fx_number.specs.Decimal.{signed}
use Rattle.fx_number.specs.Spelling.{Sign, no_sign, plus, minus, is_minus, point_and, decimal_units}

abbrev pub is_space : ℕ → Bool
is_space c = c == 32

-- what follows the longest front that passes
abbrev pub skip_while : (ℕ → Bool) → List ℕ → List ℕ
skip_while p xs = drop (prefix_len p xs) xs

-- the sign at the front, and what follows it
abbrev pub sign_of : List ℕ → Sign
sign_of [] = no_sign
sign_of (c ∷ cs) = if c == 43 then plus else (if c == 45 then minus else no_sign)

abbrev pub after_sign : List ℕ → List ℕ
after_sign [] = []
after_sign (c ∷ cs) = if c == 43 || c == 45 then cs else c ∷ cs

-- the digits after a point at the front, and what follows them; a point with no digit after it is
-- none
abbrev pub fraction_of : List ℕ → List ℕ
fraction_of [] = []
fraction_of (c ∷ cs) = if c == 46 then take_while is_ascii_digit cs else []

abbrev pub after_fraction : List ℕ → List ℕ
after_fraction cs = drop (length (point_and (fraction_of cs))) cs

-- the number that a text spells, in ten-thousandths and of any size, or none
abbrev pub spelled : List ℕ → Option ℤ
spelled text =
    let number = skip_while is_space text in
    let whole = take_while is_ascii_digit (after_sign number) in
    let rest = skip_while is_ascii_digit (after_sign number) in
    let end = skip_while is_space (after_fraction rest) in
    if length whole == 0 || not (length end == 0) then None
    else Some (signed (is_minus (sign_of number)) (decimal_units whole (fraction_of rest)))
