-- Numbers by a format.
use Rattle.std.specs.Prelude.{ℕ, zero, suc, ℤ, pos, negsuc, ◌+◌, ◌-◌, ◌/◌, ◌%◌, ◌^◌, ◌==◌, ◌&&◌}
use Rattle.std.specs.Prelude.{nat_lt, Bool, true, false, if◌then◌else◌, List, [], ◌∷◌, ◌++◌, length}
use Rattle.std.specs.Prelude.{decimal}
use Rattle.fx_number.specs.Decimal.{nearest}
use Rattle.fx_number.specs.Spelling.{point_and}
use Rattle.fx_types.specs.declared.formats.NumberFormat.{NumberFormat}
use Rattle.fx_types.specs.declared.formats.NumberFormat.TheVariants.{Whole, TwoDecimals}
use Rattle.fx_types.specs.declared.formats.NumberFormat.TheVariants.{FourDecimals, Grouped}
use Rattle.fx_types.specs.declared.formats.NumberFormat.TheVariants.{GroupedTwoDecimals}

-- how many decimals a format has
abbrev pub decimals_of : NumberFormat → ℕ
decimals_of Whole = 0
decimals_of TwoDecimals = 2
decimals_of FourDecimals = 4
decimals_of Grouped = 0
decimals_of GroupedTwoDecimals = 2

-- whether it has a comma between groups of three digits
abbrev pub is_grouped : NumberFormat → Bool
is_grouped Grouped = true
is_grouped GroupedTwoDecimals = true
is_grouped format = false

-- so many of the last digits of a number
abbrev pub last_digits : ℕ → ℕ → List ℕ
last_digits zero n = []
last_digits (suc count) n = last_digits count (n / 10) ++ (48 + n % 10) ∷ []

-- a comma where so many digits still follow: some, in groups of three
abbrev pub comma_before : ℕ → List ℕ
comma_before left = if nat_lt 0 left && left % 3 == 0 then 44 ∷ [] else []

-- digits with a comma between groups of three
abbrev pub with_commas : List ℕ → List ℕ
with_commas [] = []
with_commas (d ∷ ds) = d ∷ (comma_before (length ds) ++ with_commas ds)

abbrev pub whole_text : Bool → ℕ → List ℕ
whole_text grouped n = if grouped then with_commas (decimal n) else decimal n

-- n units of the last of so many decimals: the whole part, and a point with the decimals where
-- there are some
abbrev pub units_text : Bool → ℕ → ℕ → List ℕ
units_text grouped decimals n = whole_text grouped (n / 10 ^ decimals)
    ++ point_and (last_digits decimals n)

-- the nearest number of units of the last decimal, half up
abbrev pub units_of : ℕ → ℕ → ℕ
units_of decimals magnitude = nearest magnitude (10 ^ (4 - decimals))

-- the text of a number, rounded half away from zero; a rounding to 0 has no sign
abbrev pub formatted_number : NumberFormat → ℤ → List ℕ
formatted_number format (pos n) = units_text (is_grouped format) (decimals_of format)
    (units_of (decimals_of format) n)
formatted_number format (negsuc n) = let units = units_of (decimals_of format) (suc n) in
    let text = units_text (is_grouped format) (decimals_of format) units in
    if units == 0 then text else 45 ∷ text
