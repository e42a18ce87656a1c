-- The texts of dates.
use Rattle.std.specs.Prelude.{ℕ, ◌+◌, ◌/◌, ◌%◌, ℤ, List, [], ◌∷◌, ◌++◌}
use Rattle.fx_types.specs.Civil.{civil_of}
use Rattle.fx_types.specs.declared.civil.CivilDate.{CivilDate}

-- a number below 100, in two digits
abbrev pub two_digits : ℕ → List ℕ
two_digits n = (48 + n / 10) ∷ (48 + n % 10) ∷ []

-- a number below 10000, in four digits
abbrev pub four_digits : ℕ → List ℕ
four_digits n = two_digits (n / 100) ++ two_digits (n % 100)

-- `yyyy-mm-dd`
abbrev pub civil_text : CivilDate → List ℕ
civil_text d = four_digits d.year ++ (45 ∷ two_digits d.month ++ (45 ∷ two_digits d.day))

-- the text of the day of this number
abbrev pub date_text : ℤ → List ℕ
date_text z = civil_text (civil_of z)
