-- The formats of dates.
use Rattle.std.specs.Prelude.{ℕ, ℤ, List, ◌∷◌, ◌++◌}
use Rattle.fx_types.specs.Civil.{civil_of}
use Rattle.fx_types.specs.DateText.{two_digits, four_digits, date_text}
use Rattle.fx_types.specs.declared.formats.DateFormat.{DateFormat}
use Rattle.fx_types.specs.declared.formats.DateFormat.TheVariants.{YearMonthDay, DayMonthYear}
use Rattle.fx_types.specs.declared.formats.DateFormat.TheVariants.{MonthDayYear}

-- two numbers below 100 and one below 10000, with slashes between
abbrev pub slashed : ℕ → ℕ → ℕ → List ℕ
slashed a b c = two_digits a ++ (47 ∷ two_digits b ++ (47 ∷ four_digits c))

-- the text of a day in a format
abbrev pub day_text : DateFormat → ℤ → List ℕ
day_text YearMonthDay z = date_text z
day_text DayMonthYear z = let d = civil_of z in slashed d.day d.month d.year
day_text MonthDayYear z = let d = civil_of z in slashed d.month d.day d.year
