-- The functions of dates.
use Rattle.std.specs.Prelude.{◌≡◌, ℕ, suc, ◌+◌, ◌-◌, ◌*◌, ◌/◌, ℤ, pos, negsuc, ◌+ℤ◌, ◌-ℤ◌, ◌*ℤ◌}
use Rattle.std.specs.Prelude.{unsigned_abs, Result, Ok, Err, nat_lt, if◌then◌else◌, min}
use Rattle.std.specs.Int.{int_rem_euclid}
use Rattle.jiff_core.specs.Calendar.{days_in_month, IsBetween}
use Rattle.fx_types.specs.Days.{IsDay}
use Rattle.fx_types.specs.declared.faults.Kind.{Kind}
use Rattle.fx_types.specs.declared.faults.Kind.TheVariants.{InvalidArgument}
use Rattle.fx_types.specs.Civil.{civil_of}
use Rattle.fx_types.specs.declared.civil.CivilDate.{CivilDate}
use Rattle.fx_primitives.specs.Months.{year_of, month_of, month_number, first_day_of_month}
use Rattle.fx_types.specs.declared.formats.TimeUnit.{TimeUnit}
use Rattle.fx_types.specs.declared.formats.TimeUnit.TheVariants.{Days, Months, Quarters, Years}

-- the day of this number, or InvalidArgument where it is the number of none
abbrev pub IsDayOrInvalid : ℤ → Result ℤ Kind → Type 0
IsDayOrInvalid z (Ok d) = (d ≡ z) × IsDay z
IsDayOrInvalid z (Err k) = (k ≡ InvalidArgument) × ¬ IsDay z

-- a year from 0 to 1899 counts from 1900
abbrev pub full_year : ℤ → ℤ
full_year (pos n) = if nat_lt n 1900 then pos (n + 1900) else pos n
full_year (negsuc n) = negsuc n

-- the number of the day with these parts: so many months after the January of its year, and so many
-- days after the first of that month, each counted from 1
abbrev pub number_of_parts : ℤ → ℤ → ℤ → ℤ
number_of_parts year month day = first_day_of_month ((full_year year *ℤ pos 12) +ℤ (month -ℤ pos 1))
    +ℤ (day -ℤ pos 1)

-- the day is in the month of this number, and is that month's day of this place, or its last one
-- where it has fewer
abbrev pub IsInMonth : ℤ → ℕ → ℤ → Type 0
IsInMonth k place d =
    (pos (civil_of d).year ≡ year_of k) × ((civil_of d).month ≡ month_of k)
    × ((civil_of d).day ≡ min place (days_in_month (year_of k) (month_of k)))

-- that day, or InvalidArgument where its year is not from 1900 to 9999
abbrev pub IsInMonthOrInvalid : ℤ → ℕ → Result ℤ Kind → Type 0
IsInMonthOrInvalid k place (Ok d) = IsDay d × IsInMonth k place d
IsInMonthOrInvalid k place (Err e) = (e ≡ InvalidArgument)
    × ¬ IsBetween (pos 1900) (pos 9999) (year_of k)

-- the answer of a day so many months later, which keeps its place in the month
abbrev pub IsMonthsLater : ℤ → ℤ → Result ℤ Kind → Type 0
IsMonthsLater z n = IsInMonthOrInvalid (pos (month_number (civil_of z)) +ℤ n) (civil_of z).day

-- the answer of a day so many units later
abbrev pub IsDayLater : TimeUnit → ℤ → ℤ → Result ℤ Kind → Type 0
IsDayLater Days z n = IsDayOrInvalid (z +ℤ n)
IsDayLater Months z n = IsMonthsLater z n
IsDayLater Quarters z n = IsMonthsLater z (n *ℤ pos 3)
IsDayLater Years z n = IsMonthsLater z (n *ℤ pos 12)

-- the quarter of a date, counted from the first of the year 0
abbrev pub quarter_number : CivilDate → ℕ
quarter_number d = 4 * d.year + (d.month - 1) / 3

-- the second day less the first, in days, or as numbers of months, quarters or years
abbrev pub difference : TimeUnit → ℤ → ℤ → ℤ
difference Days a b = b -ℤ a
difference Months a b = pos (month_number (civil_of b)) -ℤ pos (month_number (civil_of a))
difference Quarters a b = pos (quarter_number (civil_of b)) -ℤ pos (quarter_number (civil_of a))
difference Years a b = pos (civil_of b).year -ℤ pos (civil_of a).year

-- the day of the week, from 1 for Sunday to 7 for Saturday; 1970-01-01 was a Thursday
abbrev pub weekday_of : ℤ → ℕ
weekday_of z = suc (unsigned_abs (int_rem_euclid (z +ℤ pos 4) (pos 7)))

-- the answer of a day so many ten-thousandths of a day later: InvalidArgument where that is no day
abbrev pub IsShifted : ℤ → ℤ → Result ℤ Kind → Type 0
IsShifted z units (Ok d) = IsDay d × (d *ℤ pos 10000 ≡ (z *ℤ pos 10000) +ℤ units)
IsShifted z units (Err k) =
    (k ≡ InvalidArgument) × ((d : ℤ) → IsDay d → ¬ (d *ℤ pos 10000 ≡ (z *ℤ pos 10000) +ℤ units))
