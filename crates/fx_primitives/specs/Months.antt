-- The months of the calendar, through all years. A month is numbered from January of the year 0.
use Rattle.std.specs.Prelude.{ℕ, zero, suc, ◌+◌, ◌-◌, ◌*◌, ℤ, pos, negsuc, neg_ℤ, ◌+ℤ◌, ◌-ℤ◌}
use Rattle.std.specs.Prelude.{unsigned_abs}
use Rattle.std.specs.Int.{int_div_euclid, int_rem_euclid}
use Rattle.jiff_core.specs.Calendar.{days_in_year, days_of_months}
use Rattle.fx_types.specs.declared.civil.CivilDate.{CivilDate}

-- the year of a month, and its place in that year, from 1
abbrev pub year_of : ℤ → ℤ
year_of k = int_div_euclid k (pos 12)

abbrev pub month_of : ℤ → ℕ
month_of k = suc (unsigned_abs (int_rem_euclid k (pos 12)))

-- the month of a date
abbrev pub month_number : CivilDate → ℕ
month_number d = 12 * d.year + (d.month - 1)

-- the days of the first n years from the year 0 on, and of the last n years before it
unfoldable pub days_of_years : ℕ → ℕ
days_of_years zero = 0
days_of_years (suc n) = days_of_years n + days_in_year (pos n)

unfoldable pub days_of_earlier_years : ℕ → ℕ
days_of_earlier_years zero = 0
days_of_earlier_years (suc n) = days_of_earlier_years n + days_in_year (negsuc n)

-- how many days 1 January of a year comes after that of the year 0
abbrev pub year_begin : ℤ → ℤ
year_begin (pos n) = pos (days_of_years n)
year_begin (negsuc n) = neg_ℤ (pos (days_of_earlier_years (suc n)))

-- the number of the first day of a month, where 1970-01-01 has the number 0
unfoldable pub first_day_of_month : ℤ → ℤ
first_day_of_month k = year_begin (year_of k) +ℤ pos (days_of_months (year_of k) (month_of k - 1))
    -ℤ year_begin (pos 1970)
