-- The dates of the Gregorian calendar, and the day that each of them is.
use Rattle.std.specs.Prelude.{ℕ, zero, suc, ◌+◌, ℤ, pos, ◌+ℤ◌, unsigned_abs, nat_lt, if◌then◌else◌}
use Rattle.std.specs.Int.{IsInRange}
use Rattle.jiff_core.specs.Calendar.{days_in_month}
use Rattle.fx_types.specs.declared.civil.CivilDate.{CivilDate}

-- the calendar has this date, and its year is from 1900 to 9999
abbrev pub IsCalendarDate : CivilDate → Type 0
IsCalendarDate d = IsInRange 1900 9999 d.year × IsInRange 1 12 d.month
    × IsInRange 1 (days_in_month (pos d.year) d.month) d.day

-- the next day of the calendar
abbrev pub day_after : CivilDate → CivilDate
day_after d =
    if nat_lt d.day (days_in_month (pos d.year) d.month) then
    record { year = d.year; month = d.month; day = d.day + 1 }
    else (if nat_lt d.month 12 then record { year = d.year; month = d.month + 1; day = 1 }
    else record { year = d.year + 1; month = 1; day = 1 })

-- the day so many days after 1900-01-01
unfoldable pub days_later : ℕ → CivilDate
days_later zero = record { year = 1900; month = 1; day = 1 }
days_later (suc n) = day_after (days_later n)

-- the date of the day of this number: 1900-01-01 has the number -25567, and 1970-01-01 has 0
abbrev pub civil_of : ℤ → CivilDate
civil_of z = days_later (unsigned_abs (z +ℤ pos 25567))
