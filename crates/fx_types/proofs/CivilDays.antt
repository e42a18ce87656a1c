-- The days after 1900-01-01 are the dates with those day numbers.
use Rattle.std.proofs.Common.{◌≡◌, ℕ, zero, suc, ◌+◌, ◌<◌, ◌≤◌, inl, inr, refl, arith, ℤ, pos, negsuc, ◌+ℤ◌, ◌≤ℤ◌, unsigned_abs}
use Rattle.std.proofs.lemmas.Bool.{cases_lt, lt-ltb, le-ltb}
use Rattle.jiff_core.specs.Calendar.{days_in_month, days_from_civil, day_count, IsCivilDate}
use Rattle.jiff_core.specs.Date.{epoch_day}
use Rattle.jiff_core.specs.declared.civil.date.Date.{Date}
use Rattle.jiff_core.proofs.SignedLemmas.{signed_arith}
use Rattle.jiff_core.proofs.CalendarLemmas.{days_from_civil-day_count, day_count-lt_year, days_in_month_bounds}
use Rattle.jiff_core.proofs.DateLemmas.{epoch_day_injective, epoch_day_range, epoch_day-lt, epoch_day_same, cases_date, days_from_civil-day, days_from_civil-next_month, days_from_civil-next_year, days_from_civil-max}
use Rattle.jiff_core.proofs.MarchLemmas.{day_count-early}
use Rattle.fx_types.specs.Days.{IsDay}
use Rattle.fx_types.specs.Civil.{IsCalendarDate, day_after, days_later, civil_of}
use Rattle.fx_types.specs.declared.civil.CivilDate.{CivilDate}

-- 1900-01-01 has the day number -25567
pub first_number : days_from_civil (pos 1900) 1 1 +ℤ pos 25567 ≡ pos 0
first_number =
    let count : day_count (pos 1900) 1 1 ≡ 4_346_386 = day_count-early (pos 1900) 11899 1 1 refl (omega arith) (omega arith) (omega arith) in
    omega (arith, signed_arith, days_from_civil-day_count (pos 1900) 1 1)

-- a day of the calendar from 1900 on, n days after 1900-01-01
record IsNth (n : ℕ) (c : CivilDate) : Type 0 where
  pub late : 1900 ≤ c.year
  pub month_low : 1 ≤ c.month
  pub month_high : c.month ≤ 12
  pub day_low : 1 ≤ c.day
  pub day_high : c.day ≤ days_in_month (pos c.year) c.month
  pub number : days_from_civil (pos c.year) c.month c.day +ℤ pos 25567 ≡ pos n

next_day : (n y m d : ℕ) → IsNth n (record { year = y; month = m; day = d }) → d < days_in_month (pos y) m → IsNth (suc n) (record { year = y; month = m; day = d + 1 })
next_day n y m d h l = record {
  late = h.late;
  month_low = h.month_low;
  month_high = h.month_high;
  day_low = omega arith;
  day_high = omega arith;
  number = omega (arith, signed_arith, h.number, days_from_civil-day (pos y) m (d + 1) d (omega arith) h.day_low);
}

next_month : (n y m d : ℕ) → IsNth n (record { year = y; month = m; day = d }) → days_in_month (pos y) m ≤ d → m < 12 → IsNth (suc n) (record { year = y; month = m + 1; day = 1 })
next_month n y m d h l k =
    let last : d ≡ days_in_month (pos y) m = omega (arith, h.day_high) in
    record {
      late = h.late;
      month_low = omega arith;
      month_high = omega arith;
      day_low = omega arith;
      day_high = omega (arith, days_in_month_bounds (pos y) (m + 1));
      number = omega (arith, signed_arith, h.number, days_from_civil-next_month (pos y) m d h.month_low last);
    }

next_year : (n y m d : ℕ) → IsNth n (record { year = y; month = m; day = d }) → days_in_month (pos y) m ≤ d → 12 ≤ m → IsNth (suc n) (record { year = y + 1; month = 1; day = 1 })
next_year n y m d h l k =
    let december : m ≡ 12 = omega (arith, h.month_high) in
    let last : d ≡ 31 = rw december at (let e : d ≡ days_in_month (pos y) m = omega (arith, h.day_high) in e) in
    let number = rw (december, last) at h.number in
    record {
      late = omega arith;
      month_low = omega arith;
      month_high = omega arith;
      day_low = omega arith;
      day_high = omega (arith, days_in_month_bounds (pos (y + 1)) 1);
      number = omega (arith, signed_arith, number, days_from_civil-next_year (pos y) (pos (y + 1)) (omega (arith, signed_arith)) (omega (arith, signed_arith)));
    }

next_is : (n : ℕ) (c : CivilDate) → IsNth n c → IsNth (suc n) (day_after c)
next_is n c h =
    elim (cases_lt c.day (days_in_month (pos c.year) c.month)) [
      | inl l ↦ rw (lt-ltb _ _ l) (next_day n c.year c.month c.day h l)
      | inr l ↦ elim (cases_lt c.month 12) [
        | inl k ↦ rw (le-ltb _ _ l, lt-ltb _ _ k) (next_month n c.year c.month c.day h l k)
        | inr k ↦ rw (le-ltb _ _ l, le-ltb _ _ k) (next_year n c.year c.month c.day h l k)
      ]
    ]

days_later_is : (n : ℕ) → IsNth n (days_later n)
unfolding days_later
days_later_is zero = record { late = omega arith; month_low = omega arith; month_high = omega arith; day_low = omega arith; day_high = omega arith; number = first_number }
days_later_is (suc n) = next_is n (days_later n) (days_later_is n)

last_date : IsCivilDate (pos 9999) 12 31
last_date = ((omega (arith, signed_arith), omega (arith, signed_arith)), (omega arith, omega arith), (omega arith, omega arith))

-- the days up to 9999-12-31 have a year that the library has
early_is : (n : ℕ) (c : CivilDate) → IsNth n c → n ≤ 2958463 → c.year ≤ 9999
early_is n c h l =
    elim (cases_lt c.year 10000) [
      | inl k ↦ omega arith
      | inr k ↦
          let later = day_count-lt_year (pos 9999) 12 31 (pos c.year) c.month c.day last_date h.day_low (omega (arith, signed_arith)) in
          absurd (omega (arith, signed_arith, h.number, later, days_from_civil-max, days_from_civil-day_count (pos 9999) 12 31, days_from_civil-day_count (pos c.year) c.month c.day))
    ]

not_negative : (z : ℤ) → pos 0 ≤ℤ z → z ≡ pos (unsigned_abs z)
not_negative (pos n) h = refl
not_negative (negsuc n) h = absurd (omega (arith, signed_arith))

-- how many days after 1900-01-01 a day is
nth : (z : ℤ) → IsDay z → (z +ℤ pos 25567 ≡ pos (unsigned_abs (z +ℤ pos 25567))) × (unsigned_abs (z +ℤ pos 25567) ≤ 2958463)
nth z h =
    let e : z +ℤ pos 25567 ≡ pos (unsigned_abs (z +ℤ pos 25567)) = not_negative _ (omega (arith, signed_arith)) in
    (e, omega (arith, signed_arith, e))

-- every day has a date of the calendar, with its day number
pub civil_is_date : (z : ℤ) → IsDay z → IsCalendarDate (civil_of z) × (days_from_civil (pos (civil_of z).year) (civil_of z).month (civil_of z).day ≡ z)
civil_is_date z h =
    let n = unsigned_abs (z +ℤ pos 25567) in
    let is = days_later_is n in (
      ((is.late, early_is n (days_later n) is (nth z h).1), (is.month_low, is.month_high), (is.day_low, is.day_high)),
      omega (arith, signed_arith, is.number, (nth z h).0),
    )

-- the date of the library with a day number has the parts of that day's date
pub parts_are : (d : Date) (z : ℤ) → epoch_day d ≡ z → IsDay z → (d.year ≡ pos (civil_of z).year) × (d.month ≡ (civil_of z).month) × (d.day ≡ (civil_of z).day)
parts_are d z e h =
    let c = civil_of z in
    let is = civil_is_date z h in
    let same : Date = record { year = pos c.year; month = c.month; day = c.day; year_in = let e = is.0.0.1 in (omega (arith, signed_arith), omega (arith, signed_arith)); month_in = is.0.1; day_in = is.0.2 } in
    let number : epoch_day d ≡ days_from_civil (pos c.year) c.month c.day = omega (arith, signed_arith, is.1) in
    epoch_day_injective d same number

-- a date of the library from 1900 on is a day
pub is_day : (d : Date) → pos 1900 ≤ℤ d.year → IsDay (epoch_day d)
is_day d h =
    let first : Date = record { year = pos 1900; month = 1; day = 1; year_in = (omega (arith, signed_arith), omega (arith, signed_arith)); month_in = (omega arith, omega arith); day_in = (omega arith, omega arith) } in
    let later : epoch_day first ≤ℤ epoch_day d = elim (cases_date first d) [
      | inl e ↦ let l = epoch_day-lt first d e in omega (arith, signed_arith)
      | inr (inl e) ↦ absurd (elim e [ inl y ↦ omega (arith, signed_arith) | inr r ↦ omega (arith, signed_arith) ])
      | inr (inr same) ↦ let e = epoch_day_same first d same.0 same.1 same.2 in omega (arith, signed_arith)
    ] in
    omega (arith, signed_arith, first_number, epoch_day_range d)
